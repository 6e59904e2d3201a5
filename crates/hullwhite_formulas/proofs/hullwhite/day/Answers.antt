-- `hullwhite_formulas::day` meets its contract: the code's literal is the decimal of specs/, which antt rounds. Assumes nothing.
use mathlib.Core.Path.{◌≡◌, refl}
use lib.Ieee.{binary64, of_bits}
use Rattle.ieee.specs.Decimal.{decimal}
use Rattle.hullwhite_formulas.specs.HullWhite.{h}
use Rattle.hullwhite_formulas.proofs.hullwhite.day.Goals as goal

year_is : of_bits binary64 0x4076_d000_0000_0000 ≡ decimal 365 0
unfolding of_bits decimal
year_is = refl

pub returns : goal.returns
unfolding h
returns c = rw (← year_is) refl
