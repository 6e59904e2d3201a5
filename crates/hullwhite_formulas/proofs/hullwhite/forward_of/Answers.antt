-- `hullwhite_formulas::forward_of` meets its contract. Assumes nothing.
use mathlib.Core.Path.{refl}
use Rattle.hullwhite_formulas.specs.HullWhite.{forward_of}
use Rattle.hullwhite_formulas.proofs.hullwhite.forward_of.Goals as goal

pub returns : goal.returns
unfolding forward_of
returns c = rw (c.ln.ensures.value, c.day.ensures) refl
