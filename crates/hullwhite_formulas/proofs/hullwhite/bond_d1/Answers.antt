-- `hullwhite_formulas::bond_d1` meets its contract: what the fused sum is, put in. Assumes nothing.
use mathlib.Core.Path.{refl}
use lib.Ieee.{of_bits}
use Rattle.hullwhite_formulas.specs.HullWhite.{bond_d1_at}
use Rattle.hullwhite_formulas.proofs.hullwhite.bond_d1.Goals as goal

pub returns : goal.returns
unfolding bond_d1_at of_bits
returns c = rw c.fused.ensures refl
