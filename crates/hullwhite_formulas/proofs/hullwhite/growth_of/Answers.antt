-- `hullwhite_formulas::growth_of` meets its contract. Assumes nothing.
use mathlib.Core.Path.{refl}
use Rattle.hullwhite_formulas.specs.HullWhite.{growth_of}
use Rattle.hullwhite_formulas.proofs.hullwhite.growth_of.Goals as goal

pub returns : goal.returns
unfolding growth_of
returns c = rw c.fused.ensures refl
