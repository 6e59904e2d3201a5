-- `hullwhite_formulas::a_at` meets its contract. Assumes nothing.
use mathlib.Core.Path.{refl}
use Rattle.hullwhite_formulas.specs.HullWhite.{a_at}
use Rattle.hullwhite_formulas.proofs.hullwhite.a_at.Goals as goal

pub returns : goal.returns
unfolding a_at
returns c = rw (c.exp.ensures.value, c.fused.ensures) refl
