-- `math_elementary::surely_same` meets its contract: equal numbers that are no zeros are the same value. Assumes nothing.
use mathlib.Core.Path.{sym, subst}
use lib.Dec.{T}
use Rattle.math_elementary.proofs.Unique.{same_tested}
use Rattle.math_elementary.proofs.simple.surely_same.Goals as goal

pub returns-then-x-y : goal.returns-then-x-y
returns-then-x-y c = λ e. same_tested _ _ (subst T (sym c.well_formed.0.1) tt) (subst T (sym c.well_formed.1.0.1) tt) c.if-x-y.true e
