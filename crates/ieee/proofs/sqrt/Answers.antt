-- `ieee::sqrt` meets its contract. By the sign of x and whether it is finite. Assumes nothing.
use mathlib.Core.Path.{sym, ◌∙◌, subst}
use mathlib.Core.Logic.{inl, inr}
use lib.Dec.{T}
use Rattle.ieee_significands.proofs.Unpacking.{finite_is}
use Rattle.ieee.proofs.Rooting.{below_zero, above_zero, otherwise}
use Rattle.ieee.proofs.Nearness.{rounded_root}
use Rattle.ieee.proofs.sqrt.Goals as goal
use Rattle.ieee.proofs.sqrt.Goals.{else-is_finite-via-then-is_finite+else-x-2, else-is_finite-via-else-is_finite}

pub returns-then-x : goal.returns-then-x
returns-then-x c =
    let r = rounded_root (subst T (sym c.well_formed.0.1) tt) (below_zero c.args.x c.if-x.true) in
    record { equal = r.0; closest = r.1 }

pub positive-requires : goal.positive-requires
positive-requires c =
    above_zero c.args.x (subst T (sym (sym (finite_is c.args.x) ∙ sym c.is_finite.ensures.value ∙ c.if-is_finite.true)) tt) c.if-x-2.true

pub returns-then-x-2 : goal.returns-then-x-2
returns-then-x-2 c =
    let r = rounded_root (subst T (sym c.well_formed.0.1) tt) c.positive.ensures in
    record { equal = r.0; closest = r.1 }

pub returns-else-is_finite : goal.returns-else-is_finite
returns-else-is_finite c =
    let r =
    rounded_root (subst T (sym c.well_formed.0.1) tt)
    (otherwise c.args.x c.if-x.false
    (elim c.else-is_finite.branch [
      | else-is_finite-via-then-is_finite+else-x-2 w ↦ inr w.if-x-2.false
      | else-is_finite-via-else-is_finite w ↦ inl (sym (finite_is c.args.x) ∙ sym c.is_finite.ensures.value ∙ w.if-is_finite.false)
    ])) in
    record { equal = r.0; closest = r.1 }
