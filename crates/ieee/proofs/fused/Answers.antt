-- `ieee::fused` meets its contract. By which operands are finite. Assumes nothing.
use mathlib.Core.Path.{◌≡◌, sym, ◌∙◌, subst}
use mathlib.Core.Logic.{inl, inr}
use mathlib.Core.Bool.{Bool, true, false}
use lib.Dec.{T}
use lib.Ieee.{Float}
use lib.Ieee.Scale.{finite}
use Rattle.std.specs.Float.{float_is_finite}
use Rattle.ieee_significands.proofs.Unpacking.{finite_is}
use Rattle.ieee.proofs.Fusing.{all_finite_lem, third_infinite, factor_infinite}
use Rattle.ieee.proofs.fused.Goals as goal
use Rattle.ieee.proofs.fused.Goals.{else-is_finite-2-via-then-is_finite-2+else-is_finite-3, else-is_finite-2-via-else-is_finite-2}

yes : {r : Bool} (x : Float) → r ≡ float_is_finite x → r ≡ true → T (finite x)
yes x e t = subst T (sym (sym (finite_is x) ∙ sym e ∙ t)) tt

no : {r : Bool} (x : Float) → r ≡ float_is_finite x → r ≡ false → finite x ≡ false
no x e t = sym (finite_is x) ∙ sym e ∙ t

pub fused_finite-requires : goal.fused_finite-requires
fused_finite-requires c =
    all_finite_lem c.args.a c.args.b c.args.c (yes _ c.is_finite.ensures.value c.if-is_finite.true)

pub fused_finite-requires-then-is_finite-4 : goal.fused_finite-requires-then-is_finite-4
fused_finite-requires-then-is_finite-4 c =
    (yes _ c.is_finite-2.ensures.value c.if-is_finite-2.true, yes _ c.is_finite-then-is_finite-2.ensures.value c.if-is_finite-3.true, yes _ c.is_finite-then-is_finite-3.ensures.value c.if-is_finite-4.true)

pub returns-else-is_finite-4 : goal.returns-else-is_finite-4
returns-else-is_finite-4 c =
    third_infinite c.args.a c.args.b c.args.c (yes _ c.is_finite-2.ensures.value c.if-is_finite-2.true) (yes _ c.is_finite-then-is_finite-2.ensures.value c.if-is_finite-3.true) (no _ c.is_finite-then-is_finite-3.ensures.value c.if-is_finite-4.false)

pub returns-else-is_finite-2 : goal.returns-else-is_finite-2
returns-else-is_finite-2 c =
    factor_infinite c.args.a c.args.b c.args.c
    (elim c.else-is_finite-2.branch [
      | else-is_finite-2-via-then-is_finite-2+else-is_finite-3 w ↦ inr (no _ w.is_finite-then-is_finite-2.ensures.value w.if-is_finite-3.false)
      | else-is_finite-2-via-else-is_finite-2 w ↦ inl (no _ c.is_finite-2.ensures.value w.if-is_finite-2.false)
    ])
