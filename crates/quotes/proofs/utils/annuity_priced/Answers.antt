-- `quotes::annuity_priced` meets its contract: a coupon adds to the sum or is refused by rule 8, and where no coupon is left the sum is served. Assumes nothing.
use mathlib.Core.Path.{◌≡◌, refl, sym, ◌∙◌}
use mathlib.Core.List.{List, [], ◌∷◌}
use mathlib.Core.Logic.{◌⊎◌, inl, inr, ⊎_elim}
use native.Mathlib.Omega.{arith}
use lib.ListN.{length}
use lib.Ieee.{Float}
use Rattle.refusals.specs.Refusals.{finishing}
use Rattle.curve.proofs.Outcomes.{lacking, found_is}
use Rattle.quotes.specs.Utils.{annuity_from, annuity_priced}
use Rattle.quotes.proofs.utils.annuity_priced.Goals as goal

none_left : (ts fs : List Float) (sum : Float) (ps xs : List Float) → (length ps ≡ 0) ⊎ (length xs ≡ 0) → annuity_from ts fs sum ps xs ≡ finishing sum
unfolding annuity_from
none_left ts fs sum [] xs e = refl
none_left ts fs sum (p ∷ ps) [] e = refl
none_left ts fs sum (p ∷ ps) (x ∷ xs) e = absurd (⊎_elim (λ h. let z : ⊥ = omega arith in z) (λ h. let z : ⊥ = omega arith in z) e)

pub loop-payment-init : goal.loop-payment-init
unfolding annuity_priced
loop-payment-init c =
    let z = c.zip-payment-items.ensures in
    rw (c.into_iter-payment-iterator.ensures.into_iter_gives, z.first, z.second.0, c.iter.ensures.rest) refl

pub returns-in_default : goal.returns-in_default
unfolding annuity_from
returns-in_default c =
    let s = c.in-Some.ensures.steps in
    lacking _ _ c.in_default.is c.factor.ensures ∙ (rw (s.0, s.1) at c.loop-payment.invariant)

pub loop-payment-preserved : goal.loop-payment-preserved
unfolding annuity_from
loop-payment-preserved c =
    let s = c.in-Some.ensures.steps in
    found_is _ _ c.in-Some-factor.is c.factor.ensures (rw c.annuity_step-sum.ensures) ∙ (rw (s.0, s.1) at c.loop-payment.invariant)

pub returns : goal.returns
returns c =
    c.served.ensures
    ∙ sym (none_left _ _ _ _ _ (⊎_elim (λ e. inl e.1.0) (λ e. inr e.1.0) c.in-None.ensures.steps))
    ∙ c.loop-payment.invariant
