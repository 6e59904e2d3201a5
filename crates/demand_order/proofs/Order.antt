-- Demand 1, "the FIRST refusal in document 01's order": of rules in order (specs/Order.antt) the first that applies has the smallest place of all that apply; and the rules of every call stand in that order.
use Rattle.std.specs.Prelude.{◌≡◌, refl, Bool, true, ℕ, ◌≤◌, ◌<◌, T, ltb, Float, Ok, Err}
use Rattle.std.proofs.Common.{◌∙◌, ap, sym, subst, inl, inr, true≢false, arith, ltb→lt}
use mathlib.Core.List.Memᴰ
use mathlib.Core.List.{List, [], ◌∷◌, Memᴰ}
use Rattle.std.specs.Float.Ieee.Fits.{and_l, and_r}
use Rattle.refusals.specs.declared.refusals.Refusal.{Refusal}
use Rattle.refusals.specs.declared.curves.Faults.{Faults}
use Rattle.refusals.specs.declared.refusals.Rule.{Rule}
use Rattle.refusals.specs.Refusals.{Outcome, place_of, first_of, after, unless, Answer}
use Rattle.refusals.specs.Order.{First, NoneApplies, first_applies, none_applies}
use Rattle.quotes.specs.Rules.{quote_rules, annuity_rules}
use Rattle.hullwhite_parameters.specs.Rules.{variance_rules, volatility_rules}
use Rattle.hullwhite_options.specs.Rules.{option_rules}
use Rattle.hullwhite_model.specs.Rules.{theta_rules, forward_rules}
use Rattle.draws.specs.Draws.{draw_rules}
use Rattle.hullwhite_paths.specs.Generate.{path_rules}
use Rattle.hullwhite_paths.specs.Seeded.{seeded_rules}
use Rattle.hullwhite_transitions.specs.Transition.{transition_rules}
use Rattle.hullwhite_swaptions.specs.Model.{model_rules}
use Rattle.pricer_critical_rate.specs.Find.{search_rules}
use Rattle.pricer.specs.Pricer.{pricer_rules}
use Rattle.fit_objective.specs.declared.market.VolatilityType.{VolatilityType}
use Rattle.fit.specs.Fits.{caplet_rules, swaption_rules}
use Rattle.basket_entries.specs.Entries.{basket_rules}
use Rattle.demand_order.specs.Order.{rising, InOrder}

-- ---- of rules in order, the one that turns a call down has the smallest place of those that apply
above : (n : ℕ) (rules : List Rule) → T (rising n rules) → (x : Rule) → Memᴰ x rules → n < place_of x.refusal
above n [] k x m = absurd (Memᴰ.not-nil m)
above n (y ∷ ys) k x m =
    let l = ltb→lt n (place_of y.refusal) (and_l (ltb n (place_of y.refusal)) (rising (place_of y.refusal) ys) k) in
    elim (Memᴰ.cases_cons m) [
      | inl e ↦ subst (λ (z : Rule). n < place_of z.refusal) (sym e) l
      | inr t ↦ let h = above (place_of y.refusal) ys (and_r (ltb n (place_of y.refusal)) (rising (place_of y.refusal) ys) k) x t in omega arith
    ]

least : (r : Refusal) (n : ℕ) (rules : List Rule) → T (rising n rules) → First r rules → (x : Rule) → Memᴰ x rules → x.applies ≡ true → place_of r ≤ place_of x.refusal
least r n [] k f x m a = absurd f
least r n (y ∷ ys) k (inl h) x m a = elim (Memᴰ.cases_cons m) [
  | inl e ↦ let p = ap (λ (z : Rule). place_of z.refusal) e in let q = ap place_of h.1 in omega arith
  | inr t ↦ let q = ap place_of h.1 in let l = above (place_of y.refusal) ys (and_r (ltb n (place_of y.refusal)) (rising (place_of y.refusal) ys) k) x t in omega arith
]
least r n (y ∷ ys) k (inr h) x m a = elim (Memᴰ.cases_cons m) [
  | inl e ↦ absurd (true≢false (sym a ∙ ap (λ (z : Rule). z.applies) e ∙ h.0))
  | inr t ↦ least r (place_of y.refusal) ys (and_r (ltb n (place_of y.refusal)) (rising (place_of y.refusal) ys) k) h.1 x t a
]

pub smallest : (rules : List Rule) → InOrder rules → (r : Refusal) → first_of rules ≡ Err r → (x : Rule) → Memᴰ x rules → x.applies ≡ true → place_of r ≤ place_of x.refusal
smallest rules k r e x m a = least r 0 rules k ((first_applies r rules).0 e) x m a

-- ---- the same of a call: whether a rule refuses it or what comes behind the rules, where none of them applies
none_of : (rules : List Rule) → NoneApplies rules → (x : Rule) → Memᴰ x rules → x.applies ≡ true → ⊥
none_of [] k x m a = Memᴰ.not-nil m
none_of (y ∷ ys) k x m a = elim (Memᴰ.cases_cons m) [
  | inl e ↦ true≢false (sym a ∙ ap (λ (z : Rule). z.applies) e ∙ k.0)
  | inr t ↦ none_of ys k.1 x t a
]

by_answer : {B : Type 0} (answer : Answer) (rules : List Rule) → InOrder rules → first_of rules ≡ answer → (rest : Outcome B) (r : Refusal) → after answer rest ≡ Err r
    → (x : Rule) → Memᴰ x rules → x.applies ≡ true → place_of r ≤ place_of x.refusal
by_answer (Ok tt) rules k e rest r h x m a = absurd (none_of rules ((none_applies rules).0 e) x m a)
by_answer {B = B} (Err q) rules k e rest r h x m a =
    let n : q ≡ r = cc in
    let p = ap place_of n in
    let l = smallest rules k q e x m a in
    omega arith

pub call_smallest : {B : Type 0} (rules : List Rule) → InOrder rules → (rest : Outcome B) (r : Refusal) → unless rules rest ≡ Err r
    → (x : Rule) → Memᴰ x rules → x.applies ≡ true → place_of r ≤ place_of x.refusal
call_smallest rules k rest r h = by_answer (first_of rules) rules k refl rest r h

-- ---- the rules of every call
pub option_rules_lem : (curve : Faults) (alpha t T sigma other : Float) → InOrder (option_rules curve alpha t T sigma other)
option_rules_lem curve alpha t T sigma other = tt

pub theta_rules_lem : (curve : Faults) (alpha t sigma : Float) → InOrder (theta_rules curve alpha t sigma)
theta_rules_lem curve alpha t sigma = tt

pub forward_rules_lem : (curve : Faults) (t : Float) → InOrder (forward_rules curve t)
forward_rules_lem curve t = tt

pub quote_rules_lem : (black : Bool) (fwd strike vol tau : Float) → InOrder (quote_rules black fwd strike vol tau)
quote_rules_lem black fwd strike vol tau = tt

pub annuity_rules_lem : (curve coupons : Faults) → InOrder (annuity_rules curve coupons)
annuity_rules_lem curve coupons = tt

pub variance_rules_lem : (pillars : Faults) (alpha start end : Float) → InOrder (variance_rules pillars alpha start end)
variance_rules_lem pillars alpha start end = tt

pub volatility_rules_lem : (pillars : Faults) (empty : Bool) (t : Float) → InOrder (volatility_rules pillars empty t)
volatility_rules_lem pillars empty t = tt

pub transition_rules_lem : (pillars : Faults) (empty : Bool) (alpha : Float) (steps room : ℕ) (time_step : Float) → InOrder (transition_rules pillars empty alpha steps room time_step)
transition_rules_lem pillars empty alpha steps room time_step = tt

pub path_rules_lem : (schedule curve points : Faults) (empty several below short : Bool) (alpha : Float) → InOrder (path_rules schedule curve points empty several below short alpha)
path_rules_lem schedule curve points empty several below short alpha = tt

pub seeded_rules_lem : (schedule curve points : Faults) (zero_seed empty several below short : Bool) (alpha : Float) → InOrder (seeded_rules schedule curve points zero_seed empty several below short alpha)
seeded_rules_lem schedule curve points zero_seed empty several below short alpha = tt

pub draw_rules_lem : (seed n : ℕ) → InOrder (draw_rules seed n)
draw_rules_lem seed n = tt

pub model_rules_lem : (curve coupons : Faults) (later : Bool) (alpha strike t sigma : Float) → InOrder (model_rules curve coupons later alpha strike t sigma)
model_rules_lem curve coupons later alpha strike t sigma = tt

pub search_rules_lem : (cs affs bs : List Float) → InOrder (search_rules cs affs bs)
search_rules_lem cs affs bs = tt

pub pricer_rules_lem : (curve schedule coupons own : Faults) (later empty : Bool) (alpha strike t notional side : Float)
    → InOrder (pricer_rules curve schedule coupons own later empty alpha strike t notional side)
pricer_rules_lem curve schedule coupons own later empty alpha strike t notional side = tt

pub caplet_rules_lem : (curve : Faults) (quote : VolatilityType) (alpha strike t S vol : Float) → InOrder (caplet_rules curve quote alpha strike t S vol)
caplet_rules_lem curve quote alpha strike t S vol = tt

pub swaption_rules_lem : (curve coupons : Faults) (later empty : Bool) (quote : VolatilityType) (alpha strike t vol : Float) → InOrder (swaption_rules curve coupons later empty quote alpha strike t vol)
swaption_rules_lem curve coupons later empty quote alpha strike t vol = tt

pub basket_rules_lem : (curve : Faults) (alpha : Float) (size numbers times domain : Bool) → InOrder (basket_rules curve alpha size numbers times domain)
basket_rules_lem curve alpha size numbers times domain = tt
