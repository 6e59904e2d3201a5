-- `ReachedIs` of specs/Parameters: the pillar times up to t are refused by the rule that `volatility` answers on the same inputs, and served where it is served. Assumes nothing.
use Rattle.std.specs.Prelude.{Ok, Err}
use mathlib.Core.Path.{◌≡◌, refl, sym, ◌∙◌, ap}
use mathlib.Core.Bool.{not, ◌&&◌}
use mathlib.Core.List.{List, []}
use borrow.Author.Tests.{eqb-true, eqb-false, not-false}
use lib.Dec.{ltb, eqb}
use lib.ListN.{length}
use lib.Ieee.{Float}
use lib.Ieee.Scale.{finite}
use Rattle.refusals.specs.declared.checks.Test.TheVariants.{Finite}
use Rattle.refusals.specs.Refusals.{Outcome, answer_of, answer_number, value_or, first_of, after, Answer}
use Rattle.refusals.specs.Order.{NoneApplies, none_applies}
use Rattle.refusals.specs.Checks.{all_of}
use Rattle.refusals.specs.Faults.{pillar_faults}
use Rattle.refusals.proofs.Order.{both}
use Rattle.refusals.proofs.Outcomes.{neither}
use Rattle.curve.specs.Lookups.{up_to}
use Rattle.curve.proofs.Walks.{volatility_first}
use Rattle.curve.proofs.Laws.{volatility_passes}
use Rattle.hullwhite_parameters.specs.Parameters.{rules_at, volatility_found, volatility_outcome, reached_outcome, ReachedIs}

-- two calls under the same rules, which answer alike where the rules let them through
alike : {B C : Type 0} (a : Answer) (o : Outcome B) (p : Outcome C) → (a ≡ Ok tt → answer_of o ≡ answer_of p) → answer_of (after a o) ≡ answer_of (after a p)
alike (Ok tt) o p h = h refl
alike (Err r) o p h = refl

-- a call that is served wherever its rules let it through has their answer
only : {B : Type 0} (a : Answer) (v : B) → answer_of (after a (Ok v)) ≡ a
only (Ok tt) v = refl
only (Err r) v = refl

module _ (ts ss : List Float) (t : Float) where
  -- where no rule applies, a sigma is found, and it is finite
  found : NoneApplies (rules_at ts ss t) → answer_of (volatility_found ts ss t) ≡ Ok tt
  unfolding volatility_found
  found n =
      let some : length ts ≡ 0 → ⊥ = eqb-false (length ts) 0 n.1.1.1.1.1.0 in
      let paired : length ts ≡ length ss = eqb-true (length ts) (length ss) (not-false (eqb (length ts) (length ss)) (neither (ltb 64 (length ts)) (not (eqb (length ts) (length ss))) n.0).1) in
      let listed = (neither (pillar_faults ts ss).not_finite (not (finite t)) n.1.0).0 in
      let finites = both (all_of Finite ts) (all_of Finite ss) (not-false (all_of Finite ts && all_of Finite ss) listed) in
      let at = volatility_first ts ss t some (λ z. some (paired ∙ z)) in
      rw (at, volatility_passes Finite ts ss t finites.1 at)

  -- the answer of the rules, and the part that is handed back under it
  pub reached_is : {answer : Answer} {part : List Float} → answer ≡ first_of (rules_at ts ss t) → part ≡ value_or [] (after answer (Ok (up_to t ts))) → ReachedIs answer part ts ss t
  unfolding reached_outcome volatility_outcome
  reached_is e h =
      let same : answer_of (reached_outcome ts ss t) ≡ answer_of (volatility_outcome ts ss t) = alike (first_of (rules_at ts ss t)) _ _ (λ h. sym (found ((none_applies (rules_at ts ss t)).0 h))) in
      let is = e ∙ sym (only (first_of (rules_at ts ss t)) (up_to t ts)) in
      record { answered = is; number = ap answer_number is; as_volatility = is ∙ same; handed = h ∙ ap (λ a. value_or [] (after a (Ok (up_to t ts)))) e }
