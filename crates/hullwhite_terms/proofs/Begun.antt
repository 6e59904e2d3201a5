-- For calls that end in a search on terms: whatever a call comes to beyond rules 1 to 8, its search was begun; and a search that is begun is what the call comes to. Assumes nothing.
use Rattle.std.specs.Prelude.{Ok, Err}
use mathlib.Core.Path.{◌≡◌, ap, ◌∙◌}
use mathlib.Core.List.{List}
use lib.Dec.{T}
use lib.Ieee.{Float}
use Rattle.ieee.specs.Rounded.{◌⊕◌}
use Rattle.refusals.specs.declared.refusals.Refusal.{Refusal}
use Rattle.refusals.specs.declared.refusals.Rule.{Rule}
use Rattle.refusals.specs.Refusals.{Outcome, first_of, after, unless}
use Rattle.curve.specs.Lookups.{factor_at}
use Rattle.hullwhite_formulas.specs.HullWhite.{h}
use Rattle.hullwhite_terms.proofs.Callers.{early, all_early, Late, past_rules, past_lookups, through_lookups}
use Rattle.hullwhite_terms.specs.Terms.{factors_at}
use Rattle.hullwhite_terms.specs.Swaption.{with_factors}
use Rattle.hullwhite_terms.specs.Begun.{Begun}
use Rattle.hullwhite_terms.proofs.Fetched.{off_curve}

-- `on` is what the call comes to on the factors at t, t + h and the payment times
module _ {B : Type 0} (rules : List Rule) (ts fs payments : List Float) (t : Float) (on : Float → Float → List Float → Outcome B) where
  fetch_early : (q : Refusal) → factors_at ts fs payments ≡ Err q → T (early q)
  fetch_early q e = rw (off_curve ts fs payments q e) tt

  abbrev looked_up : Outcome B
  looked_up = with_factors ts fs payments t on

  pub record Searches (o : Outcome B) : Type 0 where
    pub begun : Begun rules ts fs payments t
    pub goes_on : on begun.pt begun.p_plus begun.ps ≡ o

  -- the lookups of a call that its rules let through
  pub looked_up_lem : (o : Outcome B) → Late o → first_of rules ≡ Ok tt → looked_up ≡ o → Searches o
  looked_up_lem o late p e =
      let r = past_lookups (factor_at ts fs t) (factor_at ts fs (t ⊕ h)) (factors_at ts fs payments) on o late fetch_early e in
      record {
        begun = record { passed = p; pt = r.pt; p_plus = r.p_plus; ps = r.ps; at_option = r.at_option; day_after = r.day_after; at_payments = r.at_payments };
        goes_on = r.goes_on;
      }

  pub looks_up : (b : Begun rules ts fs payments t) → looked_up ≡ on b.pt b.p_plus b.ps
  looks_up b = through_lookups (factor_at ts fs t) (factor_at ts fs (t ⊕ h)) (factors_at ts fs payments) on b.at_option b.day_after b.at_payments

  -- a call of rules and lookups
  pub searches : T (all_early rules) → (o : Outcome B) → Late o → unless rules looked_up ≡ o → Searches o
  searches k o late e =
      let p = past_rules o late rules looked_up k e in
      looked_up_lem o late p.0 p.1

  pub begins : (b : Begun rules ts fs payments t) → unless rules looked_up ≡ on b.pt b.p_plus b.ps
  begins b = ap (λ a. after a looked_up) b.passed ∙ looks_up b
