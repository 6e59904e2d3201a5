-- Demand 3 of the calls on terms, of their definitions: one law over what follows the search, and the two calls by it. Assumes nothing.
use Rattle.std.specs.Prelude.{Ok, Err}
use mathlib.Core.Path.{◌≡◌, sym, ap, ◌∙◌, subst}
use mathlib.Core.Logic.{◌↔◌}
use mathlib.Core.Bool.{Bool, true, false, ◌&&◌, cond}
use mathlib.Core.List.{List}
use native.Mathlib.Omega.{arith}
use lib.Ieee.{Float, lt}
use lib.Ieee.Scale.{finite}
use Rattle.ieee.specs.Rounded.{◌⊖◌, ◌⊘◌}
use Rattle.math_elementary.specs.Simple.{abs_of}
use Rattle.refusals.specs.declared.refusals.Refusal.TheVariants as R
use Rattle.refusals.specs.Refusals.{Outcome, answer_number, answer_of, after, unless, following, reported}
use Rattle.refusals.proofs.Outcomes.{not_both}
use Rattle.search_sum.specs.Sum.{coupon_sum}
use Rattle.search.specs.declared.Root.{Root}
use Rattle.search.specs.Values.{no_root, root_finite}
use Rattle.search.specs.Facts.{Located}
use Rattle.hullwhite_terms.proofs.Callers.{past_rules, searching, root_located, wants_bracket, no_bracket, ends_so, ends_otherwise}
use Rattle.pricer_formulas.specs.Newton.{flat_limit, sums_of, stepped}
use Rattle.pricer_critical_rate.specs.Find.{search_rules, finishing_rate, find_outcome}
use Rattle.pricer_critical_rate.specs.declared.implicit.ImplicitRate.{ImplicitRate}
use Rattle.pricer_critical_rate.specs.Implicit.{no_implicit_rate, finishing_implicit, stepped_from, implicit_outcome}
use Rattle.pricer_critical_rate.specs.Demand3.{TermsRootFound, TermsWantBracket, RateRootLocated, RateNoBracketExactly, ImplicitRootLocated, ImplicitNoBracketExactly}

-- ---- `rest` follows the search; what it serves has the search's own root, and it refuses nothing for want of a bracket
module _ {B : Type 0} (cs affs bs : List Float) (rest : Root → Outcome B) (root_of : B → Root) (keeps : (v : Root) (w : B) → rest v ≡ Ok w → v ≡ root_of w) (otherwise : (v : Root) → rest v ≡ Err R.NoBracket → ⊥) where
  abbrev sum : Float → Float
  sum = coupon_sum cs affs bs

  abbrev called : Outcome B
  called = unless (search_rules cs affs bs) (searching sum rest)

  located : {o : Outcome B} → o ≡ called → (w : B) → o ≡ Ok w → TermsRootFound cs affs bs (root_of w)
  located is w e =
      let p = past_rules (Ok w) tt (search_rules cs affs bs) (searching sum rest) tt (sym is ∙ e) in
      let r = root_located sum rest w p.1 in
      record { passed = p.0; located = subst (Located sum) (keeps r.0 w r.2) r.1 }

  wanted : {o : Outcome B} → o ≡ called → (o ≡ Err R.NoBracket) ↔ TermsWantBracket cs affs bs
  wanted is = (
    λ e. let p = past_rules (Err R.NoBracket) tt (search_rules cs affs bs) (searching sum rest) tt (sym is ∙ e) in
        record { passed = p.0; unbracketed = wants_bracket sum rest otherwise p.1 },
    λ w. is ∙ ap (λ a. after a (searching sum rest)) w.passed ∙ no_bracket sum rest w.unbracketed,
  )

-- ---- `find_critical_rate`
module _ (cs affs bs : List Float) {o : Outcome Root} (is : o ≡ find_outcome cs affs bs) where
  keeps_rate : (v w : Root) → finishing_rate v ≡ Ok w → v ≡ w
  keeps_rate v w e = ends_so (root_finite v.rate v.bracket) v e

  rate_otherwise : (v : Root) → finishing_rate v ≡ Err R.NoBracket → ⊥
  rate_otherwise v e = ends_otherwise (root_finite v.rate v.bracket) v e

  pub rate_rooted : (v : Root) → o ≡ Ok v → TermsRootFound cs affs bs v
  unfolding find_outcome
  rate_rooted v e = located cs affs bs finishing_rate (λ w. w) keeps_rate rate_otherwise is v e

  pub rate_refused_so : (o ≡ Err R.NoBracket) ↔ TermsWantBracket cs affs bs
  unfolding find_outcome
  rate_refused_so = wanted cs affs bs finishing_rate (λ w. w) keeps_rate rate_otherwise is

  -- all that the call promises of an answer whose outcome is the one defined
  pub rate_promised : record {
    answer : o ≡ find_outcome cs affs bs;
    rooted : RateRootLocated cs affs bs o;
    bracket : RateNoBracketExactly cs affs bs o;
    report : reported no_root o ≡ reported no_root (find_outcome cs affs bs);
  }
  rate_promised = record { answer = is; rooted = rate_rooted; bracket = rate_refused_so; report = ap (reported no_root) is }

-- ---- `implicit_critical_rate`: the step refuses by 11 alone
step_served : (o : Outcome Float) (rest : Float → Outcome ImplicitRate) {v : ImplicitRate} → following o rest ≡ Ok v → (s : Float) × (rest s ≡ Ok v)
step_served (Ok s) rest e = (s, e)
step_served (Err q) rest e = absurd (not_both e)

step_otherwise : (b : Bool) (x : Float) (rest : Float → Outcome ImplicitRate) → ((s : Float) → rest s ≡ Err R.NoBracket → ⊥) → following (cond b (Err R.FlatDerivative) (Ok x)) rest ≡ Err R.NoBracket → ⊥
step_otherwise true x rest h e = let z = ap (λ o. answer_number (answer_of o)) e in omega arith
step_otherwise false x rest h e = h x e

module _ (cs affs bs : List Float) {o : Outcome ImplicitRate} (is : o ≡ implicit_outcome cs affs bs) where
  abbrev from : Root → Float → ImplicitRate
  from v s = record { after_step = s; root = v }

  keeps_root : (v : Root) (w : ImplicitRate) → stepped_from cs affs bs v ≡ Ok w → v ≡ w.root
  unfolding stepped_from
  keeps_root v w e =
      let s = step_served (stepped v.rate (sums_of v.rate cs affs bs)) (λ s. finishing_implicit (from v s)) e in
      ap (λ (u : ImplicitRate). u.root) (ends_so (root_finite v.rate v.bracket && finite s.0) (from v s.0) s.1)

  implicit_otherwise : (v : Root) → stepped_from cs affs bs v ≡ Err R.NoBracket → ⊥
  unfolding stepped_from stepped
  implicit_otherwise v e =
      let sums = sums_of v.rate cs affs bs in
      step_otherwise (lt (abs_of sums.derivative) flat_limit) (v.rate ⊖ sums.objective ⊘ sums.derivative) (λ s. finishing_implicit (from v s)) (λ s. ends_otherwise (root_finite v.rate v.bracket && finite s) (from v s)) e

  pub implicit_rooted : (v : ImplicitRate) → o ≡ Ok v → TermsRootFound cs affs bs v.root
  unfolding implicit_outcome
  implicit_rooted v e = located cs affs bs (stepped_from cs affs bs) (λ w. w.root) keeps_root implicit_otherwise is v e

  pub implicit_refused_so : (o ≡ Err R.NoBracket) ↔ TermsWantBracket cs affs bs
  unfolding implicit_outcome
  implicit_refused_so = wanted cs affs bs (stepped_from cs affs bs) (λ w. w.root) keeps_root implicit_otherwise is

  -- all that the call promises of an answer whose outcome is the one defined
  pub implicit_promised : record {
    answer : o ≡ implicit_outcome cs affs bs;
    rooted : ImplicitRootLocated cs affs bs o;
    bracket : ImplicitNoBracketExactly cs affs bs o;
    report : reported no_implicit_rate o ≡ reported no_implicit_rate (implicit_outcome cs affs bs);
  }
  implicit_promised = record { answer = is; rooted = implicit_rooted; bracket = implicit_refused_so; report = ap (reported no_implicit_rate) is }
