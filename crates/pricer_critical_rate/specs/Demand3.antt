-- Demand 3 of both calls: no accepted rate rests on a lost root, and a call is refused for want of a bracket exactly where its search has none. The sums are those of the very terms given.
use Rattle.std.specs.Prelude.{◌≡◌, ◌↔◌, List, Float, Ok, Err}
use Rattle.refusals.specs.declared.refusals.Refusal.TheVariants as R
use Rattle.refusals.specs.Refusals.{Outcome, first_of}
use Rattle.search_sum.specs.Sum.{coupon_sum}
use Rattle.search.specs.declared.Root.{Root}
use Rattle.search.specs.Reached.{Unbracketed}
use Rattle.search.specs.Facts.{Located}
use Rattle.pricer_critical_rate.specs.Find.{search_rules}
use Rattle.pricer_critical_rate.specs.declared.implicit.ImplicitRate.{ImplicitRate}

module _ (cs affs bs : List Float) where
  -- what is accepted: "on terms that rules 1 to 8 let through", of which rules 1 and 2 are this call's, the root is located among their sums
  pub record TermsRootFound (root : Root) : Type 0 where
    pub passed : first_of (search_rules cs affs bs) ≡ Ok tt
    pub located : Located (coupon_sum cs affs bs) root

  -- a search that is begun and wants a bracket: no sum that it reaches is NaN, and at least one ladder has no good rate
  pub record TermsWantBracket : Type 0 where
    pub passed : first_of (search_rules cs affs bs) ≡ Ok tt
    pub unbracketed : Unbracketed (coupon_sum cs affs bs)

  -- ---- of the answer of `find_critical_rate`
  abbrev pub RateRootLocated : Outcome Root → Type 0
  RateRootLocated r = (v : Root) → r ≡ Ok v → TermsRootFound v

  abbrev pub RateNoBracketExactly : Outcome Root → Type 0
  RateNoBracketExactly r = (r ≡ Err R.NoBracket) ↔ TermsWantBracket

  -- ---- of the answer of `implicit_critical_rate`; the facts concern the rate before the step
  abbrev pub ImplicitRootLocated : Outcome ImplicitRate → Type 0
  ImplicitRootLocated r = (v : ImplicitRate) → r ≡ Ok v → TermsRootFound v.root

  abbrev pub ImplicitNoBracketExactly : Outcome ImplicitRate → Type 0
  ImplicitNoBracketExactly r = (r ≡ Err R.NoBracket) ↔ TermsWantBracket
