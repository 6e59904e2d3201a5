-- Demand 3 of a call that ends in a search: the search that it begins, the root that it rests on, and the want of a bracket. By the call's rules, its curve (times ts, factors fs), its payment times and its option time.
use Rattle.std.specs.Prelude.{◌≡◌, List, Float, Some, Ok}
use Rattle.ieee.specs.Rounded.{◌⊕◌}
use Rattle.refusals.specs.declared.refusals.Rule.{Rule}
use Rattle.refusals.specs.Refusals.{first_of}
use Rattle.curve.specs.Lookups.{factor_at}
use Rattle.hullwhite_formulas.specs.HullWhite.{h}
use Rattle.search.specs.declared.Root.{Root}
use Rattle.search.specs.Reached.{Unbracketed}
use Rattle.search.specs.Facts.{Located}
use Rattle.hullwhite_terms.specs.Terms.{factors_at}

module _ (rules : List Rule) (ts fs payments : List Float) (t : Float) where
  -- a search that is begun: its terms are those "that rules 1 to 8 let through"
  pub record Begun : Type 0 where
    pub passed : first_of rules ≡ Ok tt
    pub pt : Float
    pub p_plus : Float
    pub ps : List Float
    pub at_option : factor_at ts fs t ≡ Some pt
    pub day_after : factor_at ts fs (t ⊕ h) ≡ Some p_plus
    pub at_payments : factors_at ts fs payments ≡ Ok ps

  -- `sum_on` is the priced coupon sum, as a function of the rate, on the factors at t, t + h and the payment times
  module _ (sum_on : Float → Float → List Float → Float → Float) where
    abbrev pub begun_sum : Begun → Float → Float
    begun_sum b = sum_on b.pt b.p_plus b.ps

    -- what is accepted: its root is located among the sums of the terms priced
    pub record RootFound (root : Root) : Type 0 where
      pub begun : Begun
      pub located : Located (begun_sum begun) root

    -- "A search once begun is refused for want of a bracket exactly when no sum that it reaches is NaN and at least one of its two ladders of 61 has no good rate"
    pub record WantsBracket : Type 0 where
      pub begun : Begun
      pub unbracketed : Unbracketed (begun_sum begun)
