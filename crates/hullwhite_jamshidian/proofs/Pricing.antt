-- The price at a sigma, by what its search comes to. Assumes nothing.
use Rattle.std.specs.Prelude.{Result, Ok}
use mathlib.Core.Path.{◌≡◌, ◌∙◌}
use mathlib.Core.List.{List}
use lib.Ieee.{Float}
use Rattle.refusals.specs.Refusals.{Outcome, following}
use Rattle.search.specs.declared.Root.{Root}
use Rattle.search.specs.declared.Unfound.{Unfound}
use Rattle.search_sum.specs.Sum.{coupon_sum}
use Rattle.search.specs.Values.{critical_outcome}
use Rattle.search.specs.Facts.{Searched}
use Rattle.hullwhite_formulas.specs.HullWhite.{half_variance_of}
use Rattle.hullwhite_terms.specs.Terms.{a_list_at}
use Rattle.hullwhite_jamshidian.specs.declared.price.SwaptionAhead.{SwaptionAhead}
use Rattle.hullwhite_jamshidian.specs.declared.price.Swaption.{Swaption}
use Rattle.hullwhite_jamshidian.specs.Ahead.{puts_ahead, price_ahead}

module _ (ahead : SwaptionAhead) (sigma : Float) (cs bs curve_parts ps : List Float) {half_variance : Float} {affs : List Float} where
  pub price_is : half_variance ≡ half_variance_of ahead.alpha sigma ahead.share → affs ≡ a_list_at half_variance bs curve_parts → (x : Result Root Unfound) → Searched (coupon_sum cs affs bs) x
      → following (critical_outcome x) (λ root. Ok (record { value = puts_ahead ahead sigma root.rate cs affs bs ps; root = root })) ≡ price_ahead ahead sigma cs bs curve_parts ps
  unfolding price_ahead
  price_is v e x g = rw (← v, ← e, ← g.is)

  -- a call whose search came to x, taken apart
  pub price_by : half_variance ≡ half_variance_of ahead.alpha sigma ahead.share → affs ≡ a_list_at half_variance bs curve_parts → (x : Result Root Unfound) → Searched (coupon_sum cs affs bs) x → {o : Outcome Swaption}
      → o ≡ following (critical_outcome x) (λ root. Ok (record { value = puts_ahead ahead sigma root.rate cs affs bs ps; root = root })) → o ≡ price_ahead ahead sigma cs bs curve_parts ps
  price_by v e x g h = h ∙ price_is v e x g
