-- Document 02, A.3: "However it is done now, in kinds 5, 10 and 11 we want factors fetched and A and B worked out ahead of each search's ladder, once a coupon. An evaluation of the coupon sum is then given the terms and a rate, and neither curve nor sigma. The order of work alone moves: bits, rungs and refusals are what they were."
use Rattle.std.specs.Prelude.{◌≡◌, ◌↔◌, List, Float, Err}
use Rattle.refusals.specs.declared.refusals.Refusal.TheVariants as R
use Rattle.refusals.specs.declared.refusals.Rule.{Rule}
use Rattle.hullwhite_formulas.specs.HullWhite.{forward_of, stationary_share_of, half_variance_of}
use Rattle.search_sum.specs.Sum.{weights_of}
use Rattle.hullwhite_terms.specs.Terms.{bs_of, curve_parts_of, a_list_at}
use Rattle.hullwhite_terms.specs.Begun.{Begun}
use Rattle.requests.specs.AsWritten.{Misses, evaluation_of}

-- of every search that is begun
module _ (rules : List Rule) (alpha : Float) (ts fs payments : List Float) (t : Float) (b : Begun rules ts fs payments t) where
  -- what no sigma changes: B, and the curve's parts of ln A
  abbrev pub bs_ahead : List Float
  bs_ahead = bs_of alpha t payments

  abbrev pub curve_parts_ahead : List Float
  curve_parts_ahead = curve_parts_of (forward_of b.pt b.p_plus) b.pt bs_ahead b.ps

  module _ (coefficients : List Float) (sigma : Float) where
    -- at a sigma: A from half the variance, and the weights
    abbrev pub weights_ahead : List Float
    weights_ahead = weights_of coefficients (a_list_at (half_variance_of alpha sigma (stationary_share_of alpha t)) bs_ahead curve_parts_ahead)

-- a lookup misses exactly where every evaluation is refused by 8: so it is with a coupon or more and a coefficient for each
module _ (alpha : Float) (ts fs payments : List Float) (t : Float) (coefficients : List Float) (sigma : Float) where
  abbrev pub MissingFirst : Type 0
  MissingFirst = Misses ts fs payments t ↔ ((rate : Float) → evaluation_of alpha ts fs t sigma coefficients payments rate ≡ Err R.OffCurve)
