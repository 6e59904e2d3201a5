-- "The priced coupon sum at a rate", of the model's swaption: what its search evaluates, and what demand 3 speaks of.
use Rattle.std.specs.Prelude.{List, Float}
use Rattle.hullwhite_formulas.specs.HullWhite.{forward_of}
use Rattle.search_sum.specs.Sum.{coupon_sum}
use Rattle.hullwhite_terms.specs.Terms.{coefficients_of, bs_of, a_list_of}

-- the priced coupon sum, as a function of the rate, of coefficients and payment times on the factors pt at t, p_plus at t + h and ps at the payment times
abbrev pub priced_sum_of : Float → Float → Float → List Float → List Float → Float → Float → List Float → Float → Float
priced_sum_of alpha t sigma coefficients payments pt p_plus ps = coupon_sum coefficients (a_list_of alpha t sigma (forward_of pt p_plus) pt payments ps) (bs_of alpha t payments)

-- of a swaption, whose coefficients are those of its accruals and strike
abbrev pub model_sum_of : Float → Float → List Float → List Float → Float → Float → Float → Float → List Float → Float → Float
model_sum_of alpha t payments accruals strike sigma pt p_plus ps = priced_sum_of alpha t sigma (coefficients_of strike accruals) payments pt p_plus ps
