-- Document 02, A.3, of specs/CouponWork.antt: every evaluation is the sum over the terms worked ahead, and with the work in the Rust's own place (specs/AsWritten.antt) every search and every call comes to the same. "The order of work alone moves: bits, rungs and refusals are what they were."
use Rattle.std.specs.Prelude.{◌≡◌, Bool, List, ◌<◌, Float, Option, Some, None, Ok, Err}
use Rattle.std.proofs.Math.Path.{refl, fun_ext}
use Rattle.std.proofs.Common.{sym, ap, ◌∙◌, arith}
use Rattle.std.proofs.Math.Bool.{true, false, cond}
use borrow.Author.Tests.{eqb-false}
use Rattle.std.proofs.Math.Dec.{eqb}
use Rattle.std.proofs.Math.ListN.{length}
use Rattle.ieee.specs.Rounded.{◌⊕◌}
use Rattle.ieee.specs.Numbers as Numbers
use Rattle.refusals.specs.declared.refusals.Refusal.{Refusal}
use Rattle.refusals.specs.declared.refusals.Refusal.TheVariants as R
use Rattle.refusals.specs.declared.refusals.Rule.{Rule}
use Rattle.refusals.specs.Refusals.{Outcome, following}
use Rattle.refusals.proofs.Outcomes.{same_unless, not_both, refused_is}
use Rattle.curve.specs.Lookups.{factor_at}
use Rattle.hullwhite_formulas.specs.HullWhite.{h, forward_of}
use Rattle.search_sum.specs.Sum.{weighted_sum, weights_ahead_lem}
use Rattle.search.specs.Rate.{critical_of}
use Rattle.search.specs.Values.{critical_outcome}
use Rattle.hullwhite_terms.specs.Terms.{coefficients_of, a_list_of, factors_at, a_list_ahead}
use Rattle.hullwhite_terms.specs.Swaption.{with_factors}
use Rattle.hullwhite_terms.specs.Begun.{Begun, begun_sum}
use Rattle.hullwhite_terms.proofs.Entries.{coefficients_length}
use Rattle.hullwhite_jamshidian.specs.PricedSum.{priced_sum_of, model_sum_of}
use Rattle.hullwhite_jamshidian.specs.Price.{no_swaption, finishing_swaption}
use Rattle.hullwhite_swaptions.specs.Model.{model_rules_on, terms_priced, model_priced, model_outcome}
use Rattle.hullwhite_swaptions.proofs.Outcomes as Model
use Rattle.math_bisection.specs.Result.{finishing_fit}
use Rattle.math_bisection.specs.Solve.{residual_at, solve_of}
use Rattle.fit_objective.specs.declared.market.VolatilityType.{VolatilityType}
use Rattle.fit_objective.specs.Objective.{swaption_objective}
use Rattle.fit.specs.Fits.{swaption_rules_on, swaption_fitted, swaption_fit_outcome}
use Rattle.fit.specs.Demand3.{FitBegun, begun_sum_at}
use Rattle.fit.proofs.Outcomes as Fits
use Rattle.requests.specs.AsWritten.{Misses, evaluation_of, search_over, price_as_written, model_as_written, objective_as_written, fit_as_written}
use Rattle.requests.proofs.WorkAhead.{Looked, found, missing, looked, Fetch, all, lacks, fetch, lacking, by_lookups, evaluated, missed, searched, search_refused, priced, priced_missed}
use Rattle.requests.specs.CouponWork.{bs_ahead, weights_ahead, MissingFirst}

-- of every search that is begun
module _ (rules : List Rule) (alpha : Float) (ts fs payments : List Float) (t : Float) (b : Begun rules ts fs payments t) where
  module _ (coefficients : List Float) (sigma : Float) where
    -- "factors fetched and A and B worked out ahead": at every sigma and rate, of any coefficients, the evaluation as the Rust has it is the sum over the terms worked ahead
    pub ahead : (rate : Float) → evaluation_of alpha ts fs t sigma coefficients payments rate ≡ Ok (priced_sum_of alpha t sigma coefficients payments b.pt b.p_plus b.ps rate)
    ahead rate = ap (λ (f : Float → Outcome Float). f rate) (evaluated alpha ts fs t sigma b.pt b.p_plus b.at_option b.day_after coefficients payments b.ps b.at_payments)

    -- "An evaluation of the coupon sum is then given the terms and a rate, and neither curve nor sigma": weights and B
    pub given_terms : evaluation_of alpha ts fs t sigma coefficients payments ≡ (λ rate. Ok (weighted_sum (weights_ahead rules alpha ts fs payments t b coefficients sigma) (bs_ahead rules alpha ts fs payments t b) rate))
    given_terms =
        fun_ext (λ rate.
        rw
        (a_list_ahead alpha t sigma (forward_of b.pt b.p_plus) b.pt payments b.ps, ← weights_ahead_lem coefficients (a_list_of alpha t sigma (forward_of b.pt b.p_plus) b.pt payments b.ps) (bs_ahead rules alpha ts fs payments t b))
        (ahead rate))

-- of kind 5 and of the fits: the sums that demand 3 speaks of are these evaluations
pub ahead_model : (alpha : Float) (ts fs payments accruals : List Float) (strike t sigma rate : Float) (b : Begun (model_rules_on alpha ts fs payments accruals strike t sigma) ts fs payments t)
    → evaluation_of alpha ts fs t sigma (coefficients_of strike accruals) payments rate ≡ Ok (begun_sum (model_rules_on alpha ts fs payments accruals strike t sigma) ts fs payments t (model_sum_of alpha t payments accruals strike sigma) b rate)
ahead_model alpha ts fs payments accruals strike t sigma rate b = ahead (model_rules_on alpha ts fs payments accruals strike t sigma) alpha ts fs payments t b (coefficients_of strike accruals) sigma rate

pub ahead_fit : (quote : VolatilityType) (alpha : Float) (ts fs payments accruals : List Float) (strike t vol sigma rate : Float) (b : FitBegun quote alpha ts fs payments accruals strike t vol)
    → evaluation_of alpha ts fs t sigma (coefficients_of strike accruals) payments rate ≡ Ok (begun_sum_at quote alpha ts fs payments accruals strike t vol b sigma rate)
ahead_fit quote alpha ts fs payments accruals strike t vol sigma rate b = ahead (swaption_rules_on quote alpha ts fs payments accruals strike t vol) alpha ts fs payments t b (coefficients_of strike accruals) sigma rate

-- with a coupon or more and a coefficient for each: a lookup misses exactly where every evaluation is refused by 8, and none is refused by anything else
module _ (alpha : Float) (ts fs payments : List Float) (t : Float) (coefficients : List Float) (some : 0 < length payments) (fits : length coefficients ≡ length payments) (sigma : Float) where
  pub missing_first : MissingFirst alpha ts fs payments t coefficients sigma
  missing_first = (λ m rate. ap (λ (f : Float → Outcome Float). f rate) (missed alpha ts fs t sigma coefficients payments some fits m), back (looked ts fs payments t))
    where
      back : Looked ts fs payments t → ((rate : Float) → evaluation_of alpha ts fs t sigma coefficients payments rate ≡ Err R.OffCurve) → Misses ts fs payments t
      back (missing m) e = m
      back (found pt p_plus ps a b k) e = absurd (not_both (sym (e Numbers.zero) ∙ ap (λ (f : Float → Outcome Float). f Numbers.zero) (evaluated alpha ts fs t sigma pt p_plus a b coefficients payments ps k)))

  pub missing_alone : (rate : Float) (q : Refusal) → evaluation_of alpha ts fs t sigma coefficients payments rate ≡ Err q → Misses ts fs payments t × (q ≡ R.OffCurve)
  missing_alone rate q e = go (looked ts fs payments t)
    where
      go : Looked ts fs payments t → Misses ts fs payments t × (q ≡ R.OffCurve)
      go (missing m) = (m, refused_is (sym e ∙ ap (λ (f : Float → Outcome Float). f rate) (missed alpha ts fs t sigma coefficients payments some fits m)))
      go (found pt p_plus ps a b k) = absurd (not_both (sym e ∙ ap (λ (f : Float → Outcome Float). f rate) (evaluated alpha ts fs t sigma pt p_plus a b coefficients payments ps k)))

-- "bits, rungs and refusals are what they were": with a coupon or more and a coefficient for each, the search whose every evaluation fetches and works anew has the outcome of the lookups and then the search over the terms: same rungs, same bracket, same refusals
module _ (alpha : Float) (ts fs payments : List Float) (t : Float) (coefficients : List Float) (some : 0 < length payments) (fits : length coefficients ≡ length payments) (sigma : Float) where
  pub same_search : search_over (evaluation_of alpha ts fs t sigma coefficients payments) ≡ with_factors ts fs payments t (λ pt p_plus ps. critical_outcome (critical_of (priced_sum_of alpha t sigma coefficients payments pt p_plus ps)))
  same_search =
      by_lookups ts fs payments t _
      (λ m. ap search_over (missed alpha ts fs t sigma coefficients payments some fits m) ∙ search_refused R.OffCurve)
      (λ pt p_plus ps a b k. ap search_over (evaluated alpha ts fs t sigma pt p_plus a b coefficients payments ps k) ∙ searched (priced_sum_of alpha t sigma coefficients payments pt p_plus ps))

-- ---- the calls
-- kind 5, whatever it is given: with all of the coupons' work in each evaluation its outcome is the same
module _ (alpha : Float) (ts fs payments accruals : List Float) (strike t sigma : Float) where
  model_priced_lem : 0 < length payments → length accruals ≡ length payments → following (price_as_written alpha ts fs t sigma (coefficients_of strike accruals) payments) finishing_swaption ≡ model_priced alpha ts fs payments accruals strike t sigma
  unfolding model_priced terms_priced
  model_priced_lem n l =
      by_lookups ts fs payments t _
      (λ m. rw (priced_missed alpha ts fs t sigma (coefficients_of strike accruals) payments n (coefficients_length strike accruals ∙ l) m))
      (λ pt p_plus ps a b k. rw (priced alpha ts fs t sigma pt p_plus a b payments accruals strike ps k))

  pub kind_five : model_as_written alpha ts fs payments accruals strike t sigma ≡ model_outcome alpha ts fs payments accruals strike t sigma
  unfolding model_as_written model_outcome
  kind_five = same_unless (model_rules_on alpha ts fs payments accruals strike t sigma) _ _ (λ e. go (eqb (length payments) 0) refl (Model.lists_fit alpha ts fs payments accruals strike t sigma refl e).1)
    where
      go : (x : Bool) → eqb (length payments) 0 ≡ x → length accruals ≡ length payments
          → cond (eqb (length payments) 0) (Ok no_swaption) (following (price_as_written alpha ts fs t sigma (coefficients_of strike accruals) payments) finishing_swaption)
          ≡ cond (eqb (length payments) 0) (Ok no_swaption) (model_priced alpha ts fs payments accruals strike t sigma)
      go true k l = rw k
      go false k l = let n = eqb-false (length payments) 0 k in rw k (model_priced_lem (omega arith) l)

-- kinds 10 and 11, whatever they are given: with all of the coupons' work in each evaluation at each sigma their outcome is the same
solve_refused : (q : Refusal) → solve_of (λ sigma. Err q) ≡ Err q
unfolding solve_of residual_at
solve_refused q = refl

module _ (quote : VolatilityType) (alpha : Float) (ts fs payments accruals : List Float) (strike t vol : Float) where
  objective_found : (pt p_plus : Float) (ps : List Float) → factor_at ts fs t ≡ Some pt → factor_at ts fs (t ⊕ h) ≡ Some p_plus → factors_at ts fs payments ≡ Ok ps
      → objective_as_written quote alpha ts fs payments accruals strike t vol ≡ swaption_objective quote alpha payments accruals strike t vol pt p_plus ps
  unfolding objective_as_written swaption_objective
  objective_found pt p_plus ps a b k = fun_ext (λ sigma. rw (priced alpha ts fs t sigma pt p_plus a b payments accruals strike ps k, k, a))

  objective_missed : 0 < length payments → length accruals ≡ length payments → Misses ts fs payments t → objective_as_written quote alpha ts fs payments accruals strike t vol ≡ (λ sigma. Err R.OffCurve)
  unfolding objective_as_written
  objective_missed n l m = fun_ext (λ sigma. go sigma (fetch ts fs payments) (factor_at ts fs t) refl)
    where
      go : (sigma : Float) → Fetch ts fs payments → (x : Option Float) → factor_at ts fs t ≡ x → objective_as_written quote alpha ts fs payments accruals strike t vol sigma ≡ Err R.OffCurve
      go sigma (lacks T i e) x k = rw (lacking ts fs payments T i e)
      go sigma (all ps e) None k = rw (e, k)
      go sigma (all ps e) (Some pt) k = rw (e, k, priced_missed alpha ts fs t sigma (coefficients_of strike accruals) payments n (coefficients_length strike accruals ∙ l) m)

  swaption_fitted_lem : 0 < length payments → length accruals ≡ length payments → following (solve_of (objective_as_written quote alpha ts fs payments accruals strike t vol)) finishing_fit ≡ swaption_fitted quote alpha ts fs payments accruals strike t vol
  unfolding swaption_fitted
  swaption_fitted_lem n l =
      by_lookups ts fs payments t _
      (λ m. rw (objective_missed n l m, solve_refused R.OffCurve))
      (λ pt p_plus ps a b k. rw (objective_found pt p_plus ps a b k))

  pub kinds_ten_and_eleven : fit_as_written quote alpha ts fs payments accruals strike t vol ≡ swaption_fit_outcome quote alpha ts fs payments accruals strike t vol
  unfolding fit_as_written swaption_fit_outcome
  kinds_ten_and_eleven =
      same_unless (swaption_rules_on quote alpha ts fs payments accruals strike t vol) _ _ (λ e.
      let k = Fits.lists_fit quote alpha ts fs payments accruals strike t vol refl refl refl (sym e) in
      swaption_fitted_lem k.0 k.2)
