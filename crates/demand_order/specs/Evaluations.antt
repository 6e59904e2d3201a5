-- "A search or fit meets 8 to 12 in the order of its evaluations." Every time that a call needs is looked up before the first of them (proofs/Searches.antt), so that 8 stands before 9 to 12; among themselves 9 to 12 do not come by their places: a fit that meets 10 at 1e-8 is refused so, though 9 may wait at 2.0. Here the evaluations of a search, of a valuation, of a fit and of a basket are listed in order, each with what it answers: the first of these answers that is a refusal is what the whole answers.
use Rattle.std.specs.Prelude.{Bool, not, ◌&&◌, drop, Float, Ok, Err}
use Rattle.std.proofs.Math.Bool.{true, false, cond}
use mathlib.Core.List.{List, [], ◌∷◌, ◌++◌, map}
use Rattle.std.specs.Float.Ieee.{is_nan, lt}
use Rattle.math_elementary.specs.Simple.{abs_of}
use Rattle.refusals.specs.declared.refusals.Refusal.{Refusal}
use Rattle.refusals.specs.declared.refusals.Refusal.TheVariants as R
use Rattle.refusals.specs.Refusals.{Outcome, answer_of, Answer}
use Rattle.search_sum.specs.Sum.{coupon_sum}
use Rattle.search.specs.Rate.{critical_of}
use Rattle.search.specs.Values.{critical_outcome}
use Rattle.search.specs.Reached.{ladder_rates, up_to_good, from_good, once_both, has_good}
use Rattle.math_bisection.specs.Solve.{lowest, highest, same_sign, residual_at}
use Rattle.math_bisection.specs.Tried.{tried_of}
use Rattle.hullwhite_jamshidian.specs.PricedSum.{model_sum_of}
use Rattle.pricer_formulas.specs.Newton.{flat_limit, sums_of}
use Rattle.basket_entries.specs.Entries.{Entry}
use Rattle.basket.specs.Basket.{fit_of, bump_of}

-- ---- the first answer that is a refusal
unfoldable pub first_refused : List Answer → Answer
first_refused [] = Ok tt
first_refused ((Ok tt) ∷ xs) = first_refused xs
first_refused (Err r ∷ xs) = Err r

-- what is asked of a value that an earlier evaluation gave; nothing where it gave none
abbrev pub onto : {B : Type 0} → Outcome B → (B → Answer) → Answer
onto (Ok v) ask = ask v
onto (Err r) ask = Ok tt

-- refused by r where the test says so
abbrev pub refused_where : Refusal → Bool → Answer
refused_where r b = cond b (Err r) (Ok tt)

-- ---- a search: the lower ladder's rungs, the upper one's, the bracket, the midpoints
module _ (sum : Float → Float) where
  -- 9: "A critical-rate evaluation .. that is reached is NaN"
  abbrev pub sum_at : Float → Answer
  sum_at rate = refused_where R.NanReached (is_nan (sum rate))

  -- 10: "One of the two ladders has no good rate, both having been run"
  abbrev pub bracket_of : Answer
  bracket_of = refused_where R.NoBracket (not (has_good sum true && has_good sum false))

  abbrev pub lows : List Float
  lows = up_to_good sum true (ladder_rates true)

  abbrev pub highs : List Float
  highs = up_to_good sum false (ladder_rates false)

  abbrev pub mids : List Float
  mids = once_both sum (from_good sum true (ladder_rates true)) (from_good sum false (ladder_rates false))

  abbrev pub search_answers : List Answer
  search_answers = map sum_at lows ++ (map sum_at highs ++ (bracket_of ∷ map sum_at mids))

-- ---- a fit: the residuals at 1e-8 and at 2.0, their signs, the residuals at the midpoints
module _ (f : Float → Outcome Float) where
  -- a residual is refused as the objective is, or by 9: "a fit residual that is reached is NaN"
  abbrev pub residual_answer : Float → Answer
  residual_answer sigma = first_refused (answer_of (f sigma) ∷ onto (f sigma) (λ v. refused_where R.NanReached (is_nan v)) ∷ [])

  -- 12: "The residuals at 1e-8 and 2.0 have equal signum"
  abbrev pub signs_answer : Answer
  signs_answer = onto (residual_at f lowest) (λ a. onto (residual_at f highest) (λ b. refused_where R.NoSignChange (same_sign a b)))

  -- the sigmas tried are 1e-8, 2.0 and the midpoints
  abbrev pub fit_answers : List Answer
  fit_answers = residual_answer lowest ∷ residual_answer highest ∷ signs_answer ∷ map residual_answer (drop 2 (tried_of f))

-- ---- kinds 5, 10 and 11: the price at a sigma is refused as its search is
module _ (alpha : Float) (payments accruals : List Float) (strike t pt p_plus : Float) (ps : List Float) (sigma : Float) where
  -- the priced coupon sum, as a function of the rate
  abbrev pub priced_sum : Float → Float
  priced_sum = model_sum_of alpha t payments accruals strike sigma pt p_plus ps

-- ---- kinds 6 and 7: the search, then the Newton step
module _ (cs affs bs : List Float) where
  -- 11: "The critical-rate derivative is below 1e-14 in size"
  abbrev pub step_answer : Answer
  step_answer = onto (critical_outcome (critical_of (coupon_sum cs affs bs))) (λ root. refused_where R.FlatDerivative (lt (abs_of (sums_of root.rate cs affs bs).derivative) flat_limit))

  abbrev pub step_answers : List Answer
  step_answers = search_answers (coupon_sum cs affs bs) ++ (step_answer ∷ [])

-- ---- a basket: "All fits run, then all bumped fits, 13 being met at each one's end; the first refusal refuses the basket."
module _ (alpha : Float) (xs fs : List Float) where
  abbrev pub fit_answer : Entry → Answer
  fit_answer e = answer_of (fit_of alpha xs fs e e.vol)

  -- a bumped fit, beside the sigma fitted
  abbrev pub bump_answer : Entry → Answer
  bump_answer e = onto (fit_of alpha xs fs e e.vol) (λ v. answer_of (bump_of alpha xs fs e v.sigma))

  abbrev pub basket_answers : List Entry → List Answer
  basket_answers es = map fit_answer es ++ map bump_answer es
