-- The evaluations of a search, of a valuation, of a fit and of a basket, listed in order (specs/Evaluations.antt): the first of their answers that is a refusal is what the whole answers.
use Rattle.std.specs.Prelude.{◌≡◌, ◌⊎◌, Bool, not, ◌&&◌, ◌||◌, ℕ, suc, length, drop, Float, Ok, Err}
use Rattle.std.proofs.Math.Path.{refl, sym, ap, subst}
use Rattle.std.proofs.Common.{◌∙◌, inl, inr}
use Rattle.std.proofs.Math.Bool.{true, false, cond}
use mathlib.Core.List.{List, [], ◌∷◌, ◌++◌, map}
use Prim.Native.Nat as Nat
use Rattle.std.proofs.Math.Dec.{T}
use Rattle.std.specs.Float.Ieee.{is_nan, lt}
use Rattle.ieee.specs.Rounded.{◌⊖◌, ◌⊗◌}
use Rattle.math_elementary.specs.Simple.{abs_of}
use Rattle.refusals.specs.declared.checks.Test.TheVariants.{Zero}
use Rattle.refusals.specs.declared.refusals.Refusal.{Refusal}
use Rattle.refusals.specs.declared.refusals.Refusal.TheVariants as R
use Rattle.refusals.specs.Refusals.{Outcome, answer_of, first_of, after, following, Answer}
use Rattle.refusals.specs.Checks.{all_of}
use Rattle.refusals.proofs.Outcomes.{not_both, served_is}
use Rattle.search_sum.specs.Sum.{coupon_sum}
use Rattle.search.specs.Rate.{good, critical_of}
use Rattle.search.specs.declared.Root.{Root}
use Rattle.search.specs.Values.{critical_outcome}
use Rattle.search.specs.Reached.{ladder_rates, from_good, once_both, reached, some_nan, some_good, has_good}
use Rattle.search.proofs.Reaching.{exactly}
use Rattle.math_bisection.specs.declared.halving.Ends.{Ends}
use Rattle.math_bisection.specs.declared.result.Fit.{Fit}
use Rattle.math_bisection.specs.Solve.{lowest, highest, same_sign, residual_at, ends_moved_to, halvings_from, ends_of, solve_of}
use Rattle.math_bisection.specs.Tried.{tried_from, tried_of}
use Rattle.math_bisection.proofs.Steps.{mid, Met, stopped, close, away, met, last_stopped, last_served, halving_stopped, halving_close, halving_away, tried_last, tried_stopped, tried_close, tried_away, Begun, low_stopped, high_stopped, alike, apart, begun, solve_low, solve_high, solve_alike, solve_apart, tried_apart}
use Rattle.hullwhite_jamshidian.specs.Price.{price_at}
use Rattle.pricer_formulas.specs.declared.bond_option.SwaptionType.{SwaptionType}
use Rattle.pricer_formulas.specs.Newton.{flat_limit, sums_of, stepped}
use Rattle.pricer_formulas.specs.Components.{components_of}
use Rattle.fit_objective.specs.declared.market.VolatilityType.{VolatilityType}
use Rattle.fit_objective.specs.Market.{swaption_market_price_of}
use Rattle.fit_objective.specs.Objective.{value_alone, swaption_objective}
use Rattle.basket_entries.specs.Entries.{Entry, entries_of, basket_rules_on}
use Rattle.basket.specs.Basket.{fit_of, Records, with_fit, fits_of, Bumps, bump_of, with_bump, bumps_of, basket_from, fitted_basket, basket_of}
use Rattle.demand_order.specs.Searches.{search_and_step, rate_and_step}
use Rattle.demand_order.specs.Evaluations.{first_refused, onto, refused_where, sum_at, bracket_of, lows, highs, mids, search_answers, residual_answer, signs_answer, fit_answers, priced_sum, step_answer, step_answers, fit_answer, bump_answer, basket_answers}
use Rattle.hullwhite_jamshidian.specs.declared.price.Swaption.{Swaption}

-- one answer, and another where it is served
unfoldable then : Answer → Answer → Answer
then (Ok tt) b = b
then (Err r) b = Err r

first_then : (a : Answer) (xs : List Answer) → first_refused (a ∷ xs) ≡ then a (first_refused xs)
unfolding first_refused then
first_then (Ok tt) xs = refl
first_then (Err r) xs = refl

joined : (xs bs : List Answer) → first_refused (xs ++ bs) ≡ then (first_refused xs) (first_refused bs)
unfolding first_refused then
joined [] bs = refl
joined ((Ok tt) ∷ xs) bs = joined xs bs
joined (Err r ∷ xs) bs = refl

then_served : (a : Answer) → then a (Ok tt) ≡ a
unfolding then
then_served (Ok tt) = refl
then_served (Err r) = refl

-- ---- a search
module _ (sum : Float → Float) where
  -- the rates in it are those that the search reaches, in order
  pub rates_are : lows sum ++ (highs sum ++ mids sum) ≡ reached sum
  unfolding reached
  rates_are = refl

  sums_first : (rates : List Float) → first_refused (map (sum_at sum) rates) ≡ refused_where R.NanReached (some_nan sum rates)
  unfolding first_refused some_nan
  sums_first [] = refl
  sums_first (r ∷ rates) = go (is_nan (sum r)) (sums_first rates)
    where
      go : (b : Bool) → first_refused (map (sum_at sum) rates) ≡ refused_where R.NanReached (some_nan sum rates) → first_refused (refused_where R.NanReached b ∷ map (sum_at sum) rates) ≡ refused_where R.NanReached (b || some_nan sum rates)
      go true h = refl
      go false h = h

  -- where a ladder has no good rate there are no midpoints
  none_good : (below : Bool) (rates : List Float) → T (not (some_good sum below rates)) → from_good sum below rates ≡ []
  unfolding some_good from_good
  none_good below [] k = refl
  none_good below (r ∷ rates) k = go (good below (sum r)) k (none_good below rates)
    where
      go : (b : Bool) → T (not (b || some_good sum below rates)) → (T (not (some_good sum below rates)) → from_good sum below rates ≡ []) → cond b (r ∷ rates) (from_good sum below rates) ≡ []
      go true l h = absurd l
      go false l h = h l

  no_mids : T (not (has_good sum true && has_good sum false)) → T (not (some_nan sum (mids sum)))
  unfolding some_nan once_both
  no_mids k = go (has_good sum true) refl k
    where
      clear : mids sum ≡ [] → T (not (some_nan sum (mids sum)))
      clear e = subst (λ (rates : List Float). T (not (some_nan sum rates))) (sym e) tt

      beside : (xs ys : List Float) → ys ≡ [] → once_both sum xs ys ≡ []
      beside [] ys e = refl
      beside (x ∷ xs) ys e = rw e

      low : from_good sum true (ladder_rates true) ≡ [] → mids sum ≡ []
      low e = rw e

      go : (b : Bool) → has_good sum true ≡ b → T (not (b && has_good sum false)) → T (not (some_nan sum (mids sum)))
      go true e l = clear (beside (from_good sum true (ladder_rates true)) (from_good sum false (ladder_rates false)) (none_good false (ladder_rates false) l))
      go false e l = clear (low (none_good true (ladder_rates true) (subst (λ (x : Bool). T (not x)) (sym e) tt)))

  nan_among : (xs ys : List Float) → some_nan sum (xs ++ ys) ≡ (some_nan sum xs || some_nan sum ys)
  unfolding some_nan
  nan_among [] ys = refl
  nan_among (x ∷ xs) ys = go (is_nan (sum x)) (nan_among xs ys)
    where
      go : (b : Bool) → some_nan sum (xs ++ ys) ≡ (some_nan sum xs || some_nan sum ys) → (b || some_nan sum (xs ++ ys)) ≡ (b || some_nan sum xs || some_nan sum ys)
      go true h = refl
      go false h = h

  -- by which of the tests the first refusal is decided
  decided : (nl nh nm g k : Bool) (a : Answer) → (T (nl || (nh || nm)) → a ≡ Err R.NanReached) → (T (not (nl || (nh || nm))) → T (not g) ⊎ T (not k) → a ≡ Err R.NoBracket) → (T (not (nl || (nh || nm))) → T g → T k → a ≡ Ok tt)
      → (T (not (g && k)) → T (not nm)) → a ≡ then (refused_where R.NanReached nl) (then (refused_where R.NanReached nh) (then (refused_where R.NoBracket (not (g && k))) (refused_where R.NanReached nm)))
  unfolding then
  decided true nh nm g k a n b s m = n tt
  decided false true nm g k a n b s m = n tt
  decided false false true true true a n b s m = n tt
  decided false false false true true a n b s m = s tt tt tt
  decided false false true true false a n b s m = absurd (m tt)
  decided false false false true false a n b s m = b tt (inr tt)
  decided false false true false k a n b s m = absurd (m tt)
  decided false false false false k a n b s m = b tt (inl tt)

  pub search_in_order : answer_of (critical_outcome (critical_of sum)) ≡ first_refused (search_answers sum)
  search_in_order =
      decided (some_nan sum (lows sum)) (some_nan sum (highs sum)) (some_nan sum (mids sum)) (has_good sum true) (has_good sum false) (answer_of (critical_outcome (critical_of sum)))
      (λ h. (exactly sum).not_a_number.1 (subst T (sym among) h))
      (λ h w. (exactly sum).no_bracket.1 (subst (λ (b : Bool). T (not b)) (sym among) h, w))
      (λ h g k. (exactly sum).served.1 (subst (λ (b : Bool). T (not b)) (sym among) h, g, k))
      no_mids
      ∙ sym listed
    where
      among : some_nan sum (reached sum) ≡ (some_nan sum (lows sum) || (some_nan sum (highs sum) || some_nan sum (mids sum)))
      among = ap (some_nan sum) (sym rates_are) ∙ nan_among (lows sum) (highs sum ++ mids sum) ∙ ap (λ (b : Bool). some_nan sum (lows sum) || b) (nan_among (highs sum) (mids sum))

      listed : first_refused (search_answers sum) ≡ then (refused_where R.NanReached (some_nan sum (lows sum))) (then (refused_where R.NanReached (some_nan sum (highs sum))) (then (bracket_of sum) (refused_where R.NanReached (some_nan sum (mids sum)))))
      listed =
          joined (map (sum_at sum) (lows sum)) (map (sum_at sum) (highs sum) ++ (bracket_of sum ∷ map (sum_at sum) (mids sum)))
          ∙ ap (λ (a : Answer). then a (first_refused (map (sum_at sum) (highs sum) ++ (bracket_of sum ∷ map (sum_at sum) (mids sum))))) (sums_first (lows sum))
          ∙ ap (then (refused_where R.NanReached (some_nan sum (lows sum))))
          (joined (map (sum_at sum) (highs sum)) (bracket_of sum ∷ map (sum_at sum) (mids sum))
          ∙ ap (λ (a : Answer). then a (first_refused (bracket_of sum ∷ map (sum_at sum) (mids sum)))) (sums_first (highs sum))
          ∙ ap (then (refused_where R.NanReached (some_nan sum (highs sum)))) (first_then (bracket_of sum) (map (sum_at sum) (mids sum)) ∙ ap (then (bracket_of sum)) (sums_first (mids sum))))

-- ---- a fit
module _ (f : Float → Outcome Float) where
  residual_is : (sigma : Float) → residual_answer f sigma ≡ answer_of (residual_at f sigma)
  unfolding residual_at first_refused
  residual_is sigma = go (f sigma)
    where
      test : (v : Float) (b : Bool) → first_refused (refused_where R.NanReached b ∷ []) ≡ answer_of (cond b (Err R.NanReached) (Ok v))
      test v true = refl
      test v false = refl

      go : (o : Outcome Float) → first_refused (answer_of o ∷ onto o (λ v. refused_where R.NanReached (is_nan v)) ∷ []) ≡ answer_of (following o (λ v. cond (is_nan v) (Err R.NanReached) (Ok v)))
      go (Ok v) = test v (is_nan v)
      go (Err r) = refl

  refuses : (sigma : Float) {r : Refusal} (xs : List Answer) → residual_at f sigma ≡ Err r → Err r ≡ first_refused (residual_answer f sigma ∷ xs)
  unfolding first_refused
  refuses sigma xs p = sym (ap (λ (a : Answer). first_refused (a ∷ xs)) (residual_is sigma ∙ ap answer_of p))

  passes : (sigma : Float) {v : Float} (xs : List Answer) → residual_at f sigma ≡ Ok v → first_refused xs ≡ first_refused (residual_answer f sigma ∷ xs)
  unfolding first_refused
  passes sigma xs p = sym (ap (λ (a : Answer). first_refused (a ∷ xs)) (residual_is sigma ∙ ap answer_of p))

  all_of_lem : {xs ys : List Float} → xs ≡ ys → first_refused (map (residual_answer f) ys) ≡ first_refused (map (residual_answer f) xs)
  all_of_lem e = sym (ap (λ (zs : List Float). first_refused (map (residual_answer f) zs)) e)

  halvings_in_order : (left made : ℕ) (e : Ends) → answer_of (halvings_from f left made e) ≡ first_refused (map (residual_answer f) (tried_from f left e))
  unfolding first_refused
  halvings_in_order Nat.zero made e = go (met f e) ∙ all_of_lem (tried_last f e)
    where
      go : Met f e → answer_of (halvings_from f Nat.zero made e) ≡ first_refused (map (residual_answer f) (mid e ∷ []))
      go (stopped r p) = ap answer_of (last_stopped f made e p) ∙ refuses (mid e) [] p
      go (close v p q) = ap answer_of (last_served f made e p) ∙ passes (mid e) [] p
      go (away v p q) = ap answer_of (last_served f made e p) ∙ passes (mid e) [] p
  halvings_in_order (suc left) made e = go (met f e) (halvings_in_order left (suc made))
    where
      go : Met f e → ((e' : Ends) → answer_of (halvings_from f left (suc made) e') ≡ first_refused (map (residual_answer f) (tried_from f left e'))) → answer_of (halvings_from f (suc left) made e) ≡ first_refused (map (residual_answer f) (tried_from f (suc left) e))
      go (stopped r p) k = ap answer_of (halving_stopped f made e left p) ∙ refuses (mid e) [] p ∙ all_of_lem (tried_stopped f e left p)
      go (close v p q) k = ap answer_of (halving_close f made e left p q) ∙ passes (mid e) [] p ∙ all_of_lem (tried_close f e left p q)
      go (away v p q) k = ap answer_of (halving_away f made e left p q) ∙ k (ends_moved_to e (mid e) v) ∙ passes (mid e) (map (residual_answer f) (tried_from f left (ends_moved_to e (mid e) v))) p ∙ all_of_lem (tried_away f e left p q)

  -- the signs, of residuals that are known
  signs_are : {x y : Outcome Float} → residual_at f lowest ≡ x → residual_at f highest ≡ y → signs_answer f ≡ onto x (λ a. onto y (λ b. refused_where R.NoSignChange (same_sign a b)))
  signs_are p q = rw (p, q)

  pub fit_in_order : answer_of (solve_of f) ≡ first_refused (fit_answers f)
  unfolding first_refused
  fit_in_order = go (begun f)
    where
      rest : List Answer
      rest = map (residual_answer f) (drop 2 (tried_of f))

      go : Begun f → answer_of (solve_of f) ≡ first_refused (fit_answers f)
      go (low_stopped r p) = ap answer_of (solve_low f p) ∙ refuses lowest (residual_answer f highest ∷ signs_answer f ∷ rest) p
      go (high_stopped a r p q) = ap answer_of (solve_high f p q) ∙ refuses highest (signs_answer f ∷ rest) q ∙ passes lowest (residual_answer f highest ∷ signs_answer f ∷ rest) p
      go (alike a b p q s) =
          ap answer_of (solve_alike f p q s)
          ∙ sym (ap (λ (x : Answer). first_refused (x ∷ rest)) (signs_are p q ∙ ap (refused_where R.NoSignChange) s))
          ∙ passes highest (signs_answer f ∷ rest) q
          ∙ passes lowest (residual_answer f highest ∷ signs_answer f ∷ rest) p
      go (apart a b p q s) =
          ap answer_of (solve_apart f p q s)
          ∙ halvings_in_order 200 0 (ends_of a b)
          ∙ sym (ap (λ (xs : List Float). first_refused (map (residual_answer f) (drop 2 xs))) (tried_apart f p q s))
          ∙ sym (ap (λ (x : Answer). first_refused (x ∷ rest)) (signs_are p q ∙ ap (refused_where R.NoSignChange) s))
          ∙ passes highest (signs_answer f ∷ rest) q
          ∙ passes lowest (residual_answer f highest ∷ signs_answer f ∷ rest) p

-- ---- kinds 5, 10 and 11: the price at a sigma is refused as its search is
module _ (alpha : Float) (payments accruals : List Float) (strike t pt p_plus : Float) (ps : List Float) (sigma : Float) where
  as_its_search : {B : Type 0} (o : Outcome Root) (made : Root → B) → answer_of (following o (λ root. Ok (made root))) ≡ answer_of o
  as_its_search (Ok root) made = refl
  as_its_search (Err r) made = refl

  pub price_in_order : answer_of (price_at alpha payments accruals strike t pt p_plus ps sigma) ≡ first_refused (search_answers (priced_sum alpha payments accruals strike t pt p_plus ps sigma))
  unfolding price_at
  price_in_order = as_its_search (critical_outcome (critical_of (priced_sum alpha payments accruals strike t pt p_plus ps sigma))) _ ∙ search_in_order (priced_sum alpha payments accruals strike t pt p_plus ps sigma)

  pub objective_in_order : (quote : VolatilityType) (vol : Float) → answer_of (swaption_objective quote alpha payments accruals strike t vol pt p_plus ps sigma) ≡ first_refused (search_answers (priced_sum alpha payments accruals strike t pt p_plus ps sigma))
  unfolding swaption_objective
  objective_in_order quote vol = go (price_at alpha payments accruals strike t pt p_plus ps sigma) ∙ price_in_order
    where
      go : (o : Outcome Swaption) → answer_of (following (value_alone o) (λ model. Ok (model ⊖ swaption_market_price_of quote strike t vol accruals pt ps))) ≡ answer_of o
      go (Ok v) = refl
      go (Err r) = refl

-- ---- kinds 6 and 7: the search, then the Newton step
module _ (cs affs bs : List Float) where
  -- whatever is made of the root and the rate after the step
  module _ {C : Type 0} (made : Root → Float → C) where
    stepping : (o : Outcome Root) → answer_of (following o (λ root. following (stepped root.rate (sums_of root.rate cs affs bs)) (λ s. Ok (made root s))))
        ≡ then (answer_of o) (first_refused (onto o (λ root. refused_where R.FlatDerivative (lt (abs_of (sums_of root.rate cs affs bs).derivative) flat_limit)) ∷ []))
    unfolding stepped then first_refused
    stepping (Err r) = refl
    stepping (Ok root) = go (lt (abs_of (sums_of root.rate cs affs bs).derivative) flat_limit) _
      where
        go : (b : Bool) (next : Float) → answer_of (following (cond b (Err R.FlatDerivative) (Ok next)) (λ s. Ok (made root s))) ≡ first_refused (refused_where R.FlatDerivative b ∷ [])
        go true next = refl
        go false next = refl

    pub steps_in_order : answer_of (following (critical_outcome (critical_of (coupon_sum cs affs bs))) (λ root. following (stepped root.rate (sums_of root.rate cs affs bs)) (λ s. Ok (made root s)))) ≡ first_refused (step_answers cs affs bs)
    steps_in_order =
        stepping (critical_outcome (critical_of (coupon_sum cs affs bs)))
        ∙ ap (λ (a : Answer). then a (first_refused (step_answer cs affs bs ∷ []))) (search_in_order (coupon_sum cs affs bs))
        ∙ sym (joined (search_answers (coupon_sum cs affs bs)) (step_answer cs affs bs ∷ []))

pub valuation_in_order : (option : SwaptionType) (deviation pt : Float) (cs affs bs ps owns : List Float) (notional side : Float) → answer_of (search_and_step option deviation pt cs affs bs ps owns notional side) ≡ first_refused (step_answers cs affs bs)
valuation_in_order option deviation pt cs affs bs ps owns notional side =
    steps_in_order cs affs bs (λ root s. record { value = components_of option (not (all_of Zero owns)) deviation pt s cs affs bs ps owns ⊗ notional ⊗ side; after_step = s; root = root })

-- `implicit_critical_rate`, alike
pub implicit_in_order : (cs affs bs : List Float) → answer_of (rate_and_step cs affs bs) ≡ first_refused (step_answers cs affs bs)
implicit_in_order cs affs bs = steps_in_order cs affs bs (λ root s. record { after_step = s; root = root })

-- ---- a basket: "All fits run, then all bumped fits, 13 being met at each one's end; the first refusal refuses the basket."
module _ (alpha : Float) (xs fs : List Float) where
  one_more : {B C : Type 0} (o : Outcome B) (p : Outcome C) {D : Type 0} (made : B → C → D) → answer_of (following o (λ v. following p (λ w. Ok (made v w)))) ≡ then (answer_of o) (answer_of p)
  unfolding then
  one_more (Ok v) (Ok w) made = refl
  one_more (Ok v) (Err r) made = refl
  one_more (Err r) p made = refl

  fits_in_order : (es : List Entry) → answer_of (fits_of alpha xs fs es) ≡ first_refused (map (fit_answer alpha xs fs) es)
  unfolding fits_of
  fits_in_order [] = unfold first_refused in refl
  fits_in_order (e ∷ es) = one_more (fit_of alpha xs fs e e.vol) (fits_of alpha xs fs es) with_fit ∙ ap (then (fit_answer alpha xs fs e)) (fits_in_order es) ∙ sym (first_then (fit_answer alpha xs fs e) (map (fit_answer alpha xs fs) es))

  bumps_in_order : (es : List Entry) (rs : Records) → fits_of alpha xs fs es ≡ Ok rs → answer_of (bumps_of alpha xs fs es rs.sigmas) ≡ first_refused (map (bump_answer alpha xs fs) es)
  unfolding fits_of bumps_of
  bumps_in_order [] rs k = unfold first_refused in refl
  bumps_in_order (e ∷ es) rs k = go (fit_of alpha xs fs e e.vol) (fits_of alpha xs fs es) refl refl k (bumps_in_order es)
    where
      go : (o : Outcome Fit) (p : Outcome Records) → fit_of alpha xs fs e e.vol ≡ o → fits_of alpha xs fs es ≡ p → following o (λ v. following p (λ qs. Ok (with_fit v qs))) ≡ Ok rs
          → ((qs : Records) → fits_of alpha xs fs es ≡ Ok qs → answer_of (bumps_of alpha xs fs es qs.sigmas) ≡ first_refused (map (bump_answer alpha xs fs) es)) → answer_of (bumps_of alpha xs fs (e ∷ es) rs.sigmas) ≡ first_refused (bump_answer alpha xs fs e ∷ map (bump_answer alpha xs fs) es)
      go (Err r) p a b z on = absurd (not_both z)
      go (Ok v) (Err r) a b z on = absurd (not_both z)
      go (Ok v) (Ok qs) a b z on =
          ap (λ (ws : Records). answer_of (bumps_of alpha xs fs (e ∷ es) ws.sigmas)) (sym (served_is z))
          ∙ one_more (bump_of alpha xs fs e v.sigma) (bumps_of alpha xs fs es qs.sigmas) (with_bump v.sigma)
          ∙ ap (then (answer_of (bump_of alpha xs fs e v.sigma))) (on qs b)
          ∙ sym (first_then (answer_of (bump_of alpha xs fs e v.sigma)) (map (bump_answer alpha xs fs) es))
          ∙ ap (λ (o : Outcome Fit). first_refused (onto o (λ w. answer_of (bump_of alpha xs fs e w.sigma)) ∷ map (bump_answer alpha xs fs) es)) (sym a)

  fitted_in_order : (es : List Entry) → answer_of (fitted_basket alpha xs fs es) ≡ first_refused (basket_answers alpha xs fs es)
  unfolding fitted_basket then
  fitted_in_order es = go (fits_of alpha xs fs es) refl (fits_in_order es) ∙ sym (joined (map (fit_answer alpha xs fs) es) (map (bump_answer alpha xs fs) es))
    where
      bumped : (rs : Records) (o : Outcome Bumps) → answer_of (following o (λ bs. Ok (basket_from (length es) rs bs))) ≡ answer_of o
      bumped rs (Ok bs) = refl
      bumped rs (Err r) = refl

      go : (o : Outcome Records) → fits_of alpha xs fs es ≡ o → answer_of o ≡ first_refused (map (fit_answer alpha xs fs) es)
          → answer_of (following o (λ rs. following (bumps_of alpha xs fs es rs.sigmas) (λ bs. Ok (basket_from (length es) rs bs)))) ≡ then (first_refused (map (fit_answer alpha xs fs) es)) (first_refused (map (bump_answer alpha xs fs) es))
      go (Ok rs) a k = bumped rs (bumps_of alpha xs fs es rs.sigmas) ∙ bumps_in_order es rs a ∙ ap (λ (x : Answer). then x (first_refused (map (bump_answer alpha xs fs) es))) k
      go (Err r) a k = ap (λ (x : Answer). then x (first_refused (map (bump_answer alpha xs fs) es))) k

  -- the rules over all entries first
  pub basket_in_order : (ns : List Bool) (ks ts ends vs : List Float)
      → answer_of (basket_of alpha xs fs ns ks ts ends vs) ≡ first_refused (first_of (basket_rules_on alpha xs fs ns ks ts ends vs) ∷ basket_answers alpha xs fs (entries_of ns ks ts ends vs))
  unfolding basket_of
  basket_in_order ns ks ts ends vs = go (first_of (basket_rules_on alpha xs fs ns ks ts ends vs)) (fitted_basket alpha xs fs es) ∙ ap (then (first_of (basket_rules_on alpha xs fs ns ks ts ends vs))) (fitted_in_order es) ∙ sym (first_then (first_of (basket_rules_on alpha xs fs ns ks ts ends vs)) (basket_answers alpha xs fs es))
    where
      es : List Entry
      es = entries_of ns ks ts ends vs

      go : {B : Type 0} (a : Answer) (o : Outcome B) → answer_of (after a o) ≡ then a (answer_of o)
      go (Ok tt) o = unfold then in refl
      go (Err r) o = unfold then in refl
