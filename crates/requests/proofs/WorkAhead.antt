-- The laws behind CouponWork.antt: lookups, an evaluation, a search and a price, with the work where the Rust has it or ahead.
use Rattle.std.specs.Prelude.{◌≡◌, ◌⊎◌, Bool, cond, length, Option, Some, None, Ok, Err}
use Rattle.std.proofs.Math.Path.{refl, sym, ap, fun_ext}
use Rattle.std.proofs.Common.{◌∙◌, subst, inl, inr, zero-add, add-zero, arith}
use Rattle.std.proofs.Math.Bool.{true, false}
use mathlib.Core.List.Memᴰ
use mathlib.Core.List.{List, [], ◌∷◌, Memᴰ}
use Prim.Native.Nat.{ℕ, zero, suc, ◌+◌, ◌<◌}
use Rattle.std.specs.Float.Ieee.{Float, neg, is_nan}
use Rattle.ieee.specs.Rounded.{◌⊕◌, ◌⊗◌}
use Rattle.ieee.specs.Numbers as Numbers
use Rattle.ieee.specs.Fused.{fused_of}
use Rattle.math_exponential.specs.Exp.{exp_of}
use Rattle.refusals.specs.declared.refusals.Refusal.{Refusal}
use Rattle.refusals.specs.declared.refusals.Refusal.TheVariants as R
use Rattle.refusals.specs.Refusals.{Outcome, prepend, following}
use Rattle.refusals.proofs.Outcomes.{not_both, served_is}
use Rattle.curve.specs.Lookups.{factor_at, needing}
use Rattle.hullwhite_formulas.specs.HullWhite.{h, b_of, forward_of, a_of}
use Rattle.search_sum.specs.Sum.{coupons_onto, coupon_sum}
use Rattle.search.specs.declared.Bracket.{Bracket}
use Rattle.search.specs.Rate as Search
use Rattle.search.specs.Rate.{rate_at, good, rung_of, or_rung, ladder_of, bracket_moved_to, halve_of, halvings_of, finish, from_ladders, critical_of}
use Rattle.search.specs.declared.Root.{Root}
use Rattle.search.specs.Values.{critical_outcome}
use Rattle.search.proofs.LadderSteps.{found_at, nan_met, nothing, ladder_zero, ladder_suc, last_at, last_nan, ladder_stays}
use Rattle.search.proofs.HalvingSteps.{Halving, to, stop, mid, halvings_zero}
use Rattle.search.proofs.Reaching.{moves, halvings_first, halvings_stopped}
use Rattle.hullwhite_terms.specs.Terms.{coefficients_of, bs_of, a_list_of, factors_at}
use Rattle.hullwhite_terms.specs.Swaption.{with_factors}
use Rattle.hullwhite_jamshidian.specs.PricedSum.{priced_sum_of}
use Rattle.hullwhite_jamshidian.specs.Price.{put_of, puts_onto, puts_of, price_at}
use Rattle.requests.specs.AsWritten.{Misses, at_option, day_after, at_payment, evaluation_onto, evaluation_of, sum_at, Climbed, at, none, climb_from, halved_from, between_rungs, search_over, put_looked, puts_looked, price_as_written}

-- ---- the lookups: at t, at t + h and at the payment times

-- all are found, or one is missing
pub data Looked (ts fs payments : List Float) (t : Float) : Type 0 where
  found : (pt p_plus : Float) (ps : List Float) → factor_at ts fs t ≡ Some pt → factor_at ts fs (t ⊕ h) ≡ Some p_plus → factors_at ts fs payments ≡ Ok ps → Looked ts fs payments t
  missing : Misses ts fs payments t → Looked ts fs payments t

module _ (ts fs : List Float) where
  pub data Fetch (payments : List Float) : Type 0 where
    all : (ps : List Float) → factors_at ts fs payments ≡ Ok ps → Fetch payments
    lacks : (T : Float) → Memᴰ T payments → factor_at ts fs T ≡ None → Fetch payments

  pub fetch : (payments : List Float) → Fetch payments
  unfolding factors_at
  fetch [] = all [] refl
  fetch (T ∷ payments) = go (factor_at ts fs T) refl (fetch payments)
    where
      go : (m : Option Float) → factor_at ts fs T ≡ m → Fetch payments → Fetch (T ∷ payments)
      go None e rest = lacks T (Memᴰ.head refl) e
      go (Some p) e (all ps k) = all (p ∷ ps) (rw (e, k))
      go (Some p) e (lacks T' m k) = lacks T' (Memᴰ.tail m) k

  -- what was fetched for a list, its first from the others
  record Split (T : Float) (payments ps : List Float) : Type 0 where
    p : Float
    rest : List Float
    here : factor_at ts fs T ≡ Some p
    there : factors_at ts fs payments ≡ Ok rest
    is : ps ≡ p ∷ rest

  split : (T : Float) (payments ps : List Float) → factors_at ts fs (T ∷ payments) ≡ Ok ps → Split T payments ps
  unfolding factors_at
  split T payments ps e = go (factor_at ts fs T) (factors_at ts fs payments) refl refl e
    where
      go : (m : Option Float) (o : Outcome (List Float)) → factor_at ts fs T ≡ m → factors_at ts fs payments ≡ o → needing m (λ p. prepend p o) ≡ Ok ps → Split T payments ps
      go None o a b k = absurd (not_both k)
      go (Some p) (Err q) a b k = absurd (not_both k)
      go (Some p) (Ok rest) a b k = record { p = p; rest = rest; here = a; there = b; is = sym (served_is k) }

  pub lacking : (payments : List Float) (T : Float) → Memᴰ T payments → factor_at ts fs T ≡ None → factors_at ts fs payments ≡ Err R.OffCurve
  unfolding factors_at
  lacking [] T m e = absurd (Memᴰ.not-nil m)
  lacking (T' ∷ payments) T m e = go (factor_at ts fs T') refl (Memᴰ.cases_cons m) (λ n. lacking payments T n e)
    where
      go : (x : Option Float) → factor_at ts fs T' ≡ x → (T ≡ T') ⊎ Memᴰ T payments → (Memᴰ T payments → factors_at ts fs payments ≡ Err R.OffCurve) → factors_at ts fs (T' ∷ payments) ≡ Err R.OffCurve
      go None k c others = rw k
      go (Some p) k (inl c) others = rw (← c, e)
      go (Some p) k (inr n) others = rw (k, others n)

pub looked : (ts fs payments : List Float) (t : Float) → Looked ts fs payments t
looked ts fs payments t = go (factor_at ts fs t) (factor_at ts fs (t ⊕ h)) refl refl (fetch ts fs payments)
  where
    go : (m n : Option Float) → factor_at ts fs t ≡ m → factor_at ts fs (t ⊕ h) ≡ n → Fetch ts fs payments → Looked ts fs payments t
    go None n a b f = missing (at_option a)
    go (Some pt) None a b f = missing (day_after b)
    go (Some pt) (Some p_plus) a b (lacks T m k) = missing (at_payment T m k)
    go (Some pt) (Some p_plus) a b (all ps k) = found pt p_plus ps a b k

-- where one is missing, lookups ahead are refused by 8, whatever was to follow
refused_ahead : {B : Type 0} (ts fs payments : List Float) (t : Float) (on : Float → Float → List Float → Outcome B) → Misses ts fs payments t → with_factors ts fs payments t on ≡ Err R.OffCurve
refused_ahead ts fs payments t on (at_option e) = rw e
refused_ahead ts fs payments t on (day_after e) = go (factor_at ts fs t) refl
  where
    go : (m : Option Float) → factor_at ts fs t ≡ m → with_factors ts fs payments t on ≡ Err R.OffCurve
    go None k = rw k
    go (Some pt) k = rw (k, e)
refused_ahead ts fs payments t on (at_payment T m e) = go (factor_at ts fs t) (factor_at ts fs (t ⊕ h)) refl refl
  where
    go : (m n : Option Float) → factor_at ts fs t ≡ m → factor_at ts fs (t ⊕ h) ≡ n → with_factors ts fs payments t on ≡ Err R.OffCurve
    go None n a b = rw a
    go (Some pt) None a b = rw (a, b)
    go (Some pt) (Some p_plus) a b = rw (a, b, lacking ts fs payments T m e)

-- the lookups ahead, where all are found
found_ahead : {B : Type 0} (ts fs payments : List Float) (t : Float) (on : Float → Float → List Float → Outcome B) {pt p_plus : Float} {ps : List Float}
    → factor_at ts fs t ≡ Some pt → factor_at ts fs (t ⊕ h) ≡ Some p_plus → factors_at ts fs payments ≡ Ok ps → with_factors ts fs payments t on ≡ on pt p_plus ps
found_ahead ts fs payments t on a b k = rw (a, b, k)

-- what is so with one missing, and what is so on the factors found, is so of the lookups ahead
pub by_lookups : {B : Type 0} (ts fs payments : List Float) (t : Float) (on : Float → Float → List Float → Outcome B) {o : Outcome B}
    → (Misses ts fs payments t → o ≡ Err R.OffCurve)
    → ((pt p_plus : Float) (ps : List Float) → factor_at ts fs t ≡ Some pt → factor_at ts fs (t ⊕ h) ≡ Some p_plus → factors_at ts fs payments ≡ Ok ps → o ≡ on pt p_plus ps)
    → o ≡ with_factors ts fs payments t on
by_lookups {B} ts fs payments t on {o} m f = go (looked ts fs payments t)
  where
    go : Looked ts fs payments t → o ≡ with_factors ts fs payments t on
    go (missing e) = m e ∙ sym (refused_ahead ts fs payments t on e)
    go (found pt p_plus ps a b k) = f pt p_plus ps a b k ∙ sym (found_ahead ts fs payments t on a b k)

-- ---- an evaluation, with everything fetched and worked inside it

module _ (alpha : Float) (ts fs : List Float) (t sigma pt p_plus : Float) (a : factor_at ts fs t ≡ Some pt) (b : factor_at ts fs (t ⊕ h) ≡ Some p_plus) where
  evaluated_onto : (sum : Float) (cs payments ps : List Float) (rate : Float) → factors_at ts fs payments ≡ Ok ps
      → evaluation_onto sum alpha ts fs t sigma cs payments rate ≡ Ok (coupons_onto sum cs (a_list_of alpha t sigma (forward_of pt p_plus) pt payments ps) (bs_of alpha t payments) rate)
  unfolding evaluation_onto coupons_onto a_list_of bs_of
  evaluated_onto sum [] payments ps rate e = refl
  evaluated_onto sum (c ∷ cs) [] ps rate e = refl
  evaluated_onto sum (c ∷ cs) (T ∷ payments) ps rate e =
      let s = split ts fs T payments ps e in
      go s.p s.rest s.here s.is (evaluated_onto (next s.p) cs payments s.rest rate s.there)
    where
      next : Float → Float
      next p = sum ⊕ c ⊗ a_of alpha t sigma (b_of alpha t T) (forward_of pt p_plus) pt p ⊗ exp_of (neg (b_of alpha t T) ⊗ rate)

      go : (p : Float) (rest : List Float) → factor_at ts fs T ≡ Some p → ps ≡ p ∷ rest
          → evaluation_onto (next p) alpha ts fs t sigma cs payments rate ≡ Ok (coupons_onto (next p) cs (a_list_of alpha t sigma (forward_of pt p_plus) pt payments rest) (bs_of alpha t payments) rate)
          → evaluation_onto sum alpha ts fs t sigma (c ∷ cs) (T ∷ payments) rate ≡ Ok (coupons_onto sum (c ∷ cs) (a_list_of alpha t sigma (forward_of pt p_plus) pt (T ∷ payments) ps) (bs_of alpha t (T ∷ payments)) rate)
      go p rest here is others = rw (a, here, b, is) others

  pub evaluated : (cs payments ps : List Float) → factors_at ts fs payments ≡ Ok ps → evaluation_of alpha ts fs t sigma cs payments ≡ (λ rate. Ok (priced_sum_of alpha t sigma cs payments pt p_plus ps rate))
  unfolding evaluation_of coupon_sum
  evaluated cs payments ps e = fun_ext (λ rate. evaluated_onto Numbers.zero cs payments ps rate e)

  payment_missed : (sum : Float) (cs payments : List Float) (rate T : Float) → length cs ≡ length payments → Memᴰ T payments → factor_at ts fs T ≡ None → evaluation_onto sum alpha ts fs t sigma cs payments rate ≡ Err R.OffCurve
  unfolding evaluation_onto
  payment_missed sum cs [] rate T l m e = absurd (Memᴰ.not-nil m)
  payment_missed sum [] (T' ∷ payments) rate T l m e = absurd (omega arith)
  payment_missed sum (c ∷ cs) (T' ∷ payments) rate T l m e = go (factor_at ts fs T') refl (Memᴰ.cases_cons m) (λ next n. payment_missed next cs payments rate T (omega arith) n e)
    where
      go : (x : Option Float) → factor_at ts fs T' ≡ x → (T ≡ T') ⊎ Memᴰ T payments
          → ((next : Float) → Memᴰ T payments → evaluation_onto next alpha ts fs t sigma cs payments rate ≡ Err R.OffCurve)
          → evaluation_onto sum alpha ts fs t sigma (c ∷ cs) (T' ∷ payments) rate ≡ Err R.OffCurve
      go None k i others = rw (a, k)
      go (Some p) k (inl i) others = rw (a, ← i, e)
      go (Some p) k (inr n) others = rw (a, k, b) (others (sum ⊕ c ⊗ a_of alpha t sigma (b_of alpha t T') (forward_of pt p_plus) pt p ⊗ exp_of (neg (b_of alpha t T') ⊗ rate)) n)

module _ (alpha : Float) (ts fs : List Float) (t sigma : Float) where
  -- the first coupon meets what is missing at t or at t + h
  option_missed : (sum c : Float) (cs : List Float) (T : Float) (payments : List Float) (rate : Float) → factor_at ts fs t ≡ None → evaluation_onto sum alpha ts fs t sigma (c ∷ cs) (T ∷ payments) rate ≡ Err R.OffCurve
  unfolding evaluation_onto
  option_missed sum c cs T payments rate e = rw e

  day_missed : (sum c : Float) (cs : List Float) (T : Float) (payments : List Float) (rate : Float) → factor_at ts fs (t ⊕ h) ≡ None → evaluation_onto sum alpha ts fs t sigma (c ∷ cs) (T ∷ payments) rate ≡ Err R.OffCurve
  unfolding evaluation_onto
  day_missed sum c cs T payments rate e = go (factor_at ts fs t) (factor_at ts fs T) refl refl
    where
      go : (m n : Option Float) → factor_at ts fs t ≡ m → factor_at ts fs T ≡ n → evaluation_onto sum alpha ts fs t sigma (c ∷ cs) (T ∷ payments) rate ≡ Err R.OffCurve
      go None n x y = rw x
      go (Some pt) None x y = rw (x, y)
      go (Some pt) (Some p) x y = rw (x, y, e)

  missed_onto : (sum : Float) (cs payments : List Float) (rate : Float) → 0 < length payments → length cs ≡ length payments → Misses ts fs payments t → evaluation_onto sum alpha ts fs t sigma cs payments rate ≡ Err R.OffCurve
  missed_onto sum cs [] rate n l m = absurd (omega arith)
  missed_onto sum [] (T ∷ payments) rate n l m = absurd (omega arith)
  missed_onto sum (c ∷ cs) (T ∷ payments) rate n l (at_option e) = option_missed sum c cs T payments rate e
  missed_onto sum (c ∷ cs) (T ∷ payments) rate n l (day_after e) = day_missed sum c cs T payments rate e
  missed_onto sum (c ∷ cs) (T ∷ payments) rate n l (at_payment T' m e) = go (factor_at ts fs t) (factor_at ts fs (t ⊕ h)) refl refl
    where
      go : (x y : Option Float) → factor_at ts fs t ≡ x → factor_at ts fs (t ⊕ h) ≡ y → evaluation_onto sum alpha ts fs t sigma (c ∷ cs) (T ∷ payments) rate ≡ Err R.OffCurve
      go None y u v = option_missed sum c cs T payments rate u
      go (Some pt) None u v = day_missed sum c cs T payments rate v
      go (Some pt) (Some p_plus) u v = payment_missed alpha ts fs t sigma pt p_plus u v sum (c ∷ cs) (T ∷ payments) rate T' l m e

  pub missed : (cs payments : List Float) → 0 < length payments → length cs ≡ length payments → Misses ts fs payments t → evaluation_of alpha ts fs t sigma cs payments ≡ (λ rate. Err R.OffCurve)
  unfolding evaluation_of
  missed cs payments n l m = fun_ext (λ rate. missed_onto Numbers.zero cs payments rate n l m)

-- ---- the search over it
abbrev halved : Halving → Outcome Bracket
halved (Ok b) = Ok b
halved (Err e) = Err R.NanReached

ends : (i j : ℕ) (x : Halving) → following (halved x) (λ b. Ok (record { rate = mid b; bracket = b; low_rung = i; high_rung = j })) ≡ critical_outcome (finish i j x)
unfolding finish
ends i j (Ok b) = refl
ends i j (Err e) = refl

module _ (sum : Float → Float) where
  abbrev over : Float → Outcome Float
  over rate = Ok (sum rate)

  -- a ladder, by its definition and as it is climbed
  data SameLadder (below : Bool) (l : Search.Climbed) (o : Outcome Climbed) : Type 0 where
    both_at : (i : ℕ) (s : Float) → l ≡ found_at i (rate_at below i) s → o ≡ Ok (at i s) → SameLadder below l o
    both_nan : l ≡ nan_met → o ≡ Err R.NanReached → SameLadder below l o
    both_none : l ≡ nothing → o ≡ Ok none → SameLadder below l o

  climbs : (below : Bool) (n i : ℕ) → ladder_of sum below i ≡ nothing → SameLadder below (ladder_of sum below (n + i)) (climb_from over below n i)
  unfolding climb_from sum_at
  climbs below zero i e = both_none (ap (ladder_of sum below) (zero-add i) ∙ e) refl
  climbs below (suc n) i e = go (is_nan (sum r)) (good below (sum r)) refl refl (ladder_suc sum below i nothing e ∙ (unfold or_rung rung_of in refl)) (climbs below n (suc i))
    where
      r : Float
      r = rate_at below i

      go : (x g : Bool) → is_nan (sum r) ≡ x → good below (sum r) ≡ g
          → ladder_of sum below (suc i) ≡ cond x nan_met (cond g (found_at i r (sum r)) nothing)
          → (ladder_of sum below (suc i) ≡ nothing → SameLadder below (ladder_of sum below (n + suc i)) (climb_from over below n (suc i)))
          → SameLadder below (ladder_of sum below (suc n + i)) (climb_from over below (suc n) i)
      go true g p q k next = both_nan (ap (ladder_of sum below) (moves n i) ∙ ladder_stays sum below nan_met (last_nan sum below) n (suc i) k) (rw p)
      go false true p q k next = both_at i (sum r) (ap (ladder_of sum below) (moves n i) ∙ ladder_stays sum below (found_at i r (sum r)) (last_at sum below i r (sum r)) n (suc i) k) (rw (p, q))
      go false false p q k next = rw (p, q, moves n i) (next k)

  climbed : (below : Bool) → SameLadder below (ladder_of sum below 61) (climb_from over below 61 0)
  climbed below = subst (λ (n : ℕ). SameLadder below (ladder_of sum below n) (climb_from over below 61 0)) (add-zero 61) (climbs below 61 0 (ladder_zero sum below))

  halves : (n : ℕ) (b : Bracket) → halved_from over n b ≡ halved (halvings_of sum n b)
  unfolding halved_from sum_at
  halves zero b = sym (ap halved (halvings_zero sum b))
  halves (suc n) b = go (is_nan (sum (mid b))) refl (unfold halve_of in refl) (halves n)
    where
      next : Bracket
      next = bracket_moved_to b (mid b) (sum (mid b))

      go : (x : Bool) → is_nan (sum (mid b)) ≡ x → halve_of sum b ≡ cond (is_nan (sum (mid b))) stop (to next) → ((c : Bracket) → halved_from over n c ≡ halved (halvings_of sum n c))
          → halved_from over (suc n) b ≡ halved (halvings_of sum (suc n) b)
      go true p k more = rw (p, halvings_stopped sum n b (k ∙ ap (λ (y : Bool). cond y stop (to next)) p))
      go false p k more = rw (p, halvings_first sum n b next (k ∙ ap (λ (y : Bool). cond y stop (to next)) p)) (more next)

  pub searched : search_over over ≡ critical_outcome (critical_of sum)
  unfolding search_over critical_of between_rungs from_ladders
  searched = go (climbed true) (climbed false)
    where
      start : ℕ → ℕ → Float → Float → Bracket
      start i j s s' = record { lower = rate_at true i; upper = rate_at false j; lower_sum = s; upper_sum = s' }

      go : SameLadder true (ladder_of sum true 61) (climb_from over true 61 0) → SameLadder false (ladder_of sum false 61) (climb_from over false 61 0)
          → following (climb_from over true 61 0) (λ low. following (climb_from over false 61 0) (λ high. between_rungs over low high)) ≡ critical_outcome (from_ladders sum (ladder_of sum true 61) (ladder_of sum false 61))
      go (both_nan l o) high = rw (l, o)
      go (both_none l o) (both_nan l' o') = rw (l, o, l', o')
      go (both_none l o) (both_none l' o') = rw (l, o, l', o')
      go (both_none l o) (both_at j s' l' o') = rw (l, o, l', o')
      go (both_at i s l o) (both_nan l' o') = rw (l, o, l', o')
      go (both_at i s l o) (both_none l' o') = rw (l, o, l', o')
      go (both_at i s l o) (both_at j s' l' o') = rw (l, o, l', o', halves 200 (start i j s s')) (ends i j (halvings_of sum 200 (start i j s s')))

-- an evaluation that is refused at every rate
climb_refused : (q : Refusal) (below : Bool) (n i : ℕ) → climb_from (λ rate. Err q) below (suc n) i ≡ Err q
unfolding climb_from sum_at
climb_refused q below n i = refl

pub search_refused : (q : Refusal) → search_over (λ rate. Err q) ≡ Err q
unfolding search_over
search_refused q = rw (climb_refused q true 60 0)

-- ---- the price at a sigma
module _ (alpha : Float) (ts fs : List Float) (t sigma pt p_plus : Float) (a : factor_at ts fs t ≡ Some pt) (b : factor_at ts fs (t ⊕ h) ≡ Some p_plus) where
  puts_looked_lem : (total r : Float) (cs payments ps : List Float) → factors_at ts fs payments ≡ Ok ps → puts_looked total alpha ts fs t sigma r cs payments ≡ Ok (puts_onto total alpha t sigma (forward_of pt p_plus) pt r cs payments ps)
  unfolding puts_looked put_looked puts_onto put_of
  puts_looked_lem total r [] payments ps e = refl
  puts_looked_lem total r (c ∷ cs) [] ps e = refl
  puts_looked_lem total r (c ∷ cs) (T ∷ payments) ps e =
      let s = split ts fs T payments ps e in
      go s.p s.rest s.here s.is (puts_looked_lem (next s.p) r cs payments s.rest s.there)
    where
      next : Float → Float
      next p = fused_of c (put_of alpha t sigma (forward_of pt p_plus) pt r T p) total

      go : (p : Float) (rest : List Float) → factor_at ts fs T ≡ Some p → ps ≡ p ∷ rest
          → puts_looked (next p) alpha ts fs t sigma r cs payments ≡ Ok (puts_onto (next p) alpha t sigma (forward_of pt p_plus) pt r cs payments rest)
          → puts_looked total alpha ts fs t sigma r (c ∷ cs) (T ∷ payments) ≡ Ok (puts_onto total alpha t sigma (forward_of pt p_plus) pt r (c ∷ cs) (T ∷ payments) ps)
      go p rest here is others = rw (a, here, b, is) others

  pub priced : (payments accruals : List Float) (strike : Float) (ps : List Float) → factors_at ts fs payments ≡ Ok ps → price_as_written alpha ts fs t sigma (coefficients_of strike accruals) payments ≡ price_at alpha payments accruals strike t pt p_plus ps sigma
  unfolding price_as_written price_at puts_of
  priced payments accruals strike ps k =
      let cs = coefficients_of strike accruals in
      ap
      (λ (o : Outcome Root). following o (λ root. following (puts_looked Numbers.zero alpha ts fs t sigma root.rate cs payments) (λ value. Ok (record { value = value; root = root }))))
      (ap search_over (evaluated alpha ts fs t sigma pt p_plus a b cs payments ps k) ∙ searched (priced_sum_of alpha t sigma cs payments pt p_plus ps))
      ∙ ap
      (following (critical_outcome (critical_of (priced_sum_of alpha t sigma cs payments pt p_plus ps))))
      (fun_ext (λ (root : Root). ap (λ (o : Outcome Float). following o (λ value. Ok (record { value = value; root = root }))) (puts_looked_lem Numbers.zero root.rate cs payments ps k)))

pub priced_missed : (alpha : Float) (ts fs : List Float) (t sigma : Float) (cs payments : List Float) → 0 < length payments → length cs ≡ length payments → Misses ts fs payments t → price_as_written alpha ts fs t sigma cs payments ≡ Err R.OffCurve
unfolding price_as_written
priced_missed alpha ts fs t sigma cs payments n l m = rw (missed alpha ts fs t sigma cs payments n l m, search_refused R.OffCurve)
