-- The facts of specs/Facts.antt hold of every accepted answer that is defined, whatever the sum. Assumes nothing.
use Rattle.std.specs.Prelude.{Result, Some, None, Ok, Err}
use mathlib.Core.Path.{◌≡◌, refl, sym, ap, ◌∙◌, subst}
use Prim.Native.Nat.{ℕ, zero, suc, ◌+◌, ◌*◌, ◌≤◌, ◌<◌}
use native.Mathlib.Nat.{mul-pos}
use native.Mathlib.Decide.{dec_lt}
use native.Mathlib.Omega.{arith}
use mathlib.Core.Bool.{Bool, true, false, not, ◌&&◌, ◌||◌, cond, true≢false}
use lib.Dec.{T, ltb, eqb, lt→ltb, nltb→le}
use lib.IntN.{ℤ, pos}
use lib.Ieee.{Float, nan, inf, fin, binary64, is_nan, lt, le, eq, fits, up, down, of_bits}
use lib.Ieee.Bits.{is_false}
use lib.Ieee.Fits.{and_l, and_r, up_pos, down_pos, eq→eqb}
use Rattle.ieee.specs.Numbers.{one}
use Rattle.math_elementary.proofs.AtMost.{or_l}
use Rattle.search.specs.declared.Bracket.{Bracket}
use Rattle.search.specs.declared.Unfound.{Unfound}
use Rattle.search.specs.declared.ladder.Rung.{Rung}
use Rattle.search.specs.Halving.{raised, lowered, Halvings, none, one_more, Start}
use Rattle.search.specs.Rate.{rate_at, good, Climbed, rung_of, or_rung, ladder_of, bracket_moved_to, then_halve, halvings_of, finish, from_ladders, critical_of}
use Rattle.refusals.proofs.Outcomes.{not_both, served_is}
use Rattle.search.specs.declared.Root.{Root}
use Rattle.search.specs.Values.{critical_outcome}
use Rattle.search.specs.Facts.{FirstGood, Located}
use Rattle.search.proofs.Every.{every, every_at}
use Rattle.search.proofs.HalvingLaw.{halving_law}
use Rattle.search.proofs.LadderSteps.{found_at, nan_met, nothing, ladder_zero, ladder_suc}
use Rattle.search.proofs.HalvingSteps.{Halving, to, mid, clash, onward, halvings_zero, halvings_suc}

-- ---- a number that is not above 1 is at most 1
T_of : (b : Bool) → b ≡ true → T b
T_of b e = subst T (sym e) tt

not_of : (b : Bool) → b ≡ false → T (not b)
not_of b e = subst (λ (x : Bool). T (not x)) (sym e) tt

le_of_lt : (x y : Float) → T (lt x y) → T (le x y)
unfolding le
le_of_lt x y h = or_l (lt x y) (eq x y) h

at_most : (a b : ℕ) → T (not (ltb b a)) → T (ltb a b || (eqb a b && true))
at_most a b h = go (ltb a b) (nltb→le a b) (nltb→le b a h)
  where
    go : (t : Bool) → (T (not t) → b ≤ a) → a ≤ b → T (t || (eqb a b && true))
    go true k l = tt
    go false k l = subst (λ (z : Bool). T (z && true)) (sym (is (eqb a b) (eq→eqb (both (k tt) l)))) tt
      where
        both : b ≤ a → a ≤ b → a ≡ b
        both p q = omega arith

        is : (z : Bool) → T z → z ≡ true
        is true z = refl
        is false z = absurd z

not_above : (s : Float) → is_nan s ≡ false → lt one s ≡ false → T (le s one)
unfolding le is_nan of_bits
not_above nan n h = absurd (true≢false n)
not_above (inf true) n h = tt
not_above (inf false) n h = absurd (true≢false h)
not_above (fin true m e) n h = or_l (ltb 0 (m * up e * 1 + 1 * down e)) _ (lt→ltb 0 (m * up e * 1 + 1 * down e) (let k = down_pos e in omega arith))
not_above (fin false m e) n h = at_most (m * up e * 1) (1 * down e) (not_of (ltb (1 * down e) (m * up e * 1)) h)

-- ---- the halvings
-- the sums are the ends', and on their sides of 1
record Sides (sum : Float → Float) (b : Bracket) : Type 0 where
  lower_sum : b.lower_sum ≡ sum b.lower
  upper_sum : b.upper_sum ≡ sum b.upper
  enough : T (le one b.lower_sum)
  little : T (le b.upper_sum one)

-- a bracket that n halvings of the first one lead to
record Carried (sum : Float → Float) (n : ℕ) (first b : Bracket) : Type 0 where
  halved : Halvings n first.lower first.upper b.lower b.upper
  sides : Sides sum b

module _ (sum : Float → Float) (first : Bracket) where
  moved : (n : ℕ) (b : Bracket) → is_nan (sum (mid b)) ≡ false → Carried sum n first b → Carried sum (suc n) first (bracket_moved_to b (mid b) (sum (mid b)))
  unfolding bracket_moved_to
  moved n b number r = go (lt one (sum (mid b))) (λ e. le_of_lt one (sum (mid b)) e) (λ e. not_above (sum (mid b)) number (is_false (lt one (sum (mid b))) e))
    where
      s : Float
      s = sum (mid b)

      go : (t : Bool) → (T t → T (le one (sum (mid b)))) → (T (not t) → T (le (sum (mid b)) one))
          → Carried sum (suc n) first (cond t (record { lower = mid b; upper = b.upper; lower_sum = s; upper_sum = b.upper_sum }) (record { lower = b.lower; upper = mid b; lower_sum = b.lower_sum; upper_sum = s }))
      go true h k = record {
        halved = one_more r.halved (raised refl refl);
        sides = record { lower_sum = refl; upper_sum = r.sides.upper_sum; enough = h tt; little = r.sides.little };
      }
      go false h k = record {
        halved = one_more r.halved (lowered refl refl);
        sides = record { lower_sum = r.sides.lower_sum; upper_sum = refl; enough = r.sides.enough; little = k tt };
      }

  carry : Sides sum first → (n : ℕ) (b : Bracket) → halvings_of sum n first ≡ to b → Carried sum n first b
  carry i zero b h = subst (λ (x : Bracket). Carried sum 0 first x) (same (sym (halvings_zero sum first) ∙ h)) (record { halved = none; sides = i })
    where
      same : to first ≡ to b → first ≡ b
      same p = cc
  carry i (suc n) b h = go (halvings_of sum n first) refl (carry i n)
    where
      go : (x : Halving) → halvings_of sum n first ≡ x → ((c : Bracket) → halvings_of sum n first ≡ to c → Carried sum n first c) → Carried sum (suc n) first b
      go (Err q) e ih = clash b (sym (halvings_suc sum first n (Err q) e ∙ (unfold then_halve in refl)) ∙ h)
      go (Ok c) e ih =
          let o = onward sum c b (sym h ∙ halvings_suc sum first n (to c) e ∙ (unfold then_halve in refl)) in
          subst (λ (x : Bracket). Carried sum (suc n) first x) o.is (moved n c o.number (ih c e))

-- ---- the ladders
rung_is : {x y : Rung} → ◌≡◌ {A = Climbed} (Ok (Some x)) (Ok (Some y)) → x ≡ y
rung_is e = cc

at_inj : (i j : ℕ) (r s r' s' : Float) → found_at i r s ≡ found_at j r' s' → (i ≡ j) × (r ≡ r') × (s ≡ s')
at_inj i j r s r' s' e = let p = rung_is e in (ap (λ (x : Rung). x.number) p, ap (λ (x : Rung). x.rate) p, ap (λ (x : Rung). x.sum) p)

nan_at : {A : Type 0} (j : ℕ) (r s : Float) → nan_met ≡ found_at j r s → A
nan_at j r s e = let z : ◌≡◌ {A = ℕ} 0 1 = cc in absurd (omega arith)

nothing_at : {A : Type 0} (j : ℕ) (r s : Float) → nothing ≡ found_at j r s → A
nothing_at j r s e = let z : ◌≡◌ {A = ℕ} 0 1 = cc in absurd (omega arith)

at_nothing : {A : Type 0} (j : ℕ) (r s : Float) → found_at j r s ≡ nothing → A
at_nothing j r s e = let z : ◌≡◌ {A = ℕ} 0 1 = cc in absurd (omega arith)

nan_nothing : {A : Type 0} → nan_met ≡ nothing → A
nan_nothing e = let z : ◌≡◌ {A = ℕ} 0 1 = cc in absurd (omega arith)

module _ (sum : Float → Float) (below : Bool) where
  -- a rung that finds nothing: its sum is a number and not good
  record Passed (k : ℕ) : Type 0 where
    number : T (not (is_nan (sum (rate_at below k))))
    bad : T (not (good below (sum (rate_at below k))))

  passed : (k : ℕ) → rung_of sum below k ≡ nothing → Passed k
  unfolding rung_of
  passed k = go (is_nan (sum (rate_at below k))) (good below (sum (rate_at below k))) refl refl
    where
      go : (a g : Bool) → is_nan (sum (rate_at below k)) ≡ a → good below (sum (rate_at below k)) ≡ g
          → cond a nan_met (cond g (found_at k (rate_at below k) (sum (rate_at below k))) nothing) ≡ nothing → Passed k
      go true g p q e = nan_nothing e
      go false true p q e = at_nothing k (rate_at below k) (sum (rate_at below k)) e
      go false false p q e = record { number = not_of (is_nan (sum (rate_at below k))) p; bad = not_of (good below (sum (rate_at below k))) q }

  -- where n rungs found nothing, none of them did
  nothing_before : (n : ℕ) → ladder_of sum below n ≡ nothing → (k : ℕ) → k < n → Passed k
  nothing_before zero h k l = absurd (omega arith)
  nothing_before (suc n) h k l = go (ladder_of sum below n) refl (nothing_before n)
    where
      last : n ≤ k → n ≡ k
      last q = omega arith

      go : (x : Climbed) → ladder_of sum below n ≡ x → (ladder_of sum below n ≡ nothing → (k : ℕ) → k < n → Passed k) → Passed k
      go (Ok (Some x)) e ih = at_nothing x.number x.rate x.sum (sym (ladder_suc sum below n (Ok (Some x)) e ∙ (unfold or_rung in refl)) ∙ h)
      go (Err q) e ih = nan_nothing (sym (ladder_suc sum below n (Err q) e ∙ (unfold or_rung in refl)) ∙ h)
      go (Ok None) e ih =
          elim (dec_lt k n) [
            | yes q ↦ ih e k q
            | no q ↦ subst Passed (last (omega arith)) (passed n (sym (ladder_suc sum below n nothing e ∙ (unfold or_rung in refl)) ∙ h))
          ]

  -- what a ladder's first n rungs found: the rung's number fixes its rate, and the sum is the one there
  pub record FoundBy (n i : ℕ) (r s : Float) : Type 0 where
    pub rate_is : r ≡ rate_at below i
    pub sum_is : s ≡ sum r
    pub good_is : good below (sum (rate_at below i)) ≡ true
    pub under : i < n
    pub before : ladder_of sum below i ≡ nothing

  pub found_by : (n i : ℕ) (r s : Float) → ladder_of sum below n ≡ found_at i r s → FoundBy n i r s
  found_by zero i r s h = nothing_at i r s (sym (ladder_zero sum below) ∙ h)
  found_by (suc n) i r s h = go (ladder_of sum below n) refl (found_by n i r s)
    where
      found : (a g : Bool) → good below (sum (rate_at below n)) ≡ g → ladder_of sum below n ≡ nothing
          → cond a nan_met (cond g (found_at n (rate_at below n) (sum (rate_at below n))) nothing) ≡ found_at i r s → FoundBy (suc n) i r s
      found true g q b e = nan_at i r s e
      found false false q b e = nothing_at i r s e
      found false true q b e =
          let w = at_inj n i (rate_at below n) (sum (rate_at below n)) r s e in
          let p : r ≡ rate_at below i = sym w.1 ∙ ap (rate_at below) w.0 in
          record {
            rate_is = p;
            sum_is = sym w.2 ∙ ap sum w.1;
            good_is = subst (λ (k : ℕ). good below (sum (rate_at below k)) ≡ true) w.0 q;
            under = subst (λ (k : ℕ). k < suc n) w.0 (omega arith);
            before = subst (λ (k : ℕ). ladder_of sum below k ≡ nothing) w.0 b;
          }

      wider : FoundBy n i r s → FoundBy (suc n) i r s
      wider x = record { rate_is = x.rate_is; sum_is = x.sum_is; good_is = x.good_is; under = omega arith; before = x.before }

      go : (x : Climbed) → ladder_of sum below n ≡ x → (ladder_of sum below n ≡ found_at i r s → FoundBy n i r s) → FoundBy (suc n) i r s
      go (Ok (Some x)) e ih = wider (ih (e ∙ sym (ladder_suc sum below n (Ok (Some x)) e ∙ (unfold or_rung in refl)) ∙ h))
      go (Err q) e ih = nan_at i r s (sym (ladder_suc sum below n (Err q) e ∙ (unfold or_rung in refl)) ∙ h)
      go (Ok None) e ih = found (is_nan (sum (rate_at below n))) (good below (sum (rate_at below n))) refl e (sym (ladder_suc sum below n nothing e ∙ (unfold or_rung rung_of in refl)) ∙ h)

  first_good : (i : ℕ) (r s : Float) → FoundBy 61 i r s → FirstGood sum below i
  first_good i r s x = record {
    within = omega arith;
    good_there = T_of (good below (sum (rate_at below i))) x.good_is;
    number_before = λ k l. (nothing_before i x.before k l).number;
    bad_before = λ k l. (nothing_before i x.before k l).bad;
  }

-- ---- the rungs' rates, as ends to start from
low_test : ℕ → Bool
low_test i = fits binary64 (rate_at true i) && le (fin true 1 (pos 60)) (rate_at true i)

high_test : ℕ → Bool
high_test j = fits binary64 (rate_at false j) && le (rate_at false j) (fin false 1 (pos 60))

low_rates : T (every low_test 61)
unfolding every low_test fits le
low_rates = tt

high_rates : T (every high_test 61)
unfolding every high_test fits le
high_rates = tt

in_order : (e d : ℤ) → T (le (fin true 1 e) (fin false 1 d))
unfolding le
in_order e d =
    or_l (ltb 0 (1 * up e * down d + 1 * up d * down e)) _
    (lt→ltb 0 (1 * up e * down d + 1 * up d * down e) (let k = mul-pos (up_pos e) (down_pos d) in omega arith))

start_of : (i j : ℕ) → i ≤ 60 → j ≤ 60 → Start (rate_at true i) (rate_at false j)
unfolding low_test high_test
start_of i j h k =
    let a = every_at low_test 61 i low_rates (omega arith) in
    let b = every_at high_test 61 j high_rates (omega arith) in
    record {
      low_fits = and_l (fits binary64 (rate_at true i)) (le (fin true 1 (pos 60)) (rate_at true i)) a;
      high_fits = and_l (fits binary64 (rate_at false j)) (le (rate_at false j) (fin false 1 (pos 60))) b;
      low_bound = and_r (fits binary64 (rate_at true i)) (le (fin true 1 (pos 60)) (rate_at true i)) a;
      order = in_order _ _;
      high_bound = and_r (fits binary64 (rate_at false j)) (le (rate_at false j) (fin false 1 (pos 60))) b;
    }

-- ---- the facts
module _ (sum : Float → Float) where
  abbrev Accepted : Result Root Unfound → Type 0
  Accepted r = (v : Root) → critical_outcome r ≡ Ok v → Located sum v

  located : (i j : ℕ) (r s r' s' : Float) → FoundBy sum true 61 i r s → FoundBy sum false 61 j r' s' → (o : Halving)
      → halvings_of sum 200 (record { lower = r; upper = r'; lower_sum = s; upper_sum = s' }) ≡ o → Accepted (finish i j o)
  unfolding finish
  located i j r s r' s' a b (Err q) h v z = absurd (not_both z)
  located i j r s r' s' a b (Ok x) h v z =
      let first : Bracket = record { lower = r; upper = r'; lower_sum = s; upper_sum = s' } in
      let low : FirstGood sum true i = first_good sum true i r s a in
      let high : FirstGood sum false j = first_good sum false j r' s' b in
      let e : sum (rate_at true i) ≡ s = ap sum (sym a.rate_is) ∙ sym a.sum_is in
      let e' : sum (rate_at false j) ≡ s' = ap sum (sym b.rate_is) ∙ sym b.sum_is in
      let sides : Sides sum first = record { lower_sum = a.sum_is; upper_sum = b.sum_is; enough = subst (λ (z : Float). T (le one z)) e low.good_there; little = subst (λ (z : Float). T (le z one)) e' high.good_there } in
      let o = carry sum first sides 200 x h in
      let halved : Halvings 200 (rate_at true i) (rate_at false j) x.lower x.upper =
      subst (λ (z : Float). Halvings 200 z (rate_at false j) x.lower x.upper) a.rate_is (subst (λ (z : Float). Halvings 200 r z x.lower x.upper) b.rate_is o.halved) in
      let start = start_of i j low.within high.within in
      let t = halving_law.between start halved in
      subst (Located sum) (served_is z) (record {
        first_low = low;
        first_high = high;
        halved = halved;
        bracketed = record {
          lower_sum = o.sides.lower_sum;
          upper_sum = o.sides.upper_sum;
          enough = o.sides.enough;
          little = o.sides.little;
          low_finite = t.low_finite;
          high_finite = t.high_finite;
          order = t.order;
          tight = halving_law.tight start halved;
        };
        rate_is = refl;
        above = t.mid_above;
        below = t.mid_below;
      })

  accepted_joined : (l h : Climbed) → ladder_of sum true 61 ≡ l → ladder_of sum false 61 ≡ h → Accepted (from_ladders sum l h)
  unfolding from_ladders
  accepted_joined (Ok (Some x)) (Ok (Some y)) e g v z =
      located x.number y.number x.rate x.sum y.rate y.sum (found_by sum true 61 x.number x.rate x.sum e) (found_by sum false 61 y.number y.rate y.sum g)
      (halvings_of sum 200 (record { lower = x.rate; upper = y.rate; lower_sum = x.sum; upper_sum = y.sum })) refl v z
  accepted_joined (Ok (Some x)) (Err q) e g v z = absurd (not_both z)
  accepted_joined (Ok (Some x)) (Ok None) e g v z = absurd (not_both z)
  accepted_joined (Err q) h e g v z = absurd (not_both z)
  accepted_joined (Ok None) (Ok h) e g v z = absurd (not_both z)
  accepted_joined (Ok None) (Err q) e g v z = absurd (not_both z)

  pub accepted : Accepted (critical_of sum)
  unfolding critical_of
  accepted v z = accepted_joined (ladder_of sum true 61) (ladder_of sum false 61) refl refl v z
