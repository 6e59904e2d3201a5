-- A search answers as the sums it reaches say: a NaN among them, no good rate on a ladder, or neither (specs/Reached.antt). Assumes nothing.
use Rattle.std.specs.Prelude.{Result, Some, None, Ok, Err}
use mathlib.Core.Path.{◌≡◌, refl, sym, ap, ap₂, ◌∙◌, subst}
use mathlib.Core.Logic.{◌⊎◌, inl, inr, ⊎_elim}
use Prim.Native.Nat.{ℕ, zero, suc, ◌+◌}
use native.Mathlib.Nat.{zero-add, add-zero}
use native.Mathlib.Omega.{arith}
use mathlib.Core.Bool.{Bool, true, false, not, ◌||◌, cond, true≢false}
use mathlib.Core.List.{List, [], ◌∷◌, ◌++◌}
use lib.Dec.{T}
use lib.Ieee.{Float, is_nan, lt}
use Rattle.ieee.specs.Numbers.{one}
use Rattle.search.specs.declared.Bracket.{Bracket}
use Rattle.search.specs.declared.Root.{Root}
use Rattle.search.specs.declared.Unfound.{Unfound}
use Rattle.search.specs.declared.Unfound.TheVariants as U
use Rattle.search.specs.Rate.{rate_at, good, Climbed, rung_of, or_rung, ladder_of, bracket_moved_to, halve_of, then_halve, halvings_of, finish, from_ladders, critical_of}
use Rattle.search.specs.Reached.{rates_from, ladder_rates, up_to_good, from_good, midpoints, once_both, reached, some_nan, some_good, has_good, Exactly}
use Rattle.refusals.specs.Refusals.{answer_number, answer_of}
use Rattle.search.specs.Values.{critical_outcome}
use Rattle.search.proofs.LadderSteps.{found_at, nan_met, nothing, ladder_zero, ladder_suc, last_at, last_nan, ladder_stays}
use Rattle.search.proofs.HalvingSteps.{Halving, to, stop, mid, halvings_zero, halvings_suc}

nan_append : (sum : Float → Float) (xs ys : List Float) → some_nan sum (xs ++ ys) ≡ (some_nan sum xs || some_nan sum ys)
unfolding some_nan
nan_append sum [] ys = refl
nan_append sum (x ∷ xs) ys = ap (λ (b : Bool). is_nan (sum x) || b) (nan_append sum xs ys) ∙ shift (is_nan (sum x))
  where
    shift : (a : Bool) → (a || (some_nan sum xs || some_nan sum ys)) ≡ ((a || some_nan sum xs) || some_nan sum ys)
    shift true = refl
    shift false = refl

-- ---- a ladder
pub moves : (n i : ℕ) → suc n + i ≡ n + suc i
moves n i = omega arith

module _ (sum : Float → Float) (below : Bool) where
  -- the rates from a first one that is good, whose list goes on
  record Starts (r : Float) (rates : List Float) : Type 0 where
    rest : List Float
    is : from_good sum below rates ≡ r ∷ rest

  -- what the rates that a ladder had, and its outcome, say of each other
  abbrev Walked : List Float → Climbed → Type 0
  Walked rates (Ok (Some x)) = (some_nan sum (up_to_good sum below rates) ≡ false) × (some_good sum below rates ≡ true) × Starts x.rate rates
  Walked rates (Err q) = some_nan sum (up_to_good sum below rates) ≡ true
  Walked rates (Ok None) = (some_nan sum (up_to_good sum below rates) ≡ false) × (some_good sum below rates ≡ false) × (from_good sum below rates ≡ [])

  module _ (r : Float) (rs : List Float) where
    nan_first : is_nan (sum r) ≡ true → some_nan sum (up_to_good sum below (r ∷ rs)) ≡ true
    unfolding some_nan up_to_good
    nan_first a = ap (λ (b : Bool). b || some_nan sum (cond (good below (sum r)) [] (up_to_good sum below rs))) a

    good_first : is_nan (sum r) ≡ false → good below (sum r) ≡ true → some_nan sum (up_to_good sum below (r ∷ rs)) ≡ false
    unfolding some_nan up_to_good
    good_first a g = ap (λ (b : Bool). is_nan (sum r) || some_nan sum (cond b [] (up_to_good sum below rs))) g ∙ ap (λ (b : Bool). b || false) a

    bad_first : is_nan (sum r) ≡ false → good below (sum r) ≡ false → some_nan sum (up_to_good sum below (r ∷ rs)) ≡ some_nan sum (up_to_good sum below rs)
    unfolding some_nan up_to_good
    bad_first a g =
        ap (λ (b : Bool). is_nan (sum r) || some_nan sum (cond b [] (up_to_good sum below rs))) g ∙ ap (λ (b : Bool). b || some_nan sum (up_to_good sum below rs)) a

    some_first : (g : Bool) → good below (sum r) ≡ g → some_good sum below (r ∷ rs) ≡ (g || some_good sum below rs)
    unfolding some_good
    some_first g e = ap (λ (b : Bool). b || some_good sum below rs) e

    from_first : (g : Bool) → good below (sum r) ≡ g → from_good sum below (r ∷ rs) ≡ cond g (r ∷ rs) (from_good sum below rs)
    unfolding from_good
    from_first g e = ap (λ (b : Bool). cond b (r ∷ rs) (from_good sum below rs)) e

    walked_bad : is_nan (sum r) ≡ false → good below (sum r) ≡ false → (l : Climbed) → Walked rs l → Walked (r ∷ rs) l
    walked_bad a g (Ok (Some x)) (n, h, p) =
        (bad_first a g ∙ n, some_first false g ∙ h, record { rest = p.rest; is = from_first false g ∙ p.is })
    walked_bad a g (Err q) n = bad_first a g ∙ n
    walked_bad a g (Ok None) (n, h, p) = (bad_first a g ∙ n, some_first false g ∙ h, from_first false g ∙ p)

  walk : (n i : ℕ) → ladder_of sum below i ≡ nothing → Walked (rates_from below n i) (ladder_of sum below (n + i))
  unfolding rates_from
  walk zero i h = subst (Walked []) (sym (ap (ladder_of sum below) (zero-add i) ∙ h)) (unfold some_nan some_good up_to_good from_good in (refl, refl, refl))
  walk (suc n) i h =
      go (is_nan (sum (rate_at below i))) (good below (sum (rate_at below i))) refl refl (ladder_suc sum below i nothing h ∙ (unfold or_rung rung_of in refl)) (walk n (suc i))
    where
      r : Float
      r = rate_at below i

      go : (a g : Bool) → is_nan (sum r) ≡ a → good below (sum r) ≡ g
          → ladder_of sum below (suc i) ≡ cond a nan_met (cond g (found_at i r (sum r)) nothing)
          → (ladder_of sum below (suc i) ≡ nothing → Walked (rates_from below n (suc i)) (ladder_of sum below (n + suc i)))
          → Walked (r ∷ rates_from below n (suc i)) (ladder_of sum below (suc n + i))
      go true g p q e ih =
          subst (Walked (r ∷ rates_from below n (suc i))) (sym (ap (ladder_of sum below) (moves n i) ∙ ladder_stays sum below nan_met (last_nan sum below) n (suc i) e))
          (nan_first r (rates_from below n (suc i)) p)
      go false true p q e ih =
          subst (Walked (r ∷ rates_from below n (suc i)))
          (sym (ap (ladder_of sum below) (moves n i) ∙ ladder_stays sum below (found_at i r (sum r)) (last_at sum below i r (sum r)) n (suc i) e))
          (good_first r (rates_from below n (suc i)) p q, some_first r (rates_from below n (suc i)) true q, record { rest = rates_from below n (suc i); is = from_first r (rates_from below n (suc i)) true q })
      go false false p q e ih =
          subst (Walked (r ∷ rates_from below n (suc i))) (sym (ap (ladder_of sum below) (moves n i))) (walked_bad r (rates_from below n (suc i)) p q (ladder_of sum below (n + suc i)) (ih e))

  walked : (l : Climbed) → ladder_of sum below 61 ≡ l → Walked (ladder_rates below) l
  walked l e = subst (Walked (ladder_rates below)) (ap (ladder_of sum below) (add-zero 61) ∙ e) (walk 61 0 (ladder_zero sum below))

-- ---- the halvings
module _ (sum : Float → Float) where
  halvings_once : (b : Bracket) → halvings_of sum 1 b ≡ halve_of sum b
  unfolding then_halve
  halvings_once b = halvings_suc sum b 0 (to b) (halvings_zero sum b)

  -- the first halving taken first
  pub halvings_first : (n : ℕ) (b c : Bracket) → halve_of sum b ≡ to c → halvings_of sum (suc n) b ≡ halvings_of sum n c
  halvings_first zero b c e = halvings_once b ∙ e ∙ sym (halvings_zero sum c)
  halvings_first (suc n) b c e = halvings_suc sum b (suc n) (halvings_of sum n c) (halvings_first n b c e) ∙ sym (halvings_suc sum c n (halvings_of sum n c) refl)

  pub halvings_stopped : (n : ℕ) (b : Bracket) → halve_of sum b ≡ stop → halvings_of sum (suc n) b ≡ stop
  unfolding then_halve
  halvings_stopped zero b e = halvings_once b ∙ e
  halvings_stopped (suc n) b e = halvings_suc sum b (suc n) stop (halvings_stopped n b e)

  abbrev Made : List Float → Halving → Type 0
  Made rates (Ok b) = some_nan sum rates ≡ false
  Made rates (Err q) = some_nan sum rates ≡ true

  nan_cons : (r : Float) (rs : List Float) (a : Bool) → is_nan (sum r) ≡ a → some_nan sum (r ∷ rs) ≡ (a || some_nan sum rs)
  unfolding some_nan
  nan_cons r rs a e = ap (λ (b : Bool). b || some_nan sum rs) e

  made_cons : (r : Float) (rs : List Float) → is_nan (sum r) ≡ false → (h : Halving) → Made rs h → Made (r ∷ rs) h
  made_cons r rs e (Ok b) m = nan_cons r rs false e ∙ m
  made_cons r rs e (Err q) m = nan_cons r rs false e ∙ m

  moved_ends : (n : ℕ) (b : Bracket) (m s : Float) → midpoints sum n (bracket_moved_to b m s).lower (bracket_moved_to b m s).upper ≡ midpoints sum n (cond (lt one s) m b.lower) (cond (lt one s) b.upper m)
  unfolding bracket_moved_to
  moved_ends n b m s = go (lt one s)
    where
      next : Bool → Bracket
      next t = cond t (record { lower = m; upper = b.upper; lower_sum = s; upper_sum = b.upper_sum }) (record { lower = b.lower; upper = m; lower_sum = b.lower_sum; upper_sum = s })

      go : (t : Bool) → midpoints sum n (next t).lower (next t).upper ≡ midpoints sum n (cond t m b.lower) (cond t b.upper m)
      go true = refl
      go false = refl

  made : (n : ℕ) (b : Bracket) → Made (midpoints sum n b.lower b.upper) (halvings_of sum n b)
  unfolding midpoints
  made zero b = subst (Made []) (sym (halvings_zero sum b)) (unfold some_nan in refl)
  made (suc n) b = go (is_nan (sum (mid b))) refl (unfold halve_of in refl) (made n)
    where
      next : Bracket
      next = bracket_moved_to b (mid b) (sum (mid b))

      rest : List Float
      rest = midpoints sum n (cond (lt one (sum (mid b))) (mid b) b.lower) (cond (lt one (sum (mid b))) b.upper (mid b))

      go : (a : Bool) → is_nan (sum (mid b)) ≡ a → halve_of sum b ≡ cond (is_nan (sum (mid b))) stop (to (bracket_moved_to b (mid b) (sum (mid b))))
          → ((c : Bracket) → Made (midpoints sum n c.lower c.upper) (halvings_of sum n c)) → Made (mid b ∷ rest) (halvings_of sum (suc n) b)
      go true e k ih =
          subst (Made (mid b ∷ rest)) (sym (halvings_stopped n b (k ∙ ap (λ (t : Bool). cond t stop (to (bracket_moved_to b (mid b) (sum (mid b))))) e)))
          (nan_cons (mid b) rest true e)
      go false e k ih =
          subst (Made (mid b ∷ rest)) (sym (halvings_first n b next (k ∙ ap (λ (t : Bool). cond t stop (to (bracket_moved_to b (mid b) (sum (mid b))))) e)))
          (made_cons (mid b) rest e (halvings_of sum n next) (subst (λ (rs : List Float). Made rs (halvings_of sum n next)) (moved_ends n b (mid b) (sum (mid b))) (ih next)))

  -- ---- the whole search
  lows : List Float
  lows = from_good sum true (ladder_rates true)

  highs : List Float
  highs = from_good sum false (ladder_rates false)

  -- a NaN on the lower ladder, on the upper one, or in a halving
  reached_nan : (a b c : Bool) → some_nan sum (up_to_good sum true (ladder_rates true)) ≡ a → some_nan sum (up_to_good sum false (ladder_rates false)) ≡ b → some_nan sum (once_both sum lows highs) ≡ c
      → some_nan sum (reached sum) ≡ (a || (b || c))
  unfolding reached lows highs
  reached_nan a b c p q r =
      nan_append sum (up_to_good sum true (ladder_rates true)) (up_to_good sum false (ladder_rates false) ++ once_both sum lows highs)
      ∙ ap₂ ◌||◌ p (nan_append sum (up_to_good sum false (ladder_rates false)) (once_both sum lows highs) ∙ ap₂ ◌||◌ q r)

  none_low : lows ≡ [] → some_nan sum (once_both sum lows highs) ≡ false
  unfolding once_both some_nan
  none_low e = ap (λ (l : List Float). some_nan sum (once_both sum l highs)) e

  none_high : (x : Float) (xs : List Float) → lows ≡ x ∷ xs → highs ≡ [] → some_nan sum (once_both sum lows highs) ≡ false
  unfolding once_both some_nan
  none_high x xs e g = ap₂ (λ (l h : List Float). some_nan sum (once_both sum l h)) e g

  both : (x y : Float) (xs ys : List Float) → lows ≡ x ∷ xs → highs ≡ y ∷ ys → some_nan sum (once_both sum lows highs) ≡ some_nan sum (midpoints sum 200 x y)
  unfolding once_both
  both x y xs ys e g = ap₂ (λ (l h : List Float). some_nan sum (once_both sum l h)) e g

  abbrev Judged : Result Root Unfound → Type 0
  Judged (Ok v) = (some_nan sum (reached sum) ≡ false) × (has_good sum true ≡ true) × (has_good sum false ≡ true)
  Judged (Err U.NotANumber) = some_nan sum (reached sum) ≡ true
  Judged (Err U.NoBracket) = (some_nan sum (reached sum) ≡ false) × ((has_good sum true ≡ false) ⊎ (has_good sum false ≡ false))

  judged_finish : (i j : ℕ) → has_good sum true ≡ true → has_good sum false ≡ true → (rates : List Float) → some_nan sum (reached sum) ≡ some_nan sum rates → (h : Halving) → Made rates h → Judged (finish i j h)
  unfolding finish
  judged_finish i j g k rates e (Ok b) m = (e ∙ m, g, k)
  judged_finish i j g k rates e (Err q) m = e ∙ m

  judged_joined : (l h : Climbed) → Walked sum true (ladder_rates true) l → Walked sum false (ladder_rates false) h → Judged (from_ladders sum l h)
  unfolding from_ladders lows highs
  judged_joined (Err q) h a b = reached_nan true (some_nan sum (up_to_good sum false (ladder_rates false))) (some_nan sum (once_both sum lows highs)) a refl refl
  judged_joined (Ok (Some x)) (Err q) (a, g, x') b = reached_nan false true (some_nan sum (once_both sum lows highs)) a b refl
  judged_joined (Ok None) (Err q) (a, g, n) b = reached_nan false true (some_nan sum (once_both sum lows highs)) a b refl
  judged_joined (Ok None) (Ok (Some y)) (a, g, n) (b, k, y') = (reached_nan false false false a b (none_low n), inl g)
  judged_joined (Ok None) (Ok None) (a, g, n) (b, k, m) = (reached_nan false false false a b (none_low n), inl g)
  judged_joined (Ok (Some x)) (Ok None) (a, g, x') (b, k, n) = (reached_nan false false false a b (none_high x.rate x'.rest x'.is n), inr k)
  judged_joined (Ok (Some x)) (Ok (Some y)) (a, g, x') (b, k, y') =
      let first : Bracket = record { lower = x.rate; upper = y.rate; lower_sum = x.sum; upper_sum = y.sum } in
      let rates = midpoints sum 200 x.rate y.rate in
      judged_finish x.number y.number g k rates (reached_nan false false (some_nan sum rates) a b (both x.rate y.rate x'.rest y'.rest x'.is y'.is)) (halvings_of sum 200 first) (made 200 first)

  judged : Judged (critical_of sum)
  unfolding critical_of
  judged = judged_joined (ladder_of sum true 61) (ladder_of sum false 61) (walked sum true (ladder_of sum true 61) refl) (walked sum false (ladder_of sum false 61) refl)

  -- ---- from the facts to when exactly each refusal is given
  yes_no : {A : Type 0} (b : Bool) → T b → b ≡ false → A
  yes_no true h e = absurd (true≢false e)
  yes_no false h e = absurd h

  no_yes : {A : Type 0} (b : Bool) → T (not b) → b ≡ true → A
  no_yes true h e = absurd h
  no_yes false h e = absurd (true≢false (sym e))

  yes : (b : Bool) → b ≡ true → T b
  yes b e = subst T (sym e) tt

  no : (b : Bool) → b ≡ false → T (not b)
  no b e = subst (λ (x : Bool). T (not x)) (sym e) tt

  exactly_of : (r : Result Root Unfound) → Judged r → Exactly sum (answer_of (critical_outcome r))
  exactly_of (Ok v) (n, g, k) = record {
    not_a_number = (λ e. absurd (let z = ap answer_number e in omega arith), λ h. yes_no (some_nan sum (reached sum)) h n);
    no_bracket = (λ e. absurd (let z = ap answer_number e in omega arith), λ (h, w). ⊎_elim (λ a. no_yes (has_good sum true) a g) (λ a. no_yes (has_good sum false) a k) w);
    served = (λ e. (no (some_nan sum (reached sum)) n, yes (has_good sum true) g, yes (has_good sum false) k), λ h. refl);
  }
  exactly_of (Err U.NotANumber) n = record {
    not_a_number = (λ e. yes (some_nan sum (reached sum)) n, λ h. refl);
    no_bracket = (λ e. absurd (let z = ap answer_number e in omega arith), λ (h, w). no_yes (some_nan sum (reached sum)) h n);
    served = (λ e. absurd (let z = ap answer_number e in omega arith), λ (h, a, b). no_yes (some_nan sum (reached sum)) h n);
  }
  exactly_of (Err U.NoBracket) (n, w) = record {
    not_a_number = (λ e. absurd (let z = ap answer_number e in omega arith), λ h. yes_no (some_nan sum (reached sum)) h n);
    no_bracket = (λ e. (no (some_nan sum (reached sum)) n, ⊎_elim (λ a. inl (no (has_good sum true) a)) (λ a. inr (no (has_good sum false) a)) w), λ h. refl);
    served = (λ e. absurd (let z = ap answer_number e in omega arith), λ (h, a, b). ⊎_elim (λ g. yes_no (has_good sum true) a g) (λ g. yes_no (has_good sum false) b g) w);
  }

  pub exactly : Exactly sum (answer_of (critical_outcome (critical_of sum)))
  exactly = exactly_of (critical_of sum) judged
