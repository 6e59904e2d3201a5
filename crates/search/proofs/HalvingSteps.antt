-- The halvings of specs/Rate.antt, one at a time, and stopped where nothing more can change. Assumes nothing.
use Rattle.std.specs.Prelude.{Result, Ok, Err}
use mathlib.Core.Path.{◌≡◌, refl, sym, ap, ◌∙◌}
use Prim.Native.Nat.{ℕ, zero, suc, ◌+◌, ◌-◌, ◌≤◌, ◌<◌}
use native.Mathlib.Nat.{zero-add, suc-add}
use native.Mathlib.Omega.{arith}
use native.Mathlib.Numerals.{add-one}
use mathlib.Core.Bool.{Bool, true, false, cond}
use lib.Ieee.{Float, is_nan, ne, lt}
use Rattle.ieee.specs.Numbers.{one}
use Rattle.math_elementary.specs.Simple.{midpoint_of}
use Rattle.math_elementary.proofs.Floats.{nan_yes, nan_no}
use Rattle.search.specs.declared.Bracket.{Bracket}
use Rattle.search.specs.declared.ladder.NanSum.{NanSum}
use Rattle.search.specs.Rate.{bracket_moved_to, halve_of, then_halve, halvings_of}

-- what a halving, or a run of them, comes to: a bracket, or a stop at a NaN sum
abbrev pub Halving : Type 0
Halving = Result Bracket NanSum

abbrev pub to : Bracket → Halving
to b = Ok b

abbrev pub stop : Halving
stop = Err (record {})

abbrev pub mid : Bracket → Float
mid b = midpoint_of b.lower b.upper

abbrev raised : Bracket → Float → Float → Bracket
raised b m s = record { lower = m; upper = b.upper; lower_sum = s; upper_sum = b.upper_sum }

abbrev lowered : Bracket → Float → Float → Bracket
lowered b m s = record { lower = b.lower; upper = m; lower_sum = b.lower_sum; upper_sum = s }

-- ---- one halving, with its midpoint m and the sum s there
module _ (sum : Float → Float) (b : Bracket) (m s : Float) (f : m ≡ mid b) (e : s ≡ sum m) where
  abbrev after : Float → Float → Halving
  after m s = cond (is_nan s) stop (to (bracket_moved_to b m s))

  halve_is : halve_of sum b ≡ after m s
  unfolding halve_of
  halve_is = ap (λ (m : Float). after m (sum m)) (sym f) ∙ ap (λ (s : Float). after m s) (sym e)

  pub halve_nan : ne s s ≡ true → stop ≡ halve_of sum b
  halve_nan h = sym (halve_is ∙ ap (λ (x : Bool). cond x stop (to (bracket_moved_to b m s))) (nan_yes s h))

  halve_next : ne s s ≡ false → to (bracket_moved_to b m s) ≡ halve_of sum b
  halve_next h = sym (halve_is ∙ ap (λ (x : Bool). cond x stop (to (bracket_moved_to b m s))) (nan_no s h))

  pub halve_raised : ne s s ≡ false → lt one s ≡ true → to (raised b m s) ≡ halve_of sum b
  unfolding bracket_moved_to
  halve_raised h k = sym (ap (λ (x : Bool). to (cond x (raised b m s) (lowered b m s))) k) ∙ halve_next h

  pub halve_lowered : ne s s ≡ false → lt one s ≡ false → to (lowered b m s) ≡ halve_of sum b
  unfolding bracket_moved_to
  halve_lowered h k = sym (ap (λ (x : Bool). to (cond x (raised b m s) (lowered b m s))) k) ∙ halve_next h

-- ---- a halving that goes on
pub clash : {A : Type 0} (x : Bracket) → stop ≡ to x → A
clash x e = let z : ◌≡◌ {A = ℕ} 0 1 = cc in absurd (omega arith)

pub record Onward (sum : Float → Float) (b next : Bracket) : Type 0 where
  pub number : is_nan (sum (mid b)) ≡ false
  pub is : bracket_moved_to b (mid b) (sum (mid b)) ≡ next

pub onward : (sum : Float → Float) (b next : Bracket) → to next ≡ halve_of sum b → Onward sum b next
unfolding halve_of
onward sum b next h = go (is_nan (sum (mid b))) refl h
  where
    go : (t : Bool) → is_nan (sum (mid b)) ≡ t → to next ≡ cond t stop (to (bracket_moved_to b (mid b) (sum (mid b)))) → Onward sum b next
    go true e k = clash next (sym k)
    go false e k = record { number = e; is = cc }

moved_twice : (b : Bracket) (m s : Float) → bracket_moved_to (bracket_moved_to b m s) m s ≡ bracket_moved_to b m s
unfolding bracket_moved_to
moved_twice b m s = go (lt one s)
  where
    go : (t : Bool) → cond t (raised (cond t (raised b m s) (lowered b m s)) m s) (lowered (cond t (raised b m s) (lowered b m s)) m s) ≡ cond t (raised b m s) (lowered b m s)
    go true = refl
    go false = refl

module _ (sum : Float → Float) where
  -- after a halving that leaves the ends as they were, the next leaves all as it is: it has the same midpoint, and moves the same end
  still : (b next : Bracket) → to next ≡ halve_of sum b → next.lower ≡ b.lower → next.upper ≡ b.upper → halve_of sum next ≡ to next
  unfolding halve_of
  still b next h p q =
      let o = onward sum b next h in
      let m : mid next ≡ mid b = ap (λ (x : Float). midpoint_of x next.upper) p ∙ ap (λ (x : Float). midpoint_of b.lower x) q in
      ap (λ (x : Float). cond (is_nan (sum x)) stop (to (bracket_moved_to next x (sum x)))) m
      ∙ ap (λ (t : Bool). cond t stop (to (bracket_moved_to next (mid b) (sum (mid b))))) o.number
      ∙ ap (λ (x : Bracket). to (bracket_moved_to x (mid b) (sum (mid b)))) (sym o.is)
      ∙ ap to (moved_twice b (mid b) (sum (mid b)) ∙ o.is)

  -- ---- n halvings of a first bracket
  module _ (first : Bracket) where
    pub halvings_zero : halvings_of sum 0 first ≡ to first
    unfolding halvings_of
    halvings_zero = refl

    pub halvings_suc : (n : ℕ) (h : Halving) → halvings_of sum n first ≡ h → halvings_of sum (suc n) first ≡ then_halve sum h
    unfolding halvings_of
    halvings_suc n h e = ap (then_halve sum) e

    halvings_stay : (h : Halving) → then_halve sum h ≡ h → (d n : ℕ) → halvings_of sum n first ≡ h → halvings_of sum (d + n) first ≡ h
    halvings_stay h f zero n e = ap (λ (k : ℕ). halvings_of sum k first) (zero-add n) ∙ e
    halvings_stay h f (suc d) n e = ap (λ (k : ℕ). halvings_of sum k first) (suc-add d n) ∙ halvings_suc (d + n) h (halvings_stay h f d n e) ∙ f

    -- with k of the 200 made
    module _ (k : ℕ) (b : Bracket) (e : halvings_of sum k first ≡ to b) where
      next_is : halvings_of sum (suc k) first ≡ halve_of sum b
      unfolding then_halve
      next_is = halvings_suc k (to b) e

      whole : k < 200 → (h : Halving) → then_halve sum h ≡ h → h ≡ halve_of sum b → h ≡ halvings_of sum 200 first
      whole l h f p = sym (halvings_stay h f (199 - k) (suc k) (next_is ∙ sym p)) ∙ ap (λ (n : ℕ). halvings_of sum n first) (rest l)
        where
          rest : k < 200 → 199 - k + suc k ≡ 200
          rest l = omega arith

      pub nan_at : k < 200 → (q : NanSum) → ◌≡◌ {A = Halving} (Err q) (halve_of sum b) → ◌≡◌ {A = Halving} (Err q) (halvings_of sum 200 first)
      nan_at l q p = whole l (Err q) (unfold then_halve in refl) p

      pub still_at : k < 200 → (next : Bracket) → to next ≡ halve_of sum b → next.lower ≡ b.lower → next.upper ≡ b.upper → to next ≡ halvings_of sum 200 first
      still_at l next p q r = whole l (to next) (unfold then_halve in still b next p q r) p

      pub on_at : (next : Bracket) → to next ≡ halve_of sum b → halvings_of sum (k + 1) first ≡ to next
      on_at next p = ap (λ (n : ℕ). halvings_of sum n first) (add-one k) ∙ next_is ∙ sym p

      pub end_at : k ≤ 200 → 200 ≤ k → to b ≡ halvings_of sum 200 first
      end_at h l = sym e ∙ ap (λ (n : ℕ). halvings_of sum n first) (done h l)
        where
          done : k ≤ 200 → 200 ≤ k → k ≡ 200
          done h l = omega arith
