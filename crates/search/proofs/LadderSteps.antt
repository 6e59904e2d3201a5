-- The ladder of specs/Rate.antt, a rung at a time: what was found stays, and a rung that finds nothing hands on to the next. Assumes nothing.
use Rattle.std.specs.Prelude.{Some, None, Ok, Err}
use mathlib.Core.Path.{◌≡◌, refl, sym, ap, ◌∙◌}
use Prim.Native.Nat.{ℕ, zero, suc, ◌+◌, ◌-◌, ◌<◌}
use native.Mathlib.Nat.{zero-add, suc-add}
use native.Mathlib.Omega.{arith}
use native.Mathlib.Numerals.{add-one}
use mathlib.Core.Bool.{Bool, true, false, cond}
use lib.Dec.{T}
use lib.Ieee.{Float, mul, is_nan, ne, le, neg, of_bits}
use Rattle.ieee.specs.Rounded.{◌⊗◌}
use Rattle.ieee.specs.Numbers.{one, two, half}
use Rattle.ieee.specs.Same.{same, same_is}
use Rattle.math_elementary.proofs.Floats.{nan_yes, nan_no}
use Rattle.search.specs.Rate.{rate_at, good, Climbed, rung_of, or_rung, ladder_of}
use Rattle.search.proofs.Every.{every, every_at}

-- ---- what a ladder comes to: a rung with its rate and its sum, a NaN sum, or neither
abbrev pub found_at : ℕ → Float → Float → Climbed
found_at i r s = Ok (Some (record { number = i; rate = r; sum = s }))

abbrev pub nan_met : Climbed
nan_met = Err (record {})

abbrev pub nothing : Climbed
nothing = Ok None

-- ---- the rates: the first, and each twice the one before it
pub first_below : (below : Bool) → below ≡ true → neg half ≡ rate_at below 0
unfolding neg of_bits
first_below below e = sym (ap (λ (x : Bool). rate_at x 0) e)

pub first_above : (below : Bool) → below ≡ false → half ≡ rate_at below 0
unfolding of_bits
first_above below e = sym (ap (λ (x : Bool). rate_at x 0) e)

-- rung n is half the next
half_next : Bool → ℕ → Bool
half_next below n = same (rate_at below n ⊗ two) (rate_at below (suc n))

all_halves : (below : Bool) → T (every (half_next below) 61)
unfolding every half_next mul of_bits
all_halves true = tt
all_halves false = tt

doubled : (below : Bool) (i : ℕ) → i < 61 → rate_at below i ⊗ two ≡ rate_at below (suc i)
unfolding half_next
doubled below i l = same_is (rate_at below i ⊗ two) (rate_at below (suc i)) (every_at (half_next below) 61 i (all_halves below) l)

pub next_rate : (below : Bool) (i : ℕ) (r : Float) → i < 61 → r ≡ rate_at below i → r ⊗ two ≡ rate_at below (i + 1)
next_rate below i r h e = ap (λ (x : Float). x ⊗ two) e ∙ doubled below i h ∙ ap (rate_at below) (sym (add-one i))

-- ---- the test of a sum
pub good_below : (below : Bool) (s : Float) → below ≡ true → le one s ≡ good below s
good_below below s e = sym (ap (λ (x : Bool). good x s) e)

pub good_above : (below : Bool) (s : Float) → below ≡ false → le s one ≡ good below s
good_above below s e = sym (ap (λ (x : Bool). good x s) e)

module _ (sum : Float → Float) (below : Bool) where
  pub ladder_zero : ladder_of sum below 0 ≡ nothing
  unfolding ladder_of
  ladder_zero = refl

  pub ladder_suc : (n : ℕ) (l : Climbed) → ladder_of sum below n ≡ l → ladder_of sum below (suc n) ≡ or_rung l sum below n
  unfolding ladder_of
  ladder_suc n l e = ap (λ (x : Climbed). or_rung x sum below n) e

  -- what no further rung changes
  abbrev Last : Climbed → Type 0
  Last l = (k : ℕ) → or_rung l sum below k ≡ l

  pub last_at : (i : ℕ) (r s : Float) → Last (found_at i r s)
  unfolding or_rung
  last_at i r s k = refl

  pub last_nan : Last nan_met
  unfolding or_rung
  last_nan k = refl

  pub ladder_stays : (l : Climbed) → Last l → (d n : ℕ) → ladder_of sum below n ≡ l → ladder_of sum below (d + n) ≡ l
  ladder_stays l f zero n e = ap (ladder_of sum below) (zero-add n) ∙ e
  ladder_stays l f (suc d) n e = ap (ladder_of sum below) (suc-add d n) ∙ ladder_suc (d + n) l (ladder_stays l f d n e) ∙ f (d + n)

  -- the ladder at rung i, with nothing found before
  module _ (i : ℕ) (r s : Float) (p : r ≡ rate_at below i) (e : s ≡ sum r) (h : ladder_of sum below i ≡ nothing) where
    abbrev seen : Float → Float → Climbed
    seen r s = cond (is_nan s) nan_met (cond (good below s) (found_at i r s) nothing)

    here : ladder_of sum below (suc i) ≡ seen r s
    unfolding or_rung rung_of
    here = ladder_suc i nothing h ∙ ap (λ (x : Float). seen x (sum x)) (sym p) ∙ ap (seen r) (sym e)

    here_nan : ne s s ≡ true → ladder_of sum below (suc i) ≡ nan_met
    here_nan n = here ∙ ap (λ (x : Bool). cond x nan_met (cond (good below s) (found_at i r s) nothing)) (nan_yes s n)

    here_number : ne s s ≡ false → (g : Bool) → good below s ≡ g → ladder_of sum below (suc i) ≡ cond g (found_at i r s) nothing
    here_number n g k =
        here ∙ ap (λ (x : Bool). cond x nan_met (cond (good below s) (found_at i r s) nothing)) (nan_no s n)
        ∙ ap (λ (x : Bool). cond x (found_at i r s) nothing) k

    whole : i < 61 → (l : Climbed) → Last l → ladder_of sum below (suc i) ≡ l → l ≡ ladder_of sum below 61
    whole b l f k = sym (ladder_stays l f (60 - i) (suc i) k) ∙ ap (ladder_of sum below) (rest b)
      where
        rest : i < 61 → 60 - i + suc i ≡ 61
        rest b = omega arith

    pub at_nan : i < 61 → ne s s ≡ true → nan_met ≡ ladder_of sum below 61
    at_nan b n = whole b nan_met last_nan (here_nan n)

    pub at_good : i < 61 → ne s s ≡ false → good below s ≡ true → found_at i r s ≡ ladder_of sum below 61
    at_good b n k = whole b (found_at i r s) (last_at i r s) (here_number n true k)

    pub at_last : i ≡ 60 → ne s s ≡ false → good below s ≡ false → nothing ≡ ladder_of sum below 61
    at_last e n k = sym (ap (ladder_of sum below) (ap suc (sym e)) ∙ here_number n false k)

    pub at_next : ne s s ≡ false → good below s ≡ false → ladder_of sum below (i + 1) ≡ nothing
    at_next n k = ap (ladder_of sum below) (add-one i) ∙ here_number n false k
