-- A word as lanes of one width, the lowest first, and what a shift with a mask and a sum do to each lane. Assumes nothing.
use mathlib.Core.Path.{◌≡◌, refl, sym, ◌∙◌, ap, ap₂}
use mathlib.Core.Bool.{true}
use mathlib.Core.List.{List, [], ◌∷◌, map}
use Prim.Native.Nat.{ℕ, zero, suc, ◌+◌, ◌-◌, ◌*◌, ◌/◌, ◌%◌, ◌^◌, ◌<◌}
use native.Mathlib.Nat.{add_comm, add-mul, mul_assoc, div-one, div-div-eq-div-mul, pow-suc}
use native.Mathlib.Omega.{arith}
use lib.Arith.{digits_div, digits_mod}
use lib.Bits.{bit_and, and_zero_r, and_mask, and_shr, and_mod}
use lib.Dec.{T}
use lib.ListN.{length}
use lib.Pow.{split, high, low, shr-shr, field, mod-mod-pow, ones_lt, pow_mono}
use Rattle.std.specs.Int.{w64, bytes_low_first, to_le_bytes}
use Rattle.file_fields.specs.Text.{bytes_of}

-- the word whose lanes, below b, these are
unfoldable pub lanes : ℕ → List ℕ → ℕ
lanes b [] = 0
lanes b (d ∷ ds) = lanes b ds * b + d

-- they are below b
abbrev pub Below : ℕ → List ℕ → Type 0
Below b [] = T true
Below b (d ∷ ds) = (d < b) × Below b ds

-- ---- h bits of each lane, from bit j on, by a shift and a mask
module _ (k h j : ℕ) where
  abbrev w : ℕ
  w = k + (h + j)

  first_bits : (l d : ℕ) → d < 2 ^ w → (l * 2 ^ w + d) / 2 ^ j % 2 ^ w % 2 ^ h ≡ d / 2 ^ j % 2 ^ h
  first_bits l d b =
      let x = l * 2 ^ w + d in
      let e : w ≡ (k + j) + h = omega arith in
      let cut : x / 2 ^ j % 2 ^ w % 2 ^ h ≡ x / 2 ^ j % 2 ^ h = ap (λ (i : ℕ). x / 2 ^ j % 2 ^ i % 2 ^ h) e ∙ mod-mod-pow (x / 2 ^ j) (k + j) h in
      let own : x % 2 ^ (h + j) ≡ d % 2 ^ (h + j) = sym (mod-mod-pow x k (h + j)) ∙ ap (λ (i : ℕ). i % 2 ^ (h + j)) (low l w b) in
      cut ∙ sym (field x h j) ∙ ap (λ (i : ℕ). i / 2 ^ j) own ∙ field d h j

  others : (l d : ℕ) → d < 2 ^ w → (l * 2 ^ w + d) / 2 ^ j / 2 ^ w ≡ l / 2 ^ j
  others l d b =
      let x = l * 2 ^ w + d in
      shr-shr x j w ∙ ap (λ (i : ℕ). x / 2 ^ i) (add_comm j w) ∙ sym (shr-shr x w j) ∙ ap (λ (i : ℕ). i / 2 ^ j) (high l w b)

  pub picked : (ds : List ℕ) → Below (2 ^ w) ds → bit_and (lanes (2 ^ w) ds / 2 ^ j) (lanes (2 ^ w) (map (λ (d : ℕ). 2 ^ h - 1) ds)) ≡ lanes (2 ^ w) (map (λ (d : ℕ). d / 2 ^ j % 2 ^ h) ds)
  unfolding lanes
  picked [] b = and_zero_r (0 / 2 ^ j)
  picked (d ∷ ds) b =
      let l = lanes (2 ^ w) ds in
      let m = lanes (2 ^ w) (map (λ (d : ℕ). 2 ^ h - 1) ds) in
      let x = (l * 2 ^ w + d) / 2 ^ j in
      let y = m * 2 ^ w + (2 ^ h - 1) in
      let n : 2 ^ h - 1 < 2 ^ w = omega (arith, ones_lt h, pow_mono {i = h} {j = w} (omega arith)) in
      let up : bit_and x y / 2 ^ w ≡ lanes (2 ^ w) (map (λ (d : ℕ). d / 2 ^ j % 2 ^ h) ds) =
      and_shr x y w ∙ ap₂ bit_and (others l d b.0) (high m w n) ∙ picked ds b.1 in
      let down : bit_and x y % 2 ^ w ≡ d / 2 ^ j % 2 ^ h =
      and_mod x y w ∙ ap (bit_and (x % 2 ^ w)) (low m w n) ∙ and_mask (x % 2 ^ w) h ∙ first_bits l d b.0 in
      sym (split (bit_and x y) w) ∙ ap₂ (λ (p q : ℕ). p * 2 ^ w + q) up down

-- the same of the lowest bits, with no shift
pub picked_low : (k h : ℕ) (ds : List ℕ) → Below (2 ^ (k + (h + 0))) ds → bit_and (lanes (2 ^ (k + (h + 0))) ds) (lanes (2 ^ (k + (h + 0))) (map (λ (d : ℕ). 2 ^ h - 1) ds)) ≡ lanes (2 ^ (k + (h + 0))) (map (λ (d : ℕ). d / 1 % 2 ^ h) ds)
picked_low k h ds b = rw div-one at (picked k h 0 ds b)

-- ---- two lanes for one
unfoldable pub pairs : (ℕ → ℕ) → (ℕ → ℕ) → List ℕ → List ℕ
pairs f g [] = []
pairs f g (d ∷ ds) = f d ∷ g d ∷ pairs f g ds

pub merged : (b : ℕ) (f g : ℕ → ℕ) (ds : List ℕ) → lanes (b * b) (map f ds) + lanes (b * b) (map g ds) * b ≡ lanes b (pairs f g ds)
unfolding lanes pairs
merged b f g [] = omega arith
merged b f g (d ∷ ds) =
    let p = lanes (b * b) (map f ds) in
    let q = lanes (b * b) (map g ds) in
    let e : p + q * b ≡ lanes b (pairs f g ds) = merged b f g ds in
    rw (← e) (simp (add-mul, mul_assoc) (omega arith))

pub pairs_below : (c : ℕ) (f g : ℕ → ℕ) → ((d : ℕ) → f d < c) → ((d : ℕ) → g d < c) → (ds : List ℕ) → Below c (pairs f g ds)
unfolding pairs
pairs_below c f g p q [] = tt
pairs_below c f g p q (d ∷ ds) = (p d, (q d, pairs_below c f g p q ds))

-- ---- the bytes of a word
pub bytes_are : (ds : List ℕ) → Below 256 ds → bytes_of (length ds) (lanes 256 ds) ≡ ds
unfolding lanes bytes_of
bytes_are [] b = refl
bytes_are (d ∷ ds) b =
    ap₂ (λ (x : ℕ) (xs : List ℕ). x ∷ xs) (digits_mod (lanes 256 ds) b.0) (ap (bytes_of (length ds)) (digits_div (lanes 256 ds) b.0) ∙ bytes_are ds b.1)

pub bytes_length : (k n : ℕ) → length (bytes_of k n) ≡ k
unfolding bytes_of
bytes_length zero n = refl
bytes_length (suc k) n = ap suc (bytes_length k (n / 256))

-- ---- the bytes of a word, as the library has them
module _ (n : ℕ) where
  from_low : (i k : ℕ) → bytes_low_first (suc i) k n ≡ bytes_of k (n / 256 ^ suc i)
  unfolding bytes_of
  from_low i zero = refl
  from_low i (suc k) =
      let e : n / 256 ^ suc i / 256 ≡ n / 256 ^ suc (suc i) = div-div-eq-div-mul n (256 ^ suc i) 256 ∙ ap (λ (m : ℕ). n / m) (sym (pow-suc 256 (suc i))) in
      rw (e, from_low (suc i) k)

  pub le_bytes : to_le_bytes w64 n ≡ bytes_of 8 n
  unfolding bytes_of
  le_bytes = ap (λ (t : List ℕ). n % 256 ∷ t) (from_low 0 7)
