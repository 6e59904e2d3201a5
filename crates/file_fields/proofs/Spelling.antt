-- The hexadecimal digits of a number, spelled in the bytes of a word. Assumes nothing.
use mathlib.Core.Path.{◌≡◌, refl, ◌∙◌, ap, ap₂}
use mathlib.Core.Bool.{Bool, true, false}
use mathlib.Core.List.{List, [], ◌∷◌, map}
use Prim.Native.Nat.{ℕ, ◌+◌, ◌*◌, ◌/◌, ◌%◌, ◌^◌, ◌≤◌, ◌<◌}
use native.Mathlib.Nat.{mod-lt}
use native.Mathlib.Omega.{arith}
use borrow.Author.Tests.{ltb-true, ltb-false}
use lib.Bits.{bit_and}
use lib.Dec.{ltb}
use Rattle.file_fields.specs.Text.{bytes_of}
use Rattle.file_fields.specs.Fields.{hex_digit, hex_in}
use Rattle.file_fields.proofs.Lanes.{lanes, Below, picked, picked_low, pairs, merged, pairs_below, bytes_are}

-- ---- from a digit to its character: 48 more, and 39 more still from 10 on
abbrev raised : ℕ → ℕ
raised d = d + 6

abbrev letter : ℕ → ℕ
letter d = d / 16 % 2

character : (d : ℕ) → d < 16 → d + 48 + letter (raised d) * 39 ≡ hex_digit d
character d h = by_test (ltb d 10) refl
  where
    by_test : (t : Bool) → ltb d 10 ≡ t → d + 48 + letter (raised d) * 39 ≡ hex_digit d
    by_test true e = let l : d < 10 = ltb-true d 10 e in rw e (omega arith)
    by_test false e = let l : 10 ≤ d = ltb-false d 10 e in rw e (omega arith)

all_raised : (ds : List ℕ) → lanes 256 ds + lanes 256 (map (λ (d : ℕ). 6) ds) ≡ lanes 256 (map raised ds)
unfolding lanes
all_raised [] = refl
all_raised (d ∷ ds) = omega (arith, all_raised ds)

raised_below : (ds : List ℕ) → Below 16 ds → Below 256 (map raised ds)
raised_below [] b = tt
raised_below (d ∷ ds) b = (omega (arith, b.0), raised_below ds b.1)

characters_below : (ds : List ℕ) → Below 16 ds → Below 256 (map hex_digit ds)
characters_below [] b = tt
characters_below (d ∷ ds) b = (omega (arith, b.0, character d b.0), characters_below ds b.1)

all_characters : (ds : List ℕ) → Below 16 ds → lanes 256 ds + lanes 256 (map (λ (d : ℕ). 48) ds) + lanes 256 (map letter (map raised ds)) * 39 ≡ lanes 256 (map hex_digit ds)
unfolding lanes
all_characters [] b = refl
all_characters (d ∷ ds) b = omega (arith, all_characters ds b.1, character d b.0)

-- the word of the characters, from that of the digits
spelled_from : (ds : List ℕ) (word : ℕ) → Below 16 ds → word ≡ lanes 256 ds
    → word + lanes 256 (map (λ (d : ℕ). 48) ds) + bit_and ((word + lanes 256 (map (λ (d : ℕ). 6) ds)) / 16) (lanes 256 (map (λ (d : ℕ). 1) (map raised ds))) * 39 ≡ lanes 256 (map hex_digit ds)
spelled_from ds word b e =
    rw (e, all_raised ds, picked 3 1 4 (map raised ds) (raised_below ds b)) (all_characters ds b)

-- ---- from a number to its digits: of each lane the upper half of its bits, and then the lower, each to a lane of half the width
abbrev upper : ℕ → ℕ → ℕ
upper b d = d / b % b

abbrev lower : ℕ → ℕ → ℕ
lower b d = d / 1 % b

abbrev parted : ℕ → List ℕ → List ℕ
parted b = pairs (upper b) (lower b)

parted_below : (b c : ℕ) → 0 < b → b ≤ c → (ds : List ℕ) → Below c (parted b ds)
parted_below b c p h = pairs_below c (upper b) (lower b) (λ d. omega (arith, mod-lt (d / b) p)) (λ d. omega (arith, mod-lt (d / 1) p))

halved : (x word : ℕ) → Below (2 ^ 64) (x ∷ []) → word ≡ lanes (2 ^ 64) (x ∷ [])
    → bit_and (word / 0x1_0000) 0xffff + bit_and word 0xffff * 0x1_0000_0000 ≡ lanes 0x1_0000_0000 (parted 0x1_0000 (x ∷ []))
unfolding lanes
halved x word b e =
    let ds = x ∷ [] in
    rw e
    (ap₂ (λ (u v : ℕ). u + v * 0x1_0000_0000) (picked 32 16 16 ds b) (picked_low 48 16 ds b)
    ∙ merged 0x1_0000_0000 (upper 0x1_0000) (lower 0x1_0000) ds)

quartered : (p q word : ℕ) → Below 0x1_0000_0000 (p ∷ q ∷ []) → word ≡ lanes 0x1_0000_0000 (p ∷ q ∷ [])
    → bit_and (word / 0x100) 0x0000_00ff_0000_00ff + bit_and word 0x0000_00ff_0000_00ff * 0x1_0000 ≡ lanes 0x1_0000 (parted 0x100 (p ∷ q ∷ []))
unfolding lanes
quartered p q word b e =
    let ds = p ∷ q ∷ [] in
    rw e
    (ap₂ (λ (u v : ℕ). u + v * 0x1_0000) (picked 16 8 8 ds b) (picked_low 24 8 ds b)
    ∙ merged 0x1_0000 (upper 0x100) (lower 0x100) ds)

in_eight : (p q r s word : ℕ) → Below 0x1_0000 (p ∷ q ∷ r ∷ s ∷ []) → word ≡ lanes 0x1_0000 (p ∷ q ∷ r ∷ s ∷ [])
    → bit_and (word / 0x10) 0x000f_000f_000f_000f + bit_and word 0x000f_000f_000f_000f * 0x100 ≡ lanes 0x100 (parted 0x10 (p ∷ q ∷ r ∷ s ∷ []))
unfolding lanes
in_eight p q r s word b e =
    let ds = p ∷ q ∷ r ∷ s ∷ [] in
    rw e
    (ap₂ (λ (u v : ℕ). u + v * 0x100) (picked 8 4 4 ds b) (picked_low 12 4 ds b)
    ∙ merged 0x100 (upper 0x10) (lower 0x10) ds)

-- the eight digits
abbrev digits_of : ℕ → List ℕ
digits_of x = parted 0x10 (parted 0x100 (parted 0x1_0000 (x ∷ [])))

digits_are : (x : ℕ) → map hex_digit (digits_of x) ≡ hex_in 8 x
unfolding pairs hex_in
digits_are x =
    let a : upper 0x10 (upper 0x100 (upper 0x1_0000 x)) ≡ x / 16 / 16 / 16 / 16 / 16 / 16 / 16 % 16 = omega arith in
    let b : lower 0x10 (upper 0x100 (upper 0x1_0000 x)) ≡ x / 16 / 16 / 16 / 16 / 16 / 16 % 16 = omega arith in
    let c : upper 0x10 (lower 0x100 (upper 0x1_0000 x)) ≡ x / 16 / 16 / 16 / 16 / 16 % 16 = omega arith in
    let d : lower 0x10 (lower 0x100 (upper 0x1_0000 x)) ≡ x / 16 / 16 / 16 / 16 % 16 = omega arith in
    let e : upper 0x10 (upper 0x100 (lower 0x1_0000 x)) ≡ x / 16 / 16 / 16 % 16 = omega arith in
    let f : lower 0x10 (upper 0x100 (lower 0x1_0000 x)) ≡ x / 16 / 16 % 16 = omega arith in
    let g : upper 0x10 (lower 0x100 (lower 0x1_0000 x)) ≡ x / 16 % 16 = omega arith in
    let h : lower 0x10 (lower 0x100 (lower 0x1_0000 x)) ≡ x % 16 = omega arith in
    rw (a, b, c, d, e, f, g, h)

-- ---- the code's words, one after the other
abbrev pub halves_of : ℕ → ℕ
halves_of x = bit_and (x / 0x1_0000) 0xffff + bit_and x 0xffff * 0x1_0000_0000

abbrev pub bytes_in : ℕ → ℕ
bytes_in halves = bit_and (halves / 0x100) 0x0000_00ff_0000_00ff + bit_and halves 0x0000_00ff_0000_00ff * 0x1_0000

abbrev pub digits_in : ℕ → ℕ
digits_in bytes = bit_and (bytes / 0x10) 0x000f_000f_000f_000f + bit_and bytes 0x000f_000f_000f_000f * 0x100

pub spelled_is : (x halves bytes digits : ℕ) → x < 2 ^ 64 → halves ≡ halves_of x → bytes ≡ bytes_in halves → digits ≡ digits_in bytes
    → bytes_of 8 (digits + 0x3030_3030_3030_3030 + bit_and ((digits + 0x0606_0606_0606_0606) / 0x10) 0x0101_0101_0101_0101 * 39) ≡ hex_in 8 x
unfolding pairs lanes
spelled_is x halves bytes digits h p q r =
    let ds = digits_of x in
    let small = parted_below 0x10 0x10 (omega arith) (omega arith) (parted 0x100 (parted 0x1_0000 (x ∷ []))) in
    let a = p ∙ halved x x (h, tt) (omega arith) in
    let b = q ∙ quartered _ _ halves (parted_below 0x1_0000 0x1_0000_0000 (omega arith) (omega arith) (x ∷ [])) a in
    let c = r ∙ in_eight _ _ _ _ bytes (parted_below 0x100 0x1_0000 (omega arith) (omega arith) (parted 0x1_0000 (x ∷ []))) b in
    ap (bytes_of 8) (spelled_from ds digits small c) ∙ bytes_are (map hex_digit ds) (characters_below ds small) ∙ digits_are x
