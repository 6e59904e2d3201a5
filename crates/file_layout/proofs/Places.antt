-- What a caller knows of list `which` of a file that keeps the layout, and how the places of the lists stay apart while they are filled.
use mathlib.Core.Path.{◌≡◌, refl, sym, ◌∙◌, ap}
use mathlib.Core.List.{List, [], ◌∷◌}
use mathlib.Core.Logic.{◌⊎◌, inl, inr}
use Prim.Native.Nat.{ℕ, zero, suc, ◌+◌, ◌*◌, ◌-◌, ◌/◌, ◌<◌, ◌≤◌}
use native.Mathlib.Nat.{eq-or-lt_of_le}
use native.Mathlib.Omega.{arith}
use lib.ListN.{length, get_or, take, drop}
use lib.Ieee.{Float}
use borrow.Rule.Slice.PartMut.{put_mid}
use Rattle.std.specs.Prelude.{Some}
use Rattle.std.proofs.lemmas.List.{drop-take}
use Rattle.std.proofs.lemmas.Slice.{between-put_mid, take-put_mid_below}
use Rattle.file_layout.specs.declared.parts.Part.{Part}
use Rattle.file_layout.specs.declared.parts.Layout.{Layout}
use Rattle.file_layout.specs.declared.reading.Column.{Column}
use Rattle.file_layout.specs.declared.reading.Which.{Which}
use Rattle.file_layout.specs.declared.reading.Which.TheVariants.{PillarTimes, PillarSigmas, CurveTimes, CurveFactors, Payments, Accruals, Owns, GridTimes, Draws}
use Rattle.file_layout.specs.Layout.{end_of, layout_of}
use Rattle.file_layout.specs.Request.{column_of, request_of}
use Rattle.file_layout.specs.Lists.{number, list_of, Stands, column_on, column_at}
use Rattle.file_layout.proofs.Kept.{Whole, kept}
use Rattle.file_layout.proofs.Lists.{column_length}

-- ---- the numbers of the lists
pub below_nine : (which : Which) → number which < 9
below_nine PillarTimes = omega arith
below_nine PillarSigmas = omega arith
below_nine CurveTimes = omega arith
below_nine CurveFactors = omega arith
below_nine Payments = omega arith
below_nine Accruals = omega arith
below_nine Owns = omega arith
below_nine GridTimes = omega arith
below_nine Draws = omega arith

abbrev pub all_lists : List Which
all_lists = PillarTimes ∷ PillarSigmas ∷ CurveTimes ∷ CurveFactors ∷ Payments ∷ Accruals ∷ Owns ∷ GridTimes ∷ Draws ∷ []

pub in_order : (d : Which) (i : ℕ) → i < 9 → number (get_or all_lists i d) ≡ i
in_order d zero h = refl
in_order d (suc zero) h = refl
in_order d (suc (suc zero)) h = refl
in_order d (suc (suc (suc zero))) h = refl
in_order d (suc (suc (suc (suc zero)))) h = refl
in_order d (suc (suc (suc (suc (suc zero))))) h = refl
in_order d (suc (suc (suc (suc (suc (suc zero)))))) h = refl
in_order d (suc (suc (suc (suc (suc (suc (suc zero))))))) h = refl
in_order d (suc (suc (suc (suc (suc (suc (suc (suc zero)))))))) h = refl
in_order d (suc (suc (suc (suc (suc (suc (suc (suc (suc n))))))))) h = absurd (let z : ⊥ = omega arith in z)

-- ---- the column of a list
pub record Listed (file : List ℕ) (c : Column) (next : ℕ) (list : List Float) : Type 0 where
  pub inside : end_of c.part ≤ length file
  pub within : 8 * c.field + 8 ≤ c.width
  pub room : c.place + c.part.length / c.width ≤ next
  pub is : column_of file c.part c.width c.field ≡ list
  pub count : length list ≡ c.part.length / c.width

listed_in : (file : List ℕ) (p : Part) (width limit field place next : ℕ) → Whole file p width limit → place + limit ≤ next → 8 * field + 8 ≤ width → Listed file (column_on p width field place) next (column_of file p width field)
listed_in file p width limit field place next w room within = record {
  inside = w.inside;
  within = within;
  room = omega (arith, w.few, room);
  is = refl;
  count = column_length file p width field;
}

abbrev place_at : Layout → ℕ → ℕ
place_at l which = (column_at l which).place

module _ (file : List ℕ) (l : Layout) (e : layout_of file ≡ Some l) where
  -- each list ends before the next one's place
  listed : (which : ℕ) → which < 9 → Listed file (column_at l which) (place_at l (suc which)) (list_of (request_of file l) which)
  unfolding request_of
  listed zero h = listed_in file l.pillars 16 64 0 0 64 (kept file l e).pillars (omega arith) (omega arith)
  listed (suc zero) h = listed_in file l.pillars 16 64 1 64 128 (kept file l e).pillars (omega arith) (omega arith)
  listed (suc (suc zero)) h = listed_in file l.curve 16 2048 0 128 2176 (kept file l e).curve (omega arith) (omega arith)
  listed (suc (suc (suc zero))) h = listed_in file l.curve 16 2048 1 2176 4224 (kept file l e).curve (omega arith) (omega arith)
  listed (suc (suc (suc (suc zero)))) h = listed_in file l.coupons 24 64 0 4224 4288 (kept file l e).coupons (omega arith) (omega arith)
  listed (suc (suc (suc (suc (suc zero))))) h = listed_in file l.coupons 24 64 1 4288 4352 (kept file l e).coupons (omega arith) (omega arith)
  listed (suc (suc (suc (suc (suc (suc zero)))))) h = listed_in file l.coupons 24 64 2 4352 4416 (kept file l e).coupons (omega arith) (omega arith)
  listed (suc (suc (suc (suc (suc (suc (suc zero))))))) h = listed_in file l.grid 16 1024 0 4416 5440 (kept file l e).grid (omega arith) (omega arith)
  listed (suc (suc (suc (suc (suc (suc (suc (suc zero)))))))) h = listed_in file l.grid 16 1024 1 5440 6464 (kept file l e).grid (omega arith) (omega arith)
  listed (suc (suc (suc (suc (suc (suc (suc (suc (suc n))))))))) h = absurd (let z : ⊥ = omega arith in z)

  climb : (n w : ℕ) → w + n ≤ 9 → place_at l w ≤ place_at l (w + n)
  climb zero w h = let z : w + 0 ≡ w = omega arith in rw z (omega arith)
  climb (suc n) w h =
      let z : w + suc n ≡ suc (w + n) = omega arith in
      let up = listed (w + n) (omega arith) in
      rw z (omega (arith, climb n w (omega arith), up.room))

  pub listed_at : (which : ℕ) → which < 9 → (c : Column) → c ≡ column_at l which → Listed file c 6464 (list_of (request_of file l) which)
  listed_at which h c q =
      let z = listed which h in
      let y : suc which + (8 - which) ≡ 9 = omega arith in
      let top : place_at l (suc which) ≤ 6464 = rw y at (climb (8 - which) (suc which) (omega arith)) in
      rw q (record { inside = z.inside; within = z.within; room = omega (arith, z.room, top); is = z.is; count = z.count })

  -- a list stands before the places behind it
  pub apart : (w which : ℕ) → w < which → which < 9 → place_at l w + length (list_of (request_of file l) w) ≤ place_at l which
  apart w which i h =
      let z = listed w (omega arith) in
      let y : suc w + (which - suc w) ≡ which = omega arith in
      let up : place_at l (suc w) ≤ place_at l which = rw y at (climb (which - suc w) (suc w) (omega arith)) in
      omega (arith, z.room, z.count, up)

-- ---- the list's own part, from its place to its end
pub own_part : (file : List ℕ) (l : Layout) (floats : List Float) (which at end n : ℕ) → at ≡ place_at l which → end ≡ at + n → length (list_of (request_of file l) which) ≡ n → Stands file l floats which → take (end - at) (drop at floats) ≡ list_of (request_of file l) which
own_part file l floats which at end n p q e h =
    let z : end - at ≡ length (list_of (request_of file l) which) = omega arith in
    rw (z, p) h

-- ---- one more list is put at its place
module _ (file : List ℕ) (l : Layout) (e : layout_of file ≡ Some l) (which : ℕ) (h : which < 9) (at k : ℕ) (p : at ≡ place_at l which) (xs ys : List Float) (fits : at ≤ length xs) (got : ys ≡ list_of (request_of file l) which) where
  pub one_more : ((w : ℕ) → w < which → Stands file l xs w) → (w : ℕ) → w < which + 1 → Stands file l (put_mid at k xs ys) w
  one_more all w b = goes (eq-or-lt_of_le (let z : w ≤ which = omega arith in z))
    where
      n : ℕ
      n = length (list_of (request_of file l) w)

      goes : (w ≡ which) ⊎ (w < which) → Stands file l (put_mid at k xs ys) w
      goes (inl q) =
          let list = list_of (request_of file l) which in
          let z : at + length list - at ≡ length list = omega arith in
          rw (q, ← p) (rw z at (between-put_mid at k xs ys (at + length list) fits (ap length got ∙ sym z)) ∙ got)
      goes (inr i) =
          let b : place_at l w + n ≤ at = rw p (apart file l e w which i h) in
          sym (drop-take (place_at l w) n (put_mid at k xs ys))
          ∙ ap (drop (place_at l w)) (take-put_mid_below at k xs ys (place_at l w + n) b fits)
          ∙ drop-take (place_at l w) n xs
          ∙ all w i
