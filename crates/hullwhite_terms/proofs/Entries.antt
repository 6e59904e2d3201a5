-- The length and the entries of each list of the terms. Callers cite the lengths.
use Rattle.std.specs.Prelude.{Option, Some, None, Ok, Err}
use mathlib.Core.Path.{◌≡◌, refl, sym, ap, ◌∙◌}
use mathlib.Core.List.{List, [], ◌∷◌, map, zip_with}
use Prim.Native.Nat.{ℕ, zero, suc, ◌+◌, ◌<◌}
use native.Mathlib.Omega.{arith}
use native.Mathlib.Nat.{not-suc-le-zero, le_of_suc-le-suc}
use native.Mathlib.Numerals.{add-one}
use lib.Dec.{eqb, eqb-suc-suc, eqb-zero-suc}
use lib.ListN.{length, get_or, length-map}
use lib.Ieee.{Float, nan}
use Rattle.std.proofs.lemmas.List.{ext_get_or}
use Rattle.ieee.specs.Rounded.{◌⊗◌}
use Rattle.search_sum.specs.Sum.{weights_of}
use Rattle.refusals.specs.Refusals.{Outcome, prepend}
use Rattle.curve.specs.Lookups.{factor_at, needing}
use Rattle.refusals.proofs.Outcomes.{not_both, served_is}
use Rattle.hullwhite_formulas.specs.HullWhite.{b_of, curve_part_of, a_at}
use Rattle.hullwhite_terms.specs.Terms.{coefficient_at, coefficients_of, bs_of, curve_parts_of, a_list_at, factors_at}

-- ---- a lent list that is written entry by entry is the list that has them
pub written : {out : List Float} {m n : ℕ} (target : List Float) → length out ≡ m → m ≡ n → length target ≡ n → ((i : ℕ) → i < m → i < n → get_or out i nan ≡ get_or target i nan) → out ≡ target
written {out = out} target p q r h = ext_get_or nan out target (omega arith) (λ i l. h i (omega arith) (omega arith))

-- ---- an entry of a list made from one list, and from two
map_at : (f : Float → Float) (xs : List Float) (i : ℕ) → i < length xs → get_or (map f xs) i nan ≡ f (get_or xs i nan)
map_at f [] i h = absurd (not-suc-le-zero h)
map_at f (x ∷ xs) zero h = refl
map_at f (x ∷ xs) (suc i) h = map_at f xs i (le_of_suc-le-suc h)

zip_length : (f : Float → Float → Float) (xs ys : List Float) → length ys ≡ length xs → length (zip_with f xs ys) ≡ length xs
unfolding zip_with
zip_length f [] ys e = refl
zip_length f (x ∷ xs) [] e = e
zip_length f (x ∷ xs) (y ∷ ys) e = ap suc (zip_length f xs ys (omega arith))

zip_at : (f : Float → Float → Float) (xs ys : List Float) (i : ℕ) → length ys ≡ length xs → i < length xs → get_or (zip_with f xs ys) i nan ≡ f (get_or xs i nan) (get_or ys i nan)
unfolding zip_with
zip_at f [] ys i e h = absurd (not-suc-le-zero h)
zip_at f (x ∷ xs) [] i e h = absurd (let z : ⊥ = omega arith in z)
zip_at f (x ∷ xs) (y ∷ ys) zero e h = refl
zip_at f (x ∷ xs) (y ∷ ys) (suc i) e h = zip_at f xs ys i (omega arith) (le_of_suc-le-suc h)

-- ---- coefficients: the last one is that of the place before the length
module _ (strike : Float) where
  pub coefficients_length : (accruals : List Float) → length (coefficients_of strike accruals) ≡ length accruals
  unfolding coefficients_of
  coefficients_length [] = refl
  coefficients_length (a ∷ []) = refl
  coefficients_length (a ∷ b ∷ accruals) = ap suc (coefficients_length (b ∷ accruals))

  pub coefficients_at : (accruals : List Float) (i : ℕ) → i < length accruals → get_or (coefficients_of strike accruals) i nan ≡ coefficient_at (eqb (i + 1) (length accruals)) (get_or accruals i nan) strike
  unfolding coefficients_of
  coefficients_at [] i h = absurd (not-suc-le-zero h)
  coefficients_at (a ∷ []) zero h = refl
  coefficients_at (a ∷ []) (suc i) h = absurd (not-suc-le-zero (le_of_suc-le-suc h))
  coefficients_at (a ∷ b ∷ accruals) zero h = rw (eqb-suc-suc 0 (suc (length accruals)), eqb-zero-suc)
  coefficients_at (a ∷ b ∷ accruals) (suc i) h = coefficients_at (b ∷ accruals) i (le_of_suc-le-suc h) ∙ rw (add-one, add-one, eqb-suc-suc (suc i) (suc (length accruals)))

-- ---- B
module _ (alpha t : Float) where
  bs_map : (payments : List Float) → bs_of alpha t payments ≡ map (λ payment. b_of alpha t payment) payments
  unfolding bs_of
  bs_map [] = refl
  bs_map (payment ∷ payments) = ap (λ rest. b_of alpha t payment ∷ rest) (bs_map payments)

  pub bs_length : (payments : List Float) → length (bs_of alpha t payments) ≡ length payments
  bs_length payments = rw (bs_map payments, length-map)

  pub bs_at : (payments : List Float) (i : ℕ) → i < length payments → get_or (bs_of alpha t payments) i nan ≡ b_of alpha t (get_or payments i nan)
  bs_at payments i h = rw (bs_map payments) (map_at _ payments i h)

-- ---- the curve's parts
module _ (forward pt : Float) where
  drifts_zip : (bs ps : List Float) → curve_parts_of forward pt bs ps ≡ zip_with (λ b p. curve_part_of b forward pt p) bs ps
  unfolding curve_parts_of zip_with
  drifts_zip [] ps = refl
  drifts_zip (b ∷ bs) [] = refl
  drifts_zip (b ∷ bs) (p ∷ ps) = ap (λ rest. curve_part_of b forward pt p ∷ rest) (drifts_zip bs ps)

  pub curve_parts_length : (bs ps : List Float) → length ps ≡ length bs → length (curve_parts_of forward pt bs ps) ≡ length bs
  curve_parts_length bs ps e = rw (drifts_zip bs ps) (zip_length _ bs ps e)

  pub curve_parts_at : (bs ps : List Float) (i : ℕ) → length ps ≡ length bs → i < length bs → get_or (curve_parts_of forward pt bs ps) i nan ≡ curve_part_of (get_or bs i nan) forward pt (get_or ps i nan)
  curve_parts_at bs ps i e h = rw (drifts_zip bs ps) (zip_at _ bs ps i e h)

-- ---- A
module _ (half_variance : Float) where
  affines_zip : (bs curve_parts : List Float) → a_list_at half_variance bs curve_parts ≡ zip_with (λ b curve_part. a_at half_variance b curve_part) bs curve_parts
  unfolding a_list_at zip_with
  affines_zip [] curve_parts = refl
  affines_zip (b ∷ bs) [] = refl
  affines_zip (b ∷ bs) (curve_part ∷ curve_parts) = ap (λ rest. a_at half_variance b curve_part ∷ rest) (affines_zip bs curve_parts)

  pub a_list_at_length : (bs curve_parts : List Float) → length curve_parts ≡ length bs → length (a_list_at half_variance bs curve_parts) ≡ length bs
  a_list_at_length bs curve_parts e = rw (affines_zip bs curve_parts) (zip_length _ bs curve_parts e)

  pub a_list_at_nth : (bs curve_parts : List Float) (i : ℕ) → length curve_parts ≡ length bs → i < length bs → get_or (a_list_at half_variance bs curve_parts) i nan ≡ a_at half_variance (get_or bs i nan) (get_or curve_parts i nan)
  a_list_at_nth bs curve_parts i e h = rw (affines_zip bs curve_parts) (zip_at _ bs curve_parts i e h)

-- ---- weights
weights_zip : (cs affines : List Float) → weights_of cs affines ≡ zip_with (λ c a. c ⊗ a) cs affines
unfolding weights_of zip_with
weights_zip [] affines = refl
weights_zip (c ∷ cs) [] = refl
weights_zip (c ∷ cs) (a ∷ affines) = ap (λ rest. c ⊗ a ∷ rest) (weights_zip cs affines)

pub weights_length : (cs affines : List Float) → length affines ≡ length cs → length (weights_of cs affines) ≡ length cs
weights_length cs affines e = rw (weights_zip cs affines) (zip_length _ cs affines e)

pub weights_at : (cs affines : List Float) (i : ℕ) → length affines ≡ length cs → i < length cs → get_or (weights_of cs affines) i nan ≡ get_or cs i nan ⊗ get_or affines i nan
weights_at cs affines i e h = rw (weights_zip cs affines) (zip_at _ cs affines i e h)

-- ---- factors
prepend_length : (p : Float) (o : Outcome (List Float)) (n : ℕ) → ((qs : List Float) → o ≡ Ok qs → length qs ≡ n) → (ps : List Float) → prepend p o ≡ Ok ps → length ps ≡ suc n
prepend_length p (Ok qs) n h ps e = rw (sym (served_is e)) (ap suc (h qs refl))
prepend_length p (Err r) n h ps e = absurd (not_both e)

needing_length : (m : Option Float) (o : Outcome (List Float)) (n : ℕ) → ((qs : List Float) → o ≡ Ok qs → length qs ≡ n) → (ps : List Float) → needing m (λ p. prepend p o) ≡ Ok ps → length ps ≡ suc n
needing_length (Some p) o n h ps e = prepend_length p o n h ps e
needing_length None o n h ps e = absurd (not_both e)

-- there is a factor for each payment
pub factors_length : (ts fs payments ps : List Float) → factors_at ts fs payments ≡ Ok ps → length ps ≡ length payments
unfolding factors_at
factors_length ts fs [] ps e = rw (sym (served_is e)) refl
factors_length ts fs (payment ∷ payments) ps e = needing_length (factor_at ts fs payment) (factors_at ts fs payments) (length payments) (λ qs q. factors_length ts fs payments qs q) ps e
