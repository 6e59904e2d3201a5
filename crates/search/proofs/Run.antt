-- Many halvings: in the end no point lies strictly between the ends, or they are close. For any choice of the end that a halving moves. Assumes nothing.
use mathlib.Core.Path.{sym, ap, ◌∙◌, subst}
use mathlib.Core.Logic.{◌⊎◌, inl, inr, ⊎_elim}
use Prim.Native.Nat.{ℕ, zero, suc, ◌+◌, ◌-◌, ◌*◌, ◌^◌, ◌≤◌, ◌<◌}
use native.Mathlib.Nat.{le_refl, le_trans, le_of_eq, mul_left_comm, one-mul, mul-one, mul-le-mul_right, mul-le-mul_left, le_of_mul-le-mul_right, pow-suc}
use native.Mathlib.Decide.{dec_le, dec_lt}
use native.Mathlib.Omega.{arith}
use lib.Dec.{lit≤, lit<}
use lib.Pow.{pow_pos, pow-lt}
use Rattle.search.proofs.Narrowing.{Bracket, Halved, None, Scale, Narrow, scale_of, narrow, narrower, narrowest, wide_width, halved_within, none_within}
use Rattle.search.proofs.Iterates.{iterate, iterate_swap, iterate_keeps, iterate_add, iterate_zero, iterate_suc}

small_scale : (p t k : ℕ) → 2 ^ p * 2 ^ k ≤ 2 ^ t → k ≤ t
small_scale p t k h = elim (dec_lt t k) [ yes l ↦ absurd (let a = pow-lt l in let b = mul-le-mul_right (2 ^ k) (pow_pos p) in omega arith) | no l ↦ omega arith ]

less_by : (a b c : ℕ) → a ≤ b + c → a - b ≤ c
less_by a b c h = omega arith

-- 512 ^ n and 257 ^ n on two sides
chain : (a b c x y : ℕ) → a * x ≤ y * b → b * 512 ≤ c * 257 → a * (x * 512) ≤ y * 257 * c
chain a b c x y h k =
    let p = mul-le-mul_right 512 h in
    let q = mul-le-mul_left y k in
    omega arith

module _
    {S : Type 0}
    (step : S → S)
    (lo hi : S → ℕ)
    (p t : ℕ)
    (P : 10 ≤ p)
    (T : p ≤ t)
    (Inv : S → Type 0)
    (bracket : (s : S) → Inv s → Bracket p (2 ^ t) (lo s) (hi s))
    (line : (s : S) → Inv s → (0 < lo s) × (hi s < 2 ^ t * 2))
    (halved : (s : S) → Inv s → Halved p (2 ^ t) (lo s) (hi s) (lo (step s)) (hi (step s)))
    (keeps : (s : S) → Inv s → Inv (step s)) where
  pub run_within : (n : ℕ) (s : S) → Inv s → (lo s ≤ lo (iterate step n s)) × (hi (iterate step n s) ≤ hi s)
  unfolding iterate
  run_within zero s i = (le_refl (lo s), le_refl (hi s))
  run_within (suc n) s i =
      let a = halved_within (bracket s i) (halved s i) in
      let b = run_within n (step s) (keeps s i) in
      (le_trans a.0 b.0, le_trans b.1 a.1)

  none_after : (n : ℕ) (s : S) → Inv s → None p (2 ^ t) (lo s) (hi s) → None p (2 ^ t) (lo (iterate step n s)) (hi (iterate step n s))
  none_after n s i h = let w = run_within n s i in none_within p (2 ^ t) (lo s) (hi s) (lo (iterate step n s)) (hi (iterate step n s)) w.0 w.1 h

  narrow_run : (v j : ℕ) (s : S) → Inv s → Narrow p (2 ^ t) v j (lo s) (hi s) → None p (2 ^ t) (lo (iterate step (suc j) s)) (hi (iterate step (suc j) s))
  unfolding iterate
  narrow_run v zero s i n = narrowest (bracket s i) (lo (step s)) (hi (step s)) n (halved s i)
  narrow_run v (suc j) s i n = narrow_run v j (step s) (keeps s i) (narrower (bracket s i) j (lo (step s)) (hi (step s)) n (halved s i))

  width : S → ℕ
  width s = hi s - lo s

  -- a narrow bracket: ten more halvings leave no point inside, and so do more
  narrow_end : (n k : ℕ) (s : S) → Inv s → Scale p (2 ^ t) k (lo s) (hi s) → hi s < lo s + 256 * 2 ^ k
      → None p (2 ^ t) (lo (iterate step 10 (iterate step n s))) (hi (iterate step 10 (iterate step n s)))
  narrow_end n k s i c h =
      let (v, m) = narrow p t (lo s) (hi s) P k (small_scale p t k c.room) c h in
      subst (λ (x : S). None p (2 ^ t) (lo x) (hi x)) (sym (iterate_swap step n 10 s))
      (none_after n (iterate step 10 s) (iterate_keeps step Inv keeps 10 s i) (narrow_run v 9 s i m))

  wide_once : (k : ℕ) (s : S) → Inv s → Scale p (2 ^ t) k (lo s) (hi s) → lo s + 256 * 2 ^ k ≤ hi s → width (step s) * 512 ≤ width s * 257
  unfolding width
  wide_once k s i c h =
      let b = (bracket s i).ordered in
      let b' = (bracket (step s) (keeps s i)).ordered in
      wide_width p (2 ^ t) k (lo s) (hi s) (lo (step s)) (hi (step s)) (hi s - lo s) (hi (step s) - lo (step s)) c (halved s i) h (omega arith) (omega arith)

  -- after n halvings: ten more leave no point inside, or the width is at most (257 / 512) ^ n of what it was
  abbrev Outcome : ℕ → S → S → Type 0
  Outcome n s x = None p (2 ^ t) (lo (iterate step 10 x)) (hi (iterate step 10 x)) ⊎ (width x * 512 ^ n ≤ 257 ^ n * width s)

  wide_run : (n : ℕ) (s : S) → Inv s → Outcome n s (iterate step n s)
  wide_run zero s i = inr (le_of_eq (mul-one (width (iterate step 0 s)) ∙ ap width (iterate_zero step s) ∙ sym (one-mul (width s))))
  wide_run (suc n) s i =
      let l = line s i in
      let b = bracket s i in
      let (k, c) = scale_of p t (lo s) (hi s) (omega arith) T b.ordered l.0 l.1 in
      go k c (dec_le (lo s + 256 * 2 ^ k) (hi s)) (wide_run n (step s) (keeps s i))
    where
      more : (k : ℕ) → Scale p (2 ^ t) k (lo s) (hi s) → lo s + 256 * 2 ^ k ≤ hi s → width (iterate step n (step s)) * 512 ^ n ≤ 257 ^ n * width (step s)
          → width (iterate step n (step s)) * 512 ^ suc n ≤ 257 ^ suc n * width s
      more k c h x =
          rw (pow-suc 512 n, pow-suc 257 n) (chain (width (iterate step n (step s))) (width (step s)) (width s) (512 ^ n) (257 ^ n) x (wide_once k s i c h))

      go : (k : ℕ) → Scale p (2 ^ t) k (lo s) (hi s) → Dec (lo s + 256 * 2 ^ k ≤ hi s) → Outcome n (step s) (iterate step n (step s)) → Outcome (suc n) s (iterate step (suc n) s)
      go k c (yes h) x = subst (λ (y : S). Outcome (suc n) s y) (sym (iterate_suc step n s)) (⊎_elim inl (λ y. inr (more k c h y)) x)
      go k c (no h) x = inl (narrow_end (suc n) k s i c (omega arith))

  -- ---- 200 halvings of a bracket at most 2 ^ (e + 161) wide: no point inside, or at most 2 ^ e wide
  enough : (e w w' : ℕ) → w ≤ 2 ^ e * 2 ^ 161 → w' * 512 ^ 190 ≤ 257 ^ 190 * w → w' ≤ 2 ^ e
  enough e w w' h k =
      le_of_mul-le-mul_right {k = 512 ^ 190}
      (le_trans k (le_trans (mul-le-mul_left (257 ^ 190) h) (le_trans (le_of_eq (mul_left_comm (257 ^ 190) (2 ^ e) (2 ^ 161))) (mul-le-mul_left (2 ^ e) (lit≤ tt)))))
      (lit< tt)

  pub run_200 : (e : ℕ) (s : S) → Inv s → hi s ≤ lo s + 2 ^ e * 2 ^ 161
      → None p (2 ^ t) (lo (iterate step 200 s)) (hi (iterate step 200 s)) ⊎ (hi (iterate step 200 s) ≤ lo (iterate step 200 s) + 2 ^ e)
  unfolding width
  run_200 e s i h =
      let x = iterate step 190 s in
      let I : Inv x = iterate_keeps step Inv keeps 190 s i in
      subst (λ (y : S). None p (2 ^ t) (lo y) (hi y) ⊎ (hi y ≤ lo y + 2 ^ e)) (sym (iterate_add step 190 10 s))
      (⊎_elim inl
      (λ (y : width x * 512 ^ 190 ≤ 257 ^ 190 * width s).
      let w = run_within 10 x I in
      let z : hi x - lo x ≤ 2 ^ e = enough e (hi s - lo s) (hi x - lo x) (less_by (hi s) (lo s) (2 ^ e * 2 ^ 161) h) y in
      inr (omega arith))
      (wide_run 190 s i))
