-- A step taken n times, and its laws. Assumes nothing.
use mathlib.Core.Path.{◌≡◌, refl, ap, ◌∙◌}
use Prim.Native.Nat.{ℕ, zero, suc, ◌+◌}
use native.Mathlib.Nat.{zero-add, suc-add}

unfoldable pub iterate : {S : Type 0} → (S → S) → ℕ → S → S
iterate step zero s = s
iterate step (suc n) s = iterate step n (step s)

module _ {S : Type 0} (step : S → S) where
  pub iterate_zero : (s : S) → iterate step 0 s ≡ s
  unfolding iterate
  iterate_zero s = refl

  pub iterate_suc : (n : ℕ) (s : S) → iterate step (suc n) s ≡ iterate step n (step s)
  unfolding iterate
  iterate_suc n s = refl

  pub iterate_step : (n : ℕ) (s : S) → iterate step n (step s) ≡ step (iterate step n s)
  unfolding iterate
  iterate_step zero s = refl
  iterate_step (suc n) s = iterate_step n (step s)

  pub iterate_last : (n : ℕ) (s : S) → iterate step (suc n) s ≡ step (iterate step n s)
  unfolding iterate
  iterate_last n s = iterate_step n s

  pub iterate_add : (m n : ℕ) (s : S) → iterate step (m + n) s ≡ iterate step n (iterate step m s)
  unfolding iterate
  iterate_add zero n s = ap (λ (k : ℕ). iterate step k s) (zero-add n)
  iterate_add (suc m) n s = ap (λ (k : ℕ). iterate step k s) (suc-add m n) ∙ iterate_add m n (step s)

  pub iterate_swap : (m n : ℕ) (s : S) → iterate step n (iterate step m s) ≡ iterate step m (iterate step n s)
  unfolding iterate
  iterate_swap zero n s = refl
  iterate_swap (suc m) n s = iterate_swap m n (step s) ∙ ap (λ (x : S). iterate step m x) (iterate_step n s)

  -- what a step keeps, n steps keep
  pub iterate_keeps : (P : S → Type 0) → ((s : S) → P s → P (step s)) → (n : ℕ) (s : S) → P s → P (iterate step n s)
  unfolding iterate
  iterate_keeps P k zero s h = h
  iterate_keeps P k (suc n) s h = iterate_keeps P k n (step s) (k s h)
