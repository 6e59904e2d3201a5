-- Objectives that agree on the sigmas that a fit tries have the same fit, and try the same. Assumes nothing.
use mathlib.Core.Path.{◌≡◌, refl, sym, ap, ◌∙◌}
use mathlib.Core.List.{List, ◌∷◌, Memᴰ}
use Prim.Native.Nat.{ℕ, zero, suc}
use lib.Ieee.{Float}
use Rattle.refusals.specs.Refusals.{Outcome}
use Rattle.math_bisection.specs.declared.halving.Ends.{Ends}
use Rattle.math_bisection.specs.Solve.{lowest, highest, residual_at, ends_moved_to, halvings_from, ends_of, solve_of}
use Rattle.math_bisection.specs.Tried.{tried_from, tried_of}
use Rattle.math_bisection.proofs.Steps.{mid, Met, stopped, close, away, met, last_stopped, last_served, halving_stopped, halving_close, halving_away, tried_last, tried_stopped, tried_close, tried_away, Begun, low_stopped, high_stopped, alike, apart, begun, solve_low, solve_high, solve_alike, solve_apart, tried_low, tried_high, tried_alike, tried_apart}

module _ (f g : Float → Outcome Float) where
  Agree : List Float → Type 0
  Agree xs = (sigma : Float) → Memᴰ sigma xs → f sigma ≡ g sigma

  residual_same : (sigma : Float) → f sigma ≡ g sigma → {o : Outcome Float} → residual_at f sigma ≡ o → residual_at g sigma ≡ o
  unfolding residual_at
  residual_same sigma e p = rw (sym e) p

  -- at the first of the sigmas tried, and at the others
  head : {x : Float} {xs ys : List Float} → ys ≡ x ∷ xs → Agree ys → f x ≡ g x
  unfolding Agree
  head {x} t a = a x (rw t (Memᴰ.head refl))

  tail : {x : Float} {xs ys : List Float} → ys ≡ x ∷ xs → Agree ys → Agree xs
  unfolding Agree
  tail t a sigma m = a sigma (rw t (Memᴰ.tail m))

  abbrev Same : ℕ → ℕ → Ends → Type 0
  Same left made e = (halvings_from f left made e ≡ halvings_from g left made e) × (tried_from f left e ≡ tried_from g left e)

  same_from : (left made : ℕ) (e : Ends) → Agree (tried_from f left e) → Same left made e
  same_from zero made e a = go (met f e)
    where
      on : {o : Outcome Float} → residual_at f (mid e) ≡ o → residual_at g (mid e) ≡ o
      on p = residual_same (mid e) (head (tried_last f e) a) p

      tries : tried_from f zero e ≡ tried_from g zero e
      tries = tried_last f e ∙ sym (tried_last g e)

      go : Met f e → Same zero made e
      go (stopped r p) = (last_stopped f made e p ∙ sym (last_stopped g made e (on p)), tries)
      go (close v p q) = (last_served f made e p ∙ sym (last_served g made e (on p)), tries)
      go (away v p q) = (last_served f made e p ∙ sym (last_served g made e (on p)), tries)
  same_from (suc left) made e a = go (same_from left (suc made)) (met f e)
    where
      go : ((e : Ends) → Agree (tried_from f left e) → Same left (suc made) e) → Met f e → Same (suc left) made e
      go ih (stopped r p) =
          let p' = residual_same (mid e) (head (tried_stopped f e left p) a) p in
          (halving_stopped f made e left p ∙ sym (halving_stopped g made e left p'), tried_stopped f e left p ∙ sym (tried_stopped g e left p'))
      go ih (close v p q) =
          let p' = residual_same (mid e) (head (tried_close f e left p q) a) p in
          (halving_close f made e left p q ∙ sym (halving_close g made e left p' q), tried_close f e left p q ∙ sym (tried_close g e left p' q))
      go ih (away v p q) =
          let p' = residual_same (mid e) (head (tried_away f e left p q) a) p in
          let s = ih (ends_moved_to e (mid e) v) (tail (tried_away f e left p q) a) in (
            halving_away f made e left p q ∙ s.0 ∙ sym (halving_away g made e left p' q),
            tried_away f e left p q ∙ ap (λ (xs : List Float). mid e ∷ xs) s.1 ∙ sym (tried_away g e left p' q),
          )

  pub same : ((sigma : Float) → Memᴰ sigma (tried_of f) → f sigma ≡ g sigma) → (solve_of f ≡ solve_of g) × (tried_of f ≡ tried_of g)
  unfolding Agree
  same a = go (begun f)
    where
      go : Begun f → (solve_of f ≡ solve_of g) × (tried_of f ≡ tried_of g)
      go (low_stopped r p) =
          let p' = residual_same lowest (head (tried_low f p) a) p in
          (solve_low f p ∙ sym (solve_low g p'), tried_low f p ∙ sym (tried_low g p'))
      go (high_stopped x r p q) =
          let p' = residual_same lowest (head (tried_high f p q) a) p in
          let q' = residual_same highest (head refl (tail (tried_high f p q) a)) q in
          (solve_high f p q ∙ sym (solve_high g p' q'), tried_high f p q ∙ sym (tried_high g p' q'))
      go (alike x y p q s) =
          let p' = residual_same lowest (head (tried_alike f p q s) a) p in
          let q' = residual_same highest (head refl (tail (tried_alike f p q s) a)) q in
          (solve_alike f p q s ∙ sym (solve_alike g p' q' s), tried_alike f p q s ∙ sym (tried_alike g p' q' s))
      go (apart x y p q s) =
          let p' = residual_same lowest (head (tried_apart f p q s) a) p in
          let later = tail (tried_apart f p q s) a in
          let q' = residual_same highest (head refl later) q in
          let w = same_from 200 0 (ends_of x y) (tail refl later) in (
            solve_apart f p q s ∙ w.0 ∙ sym (solve_apart g p' q' s),
            tried_apart f p q s ∙ ap (λ (xs : List Float). lowest ∷ highest ∷ xs) w.1 ∙ sym (tried_apart g p' q' s),
          )
