-- One halving as the code takes it: what a turn comes to is one step of the bisection, and a turn that moves nothing ends it. Assumes nothing.
use Rattle.std.specs.Prelude.{Ok, Err}
use mathlib.Core.Path.{◌≡◌, refl, sym, ap, ◌∙◌}
use mathlib.Core.Bool.{Bool, true, cond}
use Prim.Native.Nat.{ℕ, suc, ◌+◌, ◌-◌, ◌≤◌, ◌<◌}
use native.Mathlib.Numerals.{add-one}
use native.Mathlib.Omega.{arith}
use lib.Ieee.{Float}
use Rattle.refusals.specs.declared.refusals.Refusal.{Refusal}
use Rattle.refusals.specs.Refusals.{Outcome, following}
use Rattle.math_bisection.specs.declared.halving.Ends.{Ends}
use Rattle.math_bisection.specs.declared.result.Fit.{Fit}
use Rattle.math_bisection.specs.Solve.{close_enough, residual_at, ends_moved_to, unconverged_at, halvings_from}
use Rattle.math_bisection.proofs.Steps.{mid, Met, stopped, close, away, met, halving_stopped, halving_close, halving_away, stays}
use Rattle.fit_solver.specs.declared.bisect.Turn.TheVariants as T
use Rattle.fit_solver.specs.Turn.{turned, turn_at}

-- ---- a turn, by what is met at the midpoint
module _ (f : Float → Outcome Float) (e : Ends) where
  turn_is : {o : Outcome Float} → residual_at f (mid e) ≡ o → turn_at f e ≡ following o (λ v. Ok (turned e (mid e) v))
  unfolding turn_at
  turn_is p = ap (λ (o : Outcome Float). following o (λ v. Ok (turned e (mid e) v))) p

  turn_tested : {v : Float} {t : Bool} → residual_at f (mid e) ≡ Ok v → close_enough v ≡ t → turn_at f e ≡ Ok (cond t (T.Converged (mid e) v) (T.Moved (ends_moved_to e (mid e) v)))
  turn_tested {v} p q = turn_is p ∙ ap (λ (t : Bool). Ok (cond t (T.Converged (mid e) v) (T.Moved (ends_moved_to e (mid e) v)))) q

-- ---- what a turn tells of the halvings that are left
other : {A : Type 0} → ◌≡◌ {A = ℕ} 0 1 → A
other z = absurd (omega arith)

module _ (f : Float → Outcome Float) (left made : ℕ) (e : Ends) where
  pub turn_refused : {r : Refusal} → turn_at f e ≡ Err r → halvings_from f (suc left) made e ≡ Err r
  turn_refused {r} h = go (met f e)
    where
      go : Met f e → halvings_from f (suc left) made e ≡ Err r
      go (stopped q p) = let k = sym (turn_is f e p) ∙ h in let s : q ≡ r = cc in halving_stopped f made e left p ∙ ap Err s
      go (close v p q) = let k = sym (turn_tested f e p q) ∙ h in other (cc)
      go (away v p q) = let k = sym (turn_tested f e p q) ∙ h in other (cc)

  pub turn_converged : {sigma v : Float} → turn_at f e ≡ Ok (T.Converged sigma v) → halvings_from f (suc left) made e ≡ Ok (record { sigma = sigma; converged = true; halvings = suc made; residual = v; ends = e })
  turn_converged {sigma} {v} h = go (met f e)
    where
      fit : Float → Float → Outcome Fit
      fit s x = Ok (record { sigma = s; converged = true; halvings = suc made; residual = x; ends = e })

      go : Met f e → halvings_from f (suc left) made e ≡ fit sigma v
      go (stopped q p) = let k = sym (turn_is f e p) ∙ h in other (cc)
      go (close x p q) =
          let k = sym (turn_tested f e p q) ∙ h in
          let s : mid e ≡ sigma = cc in
          let y : x ≡ v = cc in
          halving_close f made e left p q ∙ ap (λ (z : Float). fit z x) s ∙ ap (λ (z : Float). fit sigma z) y
      go (away x p q) = let k = sym (turn_tested f e p q) ∙ h in other (cc)

  pub turn_moved : {next : Ends} → turn_at f e ≡ Ok (T.Moved next) → halvings_from f (suc left) made e ≡ halvings_from f left (suc made) next
  turn_moved {next} h = go (met f e)
    where
      go : Met f e → halvings_from f (suc left) made e ≡ halvings_from f left (suc made) next
      go (stopped q p) = let k = sym (turn_is f e p) ∙ h in other (cc)
      go (close v p q) = let k = sym (turn_tested f e p q) ∙ h in other (cc)
      go (away v p q) =
          let k = sym (turn_tested f e p q) ∙ h in
          let s : ends_moved_to e (mid e) v ≡ next = cc in
          halving_away f made e left p q ∙ ap (λ (x : Ends). halvings_from f left (suc made) x) s

  pub turn_unmoved : {next : Ends} → turn_at f e ≡ Ok (T.Moved next) → next ≡ e → halvings_from f left made e ≡ unconverged_at f e
  turn_unmoved {next} h m = go (met f e)
    where
      go : Met f e → halvings_from f left made e ≡ unconverged_at f e
      go (stopped q p) = let k = sym (turn_is f e p) ∙ h in other (cc)
      go (close v p q) = let k = sym (turn_tested f e p q) ∙ h in other (cc)
      go (away v p q) =
          let k = sym (turn_tested f e p q) ∙ h in
          let s : ends_moved_to e (mid e) v ≡ next = cc in
          stays f left made e v p q (s ∙ m)

-- ---- the same, counted as the code counts
module _ (f : Float → Outcome Float) (made : ℕ) (e : Ends) (less : made < 200) where
  rest_is : 200 - made ≡ suc (200 - suc made)
  rest_is = omega arith

  pub count_refused : {r : Refusal} → turn_at f e ≡ Err r → Err r ≡ halvings_from f (200 - made) made e
  count_refused h = rw rest_is (sym (turn_refused f (200 - suc made) made e h))

  pub count_converged : {sigma v : Float} → turn_at f e ≡ Ok (T.Converged sigma v)
      → Ok (record { sigma = sigma; converged = true; halvings = made + 1; residual = v; ends = e }) ≡ halvings_from f (200 - made) made e
  count_converged h = rw (rest_is, add-one) (sym (turn_converged f (200 - suc made) made e h))

  pub count_moved : {next : Ends} → turn_at f e ≡ Ok (T.Moved next) → halvings_from f (200 - (made + 1)) (made + 1) next ≡ halvings_from f (200 - made) made e
  count_moved h = rw (rest_is, add-one) (sym (turn_moved f (200 - suc made) made e h))

pub count_done : (f : Float → Outcome Float) (made : ℕ) (e : Ends) → 200 ≤ made → unconverged_at f e ≡ halvings_from f (200 - made) made e
count_done f made e h = let z : 200 - made ≡ 0 = omega arith in rw z (unfold halvings_from in refl)
