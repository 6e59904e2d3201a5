-- Draws as a list: how many there are, one turn and the end of the loop that writes them, and the first ones of more. Assumes nothing.
use mathlib.Core.Path.{◌≡◌, refl, sym, ap, ◌∙◌}
use mathlib.Core.List.{List, [], ◌∷◌, ◌++◌, append-nil}
use Prim.Native.Nat.{ℕ, zero, suc, ◌+◌, ◌-◌, ◌*◌, ◌≤◌, ◌<◌}
use native.Mathlib.Omega.{arith}
use native.Mathlib.Nat.{suc-add, zero-add}
use native.Mathlib.Numerals.{unary_clauses}
use lib.ListN.{length, get_or, take, set, length-set}
use lib.Seq.{take_all, take_at}
use lib.Ieee.{Float, nan}
use Rattle.refusals.proofs.Walks.{longer}
use Rattle.draws.specs.Xorshift.{step_of, steps_of}
use Rattle.draws.specs.Draws.{draw_of, draws_of, reached_by}

pub draws_length : (n x : ℕ) → length (draws_of n x) ≡ n
unfolding draws_of
draws_length zero x = refl
draws_length (suc n) x = ap suc (draws_length n (steps_of 12 x))

-- ---- of a loop that writes n draws: those written and those from the state reached are all of them, and the state that these will reach is the last one
pub record Writing (seed n i state : ℕ) (out : List Float) : Type 0 where
  pub within : i ≤ n
  pub sized : length out ≡ n
  pub written : take i out ++ draws_of (n - i) state ≡ draws_of n seed
  pub reached : reached_by (n - i) state ≡ reached_by n seed

pub start : (seed n : ℕ) (out : List Float) → length out ≡ n → Writing seed n 0 seed out
start seed n out e = record { within = omega arith; sized = e; written = simp unary_clauses; reached = simp unary_clauses }

module _ (seed n i state : ℕ) (out : List Float) (w : Writing seed n i state out) where
  pub turn : i < n → (draw : Float) (next : ℕ) → draw ≡ draw_of state → next ≡ steps_of 12 state → Writing seed n (i + 1) next (set out i draw)
  unfolding draws_of reached_by
  turn h draw next d e =
      let k : n - i ≡ suc (n - (i + 1)) = omega arith in
      let l : i < length out = omega (arith, w.sized) in
      let rest = draws_of (n - (i + 1)) (steps_of 12 state) in
      rw (d, e) (record {
        within = omega arith;
        sized = length-set out i (draw_of state) ∙ w.sized;
        written = sym (longer out i (draw_of state) rest l) ∙ sym (ap (λ (m : ℕ). take i out ++ draws_of m state) k) ∙ w.written;
        reached = sym (ap (λ (m : ℕ). reached_by m state) k) ∙ w.reached;
      })

  pub end : n ≤ i → (out ≡ draws_of n seed) × (state ≡ reached_by n seed)
  unfolding draws_of reached_by
  end h =
      let k : n - i ≡ 0 = omega arith in
      let all : take i out ≡ out = take_all i out (omega (arith, w.sized)) in
      (sym (append-nil out) ∙ sym (ap (λ (xs : List Float). xs ++ []) all) ∙ sym (ap (λ (m : ℕ). take i out ++ draws_of m state) k) ∙ w.written, sym (ap (λ (m : ℕ). reached_by m state) k) ∙ w.reached)

-- ---- more draws: the first of them, those that go on, each by its number, and the state that they reach
pub draws_onward : (n m x : ℕ) → draws_of (n + m) x ≡ draws_of n x ++ draws_of m (reached_by n x)
unfolding draws_of reached_by
draws_onward zero m x = ap (λ (k : ℕ). draws_of k x) (zero-add m)
draws_onward (suc n) m x = ap (λ (k : ℕ). draws_of k x) (suc-add n m) ∙ ap (λ (xs : List Float). draw_of x ∷ xs) (draws_onward n m (steps_of 12 x))

pub draws_first : (n m x : ℕ) → take n (draws_of (n + m) x) ≡ draws_of n x
draws_first n m x = ap (take n) (draws_onward n m x) ∙ take_at (draws_of n x) (draws_of m (reached_by n x)) n (draws_length n x)

steps_onward : (n m x : ℕ) → steps_of (n + m) x ≡ steps_of m (steps_of n x)
unfolding steps_of
steps_onward zero m x = ap (λ (k : ℕ). steps_of k x) (zero-add m)
steps_onward (suc n) m x = ap (λ (k : ℕ). steps_of k x) (suc-add n m) ∙ steps_onward n m (step_of x)

twelve_more : (i x : ℕ) → steps_of (12 * suc i) x ≡ steps_of (12 * i) (steps_of 12 x)
twelve_more i x = ap (λ (k : ℕ). steps_of k x) (let z : 12 * suc i ≡ 12 + 12 * i = omega arith in z) ∙ steps_onward 12 (12 * i) x

pub draw_numbered : (n i x : ℕ) → i < n → get_or (draws_of n x) i nan ≡ draw_of (steps_of (12 * i) x)
unfolding draws_of steps_of
draw_numbered zero i x h = absurd (let z : ⊥ = omega arith in z)
draw_numbered (suc n) zero x h = refl
draw_numbered (suc n) (suc i) x h = draw_numbered n i (steps_of 12 x) (omega arith) ∙ ap draw_of (sym (twelve_more i x))

pub reached_steps : (n x : ℕ) → reached_by n x ≡ steps_of (12 * n) x
unfolding reached_by steps_of
reached_steps zero x = refl
reached_steps (suc n) x = reached_steps n (steps_of 12 x) ∙ sym (twelve_more n x)
