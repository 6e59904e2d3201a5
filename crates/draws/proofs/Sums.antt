-- The sum of the top halves over n steps: one step of it, and that it is below n × 2^32. Assumes nothing.
use mathlib.Core.Path.{◌≡◌, refl, subst}
use Prim.Native.Nat.{ℕ, zero, suc, ◌+◌, ◌*◌, ◌/◌, ◌^◌, ◌≤◌, ◌<◌}
use native.Mathlib.Omega.{arith}
use Rattle.draws.specs.Xorshift.{step_of, steps_of}
use Rattle.draws.specs.Draws.{sum_of}
use Rattle.draws.proofs.Steps.{step_fits}

pub top_below : (x : ℕ) → x < 2 ^ 64 → x / 2 ^ 32 < 2 ^ 32
top_below x b = omega (arith, b)

-- each is at most 2^32 - 1
pub sum_at_most : (n x : ℕ) → x < 2 ^ 64 → sum_of n x + n ≤ n * 2 ^ 32
unfolding sum_of
sum_at_most zero x b = omega arith
sum_at_most (suc n) x b =
    let y = step_of x in
    let top = top_below y (step_fits x b) in
    let rest = sum_at_most n y (step_fits x b) in
    omega (arith, top, rest)

pub sum_below : (x : ℕ) → x < 2 ^ 64 → sum_of 12 x < 12 * 2 ^ 32
sum_below x b = omega (arith, sum_at_most 12 x b)

-- ---- of a loop over twelve steps, some of them left: what is added and what is to be added come to the whole
pub record Summing (seed left sum state : ℕ) : Type 0 where
  pub within : left ≤ 12
  pub summed : sum + sum_of left state ≡ sum_of 12 seed
  pub stepped : steps_of left state ≡ steps_of 12 seed

pub start : (seed : ℕ) → Summing seed 12 0 seed
start seed = record { within = omega arith; summed = omega arith; stepped = refl }

module _ (seed sum state : ℕ) where
  -- what a turn adds is a part of the whole, which fits
  pub room : seed < 2 ^ 64 → (left next : ℕ) → Summing seed left sum state → 0 < left → next ≡ step_of state → sum + next / 2 ^ 32 < 2 ^ 64
  unfolding sum_of
  room fits zero next s h e = absurd (let z : ⊥ = omega arith in z)
  room fits (suc left) next s h e =
      let whole = sum_at_most 12 seed fits in
      let parts = s.summed in
      rw e (omega (arith, whole, parts))

  pub turn : (left rest next : ℕ) → Summing seed left sum state → left ≡ suc rest → next ≡ step_of state → Summing seed rest (sum + next / 2 ^ 32) next
  unfolding sum_of steps_of
  turn left rest next s h e = go (subst (λ (n : ℕ). Summing seed n sum state) h s)
    where
      go : Summing seed (suc rest) sum state → Summing seed rest (sum + next / 2 ^ 32) next
      go s = rw e (record {
        within = omega (arith, s.within);
        summed = omega (arith, s.summed);
        stepped = s.stepped;
      })

  pub end : seed < 2 ^ 64 → (left : ℕ) → Summing seed left sum state → left ≤ 0 → (sum ≡ sum_of 12 seed) × (state ≡ steps_of 12 seed) × (sum < 12 * 2 ^ 32)
  unfolding sum_of steps_of
  end fits zero s h =
      let whole : sum ≡ sum_of 12 seed = omega (arith, s.summed) in
      let below = sum_below seed fits in
      (whole, s.stepped, omega (arith, whole, below))
  end fits (suc left) s h = absurd (let z : ⊥ = omega arith in z)
