-- Document 02, A.5: "A draw adds the top 32 bits of the state after each of twelve steps, takes away 6 × 2^32 and divides by 2^32, all exactly."
use Rattle.std.specs.Prelude.{true, false, cond, List, [], ◌∷◌, ℕ, zero, suc, ◌+◌, ◌-◌, ◌*◌, ◌/◌, ◌^◌, ◌≤◌, ◌<◌, ltb, eqb, Float, Ok}
use Rattle.std.specs.Float.{binary64}
use Rattle.std.specs.Float.Ieee.{round}
use Rattle.std.specs.Float.Ieee.Exact.{HasValue}
use Rattle.refusals.specs.declared.refusals.Refusal.TheVariants as R
use Rattle.refusals.specs.declared.refusals.Rule.{Rule}
use Rattle.refusals.specs.Refusals.{Outcome, rule, unless, following}
use Rattle.draws.specs.Xorshift.{step_of, steps_of}

-- "adds the top 32 bits of the state after each of" n "steps"
unfoldable pub sum_of : ℕ → ℕ → ℕ
sum_of zero x = 0
sum_of (suc n) x = step_of x / 2 ^ 32 + sum_of n (step_of x)

-- "takes away 6 × 2^32 and divides by 2^32": the f64 nearest to that number, below 0 or not; `Exactly` says that it is the number itself
unfoldable pub quotient_of : ℕ → Float
unfolding round
quotient_of sum = cond (ltb sum (6 * 2 ^ 32)) (round binary64 true (6 * 2 ^ 32 - sum) (2 ^ 32)) (round binary64 false (sum - 6 * 2 ^ 32) (2 ^ 32))

-- "all exactly": d is (sum - 6 × 2^32)/2^32 itself
pub record Exactly (d : Float) (sum : ℕ) : Type 0 where
  pub below : sum < 6 * 2 ^ 32 → HasValue d true (6 * 2 ^ 32 - sum) (2 ^ 32)
  pub from : 6 * 2 ^ 32 ≤ sum → HasValue d false (sum - 6 * 2 ^ 32) (2 ^ 32)

-- the draw from the state x
unfoldable pub draw_of : ℕ → Float
draw_of x = quotient_of (sum_of 12 x)

-- the first n draws from the state x, each from the state that the one before it has reached
unfoldable pub draws_of : ℕ → ℕ → List Float
draws_of zero x = []
draws_of (suc n) x = draw_of x ∷ draws_of n (steps_of 12 x)

-- the state that n draws reach
unfoldable pub reached_by : ℕ → ℕ → ℕ
reached_by zero x = x
reached_by (suc n) x = reached_by n (steps_of 12 x)

-- ---- the call

-- rule 1: there are as many draws as a grid may have times, at most; "A zero seed is refused as 14"
abbrev pub draw_rules : ℕ → ℕ → List Rule
draw_rules seed n = rule R.Size (ltb 1024 n) ∷ rule R.ZeroSeed (eqb seed 0) ∷ []

unfoldable pub draws_outcome : ℕ → ℕ → Outcome (List Float)
draws_outcome seed n = unless (draw_rules seed n) (Ok (draws_of n seed))

-- the state that is told beside what is served
abbrev pub reaching : Outcome (List Float) → ℕ → Outcome ℕ
reaching values state = following values (λ xs. Ok state)
