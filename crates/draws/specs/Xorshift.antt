-- Document 02, A.5: "The state is a nonzero u64; a step is Marsaglia's xorshift64, left 13, right 7, left 17."
use Rattle.std.specs.Prelude.{ℕ, zero, suc, ◌*◌, ◌/◌, ◌%◌, ◌^◌}
use Rattle.std.specs.Int.Bits.{bit_xor}

-- the exclusive or of x and x shifted by k places, to the left, where a u64 loses what goes beyond its 64, or to the right
unfoldable pub left_of : ℕ → ℕ → ℕ
left_of k x = bit_xor x ((x * 2 ^ k) % 2 ^ 64)

unfoldable pub right_of : ℕ → ℕ → ℕ
right_of k x = bit_xor x (x / 2 ^ k)

-- "left 13, right 7, left 17"
unfoldable pub step_of : ℕ → ℕ
step_of x = left_of 17 (right_of 7 (left_of 13 x))

-- the state after n steps
unfoldable pub steps_of : ℕ → ℕ → ℕ
steps_of zero x = x
steps_of (suc n) x = steps_of n (step_of x)
