-- How rows are counted: each at x and at -x. A row that is not met is counted as missed.
use Rattle.std.specs.Prelude.{ℕ, zero, suc, ◌+◌, min, Bool, true, false, cond}

-- one more, up to the greatest number of 64 bits
abbrev pub one_more : ℕ → ℕ
one_more n = min (n + 1) 0xffff_ffff_ffff_ffff

-- of the first k rows, how many are met, and how many not
unfoldable pub met_in : (ℕ → Bool → Bool) → ℕ → ℕ
met_in met zero = 0
met_in met (suc k) = let n = cond (met k false) (one_more (met_in met k)) (met_in met k) in cond (met k true) (one_more n) n

unfoldable pub missed_in : (ℕ → Bool → Bool) → ℕ → ℕ
missed_in met zero = 0
missed_in met (suc k) = let n = cond (met k false) (missed_in met k) (one_more (missed_in met k)) in cond (met k true) n (one_more n)
