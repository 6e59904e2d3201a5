-- How records are counted: each by its function's number, and those that do not agree besides.
use Rattle.std.specs.Prelude.{Bool, cond, List, ℕ, zero, suc, ◌+◌, min, ltb, Some, None}
use Rattle.std.specs.Option.{option_or}
use Rattle.file_layout.specs.Bytes.{eight_bytes}
use Rattle.test_vectors.specs.declared.tally.Count.{Count}
use Rattle.test_vectors.specs.declared.tally.Line.{Line}
use Rattle.test_vectors.specs.Match.{agrees_of}

-- one more, up to the greatest number of 64 bits
abbrev pub one_more : ℕ → ℕ
one_more n = min (n + 1) 0xffff_ffff_ffff_ffff

-- the place of a function's number; 0 is for numbers that no function has
abbrev pub slot_of : ℕ → ℕ
slot_of n = cond (ltb n 15) n 0

-- one record more, by whether it agrees
abbrev pub counted : Bool → Count → Count
counted agrees c = record { seen = one_more c.seen; differ = cond agrees c.differ (one_more c.differ) }

-- the same on a function's line, with where the first that differs stands
abbrev pub noted : Bool → ℕ → Line → Line
noted agrees at l = record { count = counted agrees l.count; first = cond agrees l.first (option_or l.first (Some at)) }

-- a line before any record
abbrev pub no_line : Line
no_line = record { count = record { seen = 0; differ = 0 }; first = None }

-- the record that starts at index `at` of s agrees
abbrev pub agreement_at : List ℕ → ℕ → Bool
agreement_at s at = agrees_of (eight_bytes s at) (eight_bytes s (at + 8)) (eight_bytes s (at + 16)) (eight_bytes s (at + 24)) (eight_bytes s (at + 32))

-- n, and the k records from index `at` of s on: all of them, and those that differ
unfoldable pub records_from : ℕ → ℕ → ℕ
records_from zero n = n
records_from (suc k) n = records_from k (one_more n)

unfoldable pub differing_from : List ℕ → ℕ → ℕ → ℕ → ℕ
differing_from s at zero n = n
differing_from s at (suc k) n = differing_from s (at + 40) k (cond (agreement_at s at) n (one_more n))
