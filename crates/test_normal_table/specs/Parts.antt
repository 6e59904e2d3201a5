-- The rows of each part. The lists stand in Printed and Worked.
use Rattle.std.specs.Prelude.{ℕ, ◌%◌, Bool, cond, ◌==◌, slice_index}
use Rattle.test_normal_table.specs.declared.normal.Normal.{Normal}
use Rattle.test_normal_table.specs.declared.part.Part.{Part}
use Rattle.test_normal_table.specs.declared.part.Part.TheVariants.{Cumulative, Point, Fine, Coarse, FineWider, Wrong}
use Rattle.test_normal_table.specs.Meet.{met_of}
use Rattle.test_normal_table.specs.Printed.{cumulative_at, cumulative, point, point_of}
use Rattle.test_normal_table.specs.Worked.{fine_at, fine, coarse_at, coarse}

-- half a unit of the fifth decimal of the value
unfoldable pub cumulative_met : ℕ → Bool → Normal → Bool
cumulative_met i = met_of (slice_index cumulative_at i) 0 100 (slice_index cumulative i) 2 100_000

-- half a unit of the third decimal of the argument
unfoldable pub point_met : ℕ → Bool → Normal → Bool
point_met i = met_of (slice_index point i) 1 1000 (slice_index point_of i) 0 100_000_000_000

-- `spread` quarters of a unit of the fifteenth decimal
unfoldable pub fine_met : ℕ → ℕ → Bool → Normal → Bool
fine_met i spread = met_of (slice_index fine_at i) 0 100 (slice_index fine i) spread 1_000_000_000_000_000

-- half a unit of the tenth decimal
unfoldable pub coarse_met : ℕ → Bool → Normal → Bool
coarse_met i = met_of (slice_index coarse_at i) 0 100 (slice_index coarse i) 2 10_000_000_000

-- one too many in the last digit: the cumulative table at 1.60, the percentage point of 5%, mpmath's value at 1
unfoldable pub wrong_met : ℕ → Bool → Normal → Bool
wrong_met i negative normal =
    cond (i == 0) (met_of 160 0 100 94521 2 100_000 negative normal)
    (cond (i == 1) (met_of 1646 1 1000 95_000_000_000 0 100_000_000_000 negative normal)
    (met_of 100 0 100 841_344_746_068_544 3 1_000_000_000_000_000 negative normal))

-- by the part; its rows are counted round and round
unfoldable pub part_met : Part → Normal → ℕ → Bool → Bool
part_met Cumulative normal i negative = cumulative_met (i % 15) negative normal
part_met Point normal i negative = point_met (i % 30) negative normal
part_met Fine normal i negative = fine_met (i % 32) 2 negative normal
part_met Coarse normal i negative = coarse_met (i % 30) negative normal
part_met FineWider normal i negative = fine_met (i % 32) 3 negative normal
part_met Wrong normal i negative = wrong_met (i % 3) negative normal

-- how many rows a part has
abbrev pub rows_of : Part → ℕ
rows_of Cumulative = 15
rows_of Point = 30
rows_of Fine = 32
rows_of Coarse = 30
rows_of FineWider = 32
rows_of Wrong = 3
