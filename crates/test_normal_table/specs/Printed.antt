-- The printed tables: the cumulative table of Wikipedia, https://en.wikipedia.org/wiki/Standard_normal_table#Cumulative,
-- as 15 of its rows stand in CPython's tests (test/test_statistics.py, test_cdf), with 5 decimals; and the percentage
-- points of http://people.bath.ac.uk/masss/tables/normaltable.pdf, as they stand there too
-- (test_inv_cdf), with 3 decimals. tools/test_normal_table/make writes this file.
use Rattle.std.specs.Prelude.{ℕ, List, [], ◌∷◌}

-- the arguments of the cumulative table, in hundredths
abbrev pub cumulative_at : List ℕ
cumulative_at = 0 ∷ 1 ∷ 2 ∷ 14 ∷ 29 ∷ 33 ∷ 54 ∷ 60 ∷ 117 ∷ 160 ∷ 205 ∷ 289 ∷ 352 ∷ 398 ∷ 407 ∷ []

-- and its values, in units of 10^-5
abbrev pub cumulative : List ℕ
cumulative = 50_000 ∷ 50_399 ∷ 50_798 ∷ 55_567 ∷ 61_409 ∷ 62_930 ∷ 70_540 ∷ 72_575 ∷ 87_900 ∷ 94_520 ∷ 97_982 ∷ 99_807 ∷ 99_978 ∷ 99_997 ∷ 99_998 ∷ []

-- the percentage points, in thousandths
abbrev pub point : List ℕ
point = 0 ∷ 1_645 ∷ 2_576 ∷ 3_291 ∷ 3_891 ∷ 4_417 ∷ 4_892 ∷ 5_327 ∷ 5_731 ∷ 6_109 ∷ 674 ∷ 1_960 ∷ 2_807 ∷ 3_481 ∷ 4_056 ∷ 4_565 ∷ 5_026 ∷ 5_451 ∷ 5_847 ∷ 6_219 ∷ 1_282 ∷ 2_326 ∷ 3_090 ∷ 3_719 ∷ 4_265 ∷ 4_753 ∷ 5_199 ∷ 5_612 ∷ 5_998 ∷ 6_361 ∷ []

-- and what lies below each, 1 less its percentage, in units of 10^-11
abbrev pub point_of : List ℕ
point_of = 50_000_000_000 ∷ 95_000_000_000 ∷ 99_500_000_000 ∷ 99_950_000_000 ∷ 99_995_000_000 ∷ 99_999_500_000 ∷ 99_999_950_000 ∷ 99_999_995_000 ∷ 99_999_999_500 ∷ 99_999_999_950 ∷ 75_000_000_000 ∷ 97_500_000_000 ∷ 99_750_000_000 ∷ 99_975_000_000 ∷ 99_997_500_000 ∷ 99_999_750_000 ∷ 99_999_975_000 ∷ 99_999_997_500 ∷ 99_999_999_750 ∷ 99_999_999_975 ∷ 90_000_000_000 ∷ 99_000_000_000 ∷ 99_900_000_000 ∷ 99_990_000_000 ∷ 99_999_000_000 ∷ 99_999_900_000 ∷ 99_999_990_000 ∷ 99_999_999_000 ∷ 99_999_999_900 ∷ 99_999_999_990 ∷ []
