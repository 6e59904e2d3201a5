-- A step along the records of a part: over the kinds of its jobs, and over a column that is written to a lent list.
use mathlib.Core.Path.{◌≡◌}
use mathlib.Core.Bool.{Bool, true, false, ◌&&◌}
use mathlib.Core.List.{List, ◌++◌, append-nil}
use Prim.Native.Nat.{ℕ, suc, ◌+◌, ◌*◌, ◌-◌, ◌<◌, ◌≤◌}
use native.Mathlib.Numerals.{add-one}
use native.Mathlib.Omega.{arith}
use lib.ListN.{length, take, set}
use lib.Seq.{append_snoc, take_all, take-suc-set}
use lib.Ieee.{Float}
use Rattle.file_layout.specs.Bytes.{eight_bytes, float_at}
use Rattle.file_layout.specs.Layout.{known, all_known}
use Rattle.file_layout.specs.Request.{floats_from}

-- ---- the kinds of the n jobs from place `at` on: those from job i on have known ones
module _ (file : List ℕ) (at n : ℕ) where
  abbrev pub known_from : ℕ → Bool
  known_from i = all_known file (at + 40 * i) (n - i)

  step : (i : ℕ) → i < n → known_from i ≡ known (eight_bytes file (at + 40 * i)) && known_from (i + 1)
  unfolding all_known
  step i h =
      let z : n - i ≡ suc (n - (i + 1)) = omega arith in
      let y : at + 40 * (i + 1) ≡ at + 40 * i + 40 = omega arith in
      rw (z, y)

  pub known_on : (i kind : ℕ) → i < n → kind ≡ eight_bytes file (at + 40 * i) → true ≡ known kind → known_from (i + 1) ≡ known_from i
  known_on i kind h p e = rw (step i h, ← p, ← e)

  pub known_not : (i kind : ℕ) → i < n → kind ≡ eight_bytes file (at + 40 * i) → false ≡ known kind → false ≡ known_from i
  known_not i kind h p e = rw (step i h, ← p, ← e)

  pub known_end : (i : ℕ) → n ≤ i → true ≡ known_from i
  unfolding all_known
  known_end i h = let z : n - i ≡ 0 = omega arith in rw z

-- ---- a column of n floats: the first i are written into `out`, and behind them stand those of the records left
module _ (file : List ℕ) (width field from n : ℕ) where
  abbrev pub so_far : ℕ → List Float → List Float
  so_far i out = take i out ++ floats_from file width field (from + width * i) (n - i)

  pub turn : (i : ℕ) (out : List Float) (v : Float) → length out ≡ n → i < n → v ≡ float_at file (from + width * i + 8 * field) → so_far (i + 1) (set out i v) ≡ so_far i out
  unfolding floats_from
  turn i out v e h q =
      let z : n - i ≡ suc (n - (i + 1)) = omega arith in
      let y : from + width * (i + 1) ≡ from + width * i + width = omega arith in
      let k : i < length out = omega arith in
      rw (z, ← q, y, add-one, take-suc-set, append_snoc)

  pub end : (i : ℕ) (out : List Float) → length out ≡ n → n ≤ i → so_far i out ≡ out
  unfolding floats_from
  end i out e h =
      let z : n - i ≡ 0 = omega arith in
      let k : length out ≤ i = omega arith in
      rw (z, append-nil) (take_all i out k)
