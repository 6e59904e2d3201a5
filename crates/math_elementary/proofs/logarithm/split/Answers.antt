-- `math_elementary::split` meets its contract: by what `widen` gives, below 1.5 and from there up (`low_split`, `high_split` of Splits), each i32 read back from its bits. Assumes nothing.
use mathlib.Core.Path.{◌≡◌, sym, subst}
use native.Mathlib.Omega.{arith}
use Prim.Native.Nat.{ℕ, ◌<◌}
use lib.Dec.{T}
use lib.IntN.{pos, ◌-ℤ◌}
use lib.Ieee.{binary64, fits}
use mir.Syntax.{w32}
use mir.Val.{SFits, to_z}
use mir.ValLaws.{to_z-of_z}
use Rattle.math_elementary.proofs.Ints.{mag_less}
use Rattle.math_elementary.proofs.Splits.{low_split, high_split, pattern_no_nan}
use Rattle.math_elementary.proofs.logarithm.split.Goals as goal
use Rattle.math_elementary.proofs.logarithm.split.Goals.{then-full-lt-ONE_AND_A_HALF, else-full-lt-ONE_AND_A_HALF}

-- the number of digits, as the machine keeps it, less a number of at most four digits
less_fits : (d : ℕ) → d < 5000 → (k : ℕ) → k < 5000 → SFits w32 (pos d -ℤ pos k)
less_fits d g k h = record { sfits = omega (arith, g, h, mag_less d k) }

d_fits : (d : ℕ) → d < 5000 → SFits w32 (pos d)
d_fits d g = record { sfits = omega (arith, g) }

d_is : (d : ℕ) → d < 5000 → to_z w32 d ≡ pos d
d_is d g = to_z-of_z w32 (pos d) (d_fits d g)

pub widen-w-requires : goal.widen-w-requires
widen-w-requires c = c.requires

pub overflow_cast-size : goal.overflow_cast-size
overflow_cast-size c = d_fits _ c.widen-w.ensures.1

pub overflow_add-result : goal.overflow_add-result
overflow_add-result c = omega (arith, c.widen-w.ensures.0.below)

pub float_from_bits-result : goal.float_from_bits-result
float_from_bits-result c = let w = c.widen-w.ensures.0 in pattern_no_nan c.widen-w.result.full 1022 w.from w.below (omega arith)

pub overflow_sub-result : goal.overflow_sub-result
overflow_sub-result c = rw (d_is _ c.widen-w.ensures.1) (less_fits _ c.widen-w.ensures.1 1075 (omega arith))

pub overflow_add-result-else-full-lt-ONE_AND_A_HALF : goal.overflow_add-result-else-full-lt-ONE_AND_A_HALF
overflow_add-result-else-full-lt-ONE_AND_A_HALF c = omega (arith, c.widen-w.ensures.0.below)

pub float_from_bits-result-else-full-lt-ONE_AND_A_HALF : goal.float_from_bits-result-else-full-lt-ONE_AND_A_HALF
float_from_bits-result-else-full-lt-ONE_AND_A_HALF c = let w = c.widen-w.ensures.0 in pattern_no_nan c.widen-w.result.full 1021 w.from w.below (omega arith)

pub overflow_sub-result-else-full-lt-ONE_AND_A_HALF : goal.overflow_sub-result-else-full-lt-ONE_AND_A_HALF
overflow_sub-result-else-full-lt-ONE_AND_A_HALF c = rw (d_is _ c.widen-w.ensures.1) (less_fits _ c.widen-w.ensures.1 1074 (omega arith))

pub returns : goal.returns
returns c =
    let W = c.widen-w.ensures in
    let held : T (fits binary64 c.args.x) = subst T (sym c.well_formed.0.1) tt in
    elim c.if-full-lt-ONE_AND_A_HALF.branch [
      | then-full-lt-ONE_AND_A_HALF w ↦
          let s = low_split c.args.x c.widen-w.result.full c.widen-w.result.size held c.requires W.0 w.if-full-lt-ONE_AND_A_HALF.true in
          rw w.result-is (s.0, simp (d_is _ W.1, to_z-of_z w32 _ (less_fits _ W.1 1075 (omega arith))) s.1)
      | else-full-lt-ONE_AND_A_HALF w ↦
          let s = high_split c.args.x c.widen-w.result.full c.widen-w.result.size held c.requires W.0 w.if-full-lt-ONE_AND_A_HALF.false in
          rw w.result-is (s.0, simp (d_is _ W.1, to_z-of_z w32 _ (less_fits _ W.1 1074 (omega arith))) s.1)
    ]
