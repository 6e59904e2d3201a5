-- `math_elementary::odd_series` meets its contract: what is left of the series, from t on, is the whole series. Assumes nothing.
use mathlib.Core.Path.{◌≡◌}
use lib.Ieee.{binary64, of_bits}
use Rattle.math_elementary.specs.Ln.{odd_series_of}
use Rattle.math_elementary.proofs.logarithm.odd_series.Given as goal

abbrev pub invariant-loop-k : goal.invariant-loop-k
invariant-loop-k l = odd_series_of l.z l.k l.t ≡ odd_series_of l.z 13 (of_bits binary64 0)
