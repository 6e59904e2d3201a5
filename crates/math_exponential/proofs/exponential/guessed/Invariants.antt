-- `math_exponential::guessed` meets its contract: a guess that is the sum is a turn of the series, as in `series`. Assumes nothing.
use Rattle.std.proofs.Common.{◌≡◌}
use Rattle.ieee.specs.Numbers.{one}
use Rattle.math_exponential.specs.Exp.{series_of}
use Rattle.math_exponential.proofs.exponential.guessed.Given as goal

abbrev pub invariant-loop-k : goal.invariant-loop-k
invariant-loop-k l = series_of l.x 1 l.k l.p ≡ series_of l.x 1 13 one
