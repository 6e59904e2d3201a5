-- `math_exponential::series_two` meets its contract: of each series, what is left, from p or q on, is the whole, as in `series`. Assumes nothing.
use Rattle.std.proofs.Common.{◌≡◌}
use Rattle.ieee.specs.Numbers.{one}
use Rattle.math_exponential.specs.Exp.{series_of}
use Rattle.math_exponential.proofs.exponential.series_two.Given as goal

abbrev pub invariant-loop-k : goal.invariant-loop-k
invariant-loop-k l = (series_of l.x 1 l.k l.p ≡ series_of l.x 1 13 one) × (series_of l.y 1 l.k l.q ≡ series_of l.y 1 13 one)
