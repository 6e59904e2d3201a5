-- `math_exponential::series` meets its contract: what is left of the series, from p on, is the whole series. Assumes nothing.
use Rattle.std.proofs.Common.{◌≡◌}
use Rattle.ieee.specs.Numbers.{one}
use Rattle.math_exponential.specs.Exp.{series_of}
use Rattle.math_exponential.proofs.exponential.series.Given as goal

abbrev pub invariant-loop-k : goal.invariant-loop-k
invariant-loop-k l = series_of l.x l.last l.k l.p ≡ series_of l.x l.last l.turns one
