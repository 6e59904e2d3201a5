-- `math_normal::tail` meets its contract: what is left of the continued fraction, from b on, is the whole. Assumes nothing.
use Rattle.std.proofs.Common.{◌≡◌, drop}
use Rattle.ieee.specs.Rounded.{◌⊕◌}
use Rattle.math_normal.specs.NormCdf.{tail_start}
use Rattle.math_normal.proofs.Fraction.{continued}
use Rattle.math_normal.proofs.normal.tail.Given as goal

abbrev pub invariant-loop-n : goal.invariant-loop-n
invariant-loop-n l = continued l.z l.b (drop l.n-index l.n-items) ≡ continued l.z (l.z ⊕ tail_start) l.n-items
