-- `math_exponential::reduce` meets its contract: k is so small that it is read back from its bits, and what is left of x is worked in the definition's order. Assumes nothing.
use Rattle.std.proofs.Common.{◌≡◌, ap, arith}
use lib.Ieee.{Float, binary64, of_int}
use Rattle.ieee.specs.Rounded.{◌⊖◌, ◌⊗◌}
use Rattle.math_elementary.specs.Constants.{ln2hi, ln2lo}
use Rattle.math_exponential.specs.Exp.{k_of}
use Rattle.math_elementary.proofs.Literals.{log2e_is, ln2hi_is, ln2lo_is}
use Rattle.math_exponential.proofs.Limits.{within_moderate, k_small, k_back}
use Rattle.math_exponential.proofs.exponential.reduce.Goals as goal

pub nearest_whole-w-requires : goal.nearest_whole-w-requires
nearest_whole-w-requires c = rw log2e_is (within_moderate c.args.x c.requires)

pub invariant_of-result : goal.invariant_of-result
invariant_of-result c = rw (k_back c.args.x c.requires _ c.nearest_whole-w.ensures.1) (omega (arith, k_small c.args.x c.requires))

pub returns : goal.returns
returns c =
    let x = c.args.x in
    let w = c.nearest_whole-w.ensures in
    let n : c.nearest_whole-w.result.n ≡ of_int binary64 (k_of x) = rw log2e_is at w.0 in
    (rw (ln2hi_is, ln2lo_is) (ap (λ (y : Float). (x ⊖ y ⊗ ln2hi) ⊖ y ⊗ ln2lo) n), k_back x c.requires _ w.1)
