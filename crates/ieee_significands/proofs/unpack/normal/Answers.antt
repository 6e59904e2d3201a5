-- `ieee_significands::unpack::normal` meets its contract. The leading digit is moved to the place 60. Assumes nothing.
use mathlib.Core.Path.{refl}
use Prim.Native.Nat.{◌≤◌, ◌<◌}
use native.Mathlib.Omega.{arith}
use lib.Count.{count_leading_zeros}
use Rattle.ieee_significands.proofs.Unpacking.{zeros_range, normal_value, normal_of_lem, normal_pos}
use Rattle.ieee_words.proofs.Words.{zeros_fit}
use Rattle.ieee_significands.proofs.unpack.normal.Goals as goal

-- a significand of at most 53 digits has at least 11 leading zeros
range : (c : goal.Start) → (11 ≤ count_leading_zeros 64 c.args.sig) × (count_leading_zeros 64 c.args.sig < 64)
range c = zeros_range c.args.sig c.requires.1 c.requires.2

pub overflow_cast-up : goal.overflow_cast-up
overflow_cast-up c = zeros_fit c.args.sig

pub overflow_sub-up : goal.overflow_sub-up
overflow_sub-up c = let r = range c in omega arith

pub overflow_shl-result : goal.overflow_shl-result
overflow_shl-result c = let r = range c in omega arith

pub overflow_sub-result : goal.overflow_sub-result
overflow_sub-result c = let r = range c in omega arith

pub invariant_of-result : goal.invariant_of-result
invariant_of-result c = record { normal = normal_of_lem c.args.sig c.requires.1 c.requires.2 c.args.exp c.requires.0 }

pub returns : goal.returns
returns c =
    let n = c.args.sig in
    let e = c.args.exp in
    let g = c.requires.1 in
    let h = c.requires.2 in
    (refl, normal_value n g h e c.requires.0, normal_pos n g h)
