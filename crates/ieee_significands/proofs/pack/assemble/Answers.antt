-- `ieee_significands::pack::assemble` meets its contract. The pattern is that of what `units` gives, so it is read back as that. Assumes nothing.
use mathlib.Core.Path.{◌≡◌, sym, subst}
use mathlib.Core.Bool.{Bool, false, not}
use Prim.Native.Nat.{ℕ, ◌+◌, ◌^◌, ◌≤◌, ◌<◌}
use native.Mathlib.Omega.{arith}
use lib.Dec.{T}
use lib.Ieee.{binary64, units, to_bits}
use mir.Syntax.{w64}
use mir.Val.{Fits}
use Rattle.ieee_significands.proofs.Packing.{magnitude_lt, with_sign, sign_le, pattern_no_nan, pattern_is}
use Rattle.ieee_significands.proofs.pack.assemble.Goals as goal

over : {m b : ℕ} → m < 2 ^ 63 → b ≤ 2 ^ 63 → Fits w64 (m + b)
over {m} {b} h k = omega arith

no : {b : Bool} → b ≡ false → T (not b)
no h = subst (λ (a : Bool). T (not a)) (sym h) tt

-- the pattern, of the magnitude and the sign
abbrev pattern : goal.After-sign_bit → ℕ
pattern c = c.before.magnitude.result + c.sign_bit.result

pattern_of_lem : (c : goal.After-sign_bit) → pattern c ≡ to_bits binary64 (units binary64 c.before.before.args.sign c.before.before.args.q c.before.before.args.k)
pattern_of_lem c =
    let s = c.before.before in
    with_sign s.args.sign s.args.q s.args.k c.before.magnitude.result c.sign_bit.result s.requires c.before.magnitude.ensures c.sign_bit.ensures

pub overflow_add-result : goal.overflow_add-result
overflow_add-result c =
    let s = c.before.before in
    over (magnitude_lt s.args.q s.args.k c.before.magnitude.result s.requires c.before.magnitude.ensures) (sign_le s.args.sign c.sign_bit.result c.sign_bit.ensures)

pub float_from_bits-result : goal.float_from_bits-result
float_from_bits-result c =
    let s = c.before.before in
    no (pattern_no_nan s.args.sign s.args.q s.args.k (pattern c) s.requires (pattern_of_lem c))

pub returns : goal.returns
returns c =
    let s = c.before.before in
    pattern_is s.args.sign s.args.q s.args.k (pattern c) s.requires (pattern_of_lem c)
