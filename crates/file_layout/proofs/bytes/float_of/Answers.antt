-- `file_layout::bytes::float_of` meets its contract: the pattern of a NaN is above that of an infinity. Assumes nothing.
use mathlib.Core.Path.{◌≡◌, sym, ◌∙◌, subst}
use mathlib.Core.Bool.{Bool, true, not, true≢false}
use Prim.Native.Nat.{ℕ, ◌%◌, ◌^◌, ◌<◌}
use borrow.Author.Tests.{le-ltb, lt-ltb}
use lib.Dec.{T}
use lib.Ieee.{Float, nan, inf, fin, binary64, is_nan, of_bits, div}
use lib.Ieee.Bits.{nan_bits_above, nan_bits_is}
use Rattle.file_layout.proofs.bytes.float_of.Goals as goal

-- a float that is a NaN is the NaN
only_nan : (x : Float) → is_nan x ≡ true → nan ≡ x
unfolding is_nan
only_nan nan e = cc
only_nan (inf s) e = absurd (true≢false (sym e))
only_nan (fin s m x) e = absurd (true≢false (sym e))

above_is_nan : (b : ℕ) → 0x7ff0_0000_0000_0000 < b % 2 ^ 63 → nan ≡ of_bits binary64 b
above_is_nan b h = only_nan _ (sym (nan_bits_is binary64 b) ∙ nan_bits_above binary64 b ∙ lt-ltb 0x7ff0_0000_0000_0000 (b % 2 ^ 63) h)

pub float_from_bits-result : goal.float_from_bits-result
float_from_bits-result c =
    let b = c.args.b in
    subst (λ (t : Bool). T (not t)) (sym (nan_bits_above binary64 b ∙ le-ltb 0x7ff0_0000_0000_0000 (b % 2 ^ 63) c.if-is_number.true)) tt

pub returns-else-is_number : goal.returns-else-is_number
unfolding div of_bits
returns-else-is_number c = above_is_nan c.args.b c.if-is_number.false
