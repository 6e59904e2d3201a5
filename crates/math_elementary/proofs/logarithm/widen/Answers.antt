-- `math_elementary::widen` meets its contract: a pattern's digits, with the leading one or shifted to full width, and their number (`widen_few`, `widen_many` of Digits53). Assumes nothing.
use mathlib.Core.Path.{sym, subst}
use Prim.Native.Nat.{◌%◌}
use native.Mathlib.Omega.{arith}
use lib.Dec.{T}
use lib.Count.{leading_le}
use lib.Ieee.{binary64, fits, to_bits}
use lib.Ieee.Bits.{to_bits-lt}
use Rattle.math_elementary.proofs.Digits53.{widen_few, widen_many, positive_no_nan}
use Rattle.math_elementary.proofs.logarithm.widen.Goals as goal

held : (c : goal.Start) → T (fits binary64 c.args.x)
held c = subst T (sym c.well_formed.0.1) tt

pub float_to_bits-b : goal.float_to_bits-b
float_to_bits-b c = positive_no_nan c.args.x c.requires

pub overflow_sub-result : goal.overflow_sub-result
overflow_sub-result c = (widen_few c.before.args.x (held c.before) c.before.requires c.if-field-eq0.true).0

pub overflow_cast-result : goal.overflow_cast-result
overflow_cast-result c = omega (arith, leading_le 64 (to_bits binary64 c.before.args.x % 4503599627370496))

pub overflow_shl-result : goal.overflow_shl-result
overflow_shl-result c = omega (arith, leading_le 64 (to_bits binary64 c.before.args.x % 4503599627370496))

pub overflow_sub-result-then-field-eq0 : goal.overflow_sub-result-then-field-eq0
overflow_sub-result-then-field-eq0 c = leading_le 64 (to_bits binary64 c.before.args.x % 4503599627370496)

pub overflow_add-result-else-field-eq0 : goal.overflow_add-result-else-field-eq0
overflow_add-result-else-field-eq0 c = omega (arith, to_bits-lt binary64 c.before.args.x (held c.before))

pub returns-then-field-eq0 : goal.returns-then-field-eq0
returns-then-field-eq0 c = ((widen_few c.before.args.x (held c.before) c.before.requires c.if-field-eq0.true).1, omega arith)

pub returns-else-field-eq0 : goal.returns-else-field-eq0
returns-else-field-eq0 c = (widen_many c.before.args.x (held c.before) c.before.requires c.if-field-eq0.false, omega (arith, to_bits-lt binary64 c.before.args.x (held c.before)))
