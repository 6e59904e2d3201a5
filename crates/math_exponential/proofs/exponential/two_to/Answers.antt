-- `math_exponential::two_to` meets its contract: the pattern with the field a + 1023 and no digits is 2 ^ a (`two_bits` of Powers). Assumes nothing.
use Rattle.std.proofs.Common.{◌≡◌, pos, ◌+ℤ◌, arith, w32, SFits, to_z, of_z}
use mir.ValLaws.{to_z-of_z}
use Rattle.math_elementary.proofs.Ints.{bias, biased, bias_lt}
use Rattle.math_exponential.proofs.Powers.{two_bits, two_no_nan}
use Rattle.math_exponential.proofs.exponential.two_to.Goals as goal

-- the sum as the machine has it, in words of w32
field : (c : goal.Start) → to_z w32 (of_z w32 c.args.a) +ℤ pos 1023 ≡ pos (bias c.args.a)
field c = rw (to_z-of_z w32 c.args.a c.ranges.a) (biased c.args.a c.requires)

small : (c : goal.Start) → SFits w32 (pos (bias c.args.a))
small c = record { sfits = omega (arith, bias_lt c.args.a c.requires) }

pub overflow_add-field : goal.overflow_add-field
overflow_add-field c = rw (field c) (small c)

pub overflow_cast-field : goal.overflow_cast-field
overflow_cast-field c = rw (field c, to_z-of_z w32 (pos (bias c.args.a)) (small c)) (tt, record { fits = omega (arith, bias_lt c.args.a c.requires) })

pub overflow_mul-result : goal.overflow_mul-result
overflow_mul-result c = rw (field c, to_z-of_z w32 (pos (bias c.args.a)) (small c)) (record { fits = omega (arith, bias_lt c.args.a c.requires) })

pub float_from_bits-result : goal.float_from_bits-result
float_from_bits-result c = rw (field c, to_z-of_z w32 (pos (bias c.args.a)) (small c)) (two_no_nan (bias c.args.a) (bias_lt c.args.a c.requires))

pub returns : goal.returns
returns c = rw (field c, to_z-of_z w32 (pos (bias c.args.a)) (small c)) (two_bits c.args.a c.requires)
