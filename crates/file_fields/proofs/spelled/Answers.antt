-- `file_fields::spelled` meets its contract: no lane overflows into the next. Assumes nothing.
use mathlib.Core.Path.{refl}
use Prim.Native.Nat.{ℕ, ◌+◌, ◌/◌}
use native.Mathlib.Omega.{arith}
use lib.Bits.{and_le_r}
use Rattle.file_fields.proofs.Spelling.{halves_of, bytes_in, digits_in, spelled_is}
use Rattle.file_fields.proofs.spelled.Goals as goal

abbrev halves : goal.Start → ℕ
halves c = halves_of c.args.x

abbrev bytes : goal.Start → ℕ
bytes c = bytes_in (halves c)

abbrev digits : goal.Start → ℕ
digits c = digits_in (bytes c)

pub overflow_mul-halves : goal.overflow_mul-halves
overflow_mul-halves c = omega (arith, and_le_r c.args.x 0xffff)

pub overflow_add-halves : goal.overflow_add-halves
overflow_add-halves c = omega (arith, and_le_r c.args.x 0xffff, and_le_r (c.args.x / 0x1_0000) 0xffff)

pub overflow_mul-bytes : goal.overflow_mul-bytes
overflow_mul-bytes c = omega (arith, and_le_r (halves c) 0x0000_00ff_0000_00ff)

pub overflow_add-bytes : goal.overflow_add-bytes
overflow_add-bytes c = omega (arith, and_le_r (halves c) 0x0000_00ff_0000_00ff, and_le_r (halves c / 0x100) 0x0000_00ff_0000_00ff)

pub overflow_mul-digits : goal.overflow_mul-digits
overflow_mul-digits c = omega (arith, and_le_r (bytes c) 0x000f_000f_000f_000f)

pub overflow_add-digits : goal.overflow_add-digits
overflow_add-digits c = omega (arith, and_le_r (bytes c) 0x000f_000f_000f_000f, and_le_r (bytes c / 0x10) 0x000f_000f_000f_000f)

pub overflow_add-letters : goal.overflow_add-letters
overflow_add-letters c = omega (arith, and_le_r (bytes c) 0x000f_000f_000f_000f, and_le_r (bytes c / 0x10) 0x000f_000f_000f_000f)

pub overflow_add-result : goal.overflow_add-result
overflow_add-result c = omega (arith, and_le_r (bytes c) 0x000f_000f_000f_000f, and_le_r (bytes c / 0x10) 0x000f_000f_000f_000f)

pub overflow_mul-result : goal.overflow_mul-result
overflow_mul-result c = omega (arith, and_le_r ((digits c + 0x0606_0606_0606_0606) / 0x10) 0x0101_0101_0101_0101)

pub overflow_add-result-2 : goal.overflow_add-result-2
overflow_add-result-2 c =
    omega (arith, and_le_r (bytes c) 0x000f_000f_000f_000f, and_le_r (bytes c / 0x10) 0x000f_000f_000f_000f, and_le_r ((digits c + 0x0606_0606_0606_0606) / 0x10) 0x0101_0101_0101_0101)

pub returns : goal.returns
returns c = spelled_is c.args.x (halves c) (bytes c) (digits c) (omega (arith, c.ranges.x.fits)) refl refl refl
