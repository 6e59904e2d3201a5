-- `math_exponential::Reduced::scale` meets its contract: both exponents are in the range of `two_to`, and each i32 is read back from its bits. Assumes nothing.
use Rattle.std.proofs.Common.{◌≡◌, ◌<◌, ℤ, pos, ◌-ℤ◌, arith, w32, SFits, to_z, of_z}
use lib.Signed.{mag, quot_z}
use mir.ValLaws.{to_z-of_z}
use Rattle.math_elementary.proofs.Ints.{half_mag, rest_mag}
use Rattle.math_exponential.proofs.exponential.Reduced.scale.Goals as goal

-- k, its half and the rest, as the machine reads them back from their bits
module _ (k : ℤ) (small : mag k < 2000) where
  a_fits : SFits w32 (quot_z k (pos 2))
  a_fits = record { sfits = omega (arith, half_mag k 2000 small) }

  b_fits : SFits w32 (k -ℤ quot_z k (pos 2))
  b_fits = record { sfits = omega (arith, rest_mag k 2000 small) }

  whole : to_z w32 (of_z w32 k) ≡ k
  whole = to_z-of_z w32 k (record { sfits = omega (arith, small) })

  half : to_z w32 (of_z w32 (quot_z k (pos 2))) ≡ quot_z k (pos 2)
  half = to_z-of_z w32 (quot_z k (pos 2)) a_fits

  rest : to_z w32 (of_z w32 (k -ℤ quot_z k (pos 2))) ≡ k -ℤ quot_z k (pos 2)
  rest = to_z-of_z w32 (k -ℤ quot_z k (pos 2)) b_fits

pub nonzero_div-a : goal.nonzero_div-a
nonzero_div-a c = (omega arith, rw (whole c.args.self.k c.args.self.small) (a_fits c.args.self.k c.args.self.small))

pub overflow_sub-b : goal.overflow_sub-b
overflow_sub-b c = simp (whole c.args.self.k c.args.self.small, half c.args.self.k c.args.self.small) (b_fits c.args.self.k c.args.self.small)

pub two_to-requires : goal.two_to-requires
two_to-requires c =
    simp (whole c.args.self.k c.args.self.small, half c.args.self.k c.args.self.small, rest c.args.self.k c.args.self.small)
    (omega (arith, half_mag c.args.self.k 2000 c.args.self.small, rest_mag c.args.self.k 2000 c.args.self.small))

pub two_to-requires-2 : goal.two_to-requires-2
two_to-requires-2 c =
    simp (whole c.args.self.k c.args.self.small, half c.args.self.k c.args.self.small, rest c.args.self.k c.args.self.small)
    (omega (arith, half_mag c.args.self.k 2000 c.args.self.small, rest_mag c.args.self.k 2000 c.args.self.small))

pub returns : goal.returns
returns c =
    rw (c.two_to.ensures, c.two_to-2.ensures, whole c.args.self.k c.args.self.small, half c.args.self.k c.args.self.small, rest c.args.self.k c.args.self.small)
