-- `math_exponential::nearest_whole` meets its contract: between the two tests by what Rounding shows of the sum, else by `by_halves`. Each i32 is read back from its bits. Assumes nothing.
use Rattle.std.proofs.Common.{◌≡◌, ℕ, ◌-◌, ℤ, pos, ◌-ℤ◌, sym, ap, ◌∙◌, subst, arith, w32, SFits, to_z, of_z}
use lib.Ieee.{Float, binary64, add, neg, of_int, of_bits, to_bits}
use mir.ValLaws.{to_z-of_z}
use Rattle.math_exponential.specs.Exp.{nearest_whole}
use Rattle.math_exponential.proofs.Nearest.{nearest_mag}
use Rattle.math_exponential.proofs.Rounding.{rounder, found, sum_real, bits_from, bits_to, bits_show, found_mag, less_is, found_is}
use Rattle.math_exponential.proofs.exponential.nearest_whole.Goals as goal

-- within the two tests
module _ (c : goal.Then-d-2) where
  abbrev p : Float
  p = c.args.p

  found_nearest : found p c.requires ≡ nearest_whole p
  unfolding neg of_bits
  found_nearest = found_is p c.requires c.if-d.true c.if-d-2.true

  -- k and 2048
  abbrev up : ℕ
  up = to_bits binary64 (add binary64 p rounder) - 4843621399236966400

  up_fits : SFits w32 (pos up)
  up_fits = record { sfits = omega (arith, bits_to p c.requires) }

  k_is : to_z w32 up -ℤ pos 2048 ≡ found p c.requires
  k_is = ap (λ (z : ℤ). z -ℤ pos 2048) (to_z-of_z w32 (pos up) up_fits) ∙ bits_show p c.requires

  k_fits : SFits w32 (found p c.requires)
  k_fits = record { sfits = omega (arith, found_mag p c.requires) }

pub float_to_bits-up : goal.float_to_bits-up
float_to_bits-up c = sum_real (p c) c.requires

pub overflow_sub-up : goal.overflow_sub-up
overflow_sub-up c = bits_from (p c) c.requires

pub overflow_cast-result : goal.overflow_cast-result
overflow_cast-result c = up_fits c

pub overflow_sub-result : goal.overflow_sub-result
overflow_sub-result c = subst (λ (z : ℤ). SFits w32 z) (sym (k_is c)) (k_fits c)

pub returns-then-d-2 : goal.returns-then-d-2
returns-then-d-2 c = (
  less_is (p c) c.requires ∙ ap (λ (z : ℤ). of_int binary64 z) (found_nearest c),
  ap (λ (z : ℤ). to_z w32 (of_z w32 z)) (k_is c) ∙ to_z-of_z w32 _ (k_fits c) ∙ found_nearest c,
)

pub returns-else-d : goal.returns-else-d
returns-else-d c =
    let k : to_z w32 (of_z w32 c.by_halves-k.result) ≡ nearest_whole c.args.p =
    ap (λ (z : ℤ). to_z w32 (of_z w32 z)) c.by_halves-k.ensures ∙ to_z-of_z w32 (nearest_whole c.args.p) (record { sfits = omega (arith, nearest_mag c.args.p c.requires) }) in
    (ap (λ (z : ℤ). of_int binary64 z) k, k)
