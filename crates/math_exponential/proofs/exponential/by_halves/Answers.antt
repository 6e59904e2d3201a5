-- `math_exponential::by_halves` meets its contract: twice p is exact, and half of what it is cut to, one more in size, is the nearest whole number (`nearest_is`, `from_above`, `from_below` of Nearest). Assumes nothing.
use Rattle.std.proofs.Common.{◌≡◌, ◌≤◌, T, ℤ, pos, ◌+ℤ◌, ◌-ℤ◌, sym, ap, ◌∙◌, subst, arith, w32, w64, SFits, to_z, of_z}
use lib.Signed.{mag, quot_z}
use lib.Ieee.{Float, binary64, fits}
use mir.ValLaws.{to_z-of_z}
use Rattle.math_exponential.proofs.Nearest.{doubled_in_range, doubled_cut, signed, sgn, halves, halves_le, signed_mag, nearest_is, from_above, from_below}
use Rattle.math_elementary.proofs.Ints.{half_mag, mag_add, mag_sub1}
use Rattle.math_exponential.proofs.exponential.by_halves.Goals as goal

held : (c : goal.Start) → T (fits binary64 c.args.p)
held c = subst T (sym c.well_formed.0.1) tt

module _ (c : goal.After-truncating_f64_to_i64-q) where
  abbrev p : Float
  p = c.args.p

  -- twice p, cut
  abbrev q : ℤ
  q = signed (sgn p) (halves p)

  q_mag : mag q ≤ 4096
  q_mag = omega (arith, signed_mag (sgn p) (halves p), halves_le p c.requires)

  long : to_z w64 (of_z w64 c.truncating_f64_to_i64-q.result) ≡ q
  long =
      ap (λ (z : ℤ). to_z w64 (of_z w64 z)) (c.truncating_f64_to_i64-q.ensures ∙ doubled_cut p (held c.before) c.requires)
      ∙ to_z-of_z w64 q (record { sfits = omega (arith, q_mag) })

  short : to_z w32 (of_z w32 q) ≡ q
  short = to_z-of_z w32 q (record { sfits = omega (arith, q_mag) })

  more_fits : SFits w32 (q +ℤ pos 1)
  more_fits = record { sfits = omega (arith, mag_add q 1, q_mag) }

  less_fits : SFits w32 (q -ℤ pos 1)
  less_fits = record { sfits = omega (arith, mag_sub1 q, q_mag) }

  more_half_fits : SFits w32 (quot_z (q +ℤ pos 1) (pos 2))
  more_half_fits = record { sfits = omega (arith, half_mag (q +ℤ pos 1) 5000 (omega (arith, mag_add q 1, q_mag))) }

  less_half_fits : SFits w32 (quot_z (q -ℤ pos 1) (pos 2))
  less_half_fits = record { sfits = omega (arith, half_mag (q -ℤ pos 1) 5000 (omega (arith, mag_sub1 q, q_mag))) }

pub truncating_f64_to_i64-q-requires : goal.truncating_f64_to_i64-q-requires
truncating_f64_to_i64-q-requires c = let h = doubled_in_range c.args.p (held c) c.requires in record { lower_bound = h.0; upper_bound = h.1 }

pub overflow_cast-q : goal.overflow_cast-q
overflow_cast-q c = rw (long c) (record { sfits = omega (arith, q_mag c) })

pub overflow_add-result : goal.overflow_add-result
overflow_add-result c = simp (long c.before, short c.before) (more_fits c.before)

pub nonzero_div-result : goal.nonzero_div-result
nonzero_div-result c = (omega arith, simp (long c.before, short c.before, to_z-of_z w32 _ (more_fits c.before)) (more_half_fits c.before))

pub overflow_sub-result : goal.overflow_sub-result
overflow_sub-result c = simp (long c.before, short c.before) (less_fits c.before)

pub nonzero_div-result-else-q-ge0 : goal.nonzero_div-result-else-q-ge0
nonzero_div-result-else-q-ge0 c = (omega arith, simp (long c.before, short c.before, to_z-of_z w32 _ (less_fits c.before)) (less_half_fits c.before))

pub returns-then-q-ge0 : goal.returns-then-q-ge0
returns-then-q-ge0 c =
    let b = c.before in
    simp (long b, short b, to_z-of_z w32 _ (more_fits b), to_z-of_z w32 _ (more_half_fits b))
    (from_above (sgn (p b)) (halves (p b)) (simp (long b, short b) at c.if-q-ge0.true) ∙ sym (nearest_is (p b) b.before.requires))

pub returns-else-q-ge0 : goal.returns-else-q-ge0
returns-else-q-ge0 c =
    let b = c.before in
    simp (long b, short b, to_z-of_z w32 _ (less_fits b), to_z-of_z w32 _ (less_half_fits b))
    (from_below (sgn (p b)) (halves (p b)) (simp (long b, short b) at c.if-q-ge0.false) ∙ sym (nearest_is (p b) b.before.requires))
