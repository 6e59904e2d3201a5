-- Within the limits of exp: the definition is its series, and k is so small that it is read back from its bits. Assumes nothing.
use Rattle.std.proofs.Common.{◌≡◌, ◌≤◌, Bool, true, false, not, ◌&&◌, T, ℤ, sym, refl, ap, ◌∙◌, subst, arith, w32, to_z, of_z}
use mathlib.Core.Bool.{false≢true}
use lib.Signed.{mag}
use mir.ValLaws.{to_z-of_z}
use lib.Ieee.{Float, nan, inf, fin, binary64, mul, lt, le, is_nan, of_bits}
use Rattle.ieee.specs.Numbers.{one}
use Rattle.math_elementary.specs.Constants.{log2e, exp_top, exp_bottom}
use Rattle.math_exponential.specs.Exp.{moderate, nearest_whole, k_of, reduced_of, series_of, scale_of, exp_within, exp_of, within_limits}
use Rattle.std.proofs.lemmas.Float.{lt_irrefl, le_of_not-lt, lt_of_le_of_lt}
use Rattle.math_elementary.proofs.Floats.{nan_test}
use Rattle.math_elementary.proofs.Literals.{log2e_is, exp_top_is, exp_bottom_is}
use Rattle.math_exponential.proofs.Nearest.{nearest_mag}
use Rattle.math_exponential.proofs.Range.{exp_moderate}

-- a test that is not met by a number, and the test the other way
turned : (x y : Float) → T (not (is_nan x)) → T (not (is_nan y)) → le y x ≡ not (lt x y)
turned x y p q = go (lt x y) (le y x) refl refl
  where
    go : (a b : Bool) → lt x y ≡ a → le y x ≡ b → b ≡ not a
    go true true e f = absurd (lt_irrefl y (lt_of_le_of_lt y x y (subst T (sym f) tt) (subst T (sym e) tt)))
    go true false e f = refl
    go false true e f = refl
    go false false e f = absurd (subst T f (le_of_not-lt x y p q (subst (λ (b : Bool). T (not b)) (sym e) tt)))

turned_both : (x : Float) → T (not (is_nan x)) → le (of_bits binary64 0xc087_5000_0000_0000) x && le x (of_bits binary64 0x4086_3000_0000_0000) ≡ not (lt exp_top x) && not (lt x exp_bottom)
unfolding is_nan of_bits
turned_both x p = rw (← exp_top_is, ← exp_bottom_is, turned x (of_bits binary64 0xc087_5000_0000_0000) p tt, turned (of_bits binary64 0x4086_3000_0000_0000) x tt p) (both (lt (of_bits binary64 0x4086_3000_0000_0000) x) (lt x (of_bits binary64 0xc087_5000_0000_0000)))
  where
    both : (a b : Bool) → not b && not a ≡ not a && not b
    both true true = refl
    both true false = refl
    both false true = refl
    both false false = refl

-- the code's two tests
pub limits_is : (x : Float) → le (of_bits binary64 0xc087_5000_0000_0000) x && le x (of_bits binary64 0x4086_3000_0000_0000) ≡ within_limits x
unfolding is_nan lt le of_bits
limits_is nan = refl
limits_is (inf s) = turned_both (inf s) tt
limits_is (fin s m e) = turned_both (fin s m e) tt

-- outside the limits, neither above nor below them: a NaN
pub outside : (x : Float) → within_limits x ≡ false → lt exp_top x ≡ false → lt x exp_bottom ≡ false → is_nan x ≡ true
outside x w t b = go (is_nan x) (rw (t, b) at w)
  where
    go : (a : Bool) → not a && not false && not false ≡ false → a ≡ true
    go true h = refl
    go false h = absurd (false≢true (sym h))

none : (a b c : Bool) → not a && not b && not c ≡ true → (a ≡ false) × (b ≡ false) × (c ≡ false)
none true b c h = absurd (false≢true h)
none false true c h = absurd (false≢true h)
none false false true h = absurd (false≢true h)
none false false false h = (refl, refl, refl)

module _ (x : Float) (w : within_limits x ≡ true) where
  tests : (is_nan x ≡ false) × (lt exp_top x ≡ false) × (lt x exp_bottom ≡ false)
  tests = none (is_nan x) (lt exp_top x) (lt x exp_bottom) w

  pub by_series : exp_of x ≡ exp_within x
  unfolding exp_of
  by_series = rw (tests.0, tests.1, tests.2)

  pub within_moderate : T (moderate (mul binary64 x log2e))
  within_moderate = exp_moderate x (nan_test x ∙ tests.0) (rw exp_top_is tests.1) (rw exp_bottom_is tests.2)

  pub k_small : mag (k_of x) ≤ 1200
  k_small = nearest_mag _ within_moderate

  -- k, as the machine reads it back from its bits
  pub k_back : (z : ℤ) → z ≡ nearest_whole (mul binary64 x (of_bits binary64 0x3ff7_1547_652b_82fe)) → to_z w32 (of_z w32 z) ≡ k_of x
  k_back z e = ap (λ (y : ℤ). to_z w32 (of_z w32 y)) (rw log2e_is at e) ∙ to_z-of_z w32 (k_of x) (record { sfits = omega (arith, k_small) })

  -- exp from its parts: `reduce`, the series, `scale`
  pub from_parts : (r p z : Float) (k : ℤ) → r ≡ reduced_of x (k_of x) → k ≡ k_of x → p ≡ series_of r 1 13 one → z ≡ scale_of p k → z ≡ exp_of x
  from_parts r p z k r_is k_is p-is z-is =
      z-is
      ∙ ap (λ (q : Float). scale_of q k) (p-is ∙ ap (λ (y : Float). series_of y 1 13 one) r_is)
      ∙ ap (λ (j : ℤ). scale_of (series_of (reduced_of x (k_of x)) 1 13 one) j) k_is
      ∙ sym by_series
