-- Facts of single floats: finiteness, sign, magnitude.
use mathlib.Core.Path.{◌≡◌, refl, sym, ◌∙◌}
use mathlib.Core.Bool.{true, false, not, ◌&&◌, true≢false, false≢true}
use Prim.Native.Nat.{zero, suc, ◌*◌, ◌^◌, ◌<◌}
use native.Mathlib.Omega.{arith}
use native.Mathlib.Nat.{pow-suc}
use borrow.Author.Tests.{eq-eqb}
use lib.Pow.{pow_pos}
use lib.Dec.{T}
use lib.IntN.{ℤ, pos, negsuc}
use lib.Ieee.{Float, nan, inf, fin, binary64, up, down, neg, lt, ne, is_nan, of_bits}
use lib.Ieee.Scale.{finite}
use Rattle.std.specs.Float.{float_with_sign, float_signum}
use Rattle.math_elementary.specs.Simple.{abs_of, signum_of}

-- ---- is_finite
pub finite_is : (x : Float) → lt x (of_bits binary64 0x7ff0_0000_0000_0000) && lt (of_bits binary64 0xfff0_0000_0000_0000) x ≡ finite x
unfolding lt of_bits
finite_is nan = refl
finite_is (inf true) = refl
finite_is (inf false) = refl
finite_is (fin s m e) = refl

-- ---- abs
pub abs_is : (x : Float) → float_with_sign false x ≡ abs_of x
unfolding float_with_sign
abs_is nan = refl
abs_is (inf s) = refl
abs_is (fin s m e) = refl

-- a zero is written in one way
pub zero_exp : (e : ℤ) → up e * down e ≡ 1 → e ≡ pos 0
zero_exp (pos zero) h = refl
zero_exp (pos (suc k)) h = absurd (let p : 0 < 2 ^ k = pow_pos k in let q : 2 ^ suc k ≡ 2 ^ k * 2 = pow-suc 2 k in let z : ⊥ = omega arith in z)
zero_exp (negsuc k) h = absurd (let p : 0 < 2 ^ k = pow_pos k in let q : 2 ^ suc k ≡ 2 ^ k * 2 = pow-suc 2 k in let z : ⊥ = omega arith in z)

-- ---- signum
pub signum_is : (x : Float) → float_signum x ≡ signum_of x
unfolding float_signum neg of_bits
signum_is nan = refl
signum_is (inf true) = refl
signum_is (inf false) = refl
signum_is (fin true m e) = refl
signum_is (fin false m e) = refl

-- ---- NaN
pub not_nan : (x : Float) → ne x x ≡ false → T (not (is_nan x))
unfolding ne is_nan
not_nan nan h = absurd (true≢false h)
not_nan (inf s) h = tt
not_nan (fin s m e) h = tt

-- a program tests for a NaN by x != x
pub nan_test : (x : Float) → ne x x ≡ is_nan x
unfolding ne is_nan
nan_test nan = refl
nan_test (inf true) = refl
nan_test (inf false) = refl
nan_test (fin true m e) = rw (eq-eqb (m * up e * down e) (m * up e * down e) refl)
nan_test (fin false m e) = rw (eq-eqb (m * up e * down e) (m * up e * down e) refl)

pub nan_yes : (x : Float) → ne x x ≡ true → is_nan x ≡ true
nan_yes x h = sym (nan_test x) ∙ h

pub nan_no : (x : Float) → ne x x ≡ false → is_nan x ≡ false
nan_no x h = sym (nan_test x) ∙ h

pub is_nan_lem : (x : Float) → is_nan x ≡ true → x ≡ nan
unfolding is_nan
is_nan_lem nan h = refl
is_nan_lem (inf s) h = absurd (false≢true h)
is_nan_lem (fin s m e) h = absurd (false≢true h)

-- ---- max, min: what is less than something, or above it, is no NaN
pub above_nan : (a b : Float) → lt a b ≡ true → is_nan b ≡ false
unfolding lt is_nan
above_nan nan nan h = absurd (false≢true h)
above_nan (inf s) nan h = absurd (false≢true h)
above_nan (fin s m e) nan h = absurd (false≢true h)
above_nan a (inf t) h = refl
above_nan a (fin t n d) h = refl

pub under_nan : (a b : Float) → lt b a ≡ true → is_nan b ≡ false
unfolding lt is_nan
under_nan a nan h = absurd (false≢true h)
under_nan a (inf t) h = refl
under_nan a (fin t n d) h = refl
