-- Both normal functions lie between 0 and 1, and are NaN only at NaN.
use Rattle.ieee.specs.Decimal.{decimal}
use mathlib.Core.Path.{◌≡◌, refl, sym, ap, ◌∙◌, subst}
use mathlib.Core.Bool.{Bool, true, false, not, cond}
use Prim.Native.Nat.{ℕ, zero, suc, ◌+◌, ◌*◌, ◌/◌, ◌<◌, ◌≤◌}
use native.Mathlib.Omega.{arith}
use native.Mathlib.Nat.{mul-one, add-zero, zero-mul}
use borrow.Author.Tests.{le-ltb}
use lib.Dec.{T, lit≤}
use lib.IntN.{pos, negsuc, neg_ℤ}
use lib.Ieee.{Float, nan, inf, fin, binary64, up, down, round, add, sub, mul, div, neg, le, lt, fits, is_nan, of_int, of_bits}
use lib.Ieee.Fits.{mul-fits}
use lib.Ieee.Positive.{num, den}
use Rattle.ieee.specs.Numbers as Numbers
use Rattle.ieee.specs.Numbers.{half, one}
use Rattle.math_elementary.specs.Constants.{log2e, ln2hi, ln2lo, exp_top, exp_bottom}
use Rattle.math_exponential.specs.Exp.{exp_of, exp_within, nearest_whole, reduced_of, series_of, scale_of}
use Rattle.math_exponential.proofs.Range.{round_neg}
use Rattle.math_hart.specs.Polynomials.{hart_of}
use Rattle.math_normal.specs.NormCdf.{tail_of, upper_of, norm_by, limit, threshold}
use Rattle.math_normal.specs.Between.{Probability}
use Rattle.math_normal.proofs.NonNeg.{nn, Below, cross→le, le→cross, mul_below}
use Rattle.math_normal.proofs.Hart.{below_self}
use Rattle.math_normal.proofs.Self.{round_self}
use Rattle.math_normal.proofs.Sizes.{Upto, upto_below, one_less}
use Rattle.math_normal.proofs.Powers.{reach, mid, unit, mul_neg, series_below, series_neg, scale_below, scale_zero}
use Rattle.math_normal.proofs.Quotient.{Sound, hart_unit, eight, below_trans, below_nought}
use Rattle.math_normal.proofs.Tails.{lt_no, lt_yes, seven, top, tail_unit}
use Rattle.math_normal.proofs.Reduce.{K, N0, D0, t_below, K-small, low_K, up_K, reduced_size}

nearest_neg : (t : Float) → T (nn t) → nearest_whole (neg t) ≡ neg_ℤ (pos ((2 * num t + den t) / (2 * den t)))
unfolding nearest_whole neg
nearest_neg nan p = absurd p
nearest_neg (inf s) p = absurd p
nearest_neg (fin true m e) p = absurd p
nearest_neg (fin false m e) p = refl

-- ---- nothing to reduce
added : (Y : Float) → T (nn Y) → add binary64 (neg Y) (fin true 0 (pos 0)) ≡ neg (round binary64 false (num Y) (den Y))
unfolding add neg
added nan p = absurd p
added (inf s) p = absurd p
added (fin true m e) p = absurd p
added (fin false m e) p = rw (mul-one (m * up e), zero-mul (down e), add-zero (m * up e), mul-one (down e)) (round_neg binary64 (m * up e) (down e))

sub_zero : (Y : Float) → T (nn Y) → T (fits binary64 Y) → sub binary64 (neg Y) (fin false 0 (pos 0)) ≡ neg Y
unfolding sub neg
sub_zero Y p f = added Y p ∙ ap neg (round_self Y f p)

zero_parts : (mul binary64 (of_int binary64 (pos 0)) ln2hi ≡ fin false 0 (pos 0)) × (mul binary64 (of_int binary64 (pos 0)) ln2lo ≡ fin false 0 (pos 0))
unfolding mul of_int of_bits decimal
zero_parts = (refl, refl)

reduced_zero : (Y : Float) → T (nn Y) → T (fits binary64 Y) → reduced_of (neg Y) (pos 0) ≡ neg Y
reduced_zero Y p f = rw (zero_parts.0, zero_parts.1, sub_zero Y p f, sub_zero Y p f)

one_start : Below one mid
unfolding of_bits decimal le
one_start = record { is = tt; le = tt }

log_nn : T (nn log2e)
unfolding of_bits decimal
log_nn = tt

-- ---- the exponential of a number from -685 to 0
module _ (Y : Float) (n_y : T (nn Y)) (f_y : T (fits binary64 Y)) (most : num Y ≤ 685 * den Y) where
  k_is : nearest_whole (mul binary64 (neg Y) log2e) ≡ neg_ℤ (pos (K Y n_y most))
  k_is = ap nearest_whole (mul_neg Y log2e n_y log_nn) ∙ nearest_neg (mul binary64 Y log2e) (t_below Y n_y most).is

  by_K : (k : ℕ) → K Y n_y most ≡ k → Below (scale_of (series_of (reduced_of (neg Y) (neg_ℤ (pos k))) 1 13 one) (neg_ℤ (pos k))) unit
  by_K zero e =
      let u : 4 * N0 Y n_y most < (4 * 0 + 3) * D0 Y n_y most = rw e at (up_K Y n_y most) in
      let r : Upto reach Y = upto_below reach Y tt (record { is = n_y; le = cross→le Y reach n_y tt (small (num Y) (den Y) u) }) in
      scale_zero (series_of (reduced_of (neg Y) (pos 0)) 1 13 one) (rw (reduced_zero Y n_y f_y) (series_neg Y 12 one (lit≤ tt) n_y r one_start))
    where
      small : (y d : ℕ) → 4 * (y * 3248660424278399) < 3 * (d * 2251799813685248) → y * 16 ≤ 9 * d
      small y d h = omega arith
  by_K (suc j) e =
      scale_below (series_of (reduced_of (neg Y) (negsuc j)) 1 13 one) j
      (series_below (reduced_of (neg Y) (negsuc j)) 12 one (lit≤ tt) (reduced_size j (omega (arith, K-small Y n_y most)) Y n_y (low_K Y n_y most j e) (rw e at (up_K Y n_y most))) one_start)

  within : Below (exp_within (neg Y)) unit
  within = rw k_is (by_K (K Y n_y most) refl)

not_nan : (Y : Float) → T (nn Y) → is_nan (neg Y) ≡ false
unfolding is_nan neg
not_nan nan p = absurd p
not_nan (inf s) p = absurd p
not_nan (fin true m e) p = absurd p
not_nan (fin false m e) p = refl

not_over : (Y : Float) → T (nn Y) → lt exp_top (neg Y) ≡ false
unfolding lt neg decimal
not_over nan p = absurd p
not_over (inf s) p = absurd p
not_over (fin true m e) p = absurd p
not_over (fin false m e) p = refl

not_under : (Y : Float) → T (nn Y) → num Y ≤ 685 * den Y → lt (neg Y) exp_bottom ≡ false
unfolding lt neg decimal
not_under nan p h = absurd p
not_under (inf s) p h = absurd p
not_under (fin true m e) p h = absurd p
not_under (fin false m e) p h = le-ltb (746 * down e) (m * up e * 1) (omega arith)

pub exp_unit : (Y : Float) → T (nn Y) → T (fits binary64 Y) → num Y ≤ 685 * den Y → Below (exp_of (neg Y)) unit
unfolding exp_of
exp_unit Y p f h = rw (not_nan Y p, not_over Y p, not_under Y p h) (within Y p f h)

-- ---- half the square of a number up to 37
square : mul binary64 (mul binary64 top top) half ≡ fin false 1369 (negsuc 0)
unfolding mul of_bits decimal
square = refl

square_nn : T (nn (mul binary64 top top)) × T (nn half)
unfolding mul of_bits decimal
square_nn = (tt, tt)

module _ (z : Float) (nz : T (nn z)) (hi : T (le z top)) where
  abbrev Y : Float
  Y = mul binary64 (mul binary64 z z) half

  bz : Below z top
  bz = record { is = nz; le = hi }

  zz : Below (mul binary64 z z) (mul binary64 top top)
  zz = mul_below binary64 z top z top tt tt bz bz square_nn.0

  Y-below : Below Y (fin false 1369 (negsuc 0))
  Y-below = subst (λ (x : Float). Below Y x) square (mul_below binary64 (mul binary64 z z) (mul binary64 top top) half half square_nn.0 square_nn.1 zz (below_self half square_nn.1) (subst (λ (x : Float). T (nn x)) (sym square) tt))

  Y-most : num Y ≤ 685 * den Y
  Y-most = let c : num Y * 2 ≤ 1369 * den Y = le→cross Y (fin false 1369 (negsuc 0)) Y-below.is tt Y-below.le in omega arith

  pub power_unit : Below (exp_of (mul binary64 (mul binary64 (neg z) z) half)) unit
  power_unit = rw (mul_neg z z nz nz, mul_neg (mul binary64 z z) half zz.is square_nn.1) (exp_unit Y Y-below.is (mul-fits binary64 (mul binary64 z z) half) Y-most)

-- ---- what lies above |x|
limit_is : limit ≡ top
unfolding of_bits decimal
limit_is = refl

threshold_facts : T (nn threshold) × T (le threshold eight) × T (le seven threshold)
unfolding of_bits decimal le
threshold_facts = (tt, tt, tt)

zero_unit : Below Numbers.zero unit
unfolding le of_bits
zero_unit = record { is = tt; le = tt }

less_unit : (c : Float) → Below c unit → Below (sub binary64 one c) unit
unfolding sub of_bits decimal
less_unit c h = one_less c h.is (upto_below unit c tt h)

at_inf : (step : Float → Float → Float → Float) (s : Bool) → Below (norm_by step (inf s)) unit
unfolding norm_by lt sub of_bits decimal le
at_inf step true = record { is = tt; le = tt }
at_inf step false = record { is = tt; le = tt }

at_least_zero : (x : Float) → T (nn x) → T (le Numbers.zero x)
unfolding of_bits
at_least_zero x p = (below_nought x p).le

module _ (step : Float → Float → Float → Float) (sound : Sound step) where
  pub upper_unit : (z : Float) → T (nn z) → Below (upper_of step z) unit
  unfolding upper_of
  upper_unit z p = go (lt limit z) (lt z threshold) refl refl
    where
      go : (a b : Bool) → lt limit z ≡ a → lt z threshold ≡ b → Below (cond a Numbers.zero (cond b (hart_of step z (exp_of (mul binary64 (mul binary64 (neg z) z) half))) (tail_of z (exp_of (mul binary64 (mul binary64 (neg z) z) half))))) unit
      go true b h k = zero_unit
      go false true h k =
          let hi : T (le z top) = lt_no top z tt p (rw limit_is at h) in
          let s : Below z eight = below_trans z threshold eight threshold_facts.0 tt (record { is = p; le = lt_yes z threshold p threshold_facts.0 k }) threshold_facts.1 in
          hart_unit step sound z p s.le _ (power_unit z p hi)
      go false false h k =
          let hi : T (le z top) = lt_no top z tt p (rw limit_is at h) in
          let s : Below seven z = below_trans seven threshold z threshold_facts.0 p (record { is = tt; le = threshold_facts.2 }) (lt_no z threshold p threshold_facts.0 k) in
          tail_unit z p s.le hi _ (power_unit z p hi)

  either : (b : Bool) (c : Float) → Below c unit → Below (cond b (sub binary64 one c) c) unit
  either true c h = less_unit c h
  either false c h = h

  pub norm_unit : (x : Float) → T (not (is_nan x)) → Below (norm_by step x) unit
  unfolding norm_by is_nan
  norm_unit nan h = absurd h
  norm_unit (inf s) h = at_inf step s
  norm_unit (fin s m e) h = either (lt Numbers.zero (fin s m e)) (upper_of step (fin false m e)) (upper_unit (fin false m e) tt)

  pub norm_nan : norm_by step nan ≡ nan
  unfolding norm_by lt exp_of is_nan neg mul add div of_bits decimal
  norm_nan = refl

  pub norm_within : (x : Float) → Probability x (norm_by step x)
  unfolding of_bits
  norm_within x = record { between = λ h. let b = norm_unit x h in (at_least_zero (norm_by step x) b.is, b.le); at_nan = λ e. rw e norm_nan }
