-- Document 01, "Near a limit": "bond volatility 1e-12 is intrinsic; |alpha| 1e-12 uses the exponential weight", at the value itself and at the f64 beside it. (37.0 and 7.071067811865475: `Limits` of probability.)
use Rattle.std.specs.Prelude.{◌≡◌, refl, true, false, Float}
use Rattle.std.specs.Float.{binary64}
use Rattle.std.specs.Float.Ieee.{neg, lt, le, of_bits}
use Rattle.ieee.specs.Rounded.{◌⊖◌, ◌⊗◌, ◌⊘◌}
use Rattle.ieee.specs.Decimal.{decimal}
use Rattle.ieee.specs.Numbers.{two}
use Rattle.math_elementary.specs.Simple.{abs_of}
use Rattle.math_exponential.specs.Exp.{exp_of, exp_m1_of}
use Rattle.hullwhite_parameters.specs.Variance.{weight_of}
use Rattle.pricer_formulas.specs.declared.bond_option.SwaptionType.{SwaptionType}
use Rattle.pricer_formulas.specs.BondOption.{intrinsic_of, floored_at_zero_of, moving_of, pricer_bond_option_of}

-- 1e-12, and the f64s beside it
abbrev pub at_limit : Float
at_limit = decimal 1 12

abbrev pub above_limit : Float
above_limit = of_bits binary64 0x3d71_9799_812d_ea12

abbrev pub below_limit : Float
below_limit = of_bits binary64 0x3d71_9799_812d_ea10

pub limit_between : at_limit ≡ of_bits binary64 0x3d71_9799_812d_ea11
unfolding decimal of_bits
limit_between = refl

-- ---- bond volatility
still_at : le at_limit at_limit ≡ true
unfolding le decimal
still_at = refl

moves_above : le above_limit at_limit ≡ false
unfolding le decimal of_bits
moves_above = refl

pub intrinsic_at_limit : (option : SwaptionType) (strike option_df bond_df : Float) → pricer_bond_option_of option at_limit strike option_df bond_df ≡ floored_at_zero_of (intrinsic_of option (strike ⊗ option_df) bond_df)
unfolding pricer_bond_option_of
intrinsic_at_limit option strike option_df bond_df = rw still_at refl

pub moving_above_limit : (option : SwaptionType) (strike option_df bond_df : Float) → pricer_bond_option_of option above_limit strike option_df bond_df ≡ moving_of option above_limit (strike ⊗ option_df) bond_df
unfolding pricer_bond_option_of
moving_above_limit option strike option_df bond_df = rw moves_above refl

-- ---- alpha, of either sign
abbrev exponential_weight : Float → Float → Float → Float → Float
exponential_weight alpha end lower upper = exp_of (neg two ⊗ alpha ⊗ (end ⊖ upper)) ⊗ neg (exp_m1_of (neg two ⊗ alpha ⊗ (upper ⊖ lower))) ⊘ (two ⊗ alpha)

weight_at : (alpha end lower upper : Float) → lt (abs_of alpha) at_limit ≡ false → weight_of alpha end lower upper ≡ exponential_weight alpha end lower upper
unfolding weight_of
weight_at alpha end lower upper h = rw h refl

weight_below : (alpha end lower upper : Float) → lt (abs_of alpha) at_limit ≡ true → weight_of alpha end lower upper ≡ upper ⊖ lower
unfolding weight_of
weight_below alpha end lower upper h = rw h refl

sized_at : (lt (abs_of at_limit) at_limit ≡ false) × (lt (abs_of (neg at_limit)) at_limit ≡ false)
unfolding lt neg decimal
sized_at = (refl, refl)

sized_below : (lt (abs_of below_limit) at_limit ≡ true) × (lt (abs_of (neg below_limit)) at_limit ≡ true)
unfolding lt neg decimal of_bits
sized_below = (refl, refl)

pub exponential_at_limit : (end lower upper : Float) → (weight_of at_limit end lower upper ≡ exponential_weight at_limit end lower upper) × (weight_of (neg at_limit) end lower upper ≡ exponential_weight (neg at_limit) end lower upper)
exponential_at_limit end lower upper = (weight_at at_limit end lower upper sized_at.0, weight_at (neg at_limit) end lower upper sized_at.1)

pub flat_below_limit : (end lower upper : Float) → (weight_of below_limit end lower upper ≡ upper ⊖ lower) × (weight_of (neg below_limit) end lower upper ≡ upper ⊖ lower)
flat_below_limit end lower upper = (weight_below below_limit end lower upper sized_below.0, weight_below (neg below_limit) end lower upper sized_below.1)
