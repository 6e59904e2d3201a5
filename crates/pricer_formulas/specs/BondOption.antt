-- `bond_option`: the option on one coupon's bond; "bond volatility 1e-12 is intrinsic". A payer takes puts, a receiver calls, both by the DualFwd normal function.
use Rattle.std.specs.Prelude.{cond, Float}
use Rattle.std.specs.Float.Ieee.{neg, lt, le}
use Rattle.ieee.specs.Rounded.{◌⊕◌, ◌⊖◌, ◌⊗◌, ◌⊘◌}
use Rattle.ieee.specs.Decimal.{decimal}
use Rattle.ieee.specs.Numbers.{zero, half}
use Rattle.math_elementary.specs.Ln.{ln_of}
use Rattle.math_normal.specs.NormCdf.{norm_cdf_dual_of}
use Rattle.pricer_formulas.specs.declared.bond_option.SwaptionType.{SwaptionType}
use Rattle.pricer_formulas.specs.declared.bond_option.SwaptionType.TheVariants.{Payer, Receiver}

-- 1e-12
abbrev pub still : Float
still = decimal 1 12

abbrev pub intrinsic_of : SwaptionType → Float → Float → Float
intrinsic_of Payer strike_value bond_df = strike_value ⊖ bond_df
intrinsic_of Receiver strike_value bond_df = bond_df ⊖ strike_value

abbrev pub floored_at_zero_of : Float → Float
floored_at_zero_of value = cond (lt zero value) value zero

-- d1 = (ln(bond/strike) + v × v × 0.5)/v; d2 = d1 - v
unfoldable pub pricer_d1_of : Float → Float → Float → Float
pricer_d1_of v strike_value bond_df = (ln_of (bond_df ⊘ strike_value) ⊕ v ⊗ v ⊗ half) ⊘ v

abbrev pub pricer_option_of : SwaptionType → Float → Float → Float → Float → Float
pricer_option_of Payer d1 d2 strike_value bond_df = strike_value ⊗ norm_cdf_dual_of (neg d2) ⊖ bond_df ⊗ norm_cdf_dual_of (neg d1)
pricer_option_of Receiver d1 d2 strike_value bond_df = bond_df ⊗ norm_cdf_dual_of d1 ⊖ strike_value ⊗ norm_cdf_dual_of d2

unfoldable pub moving_of : SwaptionType → Float → Float → Float → Float
moving_of option v strike_value bond_df = let d1 = pricer_d1_of v strike_value bond_df in pricer_option_of option d1 (d1 ⊖ v) strike_value bond_df

unfoldable pub pricer_bond_option_of : SwaptionType → Float → Float → Float → Float → Float
pricer_bond_option_of option v strike option_df bond_df =
    let strike_value = strike ⊗ option_df in
    cond (le v still) (floored_at_zero_of (intrinsic_of option strike_value bond_df)) (moving_of option v strike_value bond_df)
