-- Kinds 1 to 4 of document 01: caplets, floorlets, bond puts and bond calls, on a curve of times ts and factors fs.
use Rattle.std.specs.Prelude.{◌≡◌, List, Float}
use Rattle.ieee.specs.Rounded.{◌⊗◌}
use Rattle.refusals.specs.Refusals.{Outcome, unless, finishing}
use Rattle.curve.specs.Lookups.{factor_at, needing}
use Rattle.refusals.specs.Faults.{curve_faults}
use Rattle.hullwhite_formulas.specs.HullWhite.{zcb_price_volatility_of, bond_put_of, bond_call_of, optionlet_strike_of, optionlet_of, moneyness_of, bond_put_at, bond_call_at, bond_put_ahead, bond_call_ahead}
use Rattle.hullwhite_options.specs.declared.options.OptionType.{OptionType}
use Rattle.hullwhite_options.specs.declared.options.OptionType.TheVariants.{Put, Call}
use Rattle.hullwhite_options.specs.Rules.{option_rules}

-- a put or a call, from the bond's volatility, the strike, and the factors at t and T
abbrev pub bond_option_of : OptionType → Float → Float → Float → Float → Float
bond_option_of Put sigma_p strike pt p_t = bond_put_of sigma_p strike pt p_t
bond_option_of Call sigma_p strike pt p_t = bond_call_of sigma_p strike pt p_t

-- a bond option that rules 1 to 7 let through: the factors at t and T, then the formula
unfoldable pub bond_option_priced : OptionType → Float → List Float → List Float → Float → Float → Float → Float → Outcome Float
bond_option_priced option alpha ts fs t T strike sigma =
    needing (factor_at ts fs t) (λ pt.
    needing (factor_at ts fs T) (λ p_t.
    finishing (bond_option_of option (zcb_price_volatility_of alpha sigma t T) strike pt p_t)))

-- kinds 3 and 4: option time, bond time, strike, sigma
unfoldable pub bond_option_outcome : OptionType → Float → List Float → List Float → Float → Float → Float → Float → Outcome Float
bond_option_outcome option alpha ts fs t T strike sigma = unless (option_rules (curve_faults ts fs) alpha t T sigma strike) (bond_option_priced option alpha ts fs t T strike sigma)

-- a caplet from a bond put, a floorlet from a bond call
unfoldable pub optionlet_priced : OptionType → Float → List Float → List Float → Float → Float → Float → Float → Outcome Float
optionlet_priced option alpha ts fs strike t S sigma =
    needing (factor_at ts fs t) (λ pt.
    needing (factor_at ts fs S) (λ p_s.
    finishing (optionlet_of strike t S (bond_option_of option (zcb_price_volatility_of alpha sigma t S) (optionlet_strike_of strike t S) pt p_s))))

-- kinds 1 and 2: strike, start, end, sigma
unfoldable pub optionlet_outcome : OptionType → Float → List Float → List Float → Float → Float → Float → Float → Outcome Float
optionlet_outcome option alpha ts fs strike t S sigma = unless (option_rules (curve_faults ts fs) alpha t S sigma strike) (optionlet_priced option alpha ts fs strike t S sigma)

-- ---- worked ahead: a put or a call from the bond's volatility, its moneyness, what its strike is worth today, and its factor
unfoldable pub bond_option_at : OptionType → Float → Float → Float → Float → Float
bond_option_at Put sigma_p moneyness strike_value p_t = bond_put_at sigma_p moneyness strike_value p_t
bond_option_at Call sigma_p moneyness strike_value p_t = bond_call_at sigma_p moneyness strike_value p_t

pub bond_option_ahead : (option : OptionType) (sigma_p strike pt p_t : Float) → bond_option_at option sigma_p (moneyness_of p_t (strike ⊗ pt)) (strike ⊗ pt) p_t ≡ bond_option_of option sigma_p strike pt p_t
unfolding bond_option_at
bond_option_ahead Put sigma_p strike pt p_t = bond_put_ahead sigma_p strike pt p_t
bond_option_ahead Call sigma_p strike pt p_t = bond_call_ahead sigma_p strike pt p_t
