-- `HwCalibrationObjective`: model price minus market price at a sigma. For each instrument as document 01 has it, on its factors.
use Rattle.std.specs.Prelude.{List, Float, Ok}
use Rattle.ieee.specs.Rounded.{◌⊖◌}
use Rattle.refusals.specs.Refusals.{Outcome, following}
use Rattle.hullwhite_formulas.specs.HullWhite.{zcb_price_volatility_of, bond_put_of, optionlet_strike_of, optionlet_of}
use Rattle.hullwhite_jamshidian.specs.declared.price.Swaption.{Swaption}
use Rattle.hullwhite_jamshidian.specs.Price.{price_at}
use Rattle.fit_objective.specs.declared.market.VolatilityType.{VolatilityType}
use Rattle.fit_objective.specs.Market.{caplet_market_price_of, swaption_market_price_of}

-- kinds 8 and 9: `caplet_price` at sigma (kind 1's formula) less the market price, on the factors pt at the start t and p_s at the end S
unfoldable pub caplet_objective : VolatilityType → Float → Float → Float → Float → Float → Float → Float → Float → Outcome Float
caplet_objective quote alpha strike t S vol pt p_s sigma =
    Ok (optionlet_of strike t S (bond_put_of (zcb_price_volatility_of alpha sigma t S) (optionlet_strike_of strike t S) pt p_s) ⊖ caplet_market_price_of quote strike t S vol pt p_s)

-- a swaption's price without its root
abbrev pub value_alone : Outcome Swaption → Outcome Float
value_alone o = following o (λ v. Ok v.value)

-- kinds 10 and 11: `HullWhite::swaption_price` at sigma (kind 5's) less the market price, on the factors pt at t, p_plus at t + h and ps at the payment times; its refusals are the search's
unfoldable pub swaption_objective : VolatilityType → Float → List Float → List Float → Float → Float → Float → Float → Float → List Float → Float → Outcome Float
swaption_objective quote alpha payments accruals strike t vol pt p_plus ps sigma =
    following (value_alone (price_at alpha payments accruals strike t pt p_plus ps sigma)) (λ model. Ok (model ⊖ swaption_market_price_of quote strike t vol accruals pt ps))
