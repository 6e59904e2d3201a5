-- `hullwhite_options::optionlet_priced` meets its contract: each factor is found or the call is refused by rule 8, and then the formula is worked. Assumes nothing.
use mathlib.Core.Path.{refl, ◌∙◌}
use Rattle.hullwhite_formulas.specs.HullWhite.{zcb_price_volatility_ahead, state_deviation_of, optionlet_strike_of, optionlet_of}
use Rattle.hullwhite_options.specs.Options.{optionlet_priced, bond_option_ahead}
use Rattle.curve.proofs.Outcomes.{lacking, found_is}
use Rattle.hullwhite_options.proofs.options.optionlet_priced.Goals as goal

pub returns-in_default : goal.returns-in_default
unfolding optionlet_priced
returns-in_default c =
    lacking _ _ c.in_default.is c.factor.ensures

pub returns-in_default-factor : goal.returns-in_default-factor
unfolding optionlet_priced
returns-in_default-factor c =
    found_is _ _ c.in-Some.is c.factor.ensures (lacking _ _ c.in_default-factor.is c.factor-2.ensures)

pub returns : goal.returns
unfolding optionlet_priced optionlet_strike_of optionlet_of state_deviation_of
returns c =
    let d = c.volatility_parts-parts.ensures in
    found_is _ _ c.in-Some.is c.factor.ensures
    (found_is _ _ c.in-Some-factor.is c.factor-2.ensures
    (c.served.ensures ∙ rw (c.put_or_call-price.ensures, c.zcb_price_volatility_at-sigma_p.ensures, c.sqrt.ensures.equal, d.0, d.1, c.moneyness_of-moneyness.ensures, c.growth_of-growth.ensures, zcb_price_volatility_ahead, bond_option_ahead) refl))
