-- The objective on what is worked ahead is document 01's own, at every sigma. Assumes nothing.
use mathlib.Core.Path.{◌≡◌}
use mathlib.Core.List.{List}
use lib.Ieee.{Float}
use Rattle.ieee.specs.Rounded.{◌⊖◌}
use Rattle.hullwhite_formulas.specs.declared.instruments.Optionlet.{Optionlet}
use Rattle.hullwhite_formulas.specs.HullWhite.{b_of, state_deviation_of, zcb_price_volatility_ahead, growth_of, optionlet_strike_of, optionlet_of}
use Rattle.hullwhite_terms.specs.Terms.{curve_parts_of}
use Rattle.hullwhite_terms.specs.Swaption.{terms_on}
use Rattle.hullwhite_jamshidian.specs.declared.price.SwaptionAhead.{SwaptionAhead}
use Rattle.hullwhite_jamshidian.specs.Ahead.{ahead_of, price_ahead_lem}
use Rattle.fit_objective.specs.declared.market.VolatilityType.{VolatilityType}
use Rattle.fit_objective.specs.declared.market.Quote.{Quote}
use Rattle.fit_objective.specs.declared.objective.Instrument.TheVariants as I
use Rattle.fit_objective.specs.Market.{caplet_market_price_of, swaption_market_price_of}
use Rattle.fit_objective.specs.Objective.{caplet_objective, swaption_objective}
use Rattle.fit_objective.specs.Ahead.{caplet_at, model_price_of, objective_of, objective_on}

module _ (quote : Quote) (alpha : Float) (caplet : Optionlet) (pt p_s : Float) where
  pub caplet_same : {b deviation growth x market : Float} (cs bs ds ps : List Float) → b ≡ b_of alpha caplet.start caplet.end → deviation ≡ state_deviation_of alpha caplet.start → growth ≡ growth_of (caplet.end ⊖ caplet.start) caplet.strike → x ≡ optionlet_strike_of caplet.strike caplet.start caplet.end → market ≡ caplet_market_price_of quote.vol_type caplet.strike caplet.start caplet.end quote.volatility pt p_s
      → (sigma : Float) → objective_of (I.Caplet (record { b = b; deviation = deviation; growth = growth; bond_strike = x; p_t = pt; p_end = p_s })) market cs bs ds ps sigma ≡ caplet_objective quote.vol_type alpha caplet.strike caplet.start caplet.end quote.volatility pt p_s sigma
  unfolding objective_of model_price_of caplet_at caplet_objective optionlet_of
  caplet_same cs bs ds ps p q g r m sigma = rw (← zcb_price_volatility_ahead alpha sigma caplet.start caplet.end, ← p, ← q, ← g, ← r, ← m)

-- a swaption's on its terms is the one that the code works with, and the one on its factors
pub swaption_same : (alpha t pt forward market : Float) (cs bs ps : List Float) {ds : List Float} {ahead : SwaptionAhead} → ds ≡ curve_parts_of forward pt bs ps → ahead ≡ ahead_of alpha t pt
    → (sigma : Float) → objective_of (I.Swaption ahead) market cs bs ds ps sigma ≡ objective_on alpha t (record { pt = pt; forward = forward; coefficients = cs; bs = bs; factors = ps }) market sigma
unfolding objective_of model_price_of objective_on
swaption_same alpha t pt forward market cs bs ps d h sigma = rw (← d, ← h)

pub swaption_ahead : (quote : VolatilityType) (alpha strike t vol : Float) (payments accruals : List Float) (pt p_plus : Float) (ps : List Float) (sigma : Float)
    → objective_on alpha t (terms_on alpha payments accruals strike t pt p_plus ps) (swaption_market_price_of quote strike t vol accruals pt ps) sigma ≡ swaption_objective quote alpha payments accruals strike t vol pt p_plus ps sigma
unfolding objective_on swaption_objective
swaption_ahead quote alpha strike t vol payments accruals pt p_plus ps sigma = rw (← price_ahead_lem alpha payments accruals strike t pt p_plus ps sigma)
