-- The same objective on what is worked ahead, once a fit, over the kind of instrument: what the code works with. That it is `caplet_objective` or `swaption_objective` at every sigma is proved of it, so a reader of the public contracts needs none of this.
use Rattle.std.specs.Prelude.{List, Float, Ok}
use Rattle.ieee.specs.Rounded.{◌⊖◌, ◌⊗◌}
use Rattle.refusals.specs.Refusals.{Outcome, following}
use Rattle.hullwhite_formulas.specs.HullWhite.{zcb_price_volatility_at, bond_put_of}
use Rattle.hullwhite_terms.specs.Swaption.{SwaptionTerms}
use Rattle.hullwhite_jamshidian.specs.Ahead.{price_ahead, price_on}
use Rattle.fit_objective.specs.declared.objective.CapletAhead.{CapletAhead}
use Rattle.fit_objective.specs.declared.objective.Instrument.{Instrument}
use Rattle.fit_objective.specs.declared.objective.Instrument.TheVariants as I
use Rattle.fit_objective.specs.Objective.{value_alone}

-- a caplet at a sigma
unfoldable pub caplet_at : Float → CapletAhead → Float
caplet_at sigma ahead = ahead.growth ⊗ bond_put_of (zcb_price_volatility_at sigma ahead.b ahead.deviation) ahead.bond_strike ahead.p_t ahead.p_end

unfoldable pub model_price_of : Instrument → List Float → List Float → List Float → List Float → Float → Outcome Float
model_price_of (I.Caplet ahead) cs bs curveParts ps sigma = Ok (caplet_at sigma ahead)
model_price_of (I.Swaption ahead) cs bs curveParts ps sigma = value_alone (price_ahead ahead sigma cs bs curveParts ps)

unfoldable pub objective_of : Instrument → Float → List Float → List Float → List Float → List Float → Float → Outcome Float
objective_of instrument market cs bs curveParts ps sigma = following (model_price_of instrument cs bs curveParts ps sigma) (λ model. Ok (model ⊖ market))

-- a swaption's, on all its terms
unfoldable pub objective_on : Float → Float → SwaptionTerms → Float → Float → Outcome Float
objective_on alpha t w market sigma = following (value_alone (price_on alpha t w sigma)) (λ model. Ok (model ⊖ market))
