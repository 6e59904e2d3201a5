-- `hullwhite_swaptions::model::model_price_on_terms` meets its contract: the curve's parts are those of specs/, and the price on them is looked at by rule 13. Assumes nothing.
use mathlib.Core.Path.{◌∙◌}
use Rattle.refusals.proofs.Lending.{work, values_are}
use Rattle.hullwhite_swaptions.proofs.Outcomes.{terms_are}
use Rattle.hullwhite_swaptions.proofs.model.model_price_on_terms.Goals as goal

pub returns : goal.returns
returns c =
    terms_are _ _ _ _ _ _ _ _ (values_are work _ c.requires.0 c.curve_parts.new.out c.curve_parts.auto.out ∙ c.curve_parts.ensures) c.ahead_of-ahead.ensures c.price_at-priced.ensures c.finished.ensures
