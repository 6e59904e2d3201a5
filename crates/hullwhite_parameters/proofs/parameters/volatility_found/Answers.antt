-- `hullwhite_parameters::volatility_found` meets its contract: the volatility that is found, or rule 7. Assumes nothing.
use Rattle.hullwhite_parameters.specs.Parameters.{volatility_found}
use Rattle.curve.proofs.Outcomes.{lacking, found_is}
use Rattle.hullwhite_parameters.proofs.parameters.volatility_found.Goals as goal

pub returns-in_default : goal.returns-in_default
unfolding volatility_found
returns-in_default c =
    lacking _ _ c.in_default.is c.volatility_at.ensures

pub returns : goal.returns
unfolding volatility_found
returns c = found_is _ _ c.in-Some.is c.volatility_at.ensures c.served.ensures
