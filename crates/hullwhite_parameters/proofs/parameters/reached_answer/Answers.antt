-- `hullwhite_parameters::reached_answer` meets its contract: the rules of the volatility at t. Assumes nothing.
use Rattle.hullwhite_parameters.proofs.parameters.reached_answer.Goals as goal

pub returns : goal.returns
returns c = rw c.pillar_faults.ensures at c.volatility_rules.ensures
