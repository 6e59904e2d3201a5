-- `hullwhite_transitions::transition::step_variance` meets its contract: the variance over the step, from its number times the time step. Assumes nothing.
use Rattle.hullwhite_transitions.specs.Transition.{step_variance}
use Rattle.hullwhite_transitions.proofs.transition.step_variance.Goals as goal

pub returns : goal.returns
unfolding step_variance
returns c = c.hull_white_piecewise_variance_of.ensures
