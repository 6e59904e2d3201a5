-- `quotes::annuity_step` meets its contract. Assumes nothing.
use Rattle.quotes.specs.Formulas.{annuity_step}
use Rattle.quotes.proofs.quoted.annuity_step.Goals as goal

pub returns : goal.returns
unfolding annuity_step
returns c = c.fused.ensures
