-- `pricer_formulas::pricer_deviation` meets its contract. Assumes nothing.
use Rattle.pricer_formulas.specs.Affine.{pricer_deviation_of}
use Rattle.pricer_formulas.proofs.variance.pricer_deviation.Goals as goal

pub returns-then-variance : goal.returns-then-variance
unfolding pricer_deviation_of
returns-then-variance c = rw c.if-variance.true c.sqrt.ensures.equal

pub returns-else-variance : goal.returns-else-variance
unfolding pricer_deviation_of
returns-else-variance c = rw c.if-variance.false
