-- `math_bisection::halving::unmoved` meets its contract. Assumes nothing.
use Rattle.math_bisection.proofs.Finishing.{same_ends}
use Rattle.math_bisection.proofs.halving.unmoved.Goals as goal

pub returns : goal.returns
returns c = same_ends _ _ _ _ _ _ c.surely_same.ensures c.surely_same-2.ensures c.surely_same-3.ensures c.surely_same-4.ensures
