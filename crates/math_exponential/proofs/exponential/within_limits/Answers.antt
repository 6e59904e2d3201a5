-- `math_exponential::within_limits` meets its contract: by the two tests, which a NaN fails. Assumes nothing.
use Rattle.math_exponential.proofs.Limits.{limits_is}
use Rattle.math_exponential.proofs.exponential.within_limits.Goals as goal

pub returns : goal.returns
returns c = limits_is c.args.x
