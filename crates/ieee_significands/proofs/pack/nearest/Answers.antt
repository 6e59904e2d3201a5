-- `ieee_significands::pack::nearest` meets its contract. By the remainder of r by 4. Assumes nothing.
use Rattle.ieee_significands.proofs.Packing.{quarter}
use Rattle.ieee_significands.proofs.pack.nearest.Goals as goal

pub returns : goal.returns
returns c = quarter c.args.r
