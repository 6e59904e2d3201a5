-- `draws::stated::draw` meets its contract: a sum below 12 × 2^32, its difference with 6 × 2^32 and that over 2^32 are f64s. Assumes nothing.
use Rattle.draws.proofs.Exact.{drawn, counted}
use Rattle.draws.proofs.stated.draw.Goals as goal

pub int_to_float-result : goal.int_to_float-result
int_to_float-result c = counted c.args.sum c.requires

pub returns : goal.returns
returns c = drawn c.args.sum c.requires
