-- `ieee_chains::open::closed` meets its contract. The pattern is that of what `units` gives, so it is read back as that. Assumes nothing.
use mathlib.Core.Path.{sym, subst}
use mathlib.Core.Bool.{Bool, not}
use lib.Dec.{T}
use Rattle.ieee_chains.proofs.Opening.{closed_no_nan, closed_is}
use Rattle.ieee_chains.proofs.open.closed.Goals as goal

pub float_from_bits-result : goal.float_from_bits-result
float_from_bits-result c = subst (λ (b : Bool). T (not b)) (sym (closed_no_nan c.args.q c.args.k c.requires.0 c.requires.1)) tt

pub returns : goal.returns
returns c = closed_is c.args.q c.args.k c.requires.0 c.requires.1
