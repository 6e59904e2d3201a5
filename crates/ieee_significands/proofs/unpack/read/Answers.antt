-- `ieee_significands::unpack::read` meets its contract. The fields of the pattern are what `of_bits` reads. Assumes nothing.
use mathlib.Core.Path.{sym, subst}
use lib.Dec.{T}
use Rattle.ieee_significands.proofs.Unpacking.{finite_no_nan, fields}
use Rattle.ieee_significands.proofs.unpack.read.Goals as goal

pub float_to_bits-bits : goal.float_to_bits-bits
float_to_bits-bits c = finite_no_nan c.args.x c.requires

-- what owning an `f64` tells is that the format holds it
pub returns : goal.returns
returns c = fields c.args.x (subst T (sym c.well_formed.0.1) tt) c.requires
