-- `ieee_chains::fixed::fixed_of` meets its contract: the significand shifted to its place, by `fixed_is`. Assumes nothing.
use mathlib.Core.Path.{sym, subst}
use native.Mathlib.Nat.{mod-lt}
use lib.Pow.{pow_pos}
use lib.Dec.{T}
use Rattle.ieee_chains.proofs.Fixing.{fixed_is}
use Rattle.ieee_chains.proofs.fixed.fixed_of.Goals as goal

-- what owning an `f64` tells is that the format holds it
pub returns : goal.returns
returns c = (fixed_is c.args.x (subst T (sym c.well_formed.0.1) tt) c.requires.1 c.requires.2, mod-lt _ (pow_pos 64))
