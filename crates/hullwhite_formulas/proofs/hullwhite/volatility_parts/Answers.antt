-- `hullwhite_formulas::volatility_parts` meets its contract: what B and the share are, put in. Assumes nothing.
use mathlib.Core.Path.{refl}
use lib.Ieee.{of_bits}
use Rattle.hullwhite_formulas.proofs.hullwhite.volatility_parts.Goals as goal

pub returns : goal.returns
unfolding of_bits
returns c = (c.b_of.ensures, rw c.stationary_share_of.ensures refl)
