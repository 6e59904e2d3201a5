-- `hullwhite_formulas::bond_put_of` meets its contract: what the moneyness is, put in. Assumes nothing.
use mathlib.Core.Path.{◌∙◌}
use Rattle.hullwhite_formulas.specs.HullWhite.{bond_put_ahead}
use Rattle.hullwhite_formulas.proofs.hullwhite.bond_put_of.Goals as goal

pub returns : goal.returns
returns c = c.bond_put_at.ensures ∙ rw c.moneyness_of-moneyness.ensures (bond_put_ahead _ _ _ _)
