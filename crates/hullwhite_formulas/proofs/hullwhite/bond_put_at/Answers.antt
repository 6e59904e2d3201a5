-- `hullwhite_formulas::bond_put_at` meets its contract. Assumes nothing.
use Rattle.hullwhite_formulas.specs.HullWhite.{bond_put_at}
use Rattle.hullwhite_formulas.proofs.hullwhite.bond_put_at.Goals as goal

pub returns : goal.returns
unfolding bond_put_at
returns c =
    rw (← c.bond_d1-d1.ensures, ← c.norm_cdf_two-n.ensures.0, ← c.norm_cdf_two-n.ensures.1) c.fused.ensures
