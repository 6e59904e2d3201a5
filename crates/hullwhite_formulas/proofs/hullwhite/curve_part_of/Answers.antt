-- `hullwhite_formulas::curve_part_of` meets its contract. Assumes nothing.
use Rattle.hullwhite_formulas.specs.HullWhite.{curve_part_of}
use Rattle.hullwhite_formulas.proofs.hullwhite.curve_part_of.Goals as goal

pub returns : goal.returns
unfolding curve_part_of
returns c = rw (c.fused.ensures, c.ln.ensures.value)
