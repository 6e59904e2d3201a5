-- `hullwhite_formulas::half_variance_of` meets its contract. Assumes nothing.
use mathlib.Core.Path.{refl}
use Rattle.hullwhite_formulas.specs.HullWhite.{half_variance_of}
use Rattle.hullwhite_formulas.proofs.hullwhite.half_variance_of.Goals as goal

pub returns : goal.returns
unfolding half_variance_of
returns c = refl
