-- `reached` meets its contract: the part of the list that `count_reached` counts.
use mathlib.Core.Path.{sym}
use lib.Seq.{length-take-le}
use Rattle.curve.proofs.lookups.reached.Goals as goal

pub slice_bounds-result-end : goal.slice_bounds-result-end
slice_bounds-result-end c = sym (length-take-le _ _ c.count_reached-n.ensures.0)
