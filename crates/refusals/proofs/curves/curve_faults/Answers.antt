-- `curve_faults` meets its contract: each rule's fault is what the checks of the lists of the curve say.
use mathlib.Core.Path.{refl}
use Rattle.refusals.proofs.curves.curve_faults.Goals as goal

pub returns : goal.returns
returns c = rw (c.all.ensures, c.all-2.ensures, c.in_order.ensures, c.all-3.ensures) refl
