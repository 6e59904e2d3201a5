-- `grid_faults` meets its contract: each rule's fault is what the checks of the lists of the grid say.
use Rattle.refusals.proofs.curves.grid_faults.Goals as goal

pub returns : goal.returns
returns c = rw (c.in_order.ensures, c.all-2.ensures, c.all.ensures)
