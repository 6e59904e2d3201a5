-- `seeded_grid_faults` meets its contract: each rule's fault is what the checks of the grid's times say.
use Rattle.refusals.proofs.curves.seeded_grid_faults.Goals as goal

pub returns : goal.returns
returns c = rw (c.in_order.ensures, c.all.ensures)
