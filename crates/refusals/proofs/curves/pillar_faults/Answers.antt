-- `pillar_faults` meets its contract: each rule's fault is what the checks of the lists of the pillars say.
use Rattle.refusals.proofs.curves.pillar_faults.Goals as goal

pub returns : goal.returns
returns c = rw (c.all-3.ensures, c.in_order.ensures, c.all-2.ensures, c.all.ensures)
