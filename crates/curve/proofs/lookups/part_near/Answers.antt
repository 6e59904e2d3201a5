-- `part_near` meets its contract: both sides of the hint are asked, and else the list is searched.
use Rattle.curve.proofs.lookups.part_near.Goals as goal

pub returns-then-stops : goal.returns-then-stops
returns-then-stops c =
    let r = c.reaches.ensures c.if-reaches.true in
    (r.0, r.1, c.stops.ensures c.if-stops.true)
