-- `basket::walk::bumped_fits` meets its contract: each turn of its loop writes the next entry's bump, and a refusal ends it. Assumes nothing.
use Rattle.refusals.proofs.Outcomes.{handed_on}
use Rattle.basket.proofs.Bumping.{bump_is_of, start, turn, stop, end}
use Rattle.basket.proofs.walk.bumped_fits.Goals as goal

pub loop-i-init : goal.loop-i-init
loop-i-init c = let e = c.args.entries.of_one_length in let p = c.requires in start e.0 e.1 e.2 e.3 p.0 p.1 p.2

pub returns-in_err-fit : goal.returns-in_err-fit
returns-in_err-fit c =
    rw (handed_on c.from_residual.ensures.1) (stop c.loop-i-test.true c.loop-i.invariant (bump_is_of _ _ _ _ c.quote-quote.ensures c.caplet-caplet.ensures c.in_err-fit.ensures))

pub loop-i-preserved : goal.loop-i-preserved
loop-i-preserved c =
    turn c.loop-i-test.true c.loop-i.invariant c.diagonal_of.ensures c.status_of.ensures (bump_is_of _ _ _ _ c.quote-quote.ensures c.caplet-caplet.ensures c.in_ok-fit.ensures)

pub returns : goal.returns
returns c = end c.loop-i-test.false c.loop-i.invariant
