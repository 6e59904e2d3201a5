-- `basket::walk::bumped_fits` meets its contract: each turn of its loop writes the next entry's bump, and a refusal ends it. Assumes nothing.
use Rattle.basket.proofs.Bumping.{Bumping}
use Rattle.basket.proofs.walk.bumped_fits.Given as goal

abbrev pub invariant-loop-i : goal.invariant-loop-i
invariant-loop-i l = Bumping l.alpha l.times l.factors l.entries.normals.now l.entries.strikes.now l.entries.starts.now l.entries.ends.now l.entries.vols.now l.sigmas l.i l.diagonal l.statuses
