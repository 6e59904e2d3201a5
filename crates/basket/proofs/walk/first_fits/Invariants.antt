-- `basket::walk::first_fits` meets its contract: each turn of its loop writes the next entry's record, and a refusal ends it. Assumes nothing.
use Rattle.basket.proofs.Fitting.{Fitting}
use Rattle.basket.proofs.walk.first_fits.Given as goal

abbrev pub invariant-loop-i : goal.invariant-loop-i
invariant-loop-i l = Fitting l.alpha l.times l.factors l.entries.normals.now l.entries.strikes.now l.entries.starts.now l.entries.ends.now l.entries.vols.now l.i l.sigmas l.statuses l.halvings l.residuals
