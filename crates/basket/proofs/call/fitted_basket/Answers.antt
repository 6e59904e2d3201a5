-- `basket::call::fitted_basket` meets its contract: refused by a fit or by a bumped fit, or the arrays are the values written and 0 behind them. Assumes nothing.
use Rattle.refusals.proofs.Lending.{work, values_are}
use Rattle.basket.specs.Lent.{entries_in}
use Rattle.basket.proofs.Lending.{padded_is}
use Rattle.basket.proofs.Outcomes.{counted, fits_refused, bumps_refused, basket_served}
use Rattle.basket.proofs.call.fitted_basket.Goals as goal

pub returns-in_err-first_fits : goal.returns-in_err-first_fits
returns-in_err-first_fits c =
    let a = c.args in
    let g = c.first_fits in
    fits_refused a.alpha a.times.now a.factors.now (entries_in a.entries) (record { sigmas = g.new.sigmas; statuses = g.new.statuses; halvings = g.new.halvings; residuals = g.new.residuals }) g.ensures c.in_err-first_fits.was c.from_residual.ensures.1

pub returns-in_err-bumped_fits : goal.returns-in_err-bumped_fits
returns-in_err-bumped_fits c =
    let a = c.args in
    let g = c.first_fits in
    let u = c.bumped_fits in
    bumps_refused a.alpha a.times.now a.factors.now (entries_in a.entries) (record { sigmas = g.new.sigmas; statuses = g.new.statuses; halvings = g.new.halvings; residuals = g.new.residuals }) g.ensures c.in_ok-first_fits.was (values_are work _ c.requires.0 g.new.sigmas g.auto.sigmas) (record { diagonal = u.new.diagonal; statuses = u.new.statuses }) u.ensures c.in_err-bumped_fits.was c.from_residual-in_err-bumped_fits.ensures.1

pub returns : goal.returns
returns c =
    let a = c.args in
    let p = c.requires in
    let e = a.entries.of_one_length in
    let g = c.first_fits in
    let u = c.bumped_fits in
    basket_served a.alpha a.times.now a.factors.now (entries_in a.entries) (record { sigmas = g.new.sigmas; statuses = g.new.statuses; halvings = g.new.halvings; residuals = g.new.residuals }) g.ensures c.in_ok-first_fits.was (values_are work _ p.0 g.new.sigmas g.auto.sigmas) (record { diagonal = u.new.diagonal; statuses = u.new.statuses }) u.ensures c.in_ok-bumped_fits.was
    (counted a.entries.normals.now a.entries.strikes.now a.entries.starts.now a.entries.ends.now a.entries.vols.now e.0 e.1 e.2 e.3)
    (padded_is _ p.0 g.new.sigmas g.auto.sigmas)
    (padded_is _ p.0 g.new.statuses g.auto.statuses)
    (padded_is _ p.0 g.new.halvings g.auto.halvings)
    (padded_is _ p.0 g.new.residuals g.auto.residuals)
    (padded_is _ p.0 u.new.diagonal u.auto.diagonal)
    (padded_is _ p.0 u.new.statuses u.auto.statuses)
