-- `fit::fits::fit_caplet_on` meets its contract: turned down by its rules, or what `caplet_fitted` finds; what it serves is assured, and no search of it can want a bracket. Assumes nothing.
use mathlib.Core.Path.{ap}
use Rattle.refusals.specs.Refusals.{reported}
use Rattle.math_bisection.specs.Result.{no_fit}
use Rattle.fit.proofs.Outcomes.{caplet_turned_down, caplet_let_through, caplet_rises}
use Rattle.fit.proofs.Demand3.{caplet_held, caplet_never_so}
use Rattle.fit.proofs.fits.fit_caplet_on.Goals as goal

pub returns-in_err-caplet_rules : goal.returns-in_err-caplet_rules
returns-in_err-caplet_rules c =
    let a = c.args in
    let o = caplet_turned_down a.quote.vol_type a.alpha a.times.now a.factors.now a.caplet.strike a.caplet.start a.caplet.end a.quote.volatility c.requires c.in_err-caplet_rules.ensures c.from_residual.ensures.1 in
    record { answer = o; held = caplet_held _ _ _ _ _ _ _ _ o; bracket = caplet_never_so _ _ _ _ _ _ _ _ o; report = ap (reported no_fit) o }

pub caplet_fitted-requires : goal.caplet_fitted-requires
caplet_fitted-requires c =
    let a = c.args in
    caplet_rises a.quote.vol_type a.alpha a.times.now a.factors.now a.caplet.strike a.caplet.start a.caplet.end a.quote.volatility c.requires c.in_ok-caplet_rules.ensures

pub returns : goal.returns
returns c =
    let a = c.args in
    let o = caplet_let_through a.quote.vol_type a.alpha a.times.now a.factors.now a.caplet.strike a.caplet.start a.caplet.end a.quote.volatility c.requires c.in_ok-caplet_rules.ensures c.caplet_fitted.ensures in
    record { answer = o; held = caplet_held _ _ _ _ _ _ _ _ o; bracket = caplet_never_so _ _ _ _ _ _ _ _ o; report = ap (reported no_fit) o }
