-- `draws::stated::stated_draws` meets its contract: the rules turn the call down, or the draws are written. Assumes nothing.
use Rattle.std.specs.Prelude.{Ok}
use mathlib.Core.Path.{refl, ap}
use Rattle.std.proofs.lemmas.Result.{err_from_is_err_and}
use Rattle.refusals.specs.Refusals.{reported}
use Rattle.refusals.proofs.Outcomes.{turned_down, let_through}
use Rattle.draws.specs.Draws.{draws_of, draws_outcome}
use Rattle.draws.proofs.stated.stated_draws.Goals as goal

pub returns-in_err-draw_rules : goal.returns-in_err-draw_rules
unfolding draws_outcome
returns-in_err-draw_rules c =
    let p = err_from_is_err_and c.from_residual.result c.from_residual.ensures.1 in
    rw (p.1, p.2, turned_down _ (Ok (draws_of _ _)) refl c.in_err-draw_rules.ensures) (record { answer = refl; output = refl; report = refl })

pub returns : goal.returns
unfolding draws_outcome
returns c =
    let w = c.write_draws in
    rw (let_through _ (Ok (draws_of _ _)) refl c.in_ok-draw_rules.ensures) (record { answer = ap Ok w.ensures.state; output = w.ensures.draws; report = ap (reported 0) (ap Ok w.ensures.state) })
