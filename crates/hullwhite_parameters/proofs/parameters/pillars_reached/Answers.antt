-- `hullwhite_parameters::pillars_reached` meets its contract: the answer and the part come from two calls, and the part is handed back where the answer lets it. Assumes nothing.
use Rattle.std.specs.Prelude.{Ok}
use mathlib.Core.Path.{refl, sym, ap, ◌∙◌}
use mathlib.Core.List.{[]}
use Rattle.refusals.specs.Refusals.{value_or, after, Answer}
use Rattle.curve.specs.Lookups.{up_to}
use Rattle.hullwhite_parameters.proofs.ReachedLaws.{reached_is}
use Rattle.hullwhite_parameters.proofs.parameters.pillars_reached.Goals as goal

pub returns-in-Ok : goal.returns-in-Ok
returns-in-Ok c =
    let e = c.in-Ok.is in
    let a = c.args in
    reached_is a.times.now a.sigmas.now a.t (sym e ∙ c.reached_answer-answer.ensures) (c.reached_part-part.ensures ∙ ap (λ (x : Answer). value_or [] (after x (Ok (up_to a.t a.times.now)))) e)

pub returns-in-Err : goal.returns-in-Err
returns-in-Err c = reached_is c.args.times.now c.args.sigmas.now c.args.t (sym c.in-Err.is ∙ c.reached_answer-answer.ensures) refl
