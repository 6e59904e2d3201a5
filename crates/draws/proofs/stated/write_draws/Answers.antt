-- `draws::stated::write_draws` meets its contract: the draws written and those of the state reached are all of them. Assumes nothing.
use mathlib.Core.Path.{refl, ap, ◌∙◌}
use borrow.Author.Rules.{rules}
use Rattle.draws.specs.Draws.{quotient_of, draw_of}
use Rattle.draws.proofs.Lists.{start, turn, end}
use Rattle.draws.proofs.stated.write_draws.Goals as goal

pub loop-x-init : goal.loop-x-init
loop-x-init c = start _ _ _ refl

pub draw-requires : goal.draw-requires
draw-requires c = c.twelve_steps-twelve.ensures.below

pub loop-x-preserved : goal.loop-x-preserved
unfolding draw_of
loop-x-preserved c =
    let l = c.loop-x in
    let twelve = c.twelve_steps-twelve in
    turn _ _ l.x-index l.state l.out l.invariant (search rules) c.draw.result twelve.result.state (c.draw.ensures ∙ ap quotient_of twelve.ensures.sum) twelve.ensures.state

pub shape_of-out : goal.shape_of-out
shape_of-out c = c.loop-x.invariant.sized

pub returns : goal.returns
returns c =
    let l = c.loop-x in
    let e = end _ _ l.x-index l.state l.out l.invariant (search rules) in
    record { draws = e.0; state = e.1 }
