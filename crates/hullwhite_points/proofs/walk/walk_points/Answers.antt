-- `hullwhite_points::walk::walk_points` meets its contract: a turn works a point or is refused, and at the end all are worked. Assumes nothing.
use mathlib.Core.Path.{◌≡◌, sym, ap, ◌∙◌}
use mathlib.Core.List.{List}
use Prim.Native.Nat.{ℕ, ◌<◌, ◌≤◌}
use native.Mathlib.Omega.{arith}
use lib.Ieee.{Float}
use lib.ListN.{length, take}
use Rattle.ieee.specs.Numbers.{zero}
use Rattle.hullwhite_points.specs.Walk.{decays_from}
use Rattle.hullwhite_points.proofs.Walks.{prepend_all, no_volatility, no_forward, path_turn, path_end, decays_length, decay_here, decays_left}
use Rattle.hullwhite_points.proofs.walk.walk_points.Goals as goal

-- the output has a place for each time of the grid
sizes : (alpha : Float) (grid : List Float) {out : List Float} {n : ℕ} → n ≡ length out → out ≡ decays_from alpha zero grid → n ≡ length grid
sizes alpha grid p q = p ∙ ap length q ∙ decays_length alpha zero grid

pub returns-in_default : goal.returns-in_default
returns-in_default c =
    let l = c.loop-i in
    let in_draws : l.i < length c.args.draws.now = omega arith in
    sym l.invariant.1 ∙ ap (prepend_all (take l.i l.out)) (no_volatility _ _ _ _ _ _ _ _ _ l.out _ c.loop-i-test.true in_draws (sym c.volatility_near.ensures ∙ c.in_default.is))

pub returns-in_default-forward_near : goal.returns-in_default-forward_near
returns-in_default-forward_near c =
    let l = c.loop-i in
    let in_draws : l.i < length c.args.draws.now = omega arith in
    let v = sym c.volatility_near.ensures ∙ c.in-Some.is in
    sym l.invariant.1 ∙ ap (prepend_all (take l.i l.out)) (no_forward _ _ _ _ _ _ _ _ _ l.out _ c.loop-i-test.true in_draws _ v (sym c.forward_near.ensures ∙ c.in_default-forward_near.is))

pub bounds-out-i : goal.bounds-out-i
bounds-out-i c = omega (arith, sizes c.args.alpha c.args.grid.now c.loop-i.auto.out c.requires.0)

pub state_after-s-requires : goal.state_after-s-requires
state_after-s-requires c =
    let l = c.loop-i in
    let a = c.args in
    let in_out : l.i < length l.out = omega (arith, sizes a.alpha a.grid.now l.auto.out c.requires.0) in
    decay_here a.alpha l.s.t a.grid.now l.out l.i c.loop-i-test.true in_out l.invariant.0

pub bounds-out-i-in-loop-i : goal.bounds-out-i-in-loop-i
bounds-out-i-in-loop-i c = omega (arith, sizes c.args.alpha c.args.grid.now c.loop-i.auto.out c.requires.0)

pub loop-i-preserved : goal.loop-i-preserved
loop-i-preserved c =
    let l = c.loop-i in
    let a = c.args in
    let v = sym c.volatility_near.ensures ∙ c.in-Some.is in
    let f = sym c.forward_near.ensures ∙ c.in-Some-forward_near.is in
    let s = c.state_after-s.ensures in
    let in_draws : l.i < length a.draws.now = omega arith in
    let in_out : l.i < length l.out = omega (arith, sizes a.alpha a.grid.now l.auto.out c.requires.0) in
    (decays_left a.alpha l.s.t a.grid.now l.out l.i c.loop-i-test.true in_out l.invariant.0 _ _ _ _ s _, sym (path_turn _ _ _ _ _ _ l.s _ _ l.out _ c.loop-i-test.true in_draws _ v _ f in_out _ s _ c.shift_of.ensures) ∙ l.invariant.1)

pub returns : goal.returns
returns c =
    let l = c.loop-i in
    let a = c.args in
    let out_done : length l.out ≤ l.i = omega (arith, sizes a.alpha a.grid.now l.auto.out c.requires.0) in
    sym l.invariant.1 ∙ path_end _ _ _ _ _ _ l.s _ _ l.out _ c.loop-i-test.false out_done
