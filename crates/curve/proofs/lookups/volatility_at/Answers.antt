-- `volatility_at` meets its contract. The loop's invariant: the last pillar among those from place i on, with the best so far, is the last of all, with the first.
use Rattle.std.specs.Prelude.{Some}
use mathlib.Core.Path.{◌≡◌, refl, sym, ap, ◌∙◌}
use mathlib.Core.Bool.{cond}
use Prim.Native.Nat.{◌+◌}
use lib.ListN.{drop, get_or}
use lib.Ieee.{Float, nan, le}
use Rattle.curve.specs.Lookups.{last_at}
use Rattle.curve.proofs.Walks.{last_turn, last_short, last_end, volatility_first, volatility_none, volatility_short}
use Rattle.curve.proofs.lookups.volatility_at.Goals as goal
use Rattle.curve.proofs.lookups.volatility_at.Goals.{then-time-t, else-time-t}

pub returns-then-times-eq0 : goal.returns-then-times-eq0
returns-then-times-eq0 c = sym (volatility_none _ _ _ c.if-times-eq0.true)

pub returns-then-sigmas-eq0 : goal.returns-then-sigmas-eq0
returns-then-sigmas-eq0 c = sym (volatility_short _ _ _ c.if-sigmas-eq0.true)

pub loop-i-init : goal.loop-i-init
loop-i-init c = refl

pub returns-then-sigmas-i : goal.returns-then-sigmas-i
returns-then-sigmas-i c =
    ap Some (sym (last_short _ _ _ _ _ c.loop-i-test.true c.if-sigmas-i.true) ∙ c.loop-i.invariant)
    ∙ sym (volatility_first _ _ _ c.if-times-eq0.false c.if-sigmas-eq0.false)

pub loop-i-preserved : goal.loop-i-preserved
loop-i-preserved c =
    let l = c.loop-i in
    let a = c.args in
    let b : c.if-time-t.best ≡ cond (le (get_or a.times.now l.i nan) a.t) (get_or a.sigmas.now l.i nan) l.best = elim c.if-time-t.branch [ then-time-t w ↦ rw w.if-time-t.true w.best-is | else-time-t w ↦ rw w.if-time-t.false w.best-is ] in
    ap (λ (z : Float). last_at z (drop (l.i + 1) a.times.now) (drop (l.i + 1) a.sigmas.now) a.t) b ∙ sym (last_turn _ _ _ _ _ c.loop-i-test.true c.if-sigmas-i.false) ∙ l.invariant

pub returns : goal.returns
returns c =
    ap Some (sym (last_end _ _ _ _ _ c.loop-i-test.false) ∙ c.loop-i.invariant)
    ∙ sym (volatility_first _ _ _ c.if-times-eq0.false c.if-sigmas-eq0.false)
