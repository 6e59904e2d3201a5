-- `part` meets its contract. The loop's invariant: the times before `low` are before t, and those from `high` on are not.
use borrow.Author.Rules.{rules}
use mathlib.Core.Path.{sym, ◌∙◌}
use Prim.Native.Nat.{◌+◌, ◌-◌, ◌/◌}
use lib.ListN.{length}
use Rattle.curve.proofs.Halves.{front_none, back_none, front, back}
use Rattle.curve.proofs.lookups.part.Goals as goal

pub loop-low-init : goal.loop-low-init
loop-low-init c =
    let a = c.args in
    (search rules, search rules, front_none a.strictly a.times.now a.t, back_none a.strictly a.times.now a.t (length a.times.now) (search rules))

pub loop-low-preserved-then-follows : goal.loop-low-preserved-then-follows
loop-low-preserved-then-follows c =
    let l = c.loop-low in
    (search rules, search rules, front c.args.strictly c.args.times.now c.args.t (l.low + (l.high - l.low) / 2) c.requires (search rules) (sym c.follows.ensures ∙ c.if-follows.true), l.invariant.3)

pub loop-low-preserved : goal.loop-low-preserved
loop-low-preserved c =
    let l = c.loop-low in
    (search rules, search rules, l.invariant.2, back c.args.strictly c.args.times.now c.args.t (l.low + (l.high - l.low) / 2) c.requires (sym c.follows.ensures ∙ c.if-follows.false))

pub returns : goal.returns
returns c = let l = c.loop-low in (search rules, l.invariant.2, λ k h b. l.invariant.3 k (search rules) b)
