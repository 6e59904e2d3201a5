-- `ieee_significands::pack::any` meets its contract. The digits below the unit are dropped, and what is kept is rounded once. Assumes nothing.
use mathlib.Core.Path.{sym, ◌∙◌, subst}
use Prim.Native.Nat.{ℕ, ◌-◌, ◌*◌, ◌^◌, ◌≤◌}
use native.Mathlib.Omega.{arith}
use lib.Ieee.{binary64}
use Rattle.ieee_significands.proofs.Packing.{width_le, not_zero, drops, whole, Whole, rounded, rounded_zero}
use Rattle.ieee_significands.proofs.Rounding.{Drops}
use Rattle.ieee_significands.proofs.pack.any.Goals as goal

-- the number to round, in units of 2 ^ -2277
abbrev number : ℕ → ℕ → ℕ
number v exp = v * 2 ^ exp

-- the digits below the unit are those that rounding drops
drops_at : (c : goal.After-unit_of-unit) → Drops binary64 1203 (number c.args.v c.args.exp) c.unit_of-unit.result
drops_at c =
    let s = c.before.before.before in
    let w = c.before.before.width-n in
    subst (λ (t : ℕ). Drops binary64 1203 (number c.args.v c.args.exp) t) (sym c.unit_of-unit.ensures) (drops s.args.v w.result s.args.exp w.ensures c.before.if-n-eq0.false)

pub returns-then-n-eq0 : goal.returns-then-n-eq0
returns-then-n-eq0 c =
    let s = c.before.before.before in
    c.assemble.ensures ∙ rounded_zero s.args.sign s.args.v c.before.before.width-n.result s.args.exp c.before.before.width-n.ensures c.before.if-n-eq0.true

pub overflow_add-n : goal.overflow_add-n
overflow_add-n c =
    let s = c.before.before in
    let h : c.before.width-n.result ≤ 128 = width_le s.args.v c.before.width-n.result 128 c.before.width-n.ensures s.ranges.v.fits in
    omega (arith, s.requires.1)

pub kept-requires : goal.kept-requires
kept-requires c =
    let s = c.before.before.before in
    let m = s.args.v in
    let w = c.before.before.width-n in
    (not_zero m w.result w.ensures c.before.if-n-eq0.false, s.requires.1, (drops_at c).under)

pub assemble-requires-2 : goal.assemble-requires-2
assemble-requires-2 c =
    let t = c.before.before in
    subst (λ (q : ℕ). Whole q (t.unit_of-unit.result - 1203)) (sym (c.nearest-q.ensures ∙ c.before.kept.ensures.1)) (whole (number t.args.v t.args.exp) t.unit_of-unit.result (drops_at t))

pub returns : goal.returns
returns c =
    let t = c.before.before.before in
    c.assemble-2.ensures ∙ rounded t.before.before.before.args.sign (number t.args.v t.args.exp) t.unit_of-unit.result c.before.nearest-q.result (drops_at t) (c.before.nearest-q.ensures ∙ c.before.before.kept.ensures.1)
