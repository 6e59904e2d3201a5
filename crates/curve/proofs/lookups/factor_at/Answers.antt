-- `factor_at` meets its contract: at its place t is on the list, behind the last point, before the first, or between two.
use Rattle.std.specs.Prelude.{None}
use mathlib.Core.Path.{◌≡◌, sym, ◌∙◌}
use mathlib.Core.Bool.{true, false}
use mathlib.Core.List.{List}
use Prim.Native.Nat.{ℕ}
use lib.ListN.{get_or}
use lib.Ieee.{Float, nan, eq}
use Rattle.refusals.specs.Checks.{in_order}
use Rattle.curve.specs.Lookups.{PartsAt, factor_at}
use Rattle.curve.proofs.Factors.{after_last, no_factor, on_list, before_first, between_two}
use borrow.Author.Rules.{rules}
use Rattle.curve.proofs.lookups.factor_at.Goals as goal

at_zero : (ts fs : List Float) (t : Float) (n : ℕ) → in_order true ts ≡ true → PartsAt true ts t n → n ≡ 0 → eq (get_or ts n nan) t ≡ false → factor_at ts fs t ≡ None
at_zero ts fs t n o p z e = before_first ts fs t o (rw z at p.2) (rw z at e)

pub returns-then-times-place : goal.returns-then-times-place
returns-then-times-place c = sym (after_last _ _ _ _ c.requires.1 c.if-times-place.true)

pub returns-then-factors-place : goal.returns-then-factors-place
returns-then-factors-place c = sym (no_factor _ _ _ _ c.requires.1 (search rules) c.if-factors-place.true)

pub returns-then-t1-t : goal.returns-then-t1-t
returns-then-t1-t c =
    sym (on_list _ _ _ _ c.requires.1 (search rules) (search rules) c.if-t1-t.true)

pub returns-then-place-eq0 : goal.returns-then-place-eq0
returns-then-place-eq0 c =
    sym (at_zero _ _ _ _ c.requires.0 c.requires.1 c.if-place-eq0.true c.if-t1-t.false)

pub returns : goal.returns
returns c =
    c.between.ensures ∙ sym (between_two _ _ _ _ c.requires.0 c.requires.1 c.if-place-eq0.false (search rules) (search rules) c.if-t1-t.false)
