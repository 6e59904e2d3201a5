-- `ieee_significands::pack::kept` meets its contract. A shift to the right leaves a sticky digit for what it drops, and a shift to the left drops nothing. Assumes nothing.
use mathlib.Core.Path.{◌≡◌, sym, ap, ◌∙◌, subst}
use Prim.Native.Nat.{ℕ, ◌+◌, ◌-◌, ◌^◌, ◌<◌}
use native.Mathlib.Omega.{arith}
use lib.Ieee.Nearest.{closest}
use Rattle.ieee_words.specs.Words.{jammed}
use Rattle.ieee_significands.proofs.Packing.{kept_left, kept_right, kept_small, shift_small, small_enough}
use Rattle.ieee_significands.proofs.pack.kept.Goals as goal

-- one digit less is shifted out, for the sticky digit is the last
one_less : (t e : ℕ) → e + 1 < t → t - 2 - e + 1 ≡ t - 1 - e
one_less t e h = omega arith

-- what `jam` leaves
left : (c : goal.After-jam) → (c.jam.result ≡ jammed c.args.v (c.args.unit - 1 - c.args.exp)) × (c.jam.result < 2 ^ 55)
left c =
    let e : c.jam.result ≡ jammed c.args.v (c.args.unit - 1 - c.args.exp) = c.jam.ensures ∙ ap (jammed c.args.v) (one_less c.args.unit c.args.exp c.if-exp-unit.true) in
    (e, subst (λ (x : ℕ). x < 2 ^ 55) (sym e) (kept_small c.args.v c.args.exp c.args.unit (omega (arith, c.if-exp-unit.true)) c.requires.2))

pub overflow_cast-result : goal.overflow_cast-result
overflow_cast-result c = let h = (left c).1 in omega arith

pub overflow_cast-result-else-exp-unit : goal.overflow_cast-result-else-exp-unit
overflow_cast-result-else-exp-unit c = record { fits = small_enough c.args.v c.args.exp c.args.unit c.requires.0 c.if-exp-unit.false c.requires.2 }

pub overflow_shl-result : goal.overflow_shl-result
overflow_shl-result c =
    shift_small c.args.v c.args.exp c.args.unit c.requires.0 c.if-exp-unit.false c.requires.2

pub returns-then-exp-unit : goal.returns-then-exp-unit
returns-then-exp-unit c =
    let l = left c in
    (l.1, ap (λ (x : ℕ). closest x 4) l.0 ∙ kept_right c.args.v c.args.exp c.args.unit (omega (arith, c.if-exp-unit.true)))

pub returns-else-exp-unit : goal.returns-else-exp-unit
returns-else-exp-unit c =
    kept_left c.args.v c.args.exp c.args.unit c.requires.0 c.if-exp-unit.false c.requires.2
