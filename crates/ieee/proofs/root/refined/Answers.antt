-- `ieee::root::refined` meets its contract. By how the square of the division's quotient compares with what it left. Assumes nothing.
use mathlib.Core.Path.{◌≡◌, sym}
use Prim.Native.Nat.{ℕ, ◌+◌, ◌-◌, ◌*◌, ◌/◌, ◌^◌, ◌≤◌, ◌<◌}
use native.Mathlib.Nat.{le-add_right}
use lib.Dec.{lit≤}
use lib.Arith.{lt_of_le-ne}
use mir.Facts.{Fits-le}
use Rattle.ieee.specs.WholeRoot.{root}
use Rattle.ieee.proofs.Rooting.{square_fits, r_square, left_fits, r_pos, have_fits, want_fits, upper_fits, c_fits, twice_fits, c_pos, less_sticky, equal_sticky, more_sticky}
use Rattle.ieee.proofs.root.refined.Goals as goal

-- a law of `proofs/Rooting.antt` at the arguments
at : {P : ℕ → ℕ → Type 0} → ((s r : ℕ) → 2 ^ 60 ≤ s → s < 2 ^ 62 → r ≡ root s → P s r) → (c : goal.Start) → P c.args.s c.args.r
at f c = f c.args.s c.args.r c.requires.0 c.requires.1 c.requires.2

-- twice the root's first estimate
abbrev doubled : goal.Start → ℕ
doubled s = (s.args.r * 2 ^ 31 + (s.args.s - s.args.r * s.args.r) * 2 ^ 30 / s.args.r) * 2

pub overflow_mul-left : goal.overflow_mul-left
overflow_mul-left c = at square_fits c

pub overflow_sub-left : goal.overflow_sub-left
overflow_sub-left c = at r_square c

pub overflow_mul-left-2 : goal.overflow_mul-left-2
overflow_mul-left-2 c = at left_fits c

pub nonzero_div-q : goal.nonzero_div-q
nonzero_div-q c = at r_pos c

pub nonzero_rem-have : goal.nonzero_rem-have
nonzero_rem-have c = at r_pos c

pub overflow_mul-have : goal.overflow_mul-have
overflow_mul-have c = at have_fits c

pub overflow_mul-want : goal.overflow_mul-want
overflow_mul-want c = at want_fits c

pub overflow_mul-c : goal.overflow_mul-c
overflow_mul-c c = at upper_fits c

pub overflow_add-c : goal.overflow_add-c
overflow_add-c c = at c_fits c

pub overflow_mul-result : goal.overflow_mul-result
overflow_mul-result c = Fits-le (le-add_right (doubled c.before) 1) (at twice_fits c.before 1 (lit≤ tt))

pub overflow_add-result : goal.overflow_add-result
overflow_add-result c = at twice_fits c.before 1 (lit≤ tt)

pub overflow_mul-result-then-want-have-2 : goal.overflow_mul-result-then-want-have-2
overflow_mul-result-then-want-have-2 c = Fits-le (le-add_right (doubled c.before.before) 1) (at twice_fits c.before.before 1 (lit≤ tt))

pub overflow_mul-result-else-want-have-2 : goal.overflow_mul-result-else-want-have-2
overflow_mul-result-else-want-have-2 c = Fits-le (le-add_right (doubled c.before.before) 1) (at twice_fits c.before.before 1 (lit≤ tt))

pub overflow_sub-result : goal.overflow_sub-result
overflow_sub-result c = at c_pos c.before.before

pub returns-then-want-have : goal.returns-then-want-have
returns-then-want-have c = at less_sticky c.before c.if-want-have.true

pub returns-then-want-have-2 : goal.returns-then-want-have-2
returns-then-want-have-2 c = at equal_sticky c.before.before c.if-want-have-2.true

pub returns-else-want-have-2 : goal.returns-else-want-have-2
returns-else-want-have-2 c = at more_sticky c.before.before (lt_of_le-ne c.before.if-want-have.false (λ e. c.if-want-have-2.false (sym e)))
