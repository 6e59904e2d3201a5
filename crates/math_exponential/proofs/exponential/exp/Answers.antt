-- `math_exponential::exp` meets its contract: inside the range by what its parts give, else by two tests. Assumes nothing.
use Rattle.std.proofs.Common.{◌≡◌, true, sym, ◌∙◌}
use lib.Ieee.{Float, is_nan, of_bits}
use Rattle.ieee.specs.Rows.{Gives, by_rows}
use Rattle.math_exponential.specs.Exp.{exp_of}
use Rattle.math_exponential.specs.ExactCases.{exact_cases, exact_cases_lem}
use Rattle.math_elementary.proofs.Floats.{is_nan_lem, above_nan, under_nan}
use Rattle.math_elementary.proofs.Literals.{exp_top_is, exp_bottom_is}
use Rattle.math_exponential.proofs.Limits.{from_parts, outside}
use Rattle.math_exponential.proofs.exponential.exp.Goals as goal

-- the value, and with it the rows of the exact cases
both : (x r : Float) → r ≡ exp_of x → record { value : r ≡ exp_of x; exact : Gives exact_cases x r }
both x r e = record { value = e; exact = by_rows exp_of exact_cases exact_cases_lem x r e }

pub reduce-d-requires : goal.reduce-d-requires
reduce-d-requires c = sym c.within_limits.ensures ∙ c.if-within_limits.true

pub returns-then-within_limits : goal.returns-then-within_limits
returns-then-within_limits c =
    both _ _
    (from_parts _ (sym c.within_limits.ensures ∙ c.if-within_limits.true) _ _ _ _ c.reduce-d.ensures.0 c.reduce-d.ensures.1 c.guessed.ensures c.scale.ensures)

pub returns-then-x : goal.returns-then-x
unfolding exp_of of_bits
returns-then-x c = both _ _ (rw (above_nan _ _ c.if-x.true, ← exp_top_is, c.if-x.true))

pub returns-then-x-2 : goal.returns-then-x-2
unfolding exp_of of_bits
returns-then-x-2 c = both _ _ (rw (under_nan _ _ c.if-x-2.true, ← exp_top_is, c.if-x.false, ← exp_bottom_is, c.if-x-2.true))

pub returns-else-x-2 : goal.returns-else-x-2
unfolding exp_of
returns-else-x-2 c =
    let n : is_nan c.args.x ≡ true = outside _ (sym c.within_limits.ensures ∙ c.if-within_limits.false) (rw (← exp_top_is) c.if-x.false) (rw (← exp_bottom_is) c.if-x-2.false) in
    both _ _ (rw n (is_nan_lem _ n))
