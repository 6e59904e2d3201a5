-- `math_exponential::exp_two` meets its contract: where both are within the limits by what the parts give, else by two calls of `exp`. Assumes nothing.
use Rattle.std.proofs.Common.{sym, ◌∙◌}
use Rattle.math_exponential.proofs.Limits.{from_parts}
use Rattle.math_exponential.proofs.exponential.exp_two.Goals as goal

pub returns-then-within_limits-2 : goal.returns-then-within_limits-2
returns-then-within_limits-2 c = (
  from_parts _ (sym c.within_limits.ensures ∙ c.if-within_limits.true) _ _ _ _ c.reduce-d.ensures.0 c.reduce-d.ensures.1 c.series_two-p.ensures.0 c.scale.ensures,
  from_parts _ (sym c.within_limits-then-within_limits.ensures ∙ c.if-within_limits-2.true) _ _ _ _ c.reduce-e.ensures.0 c.reduce-e.ensures.1 c.series_two-p.ensures.1 c.scale-then-within_limits-2.ensures,
)
