-- `math_normal::norm_cdf_dual` meets its contract: by what `by` gives; `norm_within` has the bounds, and `as_written` that no bit differs from norm_cdf.rs. Assumes nothing.
use mathlib.Core.Path.{sym, ◌∙◌, subst}
use lib.Ieee.{Float}
use Rattle.math_hart.specs.Polynomials.{product_then_sum}
use Rattle.math_normal.specs.Between.{Probability}
use Rattle.math_normal.proofs.Between.{norm_within}
use Rattle.math_normal.proofs.AsWritten.{as_written as as_written_lem}
use Rattle.math_normal.proofs.Quotient.{twice_sound}
use Rattle.math_normal.proofs.normal.norm_cdf_dual.Goals as goal

pub returns-clause-between : goal.returns-clause-between
returns-clause-between c = subst (λ (y : Float). Probability c.args.x y) (sym c.by.ensures) (norm_within product_then_sum twice_sound c.args.x)

pub returns-clause-as_written : goal.returns-clause-as_written
returns-clause-as_written c = c.by.ensures ∙ sym (as_written_lem c.args.x)
