-- `math_normal::norm_cdf` meets its contract: by what `by` gives; `norm_within` has the bounds. Assumes nothing.
use mathlib.Core.Path.{sym, subst}
use lib.Ieee.{Float}
use Rattle.ieee.specs.Fused.{fused_of}
use Rattle.math_normal.specs.Between.{Probability}
use Rattle.math_normal.proofs.Between.{norm_within}
use Rattle.math_normal.proofs.FusedSteps.{exact_sound}
use Rattle.math_normal.proofs.normal.norm_cdf.Goals as goal

pub returns-clause-between : goal.returns-clause-between
returns-clause-between c = subst (λ (y : Float). Probability c.args.x y) (sym c.by.ensures) (norm_within fused_of exact_sound c.args.x)
