-- A fit's answer as an outcome. Document 01: "The status and the number of halvings (200 if unconverged) are returned too .. So are the last two ends with their residuals."
use Rattle.std.specs.Prelude.{false, ◌&&◌, cond, Ok, Err}
use Rattle.std.specs.Float.Ieee.Scale.{finite}
use Rattle.ieee.specs.Numbers.{zero}
use Rattle.refusals.specs.declared.refusals.Refusal.TheVariants as R
use Rattle.refusals.specs.Refusals.{Outcome}
use Rattle.math_bisection.specs.declared.result.Fit.{Fit}

-- beside a refusal's number
abbrev pub no_fit : Fit
no_fit = record { sigma = zero; converged = false; halvings = 0; residual = zero; ends = record { low = zero; high = zero; low_residual = zero; high_residual = zero } }

-- rule 13: "A float of the answer, .. end residuals .. included, is not finite"
abbrev pub finishing_fit : Fit → Outcome Fit
finishing_fit fit =
    let e = fit.ends in
    cond (finite fit.sigma && finite fit.residual && finite e.low && finite e.high && finite e.low_residual && finite e.high_residual) (Ok fit) (Err R.Overflow)
