-- `math_exponential::norm_pdf` meets its contract: by what `exp` gives, with SQRT_2PI its literal. Assumes nothing.
use Rattle.math_exponential.specs.Density.{density_of}
use Rattle.math_elementary.proofs.Literals.{sqrt2pi_is}
use Rattle.math_exponential.proofs.density.norm_pdf.Goals as goal

pub returns : goal.returns
unfolding density_of
returns c = rw (← sqrt2pi_is, c.exp.ensures.value)
