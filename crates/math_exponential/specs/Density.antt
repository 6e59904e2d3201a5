-- Document 01: "norm_pdf(d) is exp((-0.5 × d) × d)/SQRT_2PI."
use Rattle.std.specs.Prelude.{Float}
use Rattle.std.specs.Float.Ieee.{neg}
use Rattle.ieee.specs.Rounded.{◌⊗◌, ◌⊘◌}
use Rattle.ieee.specs.Numbers.{half}
use Rattle.math_elementary.specs.Constants.{sqrt2pi}
use Rattle.math_exponential.specs.Exp.{exp_of}

unfoldable pub density_of : Float → Float
density_of d = exp_of (neg half ⊗ d ⊗ d) ⊘ sqrt2pi
