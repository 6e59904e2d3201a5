-- The decimal constants of document 01's elementary functions, as it prints them, and SQRT_2PI as norm_cdf.rs prints it.
use Rattle.std.specs.Prelude.{Float}
use Rattle.std.specs.Float.Ieee.{neg}
use Rattle.ieee.specs.Decimal.{decimal}

-- 1.4426950408889634
abbrev pub log2e : Float
log2e = decimal 14426950408889634 16

-- 0.693147180369123816490, the first ln constant
abbrev pub ln2hi : Float
ln2hi = decimal 693147180369123816490 21

-- 1.90821492927058770002e-10, the second
abbrev pub ln2lo : Float
ln2lo = decimal 190821492927058770002 30

-- 710, above which exp is infinity
abbrev pub exp_top : Float
exp_top = decimal 710 0

-- -746, below which exp is +0
abbrev pub exp_bottom : Float
exp_bottom = neg (decimal 746 0)

-- 2.506_628_274_631_000_5
abbrev pub sqrt2pi : Float
sqrt2pi = decimal 25066282746310005 16
