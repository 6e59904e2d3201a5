-- A normal function from its parts, by either step: what lies above |x|, and above 0 one less that (`joined`). Assumes nothing.
use mathlib.Core.Path.{◌≡◌, ap, ◌∙◌}
use mathlib.Core.Bool.{cond}
use lib.Ieee.{Float, lt}
use Rattle.ieee.specs.Rounded.{◌⊖◌}
use Rattle.ieee.specs.Numbers.{zero, one}
use Rattle.math_elementary.specs.Simple.{abs_of}
use Rattle.math_normal.specs.NormCdf.{upper_of, norm_by}

pub joined : (step : Float → Float → Float → Float) (x u cum r : Float) → u ≡ abs_of x → cum ≡ upper_of step u → r ≡ cond (lt zero x) (one ⊖ cum) cum → r ≡ norm_by step x
unfolding norm_by
joined step x u cum r u-is cum-is r_is = r_is ∙ ap (λ (w : Float). cond (lt zero x) (one ⊖ w) w) (cum-is ∙ ap (upper_of step) u-is)
