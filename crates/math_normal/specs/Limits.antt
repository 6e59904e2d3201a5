-- Document 01, "Near a limit": "37.0 takes the tail, just above is exactly 0 or 1; 7.071067811865475 takes the tail". Laws of the definition, for either step.
use Rattle.std.specs.Prelude.{◌≡◌, refl, Bool, true, false, cond, Float}
use Rattle.std.specs.Float.{binary64}
use Rattle.std.specs.Float.Ieee.{lt, neg, sub, of_bits}
use Rattle.ieee.specs.Rounded.{◌⊖◌, ◌⊗◌}
use Rattle.ieee.specs.Decimal.{decimal}
use Rattle.ieee.specs.Numbers.{zero, half, one}
use Rattle.math_elementary.specs.Simple.{abs_of}
use Rattle.math_exponential.specs.Exp.{exp_of}
use Rattle.math_normal.specs.NormCdf.{limit, threshold, tail_of, upper_of, norm_by}

-- exp(-z × z × 0.5)
abbrev power_of : Float → Float
power_of z = exp_of (neg z ⊗ z ⊗ half)

pub at_limit_lem : (step : Float → Float → Float → Float) → upper_of step limit ≡ tail_of limit (power_of limit)
unfolding upper_of decimal lt
at_limit_lem step = refl

pub at_threshold : (step : Float → Float → Float → Float) → upper_of step threshold ≡ tail_of threshold (power_of threshold)
unfolding upper_of decimal lt
at_threshold step = refl

sub_nothing : one ⊖ zero ≡ one
unfolding sub of_bits
sub_nothing = refl

-- "just above is exactly 0 or 1": of every x that is more than 37 in size, 1 above 0 and 0 below
pub past_limit : (step : Float → Float → Float → Float) (x : Float) → lt limit (abs_of x) ≡ true → norm_by step x ≡ cond (lt zero x) one zero
unfolding norm_by
past_limit step x h = rw h (go (lt zero x))
  where
    go : (above : Bool) → cond above (one ⊖ zero) zero ≡ cond above one zero
    go true = sub_nothing
    go false = refl

-- the f64 after 37, and its negative
abbrev after_limit : Float
after_limit = of_bits binary64 0x4042_8000_0000_0001

pub after_limit_lem : (step : Float → Float → Float → Float) → norm_by step after_limit ≡ one
unfolding norm_by decimal lt sub of_bits
after_limit_lem step = refl

pub before_minus_limit : (step : Float → Float → Float → Float) → norm_by step (neg after_limit) ≡ zero
unfolding norm_by decimal lt neg of_bits
before_minus_limit step = refl
