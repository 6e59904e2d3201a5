-- Document 01: "Both lie between 0 and 1, and are NaN only at NaN."
use Rattle.std.specs.Prelude.{◌≡◌, not, T, Float}
use Rattle.std.specs.Float.{nan}
use Rattle.std.specs.Float.Ieee.{le, is_nan}
use Rattle.ieee.specs.Numbers.{zero, one}

-- of an argument x and the function's value r
pub record Probability (x r : Float) : Type 0 where
  pub between : T (not (is_nan x)) → T (le zero r) × T (le r one)
  pub at_nan : x ≡ nan → r ≡ nan
