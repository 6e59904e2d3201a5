-- What it is to meet a row. Its numbers are whole and below 2 ^ 51, so that every number here is exact but for the argument and the function's value.
use Rattle.std.specs.Prelude.{ℕ, Bool, cond, ◌&&◌, pos, Float}
use Rattle.std.specs.Float.{binary64}
use Rattle.std.specs.Float.Ieee.{neg, le, of_int}
use Rattle.ieee.specs.Rounded.{◌⊕◌, ◌⊖◌, ◌⊗◌, ◌⊘◌}
use Rattle.ieee.specs.Numbers.{zero, two, four}
use Rattle.ieee.specs.Fused.{fused_of}
use Rattle.math_normal.specs.NormCdf.{norm_cdf_of, norm_cdf_dual_of}
use Rattle.test_normal_table.specs.declared.normal.Normal.{Normal}
use Rattle.test_normal_table.specs.declared.normal.Normal.TheVariants.{Cdf, CdfDual}

-- the DualFwd function, or the f64 one
abbrev pub normal_of : Normal → Float → Float
normal_of Cdf x = norm_cdf_of x
normal_of CdfDual x = norm_cdf_dual_of x

-- v ≤ p / u and p / u ≤ v: the one rounding of v × u - p keeps its sign
abbrev pub at_most : Float → Float → Float → Bool
at_most v p u = le (fused_of v u (neg p)) zero

abbrev pub at_least : Float → Float → Float → Bool
at_least v p u = le zero (fused_of v u (neg p))

-- the value `low` is at most (p + w) / u, and `high` is at least (p - w) / u
abbrev pub within_of : Float → Float → Float → Float → Float → Bool
within_of low high p w u = at_most low (p ⊕ w) u && at_least high (p ⊖ w) u

-- the argument lies from (n - s) / d to (n + s) / d: the function is at most (p + w) / u at the lower end, and at least (p - w) / u at the upper one
unfoldable pub above_of : (Float → Float) → Float → Float → Float → Float → Float → Float → Bool
above_of f n s d p w u = within_of (f ((n ⊖ s) ⊘ d)) (f ((n ⊕ s) ⊘ d)) p w u

-- at the negative argument p is 1 less what it was
unfoldable pub below_of : (Float → Float) → Float → Float → Float → Float → Float → Float → Bool
below_of f n s d p w u = within_of (f (neg ((n ⊕ s) ⊘ d))) (f (neg ((n ⊖ s) ⊘ d))) (u ⊖ p) w u

-- the row: the argument is argument / scale, within slack half units, and the value digits / unit, within spread quarters of a unit
unfoldable pub met_of : ℕ → ℕ → ℕ → ℕ → ℕ → ℕ → Bool → Normal → Bool
met_of argument slack scale digits spread unit negative normal =
    let n = two ⊗ of_int binary64 (pos argument) in
    let s = of_int binary64 (pos slack) in
    let d = two ⊗ of_int binary64 (pos scale) in
    let p = four ⊗ of_int binary64 (pos digits) in
    let w = of_int binary64 (pos spread) in
    let u = four ⊗ of_int binary64 (pos unit) in
    cond negative (below_of (normal_of normal) n s d p w u) (above_of (normal_of normal) n s d p w u)
