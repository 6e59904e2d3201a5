-- Document 01: "midpoint is (a+b)/2. signum is 1 for +0, -1 for -0, NaN for NaN. max and min pass over a NaN." And the absolute value.
use Rattle.std.specs.Prelude.{false, cond, Float}
use Rattle.std.specs.Float.{nan, inf, fin}
use Rattle.std.specs.Float.Ieee.{neg, lt, is_nan}
use Rattle.ieee.specs.Rounded.{◌⊕◌, ◌⊘◌}
use Rattle.ieee.specs.Numbers.{one, two}

abbrev pub midpoint_of : Float → Float → Float
midpoint_of a b = (a ⊕ b) ⊘ two

-- the sign alone decides: it is 1 or -1 at an infinity and at a zero too
abbrev pub signum_of : Float → Float
signum_of nan = nan
signum_of (inf s) = cond s (neg one) one
signum_of (fin s m e) = cond s (neg one) one

-- "pass over a NaN": where one is a NaN, the other one. Else the larger; of two equal, the first
abbrev pub max_of : Float → Float → Float
max_of a b = cond (is_nan a) b (cond (is_nan b) a (cond (lt a b) b a))

-- likewise; else the smaller; of two equal, the first
abbrev pub min_of : Float → Float → Float
min_of a b = cond (is_nan a) b (cond (is_nan b) a (cond (lt b a) b a))

-- with the sign cleared
abbrev pub abs_of : Float → Float
abs_of nan = nan
abs_of (inf s) = inf false
abs_of (fin s m e) = fin false m e
