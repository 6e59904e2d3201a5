-- The arguments at which Hart's polynomials are worked in integers. For contracts of parts below the calls only.
use Rattle.std.specs.Prelude.{not, ℕ, ◌≤◌, T, Float}
use Rattle.std.specs.Float.Ieee.{is_nan}
use Rattle.ieee_chains.specs.Open.{field}

-- the exponent's field of z is within these bounds
abbrev pub Sized : Float → ℕ → ℕ → Type 0
Sized z low high = T (not (is_nan z)) × (low ≤ field z) × (field z ≤ high)

-- z is at least 2 ^ -20 and below 2 ^ 3: on numbers taken apart
abbrev pub Ordinary : Float → Type 0
Ordinary z = Sized z 1003 1025

-- z is at least 2 ^ -10 and below 2 ^ 2: in fixed point
abbrev pub Near : Float → Type 0
Near z = Sized z 1013 1024
