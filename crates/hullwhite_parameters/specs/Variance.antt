-- parameters.rs, `hull_white_piecewise_variance`: the variance of the state from `start` to `end`, as a fold over the pillars (time, sigma). Document 01: "the first pillar reaching back to the start".
use Rattle.std.specs.Prelude.{Bool, true, false, cond, List, [], ◌∷◌, Float}
use Rattle.std.specs.Float.Ieee.{neg, lt, le}
use Rattle.ieee.specs.Rounded.{◌⊕◌, ◌⊖◌, ◌⊗◌, ◌⊘◌}
use Rattle.ieee.specs.Decimal.{decimal}
use Rattle.ieee.specs.Numbers.{zero, two}
use Rattle.math_elementary.specs.Simple.{abs_of, max_of, min_of}
use Rattle.math_exponential.specs.Exp.{exp_of, exp_m1_of}

-- 1.0e-12; "|alpha| 1e-12 uses the exponential weight"
abbrev pub flat : Float
flat = decimal 1 12

-- the weight of a piece from `lower` to `upper`: its length where |alpha| is below 1e-12, else exp(-2 × alpha × (end - upper)) × -exp_m1(-2 × alpha × (upper - lower))/(2 × alpha)
unfoldable pub weight_of : Float → Float → Float → Float → Float
weight_of alpha end lower upper =
    cond (lt (abs_of alpha) flat) (upper ⊖ lower)
    (exp_of (neg two ⊗ alpha ⊗ (end ⊖ upper)) ⊗ neg (exp_m1_of (neg two ⊗ alpha ⊗ (upper ⊖ lower))) ⊘ (two ⊗ alpha))

-- an empty piece adds nothing; any other adds sigma² × weight
unfoldable pub variance_piece_of : Float → Float → Float → Float → Float → Float → Float
unfolding weight_of
variance_piece_of alpha end lower upper sigma variance = cond (le upper lower) variance (variance ⊕ sigma ⊗ sigma ⊗ weight_of alpha end lower upper)

-- a piece begins at its pillar's time, and at the start at the earliest; the first reaches back to the start
abbrev pub piece_lower_of : Bool → Float → Float → Float
piece_lower_of first start time = cond first start (max_of start time)

-- a piece ends where the next pillar begins, and at `end` at the latest
abbrev pub piece_upper_of : Float → List Float → Float
piece_upper_of end [] = end
piece_upper_of end (next ∷ times) = min_of end next

-- the pieces of the pillars that are left, `variance` being the sum so far
unfoldable pub variance_pieces_of : Float → Bool → Float → List Float → List Float → Float → Float → Float
unfolding variance_piece_of
variance_pieces_of alpha first variance [] sigmas start end = variance
variance_pieces_of alpha first variance (time ∷ times) [] start end = variance
variance_pieces_of alpha first variance (time ∷ times) (sigma ∷ sigmas) start end =
    variance_pieces_of alpha false (variance_piece_of alpha end (piece_lower_of first start time) (piece_upper_of end times) sigma variance) times sigmas start end

unfoldable pub piecewise_variance_of : Float → List Float → List Float → Float → Float → Float
unfolding variance_pieces_of
piecewise_variance_of alpha times sigmas start end = variance_pieces_of alpha true zero times sigmas start end
