-- What a path's walk works beside the path itself: the decay over each step, and the forward at a time.
use Rattle.std.specs.Prelude.{List, [], ◌∷◌, Float, Option, Some, None}
use Rattle.std.specs.Float.Ieee.{neg}
use Rattle.ieee.specs.Rounded.{◌⊕◌, ◌⊖◌, ◌⊗◌}
use Rattle.ieee.specs.Numbers.{two}
use Rattle.math_exponential.specs.Exp.{exp_of}
use Rattle.curve.specs.Lookups.{factor_at}
use Rattle.hullwhite_formulas.specs.HullWhite.{h, forward_of}

-- the decay of the state's variance from t to u, as `state_after` has it: exp(-2 × alpha × (u - t))
abbrev pub step_decay : Float → Float → Float → Float
step_decay alpha t u = exp_of (neg two ⊗ alpha ⊗ (u ⊖ t))

-- the decay over each step of a grid, the first from the time t
unfoldable pub decays_from : Float → Float → List Float → List Float
decays_from alpha t [] = []
decays_from alpha t (u ∷ grid) = step_decay alpha t u ∷ decays_from alpha u grid

-- a forward of two factors, where both are found
abbrev pub forward_of_both : Option Float → Option Float → Option Float
forward_of_both (Some p) (Some p_plus) = Some (forward_of p p_plus)
forward_of_both (Some p) None = None
forward_of_both None q = None

-- the forward at t, where the factors at t and t + h are found
unfoldable pub forward_at : List Float → List Float → Float → Option Float
forward_at ts fs t = forward_of_both (factor_at ts fs t) (factor_at ts fs (t ⊕ h))
