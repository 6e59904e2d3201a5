-- hullwhitemodel.rs, `generate`: the points of a short-rate path, centred as the Rust has it (document 01, kind 12) or as published (document 02, A.6, kind 13). Pillars have times ps and volatilities ss, the curve times ts and factors fs.
use Rattle.std.specs.Prelude.{List, [], ◌∷◌, Float, Ok}
use Rattle.std.specs.Float.Ieee.{neg}
use Rattle.ieee.specs.Rounded.{◌⊕◌, ◌⊖◌, ◌⊗◌, ◌⊘◌}
use Rattle.ieee.specs.Numbers.{zero, half, one, two}
use Rattle.ieee.specs.Fused.{fused_of}
use Rattle.ieee.specs.Sqrt.{sqrt_of}
use Rattle.math_exponential.specs.Exp.{exp_of}
use Rattle.refusals.specs.declared.refusals.Refusal.TheVariants as R
use Rattle.refusals.specs.Refusals.{Outcome, prepend}
use Rattle.curve.specs.Lookups.{factor_at, needing, required, volatility_at}
use Rattle.hullwhite_formulas.specs.HullWhite.{h, forward_of}
use Rattle.hullwhite_points.specs.declared.walk.State.{State}
use Rattle.hullwhite_points.specs.declared.walk.Centre.{Centre}
use Rattle.hullwhite_points.specs.declared.walk.Centre.TheVariants as C

abbrev pub start_state : State
start_state = record { x = zero; t = zero; variance = zero }

-- One step to the time t, with dt the time passed and decay = exp(-2 × alpha × dt). The centred rate x becomes x + (-alpha × x × dt + draw × sigma × √dt), that inner sum fused;
-- the variance becomes variance × decay + sigma² × (1 - decay)/(2 × alpha), fused.
unfoldable pub state_after : Float → Float → Float → Float → State → State
state_after alpha sigma t draw s =
    let dt = t ⊖ s.t in
    let decay = exp_of (neg two ⊗ alpha ⊗ dt) in
    record {
      x = s.x ⊕ fused_of (neg alpha ⊗ s.x) dt (draw ⊗ sigma ⊗ sqrt_of dt);
      t = t;
      variance = fused_of s.variance decay (sigma ⊗ sigma ⊗ (one ⊖ decay) ⊘ (two ⊗ alpha));
    }

-- document 01: "the shift is the forward plus half the state variance, as in `generate`": 0.5 × variance + forward, fused
unfoldable pub generate_shift_of : Float → Float → Float
generate_shift_of variance forward = fused_of half variance forward

-- document 02, A.6: "Kind 13 is a path whose shift is f + 0.5 × (g × g), with g = (sigma/alpha) × (1 - exp((-alpha) × t)) and f as before."
unfoldable pub published_shift_of : Float → Float → Float → Float → Float
published_shift_of alpha sigma t f = let g = (sigma ⊘ alpha) ⊗ (one ⊖ exp_of (neg alpha ⊗ t)) in f ⊕ half ⊗ (g ⊗ g)

-- the shift at the time t, where the volatility is sigma: "Kind 12 goes on as the Rust has it, and kind 13 is judged by this formula alone."
abbrev pub shift_of : Centre → Float → Float → Float → Float → Float → Float
shift_of C.StateVariance alpha sigma t variance forward = generate_shift_of variance forward
shift_of C.Published alpha sigma t variance forward = published_shift_of alpha sigma t forward

-- the points of the grid that is left, from the state s: each wants the volatility at its time (there is none without a pillar, rule 7) and the factors at t and t + h; the rate at a point is x and the shift
unfoldable pub path_from : Centre → Float → List Float → List Float → List Float → List Float → State → List Float → List Float → Outcome (List Float)
path_from centre alpha ps ss ts fs s [] draws = Ok []
path_from centre alpha ps ss ts fs s (t ∷ grid) [] = Ok []
path_from centre alpha ps ss ts fs s (t ∷ grid) (draw ∷ draws) =
    required R.Empty (volatility_at ps ss t) (λ sigma.
    needing (factor_at ts fs t) (λ p.
    needing (factor_at ts fs (t ⊕ h)) (λ p_plus.
    let next = state_after alpha sigma t draw s in
    prepend (next.x ⊕ shift_of centre alpha sigma t next.variance (forward_of p p_plus)) (path_from centre alpha ps ss ts fs next grid draws))))
