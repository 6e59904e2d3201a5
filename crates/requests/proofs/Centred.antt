-- Document 02, A.6, of specs/Centred.antt: both kinds of path are worked from the same points, their states and draws the same, and differ in the shift alone.
use Rattle.std.specs.Prelude.{◌≡◌, ℕ, Option, Some, None, Ok, Err}
use Rattle.std.proofs.Math.Path.{refl}
use Rattle.std.proofs.Common.{ap, ◌∙◌}
use mathlib.Core.List.{List, [], ◌∷◌, ◌++◌}
use Rattle.std.proofs.Math.ListN.{length}
use Rattle.std.specs.Float.Ieee.{Float}
use Rattle.ieee.specs.Rounded.{◌⊕◌}
use Rattle.refusals.specs.declared.refusals.Refusal.TheVariants as R
use Rattle.refusals.specs.Refusals.{Outcome, rule, unless, following, prepend}
use Rattle.curve.specs.Lookups.{factor_at, needing, required, volatility_at}
use Rattle.hullwhite_formulas.specs.HullWhite.{h, forward_of}
use Rattle.hullwhite_transitions.specs.Written.{finishing_list}
use Rattle.hullwhite_points.specs.declared.walk.State.{State}
use Rattle.hullwhite_points.specs.declared.walk.Centre.{Centre}
use Rattle.hullwhite_points.specs.Path.{start_state, state_after, path_from}
use Rattle.hullwhite_paths.specs.Generate.{several_for, generate_outcome}
use Rattle.requests.specs.Centred.{Point, onto, points_from, rate_at, rates_of, seven_rules}

module _ (centre : Centre) (alpha : Float) (ps ss ts fs : List Float) where
  abbrev rated : Outcome (List Point) → Outcome (List Float)
  rated points = following points (λ xs. Ok (rates_of centre alpha xs))

  onto_rated : (point : Point) (points : Outcome (List Point)) → prepend (rate_at centre alpha point) (rated points) ≡ rated (onto point points)
  unfolding rates_of
  onto_rated point (Ok xs) = refl
  onto_rated point (Err r) = refl

  pub shift_alone : (s : State) (grid draws : List Float) → path_from centre alpha ps ss ts fs s grid draws ≡ following (points_from alpha ps ss ts fs s grid draws) (λ points. Ok (rates_of centre alpha points))
  unfolding path_from points_from rates_of state_after
  shift_alone s [] draws = refl
  shift_alone s (t ∷ grid) [] = refl
  shift_alone s (t ∷ grid) (draw ∷ draws) = found (volatility_at ps ss t) (factor_at ts fs t) (factor_at ts fs (t ⊕ h)) (λ sigma. shift_alone (state_after alpha sigma t draw s) grid draws)
    where
      next : Float → State
      next sigma = state_after alpha sigma t draw s

      point : Float → Float → Float → Point
      point sigma p p_plus = record { state = next sigma; sigma = sigma; forward = forward_of p p_plus }

      found : (v m n : Option Float) → ((sigma : Float) → path_from centre alpha ps ss ts fs (next sigma) grid draws ≡ rated (points_from alpha ps ss ts fs (next sigma) grid draws))
          → required R.Empty v (λ sigma. needing m (λ p. needing n (λ p_plus. prepend (rate_at centre alpha (point sigma p p_plus)) (path_from centre alpha ps ss ts fs (next sigma) grid draws))))
          ≡ rated (required R.Empty v (λ sigma. needing m (λ p. needing n (λ p_plus. onto (point sigma p p_plus) (points_from alpha ps ss ts fs (next sigma) grid draws)))))
      found (Some sigma) (Some p) (Some q) later = ap (prepend (rate_at centre alpha (point sigma p q))) (later sigma) ∙ onto_rated (point sigma p q) (points_from alpha ps ss ts fs (next sigma) grid draws)
      found (Some sigma) (Some p) None later = refl
      found (Some sigma) None n later = refl
      found None m n later = refl

-- ---- the calls
module _ (alpha : Float) (ps ss ts fs grid draws : List Float) (room : ℕ) where
  -- both kinds are worked from the same points, their states and draws the same; the rates alone are another's
  pub centred : (centre : Centre) → generate_outcome centre alpha ps ss ts fs grid draws room
      ≡ unless (seven_rules alpha ps ss ts fs grid draws room ++ (rule R.SeveralPillars (several_for centre (length ps)) ∷ [])) (following (points_from alpha ps ss ts fs start_state grid draws) (λ points. finishing_list (rates_of centre alpha points)))
  unfolding generate_outcome
  centred centre = ap (λ (o : Outcome (List Float)). unless (seven_rules alpha ps ss ts fs grid draws room ++ (rule R.SeveralPillars (several_for centre (length ps)) ∷ [])) (following o finishing_list)) (shift_alone centre alpha ps ss ts fs start_state grid draws) ∙ ap (unless (seven_rules alpha ps ss ts fs grid draws room ++ (rule R.SeveralPillars (several_for centre (length ps)) ∷ []))) (once (points_from alpha ps ss ts fs start_state grid draws))
    where
      once : (points : Outcome (List Point)) → following (following points (λ xs. Ok (rates_of centre alpha xs))) finishing_list ≡ following points (λ xs. finishing_list (rates_of centre alpha xs))
      once (Ok xs) = refl
      once (Err r) = refl
