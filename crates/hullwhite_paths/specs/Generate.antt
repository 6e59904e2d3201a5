-- hullwhitemodel.rs, `generate` (kind 12), and the same centred as published (kind 13): a short-rate path, as a call. Pillars have times ps and volatilities ss, the curve times ts and factors fs.
use Rattle.std.specs.Prelude.{Bool, false, not, ◌||◌, List, [], ◌∷◌, ℕ, ltb, eqb, length, Float}
use Rattle.std.specs.Float.Ieee.{lt, le}
use Rattle.std.specs.Float.Ieee.Scale.{finite}
use Rattle.ieee.specs.Numbers.{zero}
use Rattle.refusals.specs.declared.curves.Faults.{Faults}
use Rattle.refusals.specs.declared.refusals.Refusal.TheVariants as R
use Rattle.refusals.specs.declared.refusals.Rule.{Rule}
use Rattle.refusals.specs.Refusals.{Outcome, rule, unless, following}
use Rattle.refusals.specs.Faults.{curve_faults, pillar_faults, grid_faults}
use Rattle.hullwhite_points.specs.declared.walk.Centre.{Centre}
use Rattle.hullwhite_points.specs.declared.walk.Centre.TheVariants as C
use Rattle.hullwhite_points.specs.Path.{start_state, path_from}
use Rattle.hullwhite_transitions.specs.Written.{finishing_list}

-- ---- rules 1 to 7 and 15, a line a rule

-- "first grid time is below 0"
abbrev pub starts_below : List Float → Bool
starts_below [] = false
starts_below (t ∷ grid) = lt t zero

-- document 02, A.6, of kind 13: "It serves one pillar only."
abbrev pub several_for : Centre → ℕ → Bool
several_for C.StateVariance pillars = false
several_for C.Published pillars = ltb 1 pillars

-- `short`: the output is shorter than its grid; `empty`: there are no pillars; `several`: there are more than the centre serves. "No pillars meet rule 7; more than one in kind 13 is refused as 15, directly after it."
abbrev pub path_rules : Faults → Faults → Faults → Bool → Bool → Bool → Bool → Float → List Rule
path_rules schedule curve points empty several below short alpha =
    rule R.Size (schedule.size || curve.size || points.size || short)
    ∷ rule R.NotFinite (schedule.not_finite || curve.not_finite || points.not_finite || not (finite alpha))
    ∷ rule R.MeanReversion (le alpha zero)
    ∷ rule R.Order (schedule.order || curve.order || points.order)
    ∷ rule R.Times below
    ∷ rule R.Domain (schedule.domain || curve.domain)
    ∷ rule R.Empty empty
    ∷ rule R.SeveralPillars several
    ∷ []

-- ---- the path: the rules, then the points, of which none may overflow

unfoldable pub generate_outcome : Centre → Float → List Float → List Float → List Float → List Float → List Float → List Float → ℕ → Outcome (List Float)
unfolding path_from
generate_outcome centre alpha ps ss ts fs grid draws room =
    unless
    (path_rules (pillar_faults ps ss) (curve_faults ts fs) (grid_faults grid draws) (eqb (length ps) 0) (several_for centre (length ps)) (starts_below grid) (ltb room (length grid)) alpha)
    (following (path_from centre alpha ps ss ts fs start_state grid draws) finishing_list)
