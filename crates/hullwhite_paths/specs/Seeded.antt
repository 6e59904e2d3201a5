-- A short-rate path (kinds 12 and 13) on the draws of a seed, in place of listed ones: the rules of `generate`, and among them the one on the seed. Pillars have times ps and volatilities ss, the curve times ts and factors fs.
use Rattle.std.specs.Prelude.{Bool, not, ◌||◌, List, [], ◌∷◌, ℕ, ltb, eqb, length, Float}
use Rattle.std.specs.Float.Ieee.{le}
use Rattle.std.specs.Float.Ieee.Scale.{finite}
use Rattle.ieee.specs.Numbers.{zero}
use Rattle.refusals.specs.declared.curves.Faults.{Faults}
use Rattle.refusals.specs.declared.refusals.Refusal.TheVariants as R
use Rattle.refusals.specs.declared.refusals.Rule.{Rule}
use Rattle.refusals.specs.Refusals.{Outcome, rule, unless, following}
use Rattle.refusals.specs.Faults.{curve_faults, pillar_faults, seeded_grid_faults}
use Rattle.draws.specs.Draws.{draws_of}
use Rattle.hullwhite_points.specs.declared.walk.Centre.{Centre}
use Rattle.hullwhite_points.specs.Path.{start_state, path_from}
use Rattle.hullwhite_transitions.specs.Written.{finishing_list}
use Rattle.hullwhite_paths.specs.Generate.{starts_below, several_for}

-- ---- rules 1 to 7, 14 and 15, a line a rule

-- `zero_seed`: the seed is 0; the others as in `path_rules`, whose list this is but for one line. Document 02, A.5: "A zero seed is refused as 14, directly after rule 6."
abbrev pub seeded_rules : Faults → Faults → Faults → Bool → Bool → Bool → Bool → Bool → Float → List Rule
seeded_rules schedule curve points zero_seed empty several below short alpha =
    rule R.Size (schedule.size || curve.size || points.size || short)
    ∷ rule R.NotFinite (schedule.not_finite || curve.not_finite || points.not_finite || not (finite alpha))
    ∷ rule R.MeanReversion (le alpha zero)
    ∷ rule R.Order (schedule.order || curve.order || points.order)
    ∷ rule R.Times below
    ∷ rule R.Domain (schedule.domain || curve.domain)
    ∷ rule R.ZeroSeed zero_seed
    ∷ rule R.Empty empty
    ∷ rule R.SeveralPillars several
    ∷ []

-- the rules of a path on its lists and its seed
abbrev pub seeded_rules_on : Centre → Float → List Float → List Float → List Float → List Float → List Float → ℕ → ℕ → List Rule
seeded_rules_on centre alpha ps ss ts fs grid seed room =
    seeded_rules (pillar_faults ps ss) (curve_faults ts fs) (seeded_grid_faults grid) (eqb seed 0) (eqb (length ps) 0) (several_for centre (length ps)) (starts_below grid) (ltb room (length grid)) alpha

-- ---- the path: the rules, then the points, of which none may overflow

-- document 02, A.5: "A library call for a path may name a seed in place of its list of draws": the draws are as many of the seed's as the grid has points
unfoldable pub seeded_outcome : Centre → Float → List Float → List Float → List Float → List Float → List Float → ℕ → ℕ → Outcome (List Float)
unfolding path_from
seeded_outcome centre alpha ps ss ts fs grid seed room =
    unless (seeded_rules_on centre alpha ps ss ts fs grid seed room)
    (following (path_from centre alpha ps ss ts fs start_state grid (draws_of (length grid) seed)) finishing_list)
