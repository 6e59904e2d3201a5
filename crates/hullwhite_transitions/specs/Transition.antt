-- parameters.rs, `transition_variances`: the variance over each of `steps` steps of one length, on pillars of times ts and volatilities ss. Document 01: "over 1,024 steps meet rule 1".
use Rattle.std.specs.Prelude.{Bool, not, ◌&&◌, ◌||◌, List, [], ◌∷◌, ℕ, suc, ltb, eqb, length, pos, Float}
use Prim.Native.Nat as Nat
use Rattle.std.specs.Float.{binary64}
use Rattle.std.specs.Float.Ieee.{le, of_int}
use Rattle.std.specs.Float.Ieee.Scale.{finite}
use Rattle.ieee.specs.Rounded.{◌⊕◌, ◌⊗◌}
use Rattle.ieee.specs.Numbers.{zero}
use Rattle.refusals.specs.declared.curves.Faults.{Faults}
use Rattle.refusals.specs.declared.refusals.Refusal.TheVariants as R
use Rattle.refusals.specs.declared.refusals.Rule.{Rule}
use Rattle.refusals.specs.Refusals.{Outcome, rule, unless}
use Rattle.refusals.specs.Faults.{pillar_faults}
use Rattle.hullwhite_parameters.specs.Variance.{piecewise_variance_of}
use Rattle.hullwhite_transitions.specs.Written.{finishing_list}

-- rules 1 to 7, a line a rule. Rule 5: a step that is not above 0 ends at or before its start
abbrev pub transition_rules : Faults → Bool → Float → ℕ → ℕ → Float → List Rule
transition_rules pillars empty alpha steps room time_step =
    rule R.Size (pillars.size || ltb 1024 steps || ltb room steps)
    ∷ rule R.NotFinite (pillars.not_finite || not (finite alpha && finite time_step))
    ∷ rule R.MeanReversion (le alpha zero)
    ∷ rule R.Order pillars.order
    ∷ rule R.Times (le time_step zero)
    ∷ rule R.Domain pillars.domain
    ∷ rule R.Empty empty
    ∷ []

-- the variance from step × time_step to a time_step later
unfoldable pub step_variance : Float → List Float → List Float → Float → ℕ → Float
step_variance alpha ts ss time_step step = let start = of_int binary64 (pos step) ⊗ time_step in piecewise_variance_of alpha ts ss start (start ⊕ time_step)

-- the variances of n steps, the first of them the step i
unfoldable pub variances_of : Float → List Float → List Float → Float → ℕ → ℕ → List Float
variances_of alpha ts ss time_step i Nat.zero = []
variances_of alpha ts ss time_step i (suc n) = step_variance alpha ts ss time_step i ∷ variances_of alpha ts ss time_step (suc i) n

unfoldable pub transition_outcome : Float → List Float → List Float → ℕ → Float → ℕ → Outcome (List Float)
transition_outcome alpha ts ss steps time_step room =
    unless (transition_rules (pillar_faults ts ss) (eqb (length ts) 0) alpha steps room time_step)
    (finishing_list (variances_of alpha ts ss time_step 0 steps))
