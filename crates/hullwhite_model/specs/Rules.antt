-- Document 01's rules 1 to 7 for each sort of call, a line a rule, in its order: whether the rule applies to what the call uses. A rule that the call cannot break has no line. `first_of` takes the first that applies.
use Rattle.std.specs.Prelude.{false, not, ◌&&◌, ◌||◌, List, [], ◌∷◌, Float}
use Rattle.std.specs.Float.Ieee.{lt, le}
use Rattle.std.specs.Float.Ieee.Scale.{finite}
use Rattle.ieee.specs.Numbers.{zero}
use Rattle.refusals.specs.declared.curves.Faults.{Faults}
use Rattle.refusals.specs.declared.refusals.Refusal.TheVariants as R
use Rattle.refusals.specs.declared.refusals.Rule.{Rule}
use Rattle.refusals.specs.Refusals.{rule}

-- a list that the call does not use breaks no rule
abbrev pub no_faults : Faults
no_faults = record { size = false; not_finite = false; order = false; domain = false }

-- theta: an option time alone
abbrev pub theta_rules : Faults → Float → Float → Float → List Rule
theta_rules curve alpha t sigma =
    rule R.Size curve.size
    ∷ rule R.NotFinite (curve.not_finite || not (finite alpha && finite t && finite sigma))
    ∷ rule R.MeanReversion (le alpha zero)
    ∷ rule R.Order curve.order
    ∷ rule R.Times (lt t zero)
    ∷ rule R.Domain (lt sigma zero || curve.domain)
    ∷ []

-- the forward rate: the curve and an option time
abbrev pub forward_rules : Faults → Float → List Rule
forward_rules curve t =
    rule R.Size curve.size
    ∷ rule R.NotFinite (curve.not_finite || not (finite t))
    ∷ rule R.Order curve.order
    ∷ rule R.Times (lt t zero)
    ∷ rule R.Domain curve.domain
    ∷ []
