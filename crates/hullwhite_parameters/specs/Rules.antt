-- Document 01's rules 1 to 7 for each sort of call, a line a rule, in its order: whether the rule applies to what the call uses. A rule that the call cannot break has no line. `first_of` takes the first that applies.
use Rattle.std.specs.Prelude.{Bool, not, ◌&&◌, ◌||◌, List, [], ◌∷◌, Float}
use Rattle.std.specs.Float.Ieee.{lt, le}
use Rattle.std.specs.Float.Ieee.Scale.{finite}
use Rattle.ieee.specs.Numbers.{zero}
use Rattle.refusals.specs.declared.curves.Faults.{Faults}
use Rattle.refusals.specs.declared.refusals.Refusal.TheVariants as R
use Rattle.refusals.specs.declared.refusals.Rule.{Rule}
use Rattle.refusals.specs.Refusals.{rule}

-- the piecewise variance alone: any finite alpha, and no pillars too
abbrev pub variance_rules : Faults → Float → Float → Float → List Rule
variance_rules pillars alpha start end =
    rule R.Size pillars.size
    ∷ rule R.NotFinite (pillars.not_finite || not (finite alpha && finite start && finite end))
    ∷ rule R.Order pillars.order
    ∷ rule R.Times (lt start zero || le end start)
    ∷ rule R.Domain pillars.domain
    ∷ []

-- the volatility at a time: rule 7 wants a pillar
abbrev pub volatility_rules : Faults → Bool → Float → List Rule
volatility_rules pillars empty t =
    rule R.Size pillars.size
    ∷ rule R.NotFinite (pillars.not_finite || not (finite t))
    ∷ rule R.Order pillars.order
    ∷ rule R.Times (lt t zero)
    ∷ rule R.Domain pillars.domain
    ∷ rule R.Empty empty
    ∷ []
