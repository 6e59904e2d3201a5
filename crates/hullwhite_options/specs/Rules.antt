-- Document 01's rules 1 to 7 for a call with an option time and an end, a line a rule, in its order: whether the rule applies to what the call uses. A rule that the call cannot break has no line. `first_of` takes the first that applies.
use Rattle.std.specs.Prelude.{not, ◌&&◌, ◌||◌, List, [], ◌∷◌, Float}
use Rattle.std.specs.Float.Ieee.{lt, le}
use Rattle.std.specs.Float.Ieee.Scale.{finite}
use Rattle.ieee.specs.Numbers.{zero}
use Rattle.refusals.specs.declared.curves.Faults.{Faults}
use Rattle.refusals.specs.declared.refusals.Refusal.TheVariants as R
use Rattle.refusals.specs.declared.refusals.Rule.{Rule}
use Rattle.refusals.specs.Refusals.{rule}

-- a call with an option time t and a bond or end time T. `other` is a further number that the call uses, 0 where there is none
abbrev pub option_rules : Faults → Float → Float → Float → Float → Float → List Rule
option_rules curve alpha t T sigma other =
    rule R.Size curve.size
    ∷ rule R.NotFinite (curve.not_finite || not (finite alpha && finite t && finite T && finite sigma && finite other))
    ∷ rule R.MeanReversion (le alpha zero)
    ∷ rule R.Order curve.order
    ∷ rule R.Times (lt t zero || le T t)
    ∷ rule R.Domain (lt sigma zero || curve.domain)
    ∷ []
