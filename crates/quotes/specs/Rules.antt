-- Document 01's rules 1 to 7 for each sort of call, a line a rule, in its order: whether the rule applies to what the call uses. A rule that the call cannot break has no line. `first_of` takes the first that applies.
use Rattle.std.specs.Prelude.{Bool, not, ◌&&◌, ◌||◌, List, [], ◌∷◌, Float}
use Rattle.std.specs.Float.Ieee.{le}
use Rattle.std.specs.Float.Ieee.Scale.{finite}
use Rattle.ieee.specs.Numbers.{zero}
use Rattle.refusals.specs.declared.curves.Faults.{Faults}
use Rattle.refusals.specs.declared.refusals.Refusal.TheVariants as R
use Rattle.refusals.specs.declared.refusals.Rule.{Rule}
use Rattle.refusals.specs.Refusals.{rule}

-- a quoted volatility's formula: tau is a fit's option time, which is above 0; a Black strike is above 0, a normal one need not be
abbrev pub quote_rules : Bool → Float → Float → Float → Float → List Rule
quote_rules black fwd strike vol tau =
    rule R.NotFinite (not (finite fwd && finite strike && finite vol && finite tau))
    ∷ rule R.Times (le tau zero)
    ∷ rule R.Domain (le vol zero || (black && le strike zero))
    ∷ []

-- the annuity: the curve and the coupons' payment times and accruals
abbrev pub annuity_rules : Faults → Faults → List Rule
annuity_rules curve coupons =
    rule R.Size (curve.size || coupons.size)
    ∷ rule R.NotFinite (curve.not_finite || coupons.not_finite)
    ∷ rule R.Order curve.order
    ∷ rule R.Domain curve.domain
    ∷ []
