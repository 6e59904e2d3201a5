-- Demand 3, of refusal 10: "no call is refused so on any other ground".
use Rattle.std.specs.Prelude.{◌≡◌, Err}
use Rattle.refusals.specs.declared.refusals.Refusal.TheVariants as R
use Rattle.refusals.specs.Refusals.{Outcome}

-- not refused for want of a bracket
abbrev pub NeverNoBracket : {A : Type 0} → Outcome A → Type 0
NeverNoBracket o = o ≡ Err R.NoBracket → ⊥
