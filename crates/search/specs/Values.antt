-- Document 01's outcome of a search.
use Rattle.std.specs.Prelude.{Bool, ◌&&◌, Float, Result, Ok, Err}
use Rattle.std.specs.Float.Ieee.Scale.{finite}
use Rattle.ieee.specs.Numbers.{zero}
use Rattle.refusals.specs.declared.refusals.Refusal.{Refusal}
use Rattle.refusals.specs.declared.refusals.Refusal.TheVariants as R
use Rattle.refusals.specs.Refusals.{Outcome}
use Rattle.search.specs.declared.Bracket.{Bracket}
use Rattle.search.specs.declared.Root.{Root}
use Rattle.search.specs.declared.Unfound.{Unfound}
use Rattle.search.specs.declared.Unfound.TheVariants as U

-- beside a refusal's number: "every other result field 0"
abbrev pub no_root : Root
no_root = record { rate = zero; bracket = record { lower = zero; upper = zero; lower_sum = zero; upper_sum = zero }; low_rung = 0; high_rung = 0 }

-- 9: "A critical-rate evaluation .. that is reached is NaN." 10: "One of the two ladders has no good rate, both having been run."
abbrev pub refusal_by : Unfound → Refusal
refusal_by U.NotANumber = R.NanReached
refusal_by U.NoBracket = R.NoBracket

abbrev pub critical_outcome : Result Root Unfound → Outcome Root
critical_outcome (Ok root) = Ok root
critical_outcome (Err unfound) = Err (refusal_by unfound)

-- of a root, what rule 13 looks at: the rate, the bracket's ends and their sums
abbrev pub root_finite : Float → Bracket → Bool
root_finite rate b = finite rate && finite b.lower && finite b.upper && finite b.lower_sum && finite b.upper_sum
