-- The outcome of a call that writes a list, and what the lent output holds afterwards: document 01, "Lent output is untouched" by a refused call.
use Rattle.std.specs.Prelude.{cond, List, ◌++◌, length, drop, Float, Ok, Err}
use Rattle.refusals.specs.declared.checks.Test.TheVariants.{Finite}
use Rattle.refusals.specs.declared.refusals.Refusal.TheVariants as R
use Rattle.refusals.specs.Checks.{all_of}
use Rattle.refusals.specs.Refusals.{Outcome}

-- a served list stands at the front of the output, and the rest of it is as it was; a refusal leaves all of it
abbrev pub stored_of : {A : Type 0} → Outcome (List A) → List A → List A
stored_of (Ok xs) out = xs ++ drop (length xs) out
stored_of (Err r) out = out

-- rule 13: a float of the answer is not finite
abbrev pub finishing_list : List Float → Outcome (List Float)
finishing_list xs = cond (all_of Finite xs) (Ok xs) (Err R.Overflow)
