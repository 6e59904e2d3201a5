-- Document 01, "How a call is turned down". An outcome is what a call gives by document 01, a value or a refusal: the code's own `Result`.
use Rattle.std.specs.Prelude.{◌≡◌, Bool, cond, List, [], ◌∷◌, ℕ, Float, Result, Ok, Err}
use Rattle.std.specs.Float.Ieee.Scale.{finite}
use Rattle.ieee.specs.Numbers as Numbers
use Rattle.refusals.specs.declared.refusals.Refusal.{Refusal}
use Rattle.refusals.specs.declared.refusals.Refusal.TheVariants as R
use Rattle.refusals.specs.declared.refusals.Rule.{Rule}
use Rattle.refusals.specs.declared.refusals.PriceReport.{PriceReport}

-- what a call gives
abbrev pub Outcome : Type 0 → Type 0
Outcome A = Result A Refusal

-- what its rules come to, or whether a lent list was filled: an outcome without values
abbrev pub Answer : Type 0
Answer = Outcome (Unit {0})

-- ---- an outcome's number and values

-- document 01's numbers, and of document 02 those of A.5, "A zero seed is refused as 14", and A.6, "more than one in kind 13 is refused as 15"; they are stated here alone
abbrev pub number_of : Refusal → ℕ
number_of R.Size = 1
number_of R.NotFinite = 2
number_of R.MeanReversion = 3
number_of R.Order = 4
number_of R.Times = 5
number_of R.Domain = 6
number_of R.ZeroSeed = 14
number_of R.Empty = 7
number_of R.SeveralPillars = 15
number_of R.OffCurve = 8
number_of R.NanReached = 9
number_of R.NoBracket = 10
number_of R.FlatDerivative = 11
number_of R.NoSignChange = 12
number_of R.Overflow = 13

-- the refusal's place in the order in which refusals are met, of which its number says nothing: with 16, 17 and 18, whose places are left free, the order is 1, 17, 2, 3, 4, 5, 6, 14, 16, 7, 15, 8, 9, 10, 11, 12, 13, 18
abbrev pub place_of : Refusal → ℕ
place_of R.Size = 1
place_of R.NotFinite = 3
place_of R.MeanReversion = 4
place_of R.Order = 5
place_of R.Times = 6
place_of R.Domain = 7
place_of R.ZeroSeed = 8
place_of R.Empty = 10
place_of R.SeveralPillars = 11
place_of R.OffCurve = 12
place_of R.NanReached = 13
place_of R.NoBracket = 14
place_of R.FlatDerivative = 15
place_of R.NoSignChange = 16
place_of R.Overflow = 17

-- "Answer 0 is served."
abbrev pub answer_number : Answer → ℕ
answer_number (Ok _) = 0
answer_number (Err r) = number_of r

-- an outcome without its values
abbrev pub answer_of : {A : Type 0} → Outcome A → Answer
answer_of (Ok v) = Ok tt
answer_of (Err r) = Err r

-- "with value +0, every other result field 0 and any returned part empty": the values, or those of a refusal, `none`
abbrev pub value_or : {A : Type 0} → A → Outcome A → A
value_or none (Ok v) = v
value_or none (Err r) = none

-- "A refused call returns zeros beside its number": what a call reports, its number and its values, which are `none` where it is refused
pub record Report (A : Type 0) : Type 0 where
  pub answer : ℕ
  pub values : A

abbrev pub reported : {A : Type 0} → A → Outcome A → Report A
reported none o = record { answer = answer_number (answer_of o); values = value_or none o }

-- ---- rules 1 to 7, 14 and 15: "the first number below that applies"

-- a rule, and whether it applies to the call
abbrev pub rule : Refusal → Bool → Rule
rule r b = record { refusal = r; applies = b }

unfoldable pub first_of : List Rule → Answer
first_of [] = Ok tt
first_of (x ∷ xs) = cond x.applies (Err x.refusal) (first_of xs)

-- the same, rule after rule: one more rule turns down what those before it have let through
unfoldable pub and_rule : Answer → Rule → Answer
and_rule (Ok _) x = cond x.applies (Err x.refusal) (Ok tt)
and_rule (Err r) x = Err r

-- ---- from one step of a call to the next

-- refused as the answer says, or as the rest says
abbrev pub after : {A : Type 0} → Answer → Outcome A → Outcome A
after (Ok _) rest = rest
after (Err r) rest = Err r

-- turned down by the first of the rules that applies, or as the rest says
abbrev pub unless : {A : Type 0} → List Rule → Outcome A → Outcome A
unless rules rest = after (first_of rules) rest

-- a refusal met on the way is the call's own
abbrev pub following : {A B : Type 0} → Outcome A → (A → Outcome B) → Outcome B
following (Ok v) rest = rest v
following (Err r) rest = Err r

-- a list one value longer, where there is one
abbrev pub prepend : Float → Outcome (List Float) → Outcome (List Float)
prepend x (Ok xs) = Ok (x ∷ xs)
prepend x (Err r) = Err r

-- rule 13: "A float of the answer .. is not finite"
abbrev pub finishing : Float → Outcome Float
finishing v = cond (finite v) (Ok v) (Err R.Overflow)

-- ---- a call with one value

-- what is told of an outcome outside
abbrev pub reported_price : Outcome Float → PriceReport
reported_price o = record { answer = answer_number (answer_of o); value = value_or Numbers.zero o }

-- "Where an answer is an enum, there is a definition that gives this paper's number and values for each of its cases. The promises use that definition": what a call with one value promises of its answer, given the outcome that it is to have
pub record Priced (p o : Outcome Float) : Type 0 where
  pub outcome : p ≡ o
  pub report : reported_price p ≡ reported_price o
