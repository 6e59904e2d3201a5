-- Document 01, "Critical rate": two ladders, 200 halvings between their rungs, and the ends' midpoint, of any sum as a function of the rate.
use Rattle.std.specs.Prelude.{ℕ, zero, suc, Bool, true, false, cond, Float, Option, Some, None, Result, Ok, Err}
use Rattle.std.specs.Float.{fin}
use Rattle.std.specs.Float.Ieee.{minus, is_nan, lt, le}
use Rattle.ieee.specs.Numbers.{one}
use Rattle.math_elementary.specs.Simple.{midpoint_of}
use Rattle.search.specs.declared.Bracket.{Bracket}
use Rattle.search.specs.declared.Root.{Root}
use Rattle.search.specs.declared.Unfound.{Unfound}
use Rattle.search.specs.declared.Unfound.TheVariants as U
use Rattle.search.specs.declared.ladder.Rung.{Rung}
use Rattle.search.specs.declared.ladder.NanSum.{NanSum}

-- "Lower rates are -0.5 × 2^i and upper 0.5 × 2^j": ±1 × 2^(i - 1). The lower ladder is the one with `below` true.
abbrev pub rate_at : Bool → ℕ → Float
rate_at below i = fin below 1 (minus i 1)

-- "good rate: sum at least 1 below, at most 1 above"; a NaN is neither
abbrev pub good : Bool → Float → Bool
good true sum = le one sum
good false sum = le sum one

-- what a ladder comes to: a rung, none, or a NaN sum
abbrev pub Climbed : Type 0
Climbed = Result (Option Rung) NanSum

-- what is found at rung i: a NaN sum, which is refusal 9, a good rate, or neither
unfoldable pub rung_of : (Float → Float) → Bool → ℕ → Climbed
rung_of sum below i = let s = sum (rate_at below i) in cond (is_nan s) (Err record {}) (cond (good below s) (Ok (Some (record { number = i; rate = rate_at below i; sum = s }))) (Ok None))

-- "The ladder is left from inside at the first good rate": rung i is looked at where nothing was found before
unfoldable pub or_rung : Climbed → (Float → Float) → Bool → ℕ → Climbed
or_rung (Ok (Some rung)) sum below i = Ok (Some rung)
or_rung (Err e) sum below i = Err e
or_rung (Ok None) sum below i = rung_of sum below i

-- the ladder's first n rungs; "i and j from 0 to 60": it has 61
unfoldable pub ladder_of : (Float → Float) → Bool → ℕ → Climbed
ladder_of sum below zero = Ok None
ladder_of sum below (suc n) = or_rung (ladder_of sum below n) sum below n

-- "a sum above 1 moves the lower end", any other the upper one: the midpoint and its sum are put for it
unfoldable pub bracket_moved_to : Bracket → Float → Float → Bracket
bracket_moved_to b m s =
    cond (lt one s) (record { lower = m; upper = b.upper; lower_sum = s; upper_sum = b.upper_sum }) (record { lower = b.lower; upper = m; lower_sum = b.lower_sum; upper_sum = s })

-- one halving; a NaN sum stops the search
unfoldable pub halve_of : (Float → Float) → Bracket → Result Bracket NanSum
halve_of sum b = let m = midpoint_of b.lower b.upper in let s = sum m in cond (is_nan s) (Err record {}) (Ok (bracket_moved_to b m s))

unfoldable pub then_halve : (Float → Float) → Result Bracket NanSum → Result Bracket NanSum
then_halve sum (Ok b) = halve_of sum b
then_halve sum (Err e) = Err e

-- the first n halvings of a bracket; "Then 200 halvings"
unfoldable pub halvings_of : (Float → Float) → ℕ → Bracket → Result Bracket NanSum
halvings_of sum zero b = Ok b
halvings_of sum (suc n) b = then_halve sum (halvings_of sum n b)

-- "The answer is the ends' midpoint, with the final bracket kept as two rates and their two sums." "The two rung numbers are reported".
unfoldable pub finish : ℕ → ℕ → Result Bracket NanSum → Result Root Unfound
finish i j (Ok b) = Ok (record { rate = midpoint_of b.lower b.upper; bracket = b; low_rung = i; high_rung = j })
finish i j (Err e) = Err U.NotANumber

-- Refusals 9 and 10 "in the order of its evaluations": a NaN on the lower ladder, a NaN on the upper, then "One of the two ladders has
-- no good rate, both having been run", then a NaN in a halving.
unfoldable pub from_ladders : (Float → Float) → Climbed → Climbed → Result Root Unfound
from_ladders sum (Err e) high = Err U.NotANumber
from_ladders sum (Ok low) (Err e) = Err U.NotANumber
from_ladders sum (Ok None) (Ok high) = Err U.NoBracket
from_ladders sum (Ok (Some low)) (Ok None) = Err U.NoBracket
from_ladders sum (Ok (Some low)) (Ok (Some high)) = finish low.number high.number (halvings_of sum 200 (record { lower = low.rate; upper = high.rate; lower_sum = low.sum; upper_sum = high.sum }))

unfoldable pub critical_of : (Float → Float) → Result Root Unfound
critical_of sum = from_ladders sum (ladder_of sum true 61) (ladder_of sum false 61)
