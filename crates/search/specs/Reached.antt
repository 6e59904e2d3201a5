-- Document 01: "A search reaches each ladder's rungs up to its first good one, all 61 if none is, and the halvings once both have one."
-- And demand 3: for want of a bracket a search is refused exactly when no sum reached is NaN and at least one ladder has no good rate.
use Rattle.std.specs.Prelude.{◌≡◌, ◌⊎◌, ◌↔◌, ℕ, zero, suc, Bool, true, false, not, ◌||◌, cond, List, [], ◌∷◌, ◌++◌, T, Float, Ok, Err}
use Rattle.std.specs.Float.Ieee.{is_nan, lt}
use Rattle.ieee.specs.Numbers.{one}
use Rattle.math_elementary.specs.Simple.{midpoint_of}
use Rattle.refusals.specs.declared.refusals.Refusal.TheVariants as R
use Rattle.search.specs.Rate.{rate_at, good}
use Rattle.refusals.specs.Refusals.{Answer}

-- n rungs of a ladder from rung i on; the whole ladder has 61 from rung 0 on
unfoldable pub rates_from : Bool → ℕ → ℕ → List Float
rates_from below zero i = []
rates_from below (suc n) i = rate_at below i ∷ rates_from below n (suc i)

abbrev pub ladder_rates : Bool → List Float
ladder_rates below = rates_from below 61 0

-- the rates "up to" the "first good one", that one included; all "if none is"
unfoldable pub up_to_good : (Float → Float) → Bool → List Float → List Float
up_to_good sum below [] = []
up_to_good sum below (r ∷ rs) = r ∷ cond (good below (sum r)) [] (up_to_good sum below rs)

-- the rates from the first good one on; none where none is good
unfoldable pub from_good : (Float → Float) → Bool → List Float → List Float
from_good sum below [] = []
from_good sum below (r ∷ rs) = cond (good below (sum r)) (r ∷ rs) (from_good sum below rs)

-- the midpoints of n halvings of the ends lo and hi: a sum above 1 moves the lower end
unfoldable pub midpoints : (Float → Float) → ℕ → Float → Float → List Float
midpoints sum zero lo hi = []
midpoints sum (suc n) lo hi = let m = midpoint_of lo hi in m ∷ midpoints sum n (cond (lt one (sum m)) m lo) (cond (lt one (sum m)) hi m)

-- "and the halvings once both have one": from the first good rate of each
unfoldable pub once_both : (Float → Float) → List Float → List Float → List Float
once_both sum [] highs = []
once_both sum (lo ∷ lows) [] = []
once_both sum (lo ∷ lows) (hi ∷ highs) = midpoints sum 200 lo hi

-- the rates that a search reaches, in order
unfoldable pub reached : (Float → Float) → List Float
reached sum =
    up_to_good sum true (ladder_rates true)
    ++ (up_to_good sum false (ladder_rates false)
    ++ once_both sum (from_good sum true (ladder_rates true)) (from_good sum false (ladder_rates false)))

-- whether one of the rates has a NaN sum
unfoldable pub some_nan : (Float → Float) → List Float → Bool
some_nan sum [] = false
some_nan sum (r ∷ rs) = is_nan (sum r) || some_nan sum rs

-- whether one of the rates is good
unfoldable pub some_good : (Float → Float) → Bool → List Float → Bool
some_good sum below [] = false
some_good sum below (r ∷ rs) = good below (sum r) || some_good sum below rs

-- "One of the two ladders has no good rate" is said of the whole ladder
abbrev pub has_good : (Float → Float) → Bool → Bool
has_good sum below = some_good sum below (ladder_rates below)

-- "no sum that it reaches is NaN and at least one of its two ladders of 61 has no good rate"
abbrev pub Unbracketed : (Float → Float) → Type 0
Unbracketed sum = T (not (some_nan sum (reached sum))) × (T (not (has_good sum true)) ⊎ T (not (has_good sum false)))

-- When exactly a search has each answer. By these nothing else is refused, and nothing refused for any other reason.
pub record Exactly (sum : Float → Float) (answer : Answer) : Type 0 where
  -- 9: "A critical-rate evaluation .. that is reached is NaN"
  pub not_a_number : (answer ≡ Err R.NanReached) ↔ T (some_nan sum (reached sum))
  -- 10: no sum reached is NaN, and at least one ladder has no good rate
  pub no_bracket : (answer ≡ Err R.NoBracket) ↔ Unbracketed sum
  -- 0, served: no sum reached is NaN, and both ladders have a good rate
  pub served : (answer ≡ Ok tt) ↔ (T (not (some_nan sum (reached sum))) × T (has_good sum true) × T (has_good sum false))
