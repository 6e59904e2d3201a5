-- Demand 3: what is so of every answer of the search, whatever the terms. The bracket's sums are those of the very terms that were given,
-- its ends have no f64 between them or are at most 2^-100 apart, and the rate lies between them.
use Rattle.std.specs.Prelude.{◌≡◌, ℕ, ◌≤◌, ◌<◌, Bool, true, false, not, T, Float, Result, Ok}
use Rattle.std.specs.Float.Ieee.{is_nan, le}
use Rattle.std.specs.Float.Ieee.Scale.{finite}
use Rattle.ieee.specs.Numbers.{one}
use Rattle.math_elementary.specs.Simple.{midpoint_of}
use Rattle.search.specs.declared.Bracket.{Bracket}
use Rattle.search.specs.declared.Unfound.{Unfound}
use Rattle.search.specs.Line.{Tight}
use Rattle.search.specs.Halving.{Halvings}
use Rattle.search.specs.Rate.{rate_at, good, critical_of}
use Rattle.refusals.specs.Refusals.{answer_of, reported}
use Rattle.search.specs.declared.Root.{Root}
use Rattle.search.specs.Values.{no_root, critical_outcome}
use Rattle.search.specs.Reached.{Exactly}

-- "a rung number fixes the rate it names": i is the ladder's first good rung, with none before it good or NaN
pub record FirstGood (sum : Float → Float) (below : Bool) (i : ℕ) : Type 0 where
  pub within : i ≤ 60
  pub good_there : T (good below (sum (rate_at below i)))
  pub number_before : (k : ℕ) → k < i → T (not (is_nan (sum (rate_at below k))))
  pub bad_before : (k : ℕ) → k < i → T (not (good below (sum (rate_at below k))))

-- a final bracket: "its two ends after the last halving"
pub record Bracketed (sum : Float → Float) (b : Bracket) : Type 0 where
  -- the sums are those at the ends, at least 1 at the lower and at most 1 at the upper
  pub lower_sum : b.lower_sum ≡ sum b.lower
  pub upper_sum : b.upper_sum ≡ sum b.upper
  pub enough : T (le one b.lower_sum)
  pub little : T (le b.upper_sum one)
  -- the ends are finite and in order, with no f64 strictly between or at most 2^-100 apart
  pub low_finite : T (finite b.lower)
  pub high_finite : T (finite b.upper)
  pub order : T (le b.lower b.upper)
  pub tight : Tight b.lower b.upper

-- a rate that was found
pub record Located (sum : Float → Float) (v : Root) : Type 0 where
  -- the rungs, and the bracket's ends made of their rates -0.5 × 2^i and 0.5 × 2^j by 200 halvings
  pub first_low : FirstGood sum true v.low_rung
  pub first_high : FirstGood sum false v.high_rung
  pub halved : Halvings 200 (rate_at true v.low_rung) (rate_at false v.high_rung) v.bracket.lower v.bracket.upper
  pub bracketed : Bracketed sum v.bracket
  -- the rate is the ends' midpoint and lies between them, ends included
  pub rate_is : v.rate ≡ midpoint_of v.bracket.lower v.bracket.upper
  pub above : T (le v.bracket.lower v.rate)
  pub below : T (le v.rate v.bracket.upper)

-- the answer r of a search: it is the one defined, it is a refusal exactly when it is to be one, and where it is served, the facts hold of its values
pub record Searched (sum : Float → Float) (r : Result Root Unfound) : Type 0 where
  pub is : r ≡ critical_of sum
  pub exactly : Exactly sum (answer_of (critical_outcome r))
  pub accepted : (v : Root) → critical_outcome r ≡ Ok v → Located sum v
  pub report : reported no_root (critical_outcome r) ≡ reported no_root (critical_outcome (critical_of sum))
