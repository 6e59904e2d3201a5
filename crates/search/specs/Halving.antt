-- Halvings of a bracket and the law of 200 of them, whichever end each of them moves and whatever chooses it.
use Rattle.std.specs.Prelude.{◌≡◌, ℕ, zero, suc, true, false, T, pos, Float}
use Rattle.std.specs.Float.{fin, binary64}
use Rattle.std.specs.Float.Ieee.{fits, le}
use Rattle.std.specs.Float.Ieee.Scale.{finite}
use Rattle.ieee.specs.Decimal.{decimal}
use Rattle.math_elementary.specs.Simple.{midpoint_of}
use Rattle.search.specs.Line.{Neighbours, Tight}

-- one halving: the ends' midpoint is put for the lower end, or for the upper one
pub data Halves (lo hi lo' hi' : Float) : Type 0 where
  raised : lo' ≡ midpoint_of lo hi → hi' ≡ hi → Halves lo hi lo' hi'
  lowered : lo' ≡ lo → hi' ≡ midpoint_of lo hi → Halves lo hi lo' hi'

-- n halvings lead from the ends lo and hi to the ends lo' and hi'
pub data Halvings : ℕ → Float → Float → Float → Float → Type 0 where
  none : {lo hi : Float} → Halvings zero lo hi lo hi
  one_more : {n : ℕ} {lo hi lo' hi' lo'' hi'' : Float} → Halvings n lo hi lo' hi' → Halves lo' hi' lo'' hi'' → Halvings (suc n) lo hi lo'' hi''

-- where halvings may start: two f64 in order, of at most 2^60 in size
pub record Start (lo hi : Float) : Type 0 where
  pub low_fits : T (fits binary64 lo)
  pub high_fits : T (fits binary64 hi)
  pub low_bound : T (le (fin true 1 (pos 60)) lo)
  pub order : T (le lo hi)
  pub high_bound : T (le hi (fin false 1 (pos 60)))

-- the ends after any number of halvings: finite, in order, no further out than the first ends lo and hi, and their midpoint between them, ends included
pub record Between (lo hi lo' hi' : Float) : Type 0 where
  pub low_fits : T (fits binary64 lo')
  pub high_fits : T (fits binary64 hi')
  pub low_finite : T (finite lo')
  pub high_finite : T (finite hi')
  pub order : T (le lo' hi')
  pub low_inside : T (le lo lo')
  pub high_inside : T (le hi' hi)
  pub mid_above : T (le lo' (midpoint_of lo' hi'))
  pub mid_below : T (le (midpoint_of lo' hi') hi')

-- The law, proved as `halving_law` (proofs/HalvingLaw.antt). To use it, show `Halvings n lo hi lo' hi'` of a search's first ends and its ends
-- after n halvings: it begins with `none`, and each halving adds `one_more h (raised refl refl)` or `one_more h (lowered refl refl)`, whatever
-- was looked at to choose the end. A search that stops early has made fewer halvings, and `between` holds of it all the same.
pub record HalvingLaw : Type 0 where
  -- after any number of halvings
  pub between : {n : ℕ} {lo hi lo' hi' : Float} → Start lo hi → Halvings n lo hi lo' hi' → Between lo hi lo' hi'
  -- after 200: no f64 between the ends, or at most 2^-100 apart
  pub tight : {lo hi lo' hi' : Float} → Start lo hi → Halvings 200 lo hi lo' hi' → Tight lo' hi'
  -- the volatility's search, "from 1e-8 to 2.0, 200 halvings": no f64 between the ends at all
  pub volatility_start : Start (decimal 1 8) (decimal 2 0)
  pub volatility : {lo hi : Float} → Halvings 200 (decimal 1 8) (decimal 2 0) lo hi → Neighbours binary64 lo hi
