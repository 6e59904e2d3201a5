-- The factor at a time, the volatility at a time, and the times up to a time. Formulas cite `factor_at` by its name and its laws alone.
use Rattle.std.specs.Prelude.{◌≡◌, Bool, true, false, cond, ◌&&◌, List, [], ◌∷◌, ℕ, ◌≤◌, ◌<◌, length, get_or, Float, Option, Some, None, Err}
use Rattle.std.specs.Float.{nan}
use Rattle.std.specs.Float.Ieee.{eq, lt, le}
use Rattle.std.specs.Float.Ieee.Scale.{finite}
use Rattle.ieee.specs.Rounded.{◌⊕◌, ◌⊖◌, ◌⊗◌, ◌⊘◌}
use Rattle.math_elementary.specs.Ln.{ln_of}
use Rattle.math_exponential.specs.Exp.{exp_of}
use Rattle.refusals.specs.declared.refusals.Refusal.{Refusal}
use Rattle.refusals.specs.declared.refusals.Refusal.TheVariants as R
use Rattle.refusals.specs.Checks.{follows_of}
use Rattle.refusals.specs.Refusals.{Outcome}

-- ---- where a rising list parts in two at t

-- its first n numbers are below t, or, where not `strictly`, at most t
abbrev pub Front : Bool → List Float → Float → ℕ → Type 0
Front strictly xs t n = (k : ℕ) → k < n → follows_of strictly (get_or xs k nan) t ≡ true

-- none from place n on is
abbrev pub Back : Bool → List Float → Float → ℕ → Type 0
Back strictly xs t n = (k : ℕ) → n ≤ k → k < length xs → follows_of strictly (get_or xs k nan) t ≡ false

-- the first n are so, and no others
abbrev pub PartsAt : Bool → List Float → Float → ℕ → Type 0
PartsAt strictly xs t n = (n ≤ length xs) × Front strictly xs t n × Back strictly xs t n

-- ---- lookups

-- A.4: "A time strictly between two neighbours (t0, f0) and (t1, f1) is given exp(ln f0 + w × (ln f1 - ln f0)), where w = (t - t0)/(t1 - t0)."
unfoldable pub between_of : Float → Float → Float → Float → Float → Float
between_of t0 f0 t1 f1 t = let w = (t ⊖ t0) ⊘ (t1 ⊖ t0) in exp_of (ln_of f0 ⊕ (w ⊗ (ln_of f1 ⊖ ln_of f0)))

-- refusal 8 is left for "a factor so found that is not finite"
abbrev pub if_finite : Float → Option Float
if_finite factor = cond (finite factor) (Some factor) None

-- a time strictly between (t0, f0) and its neighbour, the first of the lists, is given that; any other time has `otherwise`
unfoldable pub between_or : Option Float → Float → Float → List Float → List Float → Float → Option Float
between_or otherwise t0 f0 [] fs t = otherwise
between_or otherwise t0 f0 (t1 ∷ ts) [] t = otherwise
between_or otherwise t0 f0 (t1 ∷ ts) (f1 ∷ fs) t = cond (lt t0 t && lt t t1) (if_finite (between_of t0 f0 t1 f1 t)) otherwise

-- A.4: "A time on the list keeps its stored factor" (by rule 8 "numbers compared, so -0 equals +0"); there is none "for times before the first or after the last
-- point" and "for a curve without points"
unfoldable pub factor_at : List Float → List Float → Float → Option Float
unfolding between_or
factor_at [] fs t = None
factor_at (t0 ∷ ts) [] t = None
factor_at (t0 ∷ ts) (f0 ∷ fs) t = cond (eq t0 t) (Some f0) (between_or (factor_at ts fs t) t0 f0 ts fs t)

-- what a list lacks turns the call down; else it is as the rest says of what was found
abbrev pub required : {A : Type 0} → Refusal → Option Float → (Float → Outcome A) → Outcome A
required r (Some x) rest = rest x
required r None rest = Err r

-- rule 8: the curve has no factor for "A time that the call needs"
abbrev pub needing : {A : Type 0} → Option Float → (Float → Outcome A) → Outcome A
needing = required R.OffCurve

-- "the last pillar at or before t, else the first": `best` is the answer so far
unfoldable pub last_at : Float → List Float → List Float → Float → Float
last_at best [] ss t = best
last_at best (x ∷ xs) [] t = best
last_at best (x ∷ xs) (s ∷ ss) t = last_at (cond (le x t) s best) xs ss t

unfoldable pub volatility_at : List Float → List Float → Float → Option Float
unfolding last_at
volatility_at [] ss t = None
volatility_at (x ∷ xs) [] t = None
volatility_at (x ∷ xs) (s ∷ ss) t = Some (last_at s (x ∷ xs) (s ∷ ss) t)

-- "The pillar times at or before t", from the front
unfoldable pub up_to : Float → List Float → List Float
up_to t [] = []
up_to t (x ∷ xs) = cond (le x t) (x ∷ up_to t xs) []
