-- Document 02, A.4: "A time strictly between two neighbours (t0, f0) and (t1, f1) is given exp(ln f0 + w × (ln f1 - ln f0)), where w = (t - t0)/(t1 - t0). A time on the list keeps its stored factor. Refusal 8 is left for times before the first or after the last point, for a curve without points, and for a factor so found that is not finite. .. Jobs served before keep their values."
use Rattle.std.specs.Prelude.{◌≡◌, refl, Bool, true, false, cond, List, [], ◌∷◌, ℕ, suc, ◌-◌, ◌*◌, ◌<◌, ◌^◌, T, length, get_or, Float, Option, Some, None}
use Rattle.std.proofs.Common.{◌∙◌}
use Rattle.std.specs.Float.{nan, binary64}
use Rattle.std.specs.Float.Ieee.{add, sub, mul, div, neg, lt, le, eq, ne, is_nan, of_int, of_bits, size}
use Rattle.std.specs.Float.Ieee.Scale.{finite}
use Rattle.ieee.specs.Decimal.{decimal}
use Rattle.ieee.specs.Numbers.{one, two}
use Rattle.math_elementary.specs.Ln.{ln_of, places, significand_of, exponent_of, odd_series_of}
use Rattle.math_exponential.specs.Exp.{exp_of, nearest_whole, series_of}
use Rattle.refusals.specs.declared.checks.Test.TheVariants.{Finite}
use Rattle.refusals.specs.Checks.{all_of, in_order_from, in_order}
use Rattle.refusals.proofs.Order.{both, holds, lt_le, le_of_lt, le_of_eq, lt_not_above, equal_not_above}
use Rattle.curve.specs.Lookups.{between_of, between_or, factor_at}
use Rattle.curve.proofs.Halves.{rest}
use Rattle.curve.proofs.Laws.{none_found}
use Rattle.curve.proofs.Factors as Factors

-- ---- what a curve is behind rules 1, 2 and 4: as many factors as times, and times that are finite and strictly rise
pub record Curve (ts fs : List Float) : Type 0 where
  pub paired : length fs ≡ length ts
  pub numbers : all_of Finite ts ≡ true
  pub rising : in_order true ts ≡ true

-- place k has t, numbers compared
pub record On (ts : List Float) (t : Float) (k : ℕ) : Type 0 where
  pub listed : k < length ts
  pub equal : eq (get_or ts k nan) t ≡ true

-- t is "strictly between two neighbours", those at k and behind it
pub record Between (ts : List Float) (t : Float) (k : ℕ) : Type 0 where
  pub listed : suc k < length ts
  pub above : T (lt (get_or ts k nan) t)
  pub below : T (lt t (get_or ts (suc k) nan))

abbrev pub Before : List Float → Float → Type 0
Before ts t = T (lt t (get_or ts 0 nan))

pub record After (ts : List Float) (t : Float) : Type 0 where
  pub some : 0 < length ts
  pub above : T (lt (get_or ts (length ts - 1) nan) t)

-- what a time between the points at k and behind it is given
abbrev pub between : List Float → List Float → Float → ℕ → Float
between ts fs t k = between_of (get_or ts k nan) (get_or fs k nan) (get_or ts (suc k) nan) (get_or fs (suc k) nan) t

-- refusal 8 "for a factor so found that is not finite": so it is of every curve
module _ (ts fs : List Float) (t : Float) where
  abbrev pub NotFinite : Type 0
  NotFinite = (k : ℕ) → Between ts t k → finite (between ts fs t k) ≡ false → factor_at ts fs t ≡ None

-- "for a curve without points"
pub no_points : (fs : List Float) (t : Float) → factor_at [] fs t ≡ None
unfolding factor_at
no_points fs t = refl

-- ---- there is no other case

-- where a time stands
pub data Stands (ts : List Float) (t : Float) : Type 0 where
  nowhere : ts ≡ [] → Stands ts t
  on : (k : ℕ) → On ts t k → Stands ts t
  between_two : (k : ℕ) → Between ts t k → Stands ts t
  before_first : Before ts t → Stands ts t
  after_last : After ts t → Stands ts t

-- what refusal 8 is left for
pub data Left (ts fs : List Float) (t : Float) : Type 0 where
  for_no_points : ts ≡ [] → Left ts fs t
  for_before : Before ts t → Left ts fs t
  for_after : After ts t → Left ts fs t
  for_not_finite : (k : ℕ) → Between ts t k → finite (between ts fs t k) ≡ false → Left ts fs t

-- what a factor is
pub data Given (ts fs : List Float) (t factor : Float) : Type 0 where
  stored : (k : ℕ) → On ts t k → factor ≡ get_or fs k nan → Given ts fs t factor
  worked : (k : ℕ) → Between ts t k → factor ≡ between ts fs t k → finite factor ≡ true → Given ts fs t factor

-- ---- "Jobs served before keep their values": what document 01's rule found is found still

-- rule 8 before A.4: "A time that the call needs is not among the curve's times (numbers compared, so -0 equals +0)."
unfoldable pub listed_at : List Float → List Float → Float → Option Float
listed_at [] fs t = None
listed_at (x ∷ ts) [] t = None
listed_at (x ∷ ts) (f ∷ fs) t = cond (eq x t) (Some f) (listed_at ts fs t)

-- a listed time is above every time before it
above_earlier : (before : Float) (ts fs : List Float) (t : Float) {p : Float} → in_order_from true before ts ≡ true → listed_at ts fs t ≡ Some p → T (lt before t)
unfolding in_order_from listed_at
above_earlier before [] fs t h e = absurd (none_found e)
above_earlier before (x ∷ ts) [] t h e = absurd (none_found e)
above_earlier before (x ∷ ts) (f ∷ fs) t {p} h e =
    let r = both (lt before x) (in_order_from true x ts) h in
    lt_le before x t (holds (lt before x) r.0) (go (λ k. above_earlier x ts fs t r.1 k) (eq x t) refl e)
  where
    go : (listed_at ts fs t ≡ Some p → T (lt x t)) → (b : Bool) → eq x t ≡ b → cond b (Some f) (listed_at ts fs t) ≡ Some p → T (le x t)
    go later true q k = le_of_eq x t (holds (eq x t) q)
    go later false q k = le_of_lt x t (later k)

-- and not below the first
not_before : (ts fs : List Float) (t : Float) {p : Float} → in_order true ts ≡ true → listed_at ts fs t ≡ Some p → lt t (get_or ts 0 nan) ≡ false
unfolding in_order listed_at
not_before [] fs t h e = absurd (none_found e)
not_before (x ∷ ts) [] t h e = absurd (none_found e)
not_before (x ∷ ts) (f ∷ fs) t {p} h e = go (eq x t) refl e
  where
    go : (b : Bool) → eq x t ≡ b → cond b (Some f) (listed_at ts fs t) ≡ Some p → lt t x ≡ false
    go true q k = equal_not_above x t q
    go false q k = lt_not_above x t (above_earlier x ts fs t h k)

pub kept : (ts fs : List Float) (t : Float) {p : Float} → in_order true ts ≡ true → listed_at ts fs t ≡ Some p → factor_at ts fs t ≡ Some p
unfolding listed_at factor_at in_order
kept [] fs t h e = absurd (none_found e)
kept (x ∷ ts) [] t h e = absurd (none_found e)
kept (x ∷ ts) (f ∷ fs) t {p} h e = go (λ k. kept ts fs t (rest x ts h) k) (eq x t) refl e
  where
    go : (listed_at ts fs t ≡ Some p → factor_at ts fs t ≡ Some p) → (b : Bool) → eq x t ≡ b → cond b (Some f) (listed_at ts fs t) ≡ Some p → cond (eq x t) (Some f) (between_or (factor_at ts fs t) x f ts fs t) ≡ Some p
    go later true q k = rw q k
    go later false q k = rw q (Factors.neighbour_not_above (factor_at ts fs t) x f ts fs t (λ _. not_before ts fs t (rest x ts h) k) ∙ later k)

-- ---- worked inputs

-- 0x1.fffffffffffffp+1023
abbrev largest : Float
largest = of_bits binary64 0x7fef_ffff_ffff_ffff

-- a w that is no number, for t - t0 and t1 - t0 are both infinite
pub nan_refused : factor_at (neg (decimal (10 ^ 308) 0) ∷ decimal (12 * 10 ^ 307) 0 ∷ []) (decimal 9 1 ∷ decimal 8 1 ∷ []) (decimal (10 ^ 308) 0) ≡ None
unfolding factor_at between_or between_of exp_of nearest_whole series_of ln_of places significand_of exponent_of odd_series_of decimal add sub mul div neg lt le eq ne is_nan of_int of_bits size
nan_refused = refl

-- the largest f64 as the upper factor: w has rounded to 1, ln f0 + (ln f1 - ln f0) is an f64 above ln f1, and exp of it is infinite
pub infinity_refused : factor_at (decimal 7057691290677448 16 ∷ decimal 32464201598086486 16 ∷ []) (decimal 9469050158921633 253 ∷ largest ∷ []) (decimal 3246420159808648 15) ≡ None
unfolding factor_at between_or between_of exp_of nearest_whole series_of ln_of places significand_of exponent_of odd_series_of decimal add sub mul div neg lt le eq ne is_nan of_int of_bits size
infinity_refused = refl

-- it is not promised that a factor lies between its neighbours': between two of 0.68 there is one below both
abbrev is_below : Option Float → Float → Bool
is_below (Some factor) x = lt factor x
is_below None x = false

pub below_both : is_below (factor_at (one ∷ two ∷ []) (decimal 68 2 ∷ decimal 68 2 ∷ []) (decimal 15 1)) (decimal 68 2) ≡ true
unfolding factor_at between_or between_of exp_of nearest_whole series_of ln_of places significand_of exponent_of odd_series_of decimal add sub mul div neg lt le eq ne is_nan of_int of_bits size
below_both = refl
