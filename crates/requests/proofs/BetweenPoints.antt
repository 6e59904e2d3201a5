-- Document 02, A.4, of specs/BetweenPoints.antt: what a time is given by its place on a curve, and what refusal 8 is left for.
use Rattle.std.specs.Prelude.{◌≡◌, refl, Bool, true, false, not, List, [], ◌∷◌, ℕ, suc, ◌+◌, ◌-◌, ◌≤◌, ◌<◌, T, ltb, eqb, length, get_or, Float, Some, None}
use Rattle.std.proofs.Common.{sym, ap, ◌∙◌, true≢false, suc-le-suc, arith, zero-lt-suc, eqb-true}
use Rattle.std.proofs.lemmas.Bool.{not-false}
use Rattle.std.specs.Float.{nan, inf, fin}
use Rattle.std.specs.Float.Ieee.{lt, eq}
use Rattle.std.specs.Float.Ieee.Scale.{finite}
use Rattle.refusals.specs.declared.checks.Test.TheVariants.{Finite}
use Rattle.refusals.specs.Faults.{curve_faults}
use Rattle.refusals.specs.Checks.{all_of, in_order}
use Rattle.refusals.proofs.Order.{both, holds, held, refuted, lt_le, le_of_eq, lt_unequal, lt_not_above, above_unequal, lt_otherwise}
use Rattle.refusals.proofs.Outcomes.{neither}
use Rattle.curve.specs.Lookups.{Front, if_finite, factor_at}
use Rattle.curve.proofs.Halves.{rises, front, back, back_none}
use Rattle.curve.proofs.Laws.{none_found}
use Rattle.curve.proofs.Factors as Factors
use Rattle.requests.specs.BetweenPoints.{Curve, On, Between, Before, After, between, NotFinite, no_points, Stands, nowhere, on, between_two, before_first, after_last, Left, for_no_points, for_before, for_after, for_not_finite, Given, stored, worked}

-- what these rules let through is one
pub let_through : (ts fs : List Float) → (curve_faults ts fs).size ≡ false → (curve_faults ts fs).not_finite ≡ false → (curve_faults ts fs).order ≡ false → Curve ts fs
let_through ts fs a b c =
    let paired = eqb-true (length ts) (length fs) (not-false (eqb (length ts) (length fs)) (neither (ltb 2048 (length ts)) (not (eqb (length ts) (length fs))) a).1) in
    record { paired = sym paired; numbers = (both (all_of Finite ts) (all_of Finite fs) (not-false _ b)).0; rising = not-false (in_order true ts) c }

-- ---- the place of t
equal_not_below : (x t : Float) → eq x t ≡ true → lt x t ≡ false
equal_not_below x t e = refuted (lt x t) (λ l. true≢false (sym e ∙ lt_unequal x t l))

module _ (ts fs : List Float) (c : Curve ts fs) (t : Float) where
  -- "A time on the list keeps its stored factor."
  pub on_the_list : (k : ℕ) → On ts t k → factor_at ts fs t ≡ Some (get_or fs k nan)
  on_the_list k o =
      let h = o.listed in
      let z : k ≤ length ts = omega arith in
      let below : Front true ts t k = λ j m. held (lt (get_or ts j nan) t) (lt_le (get_or ts j nan) (get_or ts k nan) t (rises ts j k c.rising m h) (le_of_eq (get_or ts k nan) t (holds (eq (get_or ts k nan) t) o.equal))) in
      Factors.on_list ts fs t k (z, below, back true ts t k c.rising (equal_not_below (get_or ts k nan) t o.equal)) h (rw c.paired h) o.equal

  -- "A time strictly between two neighbours (t0, f0) and (t1, f1) is given exp(ln f0 + w × (ln f1 - ln f0))", where it is finite
  pub between_neighbours : (k : ℕ) → Between ts t k → factor_at ts fs t ≡ if_finite (between ts fs t k)
  between_neighbours k b =
      let h = b.listed in
      let m : k < length ts = omega arith in
      let n : suc k ≤ length ts = omega arith in
      let z : suc k ≡ 0 → ⊥ = λ e. omega arith in
      let q : k + 1 ≡ suc k = omega arith in
      let r : suc k - 1 ≡ k = omega arith in
      let below : Front true ts t (suc k) = rw q at (front true ts t k c.rising m (held (lt (get_or ts k nan) t) b.above)) in
      Factors.between_two ts fs t (suc k) c.rising (n, below, back true ts t (suc k) c.rising (lt_not_above t (get_or ts (suc k) nan) b.below)) z h (rw c.paired h) (above_unequal (get_or ts (suc k) nan) t b.below) ∙ rw r refl

  -- a factor between two points that is finite is the factor, and one that is not leaves none
  pub found : (k : ℕ) → Between ts t k → finite (between ts fs t k) ≡ true → factor_at ts fs t ≡ Some (between ts fs t k)
  found k b f = between_neighbours k b ∙ rw f refl

  -- refusal 8 "for a factor so found that is not finite"
  pub not_finite : NotFinite ts fs t
  not_finite k b f = between_neighbours k b ∙ rw f refl

  -- "for times before the first"
  pub before : Before ts t → factor_at ts fs t ≡ None
  before l = Factors.before_first ts fs t c.rising (back true ts t 0 c.rising (lt_not_above t (get_or ts 0 nan) l)) (above_unequal (get_or ts 0 nan) t l)

  -- "or after the last point"
  pub after : After ts t → factor_at ts fs t ≡ None
  after a =
      let h = a.some in
      let m : length ts - 1 < length ts = omega arith in
      let n : length ts ≤ length ts = omega arith in
      let q : length ts - 1 + 1 ≡ length ts = omega arith in
      let below : Front true ts t (length ts) = rw q at (front true ts t (length ts - 1) c.rising m (held (lt (get_or ts (length ts - 1) nan) t) a.above)) in
      Factors.after_last ts fs t (length ts) (n, below, back_none true ts t (length ts) n) n

-- ---- there is no other case

above_minus_infinity : (x : Float) → finite x ≡ true → T (lt (inf true) x)
unfolding lt
above_minus_infinity nan h = absurd (true≢false (sym h))
above_minus_infinity (inf s) h = absurd (true≢false (sym h))
above_minus_infinity (fin s m e) h = tt

after_one : (x t : Float) → T (lt x t) → Stands (x ∷ []) t
after_one x t l = after_last (record { some = zero-lt-suc 0; above = l })

next_place : (x : Float) (ts : List Float) (t : Float) → Stands ts t → T (lt x t) → Stands (x ∷ ts) t
next_place x [] t stands l = after_one x t l
next_place x (y ∷ ts) t (nowhere e) l = absurd (let z : length (y ∷ ts) ≡ 0 = ap length e in let n : ⊥ = omega arith in n)
next_place x (y ∷ ts) t (on k o) l = on (suc k) (record { listed = suc-le-suc o.listed; equal = o.equal })
next_place x (y ∷ ts) t (between_two k b) l = between_two (suc k) (record { listed = suc-le-suc b.listed; above = b.above; below = b.below })
next_place x (y ∷ ts) t (before_first b) l = between_two 0 (record { listed = suc-le-suc (zero-lt-suc (length ts)); above = l; below = b })
next_place x (y ∷ ts) t (after_last a) l =
    let p : length (x ∷ y ∷ ts) - 1 ≡ suc (length ts) = omega arith in
    let q : length (y ∷ ts) - 1 ≡ length ts = omega arith in
    after_last (record { some = zero-lt-suc (length (y ∷ ts)); above = rw p (rw q at a.above) })

pub stands : (ts : List Float) (t : Float) → all_of Finite ts ≡ true → finite t ≡ true → Stands ts t
unfolding all_of
stands [] t n f = nowhere refl
stands (x ∷ ts) t n f =
    let r = both (finite x) (all_of Finite ts) n in
    go (stands ts t r.1 f) r.0 (eq x t) (lt x t) refl refl
  where
    go : Stands ts t → finite x ≡ true → (e l : Bool) → eq x t ≡ e → lt x t ≡ l → Stands (x ∷ ts) t
    go behind n true l p q = on 0 (record { listed = zero-lt-suc (length ts); equal = p })
    go behind n false true p q = next_place x ts t behind (holds (lt x t) q)
    go behind n false false p q = before_first (lt_otherwise (inf true) x t (above_minus_infinity x n) (above_minus_infinity t f) q p)

same : {p q : Float} → Some p ≡ Some q → p ≡ q
same h = cc

module _ (ts fs : List Float) (c : Curve ts fs) (t : Float) (f : finite t ≡ true) where
  -- "Refusal 8 is left for" these and no others
  pub left_alone : factor_at ts fs t ≡ None → Left ts fs t
  left_alone h = go (stands ts t c.numbers f)
    where
      judged : (k : ℕ) → Between ts t k → (b : Bool) → finite (between ts fs t k) ≡ b → Left ts fs t
      judged k b true e = absurd (none_found (sym h ∙ found ts fs c t k b e))
      judged k b false e = for_not_finite k b e

      go : Stands ts t → Left ts fs t
      go (nowhere e) = for_no_points e
      go (on k o) = absurd (none_found (sym h ∙ on_the_list ts fs c t k o))
      go (between_two k b) = judged k b (finite (between ts fs t k)) refl
      go (before_first b) = for_before b
      go (after_last a) = for_after a

  pub left : Left ts fs t → factor_at ts fs t ≡ None
  left (for_no_points e) = rw e (no_points fs t)
  left (for_before b) = before ts fs c t b
  left (for_after a) = after ts fs c t a
  left (for_not_finite k b e) = not_finite ts fs c t k b e

  -- and a factor that is found is a stored one or one between two neighbours
  pub given_alone : {factor : Float} → factor_at ts fs t ≡ Some factor → Given ts fs t factor
  given_alone {factor} h = go (stands ts t c.numbers f)
    where
      judged : (k : ℕ) → Between ts t k → (b : Bool) → finite (between ts fs t k) ≡ b → Given ts fs t factor
      judged k b true e = let q : factor ≡ between ts fs t k = same (sym h ∙ found ts fs c t k b e) in worked k b q (rw q e)
      judged k b false e = absurd (none_found (sym (not_finite ts fs c t k b e) ∙ h))

      go : Stands ts t → Given ts fs t factor
      go (nowhere e) = absurd (none_found (sym (left (for_no_points e)) ∙ h))
      go (on k o) = stored k o (same (sym h ∙ on_the_list ts fs c t k o))
      go (between_two k b) = judged k b (finite (between ts fs t k)) refl
      go (before_first b) = absurd (none_found (sym (left (for_before b)) ∙ h))
      go (after_last a) = absurd (none_found (sym (left (for_after a)) ∙ h))
