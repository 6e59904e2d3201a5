-- The law of specs/Halving.antt: f64 halvings from ends of at most 2^60 in size, and those of the volatility. Assumes nothing.
use mathlib.Core.Path.{◌≡◌, refl, sym, ap, ap₂, ◌∙◌, subst}
use mathlib.Core.Logic.{⊎_elim}
use Prim.Native.Nat.{ℕ, suc, ◌+◌, ◌*◌, ◌^◌, ◌≤◌, ◌<◌}
use native.Mathlib.Nat.{le_trans}
use native.Mathlib.Omega.{arith}
use mathlib.Core.Bool.{Bool, true, false}
use mathlib.Core.List.{List, [], ◌∷◌}
use lib.Dec.{T, lit≤, lit<}
use lib.Ieee.{Float, nan, inf, fin, binary64, emax, low, fits, le, of_bits}
use lib.Ieee.Scale.{finite, overflow}
use lib.IntN.{pos}
use Rattle.ieee.specs.Decimal.{decimal}
use Rattle.math_elementary.specs.Simple.{midpoint_of}
use Rattle.search.specs.Line.{place, Neighbours, Tight}
use Rattle.search.specs.Halving.{raised, lowered, Halvings, none, one_more, Start, Between, HalvingLaw}
use Rattle.search.proofs.Near.{Near}
use Rattle.search.proofs.Iterates.{iterate, iterate_zero, iterate_last}
use Rattle.search.proofs.Place.{Real, le→place, place→le}
use Rattle.search.proofs.Middle.{midway}
use Rattle.search.proofs.Law as law
use Rattle.search.proofs.Law.{Ends, midpoint_between, ends_after, within_after, halvings_200, within_neighbours}

-- ---- the ends that halvings start from
between_finite : (x hi : Float) → T (le (fin true 1 (pos 60)) x) → T (le x hi) → T (le hi (fin false 1 (pos 60))) → T (finite x) × T (finite hi)
unfolding le
between_finite nan hi h k l = absurd h
between_finite (inf true) hi h k l = absurd h
between_finite (inf false) nan h k l = absurd k
between_finite (inf false) (inf true) h k l = absurd k
between_finite (inf false) (inf false) h k l = absurd l
between_finite (inf false) (fin u n' d) h k l = absurd k
between_finite (fin v m' e) nan h k l = absurd k
between_finite (fin v m' e) (inf true) h k l = absurd k
between_finite (fin v m' e) (inf false) h k l = absurd l
between_finite (fin v m' e) (fin u n' d) h k l = (tt, tt)

top_real : (s : Bool) → Real binary64 (fin s 1 (pos 60))
unfolding fits
top_real s = record { is_finite = tt; holds = tt }

-- 2^60 is 2^1134 units
up_place : place binary64 (fin false 1 (pos 60)) ≡ overflow binary64 + 2 ^ 1134
unfolding place
up_place = refl

down_place : place binary64 (fin true 1 (pos 60)) + 2 ^ 1134 ≡ overflow binary64
unfolding place
down_place = refl

near_of : (o r x y d u : ℕ) → d + r ≡ o → u ≡ o + r → d ≤ x → x ≤ y → y ≤ u → Near o r x × Near o r y × (y ≤ x + r * 2)
near_of o r x y d u e g a b c = omega arith

module _ {lo hi : Float} (s : Start lo hi) where
  finites : T (finite lo) × T (finite hi)
  finites = between_finite lo hi s.low_bound s.order s.high_bound

  low_real : Real binary64 lo
  low_real = record { is_finite = finites.0; holds = s.low_fits }

  high_real : Real binary64 hi
  high_real = record { is_finite = finites.1; holds = s.high_fits }

  nears : Near (overflow binary64) (2 ^ 1134) (place binary64 lo) × Near (overflow binary64) (2 ^ 1134) (place binary64 hi) × (place binary64 hi ≤ place binary64 lo + 2 ^ 1134 * 2)
  nears =
      near_of (overflow binary64) (2 ^ 1134) (place binary64 lo) (place binary64 hi) (place binary64 (fin true 1 (pos 60))) (place binary64 (fin false 1 (pos 60))) down_place up_place
      (le→place binary64 (fin true 1 (pos 60)) lo (top_real true) low_real s.low_bound) (le→place binary64 lo hi low_real high_real s.order)
      (le→place binary64 hi (fin false 1 (pos 60)) high_real (top_real false) s.high_bound)

  start_ends : Ends binary64 1134 lo hi
  start_ends = record { low_real = low_real; high_real = high_real; ordered = le→place binary64 lo hi low_real high_real s.order; low_near = nears.0; high_near = nears.1 }

  start_width : place binary64 hi ≤ place binary64 lo + 2 ^ 974 * 2 ^ 161
  start_width = nears.2

room : 1135 < low binary64 + suc (emax binary64)
room = lit< tt

-- ---- any run of halvings is a step taken n times, on the ends with a list of the choices still to be made
record State : Type 0 where
  lower : Float
  upper : Float
  choices : List Bool

step : State → State
step s = go s.choices
  where
    go : List Bool → State
    go [] = record { lower = midpoint_of s.lower s.upper; upper = s.upper; choices = [] }
    go (true ∷ cs) = record { lower = midpoint_of s.lower s.upper; upper = s.upper; choices = cs }
    go (false ∷ cs) = record { lower = s.lower; upper = midpoint_of s.lower s.upper; choices = cs }

abbrev lo : State → Float
lo s = s.lower

abbrev hi : State → Float
hi s = s.upper

mid_is : (x y : Float) → midpoint_of x y ≡ midway binary64 x y
unfolding midway of_bits
mid_is x y = refl

step_halves : (s : State) → law.Halves binary64 (lo s) (hi s) (lo (step s)) (hi (step s))
step_halves s = go s.choices refl
  where
    at : List Bool → State
    at cs = record { lower = s.lower; upper = s.upper; choices = cs }

    go : (cs : List Bool) → s.choices ≡ cs → law.Halves binary64 (lo s) (hi s) (lo (step s)) (hi (step s))
    go [] e = subst (λ (t : State). law.Halves binary64 (lo s) (hi s) (lo t) (hi t)) (sym (ap (λ (cs : List Bool). step (at cs)) e)) (unfold step in law.raised (mid_is (lo s) (hi s)) refl)
    go (true ∷ cs) e = subst (λ (t : State). law.Halves binary64 (lo s) (hi s) (lo t) (hi t)) (sym (ap (λ (cs : List Bool). step (at cs)) e)) (unfold step in law.raised (mid_is (lo s) (hi s)) refl)
    go (false ∷ cs) e = subst (λ (t : State). law.Halves binary64 (lo s) (hi s) (lo t) (hi t)) (sym (ap (λ (cs : List Bool). step (at cs)) e)) (unfold step in law.lowered refl (mid_is (lo s) (hi s)))

-- the choices of a run, followed by more, lead to its last ends with those still to be made
record Chosen (n : ℕ) (x y x' y' : Float) (rest : List Bool) : Type 0 where
  first : List Bool
  is : iterate step n (record { lower = x; upper = y; choices = first }) ≡ record { lower = x'; upper = y'; choices = rest }

chosen_more : {n : ℕ} {x y a b x' y' : Float} {c : Bool} {rest : List Bool} → Chosen n x y a b (c ∷ rest)
    → step (record { lower = a; upper = b; choices = c ∷ rest }) ≡ record { lower = x'; upper = y'; choices = rest } → Chosen (suc n) x y x' y' rest
chosen_more {n} {x} {y} c e = record { first = c.first; is = iterate_last step n (record { lower = x; upper = y; choices = c.first }) ∙ ap step c.is ∙ e }

chosen : {n : ℕ} {x y x' y' : Float} → Halvings n x y x' y' → (rest : List Bool) → Chosen n x y x' y' rest
chosen none rest = record { first = rest; is = iterate_zero step _ }
chosen (one_more h (raised e g)) rest = chosen_more (chosen h (true ∷ rest)) (unfold step in ap₂ (λ (u v : Float). record { lower = u; upper = v; choices = rest }) (sym e) (sym g))
chosen (one_more h (lowered e g)) rest = chosen_more (chosen h (false ∷ rest)) (unfold step in ap₂ (λ (u v : Float). record { lower = u; upper = v; choices = rest }) (sym e) (sym g))

module _ {n : ℕ} {x y x' y' : Float} (s : Start x y) (h : Halvings n x y x' y') where
  start : State
  start = record { lower = x; upper = y; choices = (chosen h []).first }

  ends : Ends binary64 1134 x' y'
  unfolding start
  ends = subst (λ (t : State). Ends binary64 1134 (lo t) (hi t)) (chosen h []).is (ends_after binary64 1134 room lo hi step step_halves n start (start_ends s))

  inside : (place binary64 x ≤ place binary64 x') × (place binary64 y' ≤ place binary64 y)
  unfolding start
  inside =
      subst (λ (t : State). (place binary64 x ≤ place binary64 (lo t)) × (place binary64 (hi t) ≤ place binary64 y)) (chosen h []).is
      (within_after binary64 1134 room lo hi step step_halves n start (start_ends s))

  between : Between x y x' y'
  between =
      let m = midpoint_between binary64 1134 room ends in
      record {
        low_fits = ends.low_real.holds;
        high_fits = ends.high_real.holds;
        low_finite = ends.low_real.is_finite;
        high_finite = ends.high_real.is_finite;
        order = place→le binary64 x' y' ends.low_real ends.high_real ends.ordered;
        low_inside = place→le binary64 x x' (low_real s) ends.low_real inside.0;
        high_inside = place→le binary64 y' y ends.high_real (high_real s) inside.1;
        mid_above = subst (λ (m : Float). T (le x' m)) (sym (mid_is x' y')) m.0;
        mid_below = subst (λ (m : Float). T (le m y')) (sym (mid_is x' y')) m.1;
      }

tight : {x y x' y' : Float} → Start x y → Halvings 200 x y x' y' → Tight x' y'
unfolding start
tight s h =
    subst (λ (t : State). Tight (lo t) (hi t)) (chosen h []).is
    (halvings_200 binary64 1134 room lo hi step step_halves 974 (start s h) (start_ends s) (start_width s))

-- ---- the volatility: from 1e-8 on, values of f64 are at least 2^-79 apart, which is 2^995 units, so that ends at most 2^-100 apart have none between them
tiny_place : overflow binary64 + 2 ^ 1047 ≤ place binary64 (decimal 1 8)
unfolding place decimal
tiny_place = lit≤ tt

volatility_start : Start (decimal 1 8) (decimal 2 0)
unfolding fits le decimal
volatility_start = record { low_fits = tt; high_fits = tt; low_bound = tt; order = tt; high_bound = tt }

volatility : {x y : Float} → Halvings 200 (decimal 1 8) (decimal 2 0) x y → Neighbours binary64 x y
volatility {x} {y} h =
    let e = ends volatility_start h in
    let far : overflow binary64 + 2 ^ 1047 ≤ place binary64 x = le_trans tiny_place (inside volatility_start h).0 in
    ⊎_elim (λ n. n) (λ w. within_neighbours binary64 995 974 (lit≤ tt) (lit≤ tt) e.low_real e.high_real far w) (tight volatility_start h)

pub halving_law : HalvingLaw
halving_law = record { between = λ s h. between s h; tight = λ s h. tight s h; volatility_start = volatility_start; volatility = λ h. volatility h }
