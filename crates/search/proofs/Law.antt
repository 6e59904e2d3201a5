-- 200 halvings of a bracket of floats, whichever end each of them moves. Assumes nothing.
use mathlib.Core.Path.{◌≡◌, sym, ap, subst}
use mathlib.Core.Logic.{◌⊎◌, inl, inr, ⊎_elim}
use Prim.Native.Nat.{ℕ, suc, ◌+◌, ◌-◌, ◌*◌, ◌^◌, ◌≤◌, ◌<◌}
use native.Mathlib.Nat.{le_trans, mul-le-mul_right, lt_of_mul-lt-mul_right}
use native.Mathlib.Omega.{arith}
use mathlib.Core.Bool.{true, false}
use lib.Dec.{T, lit≤}
use lib.Pow.{pow_pos, pow_mono}
use lib.Ieee.{Float, nan, inf, fin, Format, binary32, binary64, prec, emax, low, lt, le}
use lib.Ieee.Scale.{finite, overflow}
use Rattle.search.specs.Line.{Neighbours, Within}
use Rattle.search.proofs.Near.{Near}
use Rattle.search.proofs.Narrowing.{Bracket, Halved, raise, lower, Multiple, sparse, None, mid_between, Mid}
use Rattle.search.proofs.Iterates.{iterate, iterate_keeps}
use Rattle.search.proofs.Run.{run_within, run_200}
use Rattle.search.specs.Line.{place}
use Rattle.search.proofs.Place.{Real, place_point, place_line, lt→place, place→le}
use Rattle.search.proofs.Middle.{midway, midway_is, Middled}

-- a halving: the middle is put for one of the ends
pub data Halves (f : Format) (lo hi lo' hi' : Float) : Type 0 where
  raised : lo' ≡ midway f lo hi → hi' ≡ hi → Halves f lo hi lo' hi'
  lowered : lo' ≡ lo → hi' ≡ midway f lo hi → Halves f lo hi lo' hi'

-- finite ends in order, at most 2 ^ b units from zero
pub record Ends (f : Format) (b : ℕ) (lo hi : Float) : Type 0 where
  pub low_real : Real f lo
  pub high_real : Real f hi
  pub ordered : place f lo ≤ place f hi
  pub low_near : Near (overflow f) (2 ^ b) (place f lo)
  pub high_near : Near (overflow f) (2 ^ b) (place f hi)

digits : (f : Format) → 10 ≤ prec f
digits binary32 = lit≤ tt
digits binary64 = lit≤ tt

lines : (f : Format) → prec f ≤ low f + suc (emax f)
lines binary32 = lit≤ tt
lines binary64 = lit≤ tt

-- what lies strictly between finite values is finite
finite_between : (lo z hi : Float) → T (finite lo) → T (finite hi) → T (lt lo z) → T (lt z hi) → T (finite z)
unfolding lt
finite_between nan z hi a b h k = absurd h
finite_between (inf s) z hi a b h k = absurd a
finite_between (fin s m e) nan hi a b h k = absurd h
finite_between (fin s m e) (fin t n d) hi a b h k = tt
finite_between (fin s m e) (inf true) hi a b h k = absurd h
finite_between (fin s m e) (inf false) nan a b h k = absurd k
finite_between (fin s m e) (inf false) (inf u) a b h k = absurd b
finite_between (fin s m e) (inf false) (fin u m' e') a b h k = absurd k

module _ (f : Format) (b : ℕ) (B : suc b < low f + suc (emax f)) where
  middled : {lo hi : Float} → Ends f b lo hi → Middled f lo hi (midway f lo hi)
  middled {lo} {hi} i = midway_is f b lo hi i.low_real i.high_real B i.low_near i.high_near

  bracket_of : {lo hi : Float} → Ends f b lo hi → Bracket (prec f) (overflow f) (place f lo) (place f hi)
  bracket_of {lo} {hi} i = record { ordered = i.ordered; low = place_point f lo i.low_real; high = place_point f hi i.high_real }

  mid_ends : {lo hi : Float} (i : Ends f b lo hi) → (place f lo ≤ place f (midway f lo hi)) × (place f (midway f lo hi) ≤ place f hi)
  mid_ends {lo} {hi} i = mid_between (bracket_of i) (place f (midway f lo hi)) (middled i).mid

  -- the midpoint lies between the ends, ends included
  pub midpoint_between : {lo hi : Float} → Ends f b lo hi → T (le lo (midway f lo hi)) × T (le (midway f lo hi) hi)
  midpoint_between {lo} {hi} i =
      let m = midway f lo hi in
      let r = (middled i).real in
      let w = mid_ends i in
      (place→le f lo m i.low_real r w.0, place→le f m hi r i.high_real w.1)

  near_mid : {lo hi : Float} (i : Ends f b lo hi) → Near (overflow f) (2 ^ b) (place f (midway f lo hi))
  near_mid i = between i.low_near i.high_near (mid_ends i)
    where
      between : {o r x y z : ℕ} → Near o r x → Near o r y → (x ≤ z) × (z ≤ y) → Near o r z
      between u v w = omega arith

  pub ends_keep : {lo hi lo' hi' : Float} → Halves f lo hi lo' hi' → Ends f b lo hi → Ends f b lo' hi'
  ends_keep {lo} {hi} {lo'} {hi'} (raised e g) i =
      let m = midway f lo hi in
      subst (λ (x : Float). Ends f b x hi') (sym e) (subst (λ (x : Float). Ends f b m x) (sym g)
      (record { low_real = (middled i).real; high_real = i.high_real; ordered = (mid_ends i).1; low_near = near_mid i; high_near = i.high_near }))
  ends_keep {lo} {hi} {lo'} {hi'} (lowered e g) i =
      let m = midway f lo hi in
      subst (λ (x : Float). Ends f b x hi') (sym e) (subst (λ (x : Float). Ends f b lo x) (sym g)
      (record { low_real = i.low_real; high_real = (middled i).real; ordered = (mid_ends i).0; low_near = i.low_near; high_near = near_mid i }))

  halved_of : {lo hi lo' hi' : Float} → Halves f lo hi lo' hi' → Ends f b lo hi → Halved (prec f) (overflow f) (place f lo) (place f hi) (place f lo') (place f hi')
  halved_of {lo} {hi} (raised e g) i = raise (subst (λ (x : Float). Mid (prec f) (overflow f) (place f lo) (place f hi) (place f x)) (sym e) (middled i).mid) (ap (place f) g)
  halved_of {lo} {hi} (lowered e g) i = lower (ap (place f) e) (subst (λ (x : Float). Mid (prec f) (overflow f) (place f lo) (place f hi) (place f x)) (sym g) (middled i).mid)

  neighbours : {lo hi : Float} → Real f lo → Real f hi → None (prec f) (overflow f) (place f lo) (place f hi) → Neighbours f lo hi
  neighbours {lo} {hi} r q n z h a c =
      let s : Real f z = record { is_finite = finite_between lo z hi r.is_finite q.is_finite a c; holds = h } in
      n (place f z) (place_point f z s) (lt→place f lo z r s a) (lt→place f z hi s q c)

  -- ---- the law: of a step that halves, taken 200 times
  module _ {S : Type 0} (lo hi : S → Float) (step : S → S) (halves : (s : S) → Halves f (lo s) (hi s) (lo (step s)) (hi (step s))) where
    pub ends_after : (n : ℕ) (s : S) → Ends f b (lo s) (hi s) → Ends f b (lo (iterate step n s)) (hi (iterate step n s))
    ends_after n s i = iterate_keeps step (λ (s : S). Ends f b (lo s) (hi s)) (λ s i. ends_keep (halves s) i) n s i

    pub within_after : (n : ℕ) (s : S) → Ends f b (lo s) (hi s) → (place f (lo s) ≤ place f (lo (iterate step n s))) × (place f (hi (iterate step n s)) ≤ place f (hi s))
    within_after n s i =
        run_within step (λ (s : S). place f (lo s)) (λ (s : S). place f (hi s)) (prec f) (low f + suc (emax f)) (digits f) (lines f) (λ (s : S). Ends f b (lo s) (hi s))
        (λ s i. bracket_of i) (λ s i. ((place_line f (lo s) i.low_real).0, (place_line f (hi s) i.high_real).1)) (λ s i. halved_of (halves s) i) (λ s i. ends_keep (halves s) i) n s i

    pub halvings_200 : (e : ℕ) (s : S) → Ends f b (lo s) (hi s) → place f (hi s) ≤ place f (lo s) + 2 ^ e * 2 ^ 161
        → Neighbours f (lo (iterate step 200 s)) (hi (iterate step 200 s)) ⊎ Within f e (lo (iterate step 200 s)) (hi (iterate step 200 s))
    halvings_200 e s i h =
        let j = ends_after 200 s i in
        ⊎_elim (λ n. inl (neighbours j.low_real j.high_real n)) (λ w. inr w)
        (run_200 step (λ (s : S). place f (lo s)) (λ (s : S). place f (hi s)) (prec f) (low f + suc (emax f)) (digits f) (lines f) (λ (s : S). Ends f b (lo s) (hi s))
        (λ s i. bracket_of i) (λ s i. ((place_line f (lo s) i.low_real).0, (place_line f (hi s) i.high_real).1)) (λ s i. halved_of (halves s) i) (λ s i. ends_keep (halves s) i) e s i h)

-- ---- neighbouring values are far apart, far out: beyond 2 ^ (prec - 1) * 2 ^ k units at least 2 ^ k
module _ (f : Format) (k e : ℕ) (K : k ≤ low f + suc (emax f)) (E : e ≤ k) where
  multiple_of : (x : Float) → Real f x → overflow f + 2 ^ (prec f - 1 + k) ≤ place f x → Multiple (2 ^ k) (place f x)
  multiple_of x r h = sparse (prec f) (low f + suc (emax f)) k (place f x) (le_trans (lit≤ tt) (digits f)) K (place_point f x r) (pow_pos (prec f - 1 + k)) (inr h)

  two_apart : (x y z v : ℕ) → 0 < v → Multiple v x → Multiple v y → Multiple v z → x < y → y < z → x + v < z
  two_apart x y z v pv a b c g h =
      let g' : a.times < b.times = lt_of_mul-lt-mul_right v (omega (arith, g, a.is, b.is)) in
      let h' : b.times < c.times = lt_of_mul-lt-mul_right v (omega (arith, h, b.is, c.is)) in
      let i : a.times + 2 ≤ c.times = omega arith in
      omega (arith, mul-le-mul_right v i, a.is, c.is)

  pub within_neighbours : {lo hi : Float} → Real f lo → Real f hi → overflow f + 2 ^ (prec f - 1 + k) ≤ place f lo → Within f e lo hi → Neighbours f lo hi
  within_neighbours {lo} {hi} r q far w z h a c =
      let s : Real f z = record { is_finite = finite_between lo z hi r.is_finite q.is_finite a c; holds = h } in
      let x = lt→place f lo z r s a in
      let y = lt→place f z hi s q c in
      let t = two_apart (place f lo) (place f z) (place f hi) (2 ^ k) (pow_pos k) (multiple_of lo r far) (multiple_of z s (omega arith)) (multiple_of hi q (omega arith)) x y in
      let u : 2 ^ e ≤ 2 ^ k = pow_mono E in
      omega arith
