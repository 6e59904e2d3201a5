-- One turn and the end of each walk along a grid: the decays, and the points of a path. Assumes nothing.
use Rattle.std.specs.Prelude.{Option, Some, None, Ok, Err}
use mathlib.Core.Path.{◌≡◌, refl, sym, ap, ◌∙◌}
use mathlib.Core.List.{List, [], ◌∷◌, ◌++◌, append-nil}
use Prim.Native.Nat.{ℕ, zero, suc, ◌+◌, ◌≤◌, ◌<◌}
use native.Mathlib.Numerals.{add-one}
use native.Mathlib.Omega.{arith}
use lib.ListN.{length, get_or, drop, take, set, length-set, drop_of_length-le}
use lib.Seq.{take_all}
use lib.Ieee.{Float, nan}
use Rattle.ieee.specs.Rounded.{◌⊕◌}
use Rattle.refusals.specs.declared.refusals.Refusal.TheVariants as R
use Rattle.refusals.specs.Refusals.{Outcome, prepend}
use Rattle.curve.specs.Lookups.{factor_at, needing, volatility_at}
use Rattle.hullwhite_formulas.specs.HullWhite.{h, forward_of}
use Rattle.refusals.proofs.Walks.{next, longer}
use Rattle.hullwhite_points.specs.declared.walk.State.{State}
use Rattle.hullwhite_points.specs.declared.walk.Centre.{Centre}
use Rattle.hullwhite_points.specs.Walk.{step_decay, decays_from, forward_of_both, forward_at}
use Rattle.hullwhite_points.specs.Path.{state_after, shift_of, path_from}

-- ---- the decays of the grid from place i on, behind those worked: one turn, two, and the end
module _ (alpha before : Float) (grid out : List Float) (i : ℕ) where
  pub decays_turn : i < length grid → i < length out → (d : Float) → d ≡ step_decay alpha before (get_or grid i nan)
      → take i out ++ decays_from alpha before (drop i grid) ≡ take (i + 1) (set out i d) ++ decays_from alpha (get_or grid i nan) (drop (i + 1) grid)
  unfolding decays_from
  decays_turn h k d e = rw (next grid i h, ← e) (longer out i d (decays_from alpha (get_or grid i nan) (drop (i + 1) grid)) k)

  pub decays_last : length grid ≡ i + 1 → length out ≡ length grid → (d : Float) → d ≡ step_decay alpha before (get_or grid i nan) → take i out ++ decays_from alpha before (drop i grid) ≡ set out i d
  unfolding decays_from
  decays_last h same d e =
      let k : i < length grid = omega arith in
      let l : i < length out = omega arith in
      let m : length grid ≤ i + 1 = omega arith in
      let n : length (set out i d) ≤ i + 1 = simp length-set (omega arith) in
      decays_turn k l d e ∙ rw (drop_of_length-le grid m, append-nil, take_all (i + 1) (set out i d) n)

  pub decays_end : length grid ≤ i → length out ≤ i → take i out ++ decays_from alpha before (drop i grid) ≡ out
  unfolding decays_from
  decays_end h k = rw (drop_of_length-le grid h, append-nil, take_all i out k)

pub decays_two : (alpha before : Float) (grid out : List Float) (i : ℕ) → i + 1 < length grid → length out ≡ length grid
    → (d e : Float) → d ≡ step_decay alpha before (get_or grid i nan) → e ≡ step_decay alpha (get_or grid i nan) (get_or grid (i + 1) nan)
    → take i out ++ decays_from alpha before (drop i grid) ≡ take (i + 2) (set (set out i d) (i + 1) e) ++ decays_from alpha (get_or grid (i + 1) nan) (drop (i + 2) grid)
decays_two alpha before grid out i h same d e p q =
    let z : i + 1 + 1 ≡ i + 2 = omega arith in
    let k : i < length grid = omega arith in
    let l : i < length out = omega arith in
    let m : i + 1 < length (set out i d) = simp length-set (omega arith) in
    let second = decays_turn alpha (get_or grid i nan) grid (set out i d) (i + 1) h m e q in
    decays_turn alpha before grid out i k l d p ∙ rw z at second

-- ---- the forward, from both factors
needing_both : {B : Type 0} (p q : Option Float) (rest : Float → Outcome B) → needing p (λ x. needing q (λ y. rest (forward_of x y))) ≡ needing (forward_of_both p q) rest
needing_both (Some x) (Some y) rest = refl
needing_both (Some x) None rest = refl
needing_both None q rest = refl

-- ---- the points of the grid from place i on, behind those worked: a refusal of any refuses all
abbrev pub prepend_all : List Float → Outcome (List Float) → Outcome (List Float)
prepend_all xs (Ok ys) = Ok (xs ++ ys)
prepend_all xs (Err r) = Err r

pub prepend_none : (o : Outcome (List Float)) → prepend_all [] o ≡ o
prepend_none (Ok ys) = refl
prepend_none (Err r) = refl

prepend_longer : (out : List Float) (i : ℕ) (v : Float) (rest : Outcome (List Float)) → i < length out → prepend_all (take i out) (prepend v rest) ≡ prepend_all (take (i + 1) (set out i v)) rest
prepend_longer out i v (Ok ys) h = ap Ok (longer out i v ys h)
prepend_longer out i v (Err r) h = refl

module _ (centre : Centre) (alpha : Float) (ps ss ts fs : List Float) (s : State) (grid draws out : List Float) (i : ℕ) where
  pub path_end : length grid ≤ i → length out ≤ i → prepend_all (take i out) (path_from centre alpha ps ss ts fs s (drop i grid) (drop i draws)) ≡ Ok out
  unfolding path_from
  path_end h k = rw (drop_of_length-le grid h, append-nil, take_all i out k)

  module _ (in_grid : i < length grid) (in_draws : i < length draws) where
    pub no_volatility : volatility_at ps ss (get_or grid i nan) ≡ None → path_from centre alpha ps ss ts fs s (drop i grid) (drop i draws) ≡ Err R.Empty
    unfolding path_from
    no_volatility e = rw (next grid i in_grid, next draws i in_draws, e)

    module _ (sigma : Float) (found : volatility_at ps ss (get_or grid i nan) ≡ Some sigma) where
      from_forward : let after = state_after alpha sigma (get_or grid i nan) (get_or draws i nan) s in
          path_from centre alpha ps ss ts fs s (drop i grid) (drop i draws)
          ≡ needing (forward_at ts fs (get_or grid i nan)) (λ f. prepend (after.x ⊕ shift_of centre alpha sigma (get_or grid i nan) after.variance f) (path_from centre alpha ps ss ts fs after (drop (i + 1) grid) (drop (i + 1) draws)))
      unfolding path_from forward_at
      from_forward =
          let t = get_or grid i nan in
          let after = state_after alpha sigma t (get_or draws i nan) s in
          rw (next grid i in_grid, next draws i in_draws, found) (needing_both (factor_at ts fs t) (factor_at ts fs (t ⊕ h)) (λ f. prepend (after.x ⊕ shift_of centre alpha sigma (get_or grid i nan) after.variance f) (path_from centre alpha ps ss ts fs after (drop (i + 1) grid) (drop (i + 1) draws))))

      pub no_forward : forward_at ts fs (get_or grid i nan) ≡ None → path_from centre alpha ps ss ts fs s (drop i grid) (drop i draws) ≡ Err R.OffCurve
      no_forward e = from_forward ∙ rw e

      pub path_turn : (f : Float) → forward_at ts fs (get_or grid i nan) ≡ Some f → i < length out
          → (after : State) → after ≡ state_after alpha sigma (get_or grid i nan) (get_or draws i nan) s
          → (shift : Float) → shift ≡ shift_of centre alpha sigma (get_or grid i nan) after.variance f
          → prepend_all (take i out) (path_from centre alpha ps ss ts fs s (drop i grid) (drop i draws))
          ≡ prepend_all (take (i + 1) (set out i (after.x ⊕ shift))) (path_from centre alpha ps ss ts fs after (drop (i + 1) grid) (drop (i + 1) draws))
      path_turn f e k after ea shift es =
          ap (prepend_all (take i out)) from_forward
          ∙ rw (e, ← ea, ← es) (prepend_longer out i (after.x ⊕ shift) (path_from centre alpha ps ss ts fs after (drop (i + 1) grid) (drop (i + 1) draws)) k)

-- ---- the decays that are left in the output, each read before its point's rate takes its place
pub decays_length : (alpha t : Float) (grid : List Float) → length (decays_from alpha t grid) ≡ length grid
unfolding decays_from
decays_length alpha t [] = refl
decays_length alpha t (u ∷ grid) = ap suc (decays_length alpha u grid)

heads : {x y : Float} {xs ys : List Float} → x ∷ xs ≡ y ∷ ys → (x ≡ y) × (xs ≡ ys)
heads e = (cc, cc)

drop_set : (xs : List Float) (i : ℕ) (v : Float) → drop (suc i) (set xs i v) ≡ drop (suc i) xs
drop_set [] zero v = refl
drop_set [] (suc i) v = refl
drop_set (x ∷ xs) zero v = refl
drop_set (x ∷ xs) (suc i) v = drop_set xs i v

module _ (alpha t : Float) (grid out : List Float) (i : ℕ) (in_grid : i < length grid) (in_out : i < length out) (left : drop i out ≡ decays_from alpha t (drop i grid)) where
  split : get_or out i nan ∷ drop (i + 1) out ≡ step_decay alpha t (get_or grid i nan) ∷ decays_from alpha (get_or grid i nan) (drop (i + 1) grid)
  unfolding decays_from
  split = sym (next out i in_out) ∙ left ∙ rw (next grid i in_grid)

  pub decay_here : get_or out i nan ≡ step_decay alpha t (get_or grid i nan)
  decay_here = (heads split).0

  pub decays_left : (sigma draw : Float) (s after : State) → after ≡ state_after alpha sigma (get_or grid i nan) draw s → (v : Float)
      → drop (i + 1) (set out i v) ≡ decays_from alpha after.t (drop (i + 1) grid)
  unfolding state_after
  decays_left sigma draw s after e v =
      let u : after.t ≡ get_or grid i nan = ap (λ (z : State). z.t) e in
      rw (u, add-one, drop_set out i v, ← add-one i) (heads split).1
