-- `hullwhite_parameters::hull_white_piecewise_variance_of` meets its contract: a turn adds the piece of a pillar, and where no pillar is left the sum is whole. Assumes nothing.
use mathlib.Core.Path.{◌≡◌, refl, sym, ap, ◌∙◌}
use mathlib.Core.Bool.{Bool, false}
use mathlib.Core.List.{List, [], ◌∷◌}
use mathlib.Core.Logic.{◌⊎◌, inl, inr, ⊎_elim}
use Prim.Native.Nat.{ℕ, ◌+◌}
use native.Mathlib.Omega.{arith}
use borrow.Author.Tests.{ne_eqb}
use lib.Dec.{eqb}
use lib.ListN.{length, drop}
use lib.Ieee.{Float}
use Rattle.std.proofs.lemmas.List.{drop-drop}
use Rattle.hullwhite_parameters.specs.Variance.{variance_pieces_of, piecewise_variance_of}
use Rattle.hullwhite_parameters.proofs.variance.hull_white_piecewise_variance_of.Goals as goal

-- what is left behind the first of those that are left
behind : (xs : List Float) (i : ℕ) {x : Float} {rest : List Float} → x ∷ rest ≡ drop i xs → rest ≡ drop (i + 1) xs
behind xs i h = ap (drop 1) h ∙ drop-drop 1 i xs

none_left : (alpha start end : Float) (first : Bool) (v : Float) (ts ss : List Float) → (length ts ≡ 0) ⊎ (length ss ≡ 0) → variance_pieces_of alpha first v ts ss start end ≡ v
unfolding variance_pieces_of
none_left alpha start end first v [] ss e = refl
none_left alpha start end first v (t ∷ ts) [] e = refl
none_left alpha start end first v (t ∷ ts) (s ∷ ss) e = absurd (⊎_elim (λ h. let z : ⊥ = omega arith in z) (λ h. let z : ⊥ = omega arith in z) e)

pub loop-i-init : goal.loop-i-init
unfolding piecewise_variance_of
loop-i-init c =
    let z = c.zip.ensures in
    let e = c.enumerate-i-items.ensures in
    rw (c.into_iter-i-iterator.ensures.into_iter_gives, e.count, e.source, z.first, z.second.0, c.iter.ensures.rest) (refl, refl)

pub loop-i-preserved : goal.loop-i-preserved
unfolding variance_pieces_of
loop-i-preserved c =
    let l = c.loop-i in
    let a = c.args in
    let s = c.in-Some.ensures.steps in
    let left = c.next.new.self.iter.a.rest.now in
    let n = l.i-iterator.count in
    let t : left ≡ drop (n + 1) a.times.now = behind a.times.now n (sym s.0.0 ∙ l.invariant.0) in
    let f : eqb (n + 1) 0 ≡ false = ne_eqb (n + 1) 0 (λ q. omega arith) in
    let w = rw (c.piece_lower-lower.ensures, c.piece_upper-upper.ensures, s.1, ← t) at c.piece-variance.ensures in
    (rw s.2 t, rw (s.2, f, w) (rw (s.0.0, s.0.1) at l.invariant.1))

pub returns : goal.returns
returns c =
    sym (none_left _ _ _ _ _ _ _ (⊎_elim (λ e. inl e.1.0) (λ e. inr e.1.0) c.in-None.ensures.steps.0)) ∙ c.loop-i.invariant.1
