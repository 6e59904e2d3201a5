-- The bisection of specs/Solve.antt and what it tries, a step at a time: what a residual comes to, what follows it, and where nothing moves any more. Assumes nothing.
use Rattle.std.specs.Prelude.{Ok, Err}
use mathlib.Core.Path.{◌≡◌, refl, sym, ap, ◌∙◌, subst}
use mathlib.Core.Bool.{Bool, true, false, not, cond}
use mathlib.Core.List.{List, [], ◌∷◌}
use Prim.Native.Nat.{ℕ, zero, suc}
use native.Mathlib.Omega.{arith}
use lib.Dec.{T}
use lib.Ieee.{Float, is_nan}
use Rattle.math_elementary.specs.Simple.{midpoint_of}
use Rattle.refusals.specs.declared.refusals.Refusal.{Refusal}
use Rattle.refusals.specs.declared.refusals.Refusal.TheVariants as R
use Rattle.refusals.specs.Refusals.{Outcome, following}
use Rattle.refusals.proofs.Outcomes.{not_both, served_is}
use Rattle.math_bisection.specs.declared.halving.Ends.{Ends}
use Rattle.math_bisection.specs.declared.result.Fit.{Fit}
use Rattle.math_bisection.specs.Solve.{lowest, highest, same_sign, close_enough, residual_at, ends_moved_to, unconverged_at, halvings_from, ends_of, solve_of}
use Rattle.math_bisection.specs.Tried.{onward, tried_from, tried_of}

abbrev pub mid : Ends → Float
mid e = midpoint_of e.low e.high

-- ---- a residual
pub record Number (o : Outcome Float) (v : Float) : Type 0 where
  pub there : o ≡ Ok v
  pub number : T (not (is_nan v))

nan_is_no_want : {A B : Type 0} → ◌≡◌ {A = Outcome B} (Err R.NanReached) (Err R.NoBracket) → A
nan_is_no_want h = let z : ◌≡◌ {A = ℕ} 0 1 = cc in absurd (omega arith)

pub sign_is_no_want : {A B : Type 0} → ◌≡◌ {A = Outcome B} (Err R.NoSignChange) (Err R.NoBracket) → A
sign_is_no_want h = let z : ◌≡◌ {A = ℕ} 0 1 = cc in absurd (omega arith)

abbrev judged : Float → Outcome Float
judged v = cond (is_nan v) (Err R.NanReached) (Ok v)

judged_is : (x v : Float) → judged x ≡ Ok v → (x ≡ v) × T (not (is_nan x))
judged_is x v h = go (is_nan x) refl h
  where
    go : (t : Bool) → is_nan x ≡ t → cond t (Err R.NanReached) (Ok x) ≡ Ok v → (x ≡ v) × T (not (is_nan x))
    go true e k = absurd (not_both k)
    go false e k = (served_is k, subst (λ (b : Bool). T (not b)) (sym e) tt)

module _ (f : Float → Outcome Float) (sigma : Float) where
  -- one that is served is the objective's own, and no NaN
  pub residual_served : {v : Float} → residual_at f sigma ≡ Ok v → Number (f sigma) v
  unfolding residual_at
  residual_served {v} h = go (f sigma) h
    where
      go : (o : Outcome Float) → following o judged ≡ Ok v → Number o v
      go (Err r) k = absurd (not_both k)
      go (Ok x) k =
          let (e, n) = judged_is x v k in
          record { there = ap Ok e; number = subst (λ (y : Float). T (not (is_nan y))) e n }

  -- one for want of a bracket is the objective's own
  pub residual_unbracketed : residual_at f sigma ≡ Err R.NoBracket → f sigma ≡ Err R.NoBracket
  unfolding residual_at
  residual_unbracketed h = go (f sigma) h
    where
      test : (x : Float) (t : Bool) → cond t (Err R.NanReached) (Ok x) ≡ Err R.NoBracket → Ok x ≡ Err R.NoBracket
      test x true l = nan_is_no_want l
      test x false l = l

      go : (o : Outcome Float) → following o judged ≡ Err R.NoBracket → o ≡ Err R.NoBracket
      go (Err r) k = k
      go (Ok x) k = test x (is_nan x) k

  pub unbracketed_residual : f sigma ≡ Err R.NoBracket → residual_at f sigma ≡ Err R.NoBracket
  unfolding residual_at
  unbracketed_residual h = ap (λ (o : Outcome Float). following o judged) h

-- ---- what a halving meets at the midpoint of e: a refusal, a residual that is close enough, or one from which the halvings go on
pub data Met (f : Float → Outcome Float) (e : Ends) : Type 0 where
  stopped : (r : Refusal) → residual_at f (mid e) ≡ Err r → Met f e
  close : (v : Float) → residual_at f (mid e) ≡ Ok v → close_enough v ≡ true → Met f e
  away : (v : Float) → residual_at f (mid e) ≡ Ok v → close_enough v ≡ false → Met f e

pub met : (f : Float → Outcome Float) (e : Ends) → Met f e
met f e = go (residual_at f (mid e)) refl
  where
    test : (v : Float) → residual_at f (mid e) ≡ Ok v → (t : Bool) → close_enough v ≡ t → Met f e
    test v p true q = close v p q
    test v p false q = away v p q

    go : (o : Outcome Float) → residual_at f (mid e) ≡ o → Met f e
    go (Err r) p = stopped r p
    go (Ok v) p = test v p (close_enough v) refl

abbrev pub found : ℕ → Ends → Float → Fit
found made e v = record { sigma = mid e; converged = true; halvings = suc made; residual = v; ends = e }

abbrev pub unfound : Ends → Float → Fit
unfound e v = record { sigma = mid e; converged = false; halvings = 200; residual = v; ends = e }

module _ (f : Float → Outcome Float) (made : ℕ) (e : Ends) where
  -- none is left
  pub last_stopped : {r : Refusal} → residual_at f (mid e) ≡ Err r → halvings_from f zero made e ≡ Err r
  unfolding halvings_from unconverged_at
  last_stopped p = ap (λ (o : Outcome Float). following o (λ v. Ok (unfound e v))) p

  pub last_served : {v : Float} → residual_at f (mid e) ≡ Ok v → halvings_from f zero made e ≡ Ok (unfound e v)
  unfolding halvings_from unconverged_at
  last_served p = ap (λ (o : Outcome Float). following o (λ v. Ok (unfound e v))) p

  -- one more
  module _ (left : ℕ) where
    abbrev further : Float → Outcome Fit
    further v = cond (close_enough v) (Ok (found made e v)) (halvings_from f left (suc made) (ends_moved_to e (mid e) v))

    pub halving_stopped : {r : Refusal} → residual_at f (mid e) ≡ Err r → halvings_from f (suc left) made e ≡ Err r
    unfolding halvings_from
    halving_stopped p = ap (λ (o : Outcome Float). following o further) p

    pub halving_close : {v : Float} → residual_at f (mid e) ≡ Ok v → close_enough v ≡ true → halvings_from f (suc left) made e ≡ Ok (found made e v)
    unfolding halvings_from
    halving_close {v} p q =
        ap (λ (o : Outcome Float). following o further) p
        ∙ ap (λ (t : Bool). cond t (Ok (found made e v)) (halvings_from f left (suc made) (ends_moved_to e (mid e) v))) q

    pub halving_away : {v : Float} → residual_at f (mid e) ≡ Ok v → close_enough v ≡ false → halvings_from f (suc left) made e ≡ halvings_from f left (suc made) (ends_moved_to e (mid e) v)
    unfolding halvings_from
    halving_away {v} p q =
        ap (λ (o : Outcome Float). following o further) p
        ∙ ap (λ (t : Bool). cond t (Ok (found made e v)) (halvings_from f left (suc made) (ends_moved_to e (mid e) v))) q

-- ---- what it tries
module _ (f : Float → Outcome Float) (e : Ends) where
  pub tried_last : tried_from f zero e ≡ mid e ∷ []
  unfolding tried_from
  tried_last = refl

  module _ (left : ℕ) where
    abbrev rest : Float → List Float
    rest v = cond (close_enough v) [] (tried_from f left (ends_moved_to e (mid e) v))

    pub tried_stopped : {r : Refusal} → residual_at f (mid e) ≡ Err r → tried_from f (suc left) e ≡ mid e ∷ []
    unfolding tried_from
    tried_stopped p = ap (λ (o : Outcome Float). mid e ∷ onward o rest) p

    pub tried_close : {v : Float} → residual_at f (mid e) ≡ Ok v → close_enough v ≡ true → tried_from f (suc left) e ≡ mid e ∷ []
    unfolding tried_from
    tried_close {v} p q = ap (λ (o : Outcome Float). mid e ∷ onward o rest) p ∙ ap (λ (t : Bool). mid e ∷ cond t [] (tried_from f left (ends_moved_to e (mid e) v))) q

    pub tried_away : {v : Float} → residual_at f (mid e) ≡ Ok v → close_enough v ≡ false → tried_from f (suc left) e ≡ mid e ∷ tried_from f left (ends_moved_to e (mid e) v)
    unfolding tried_from
    tried_away {v} p q = ap (λ (o : Outcome Float). mid e ∷ onward o rest) p ∙ ap (λ (t : Bool). mid e ∷ cond t [] (tried_from f left (ends_moved_to e (mid e) v))) q

-- ---- the two first sigmas
module _ (f : Float → Outcome Float) where
  pub data Begun : Type 0 where
    low_stopped : (r : Refusal) → residual_at f lowest ≡ Err r → Begun
    high_stopped : (a : Float) (r : Refusal) → residual_at f lowest ≡ Ok a → residual_at f highest ≡ Err r → Begun
    alike : (a b : Float) → residual_at f lowest ≡ Ok a → residual_at f highest ≡ Ok b → same_sign a b ≡ true → Begun
    apart : (a b : Float) → residual_at f lowest ≡ Ok a → residual_at f highest ≡ Ok b → same_sign a b ≡ false → Begun

  pub begun : Begun
  begun = go (residual_at f lowest) (residual_at f highest) refl refl
    where
      test : (a b : Float) → residual_at f lowest ≡ Ok a → residual_at f highest ≡ Ok b → (t : Bool) → same_sign a b ≡ t → Begun
      test a b p q true s = alike a b p q s
      test a b p q false s = apart a b p q s

      go : (x y : Outcome Float) → residual_at f lowest ≡ x → residual_at f highest ≡ y → Begun
      go (Err r) y p q = low_stopped r p
      go (Ok a) (Err r) p q = high_stopped a r p q
      go (Ok a) (Ok b) p q = test a b p q (same_sign a b) refl

  abbrev signs : Float → Float → Outcome Fit
  signs a b = cond (same_sign a b) (Err R.NoSignChange) (halvings_from f 200 0 (ends_of a b))

  abbrev start : Outcome Float → Outcome Float → Outcome Fit
  start x y = following x (λ a. following y (λ b. signs a b))

  solve_start : {x y : Outcome Float} → residual_at f lowest ≡ x → residual_at f highest ≡ y → solve_of f ≡ start x y
  unfolding solve_of
  solve_start {x} p q = ap (λ (o : Outcome Float). start o (residual_at f highest)) p ∙ ap (λ (o : Outcome Float). start x o) q

  pub solve_low : {r : Refusal} → residual_at f lowest ≡ Err r → solve_of f ≡ Err r
  solve_low p = solve_start p refl

  pub solve_high : {a : Float} {r : Refusal} → residual_at f lowest ≡ Ok a → residual_at f highest ≡ Err r → solve_of f ≡ Err r
  solve_high p q = solve_start p q

  pub solve_alike : {a b : Float} → residual_at f lowest ≡ Ok a → residual_at f highest ≡ Ok b → same_sign a b ≡ true → solve_of f ≡ Err R.NoSignChange
  solve_alike {a} {b} p q s = solve_start p q ∙ ap (λ (t : Bool). cond t (Err R.NoSignChange) (halvings_from f 200 0 (ends_of a b))) s

  pub solve_apart : {a b : Float} → residual_at f lowest ≡ Ok a → residual_at f highest ≡ Ok b → same_sign a b ≡ false → solve_of f ≡ halvings_from f 200 0 (ends_of a b)
  solve_apart {a} {b} p q s = solve_start p q ∙ ap (λ (t : Bool). cond t (Err R.NoSignChange) (halvings_from f 200 0 (ends_of a b))) s

  abbrev trials : Outcome Float → Outcome Float → List Float
  trials x y = lowest ∷ onward x (λ a. highest ∷ onward y (λ b. cond (same_sign a b) [] (tried_from f 200 (ends_of a b))))

  tried_start : {x y : Outcome Float} → residual_at f lowest ≡ x → residual_at f highest ≡ y → tried_of f ≡ trials x y
  unfolding tried_of
  tried_start {x} p q = ap (λ (o : Outcome Float). trials o (residual_at f highest)) p ∙ ap (λ (o : Outcome Float). trials x o) q

  pub tried_low : {r : Refusal} → residual_at f lowest ≡ Err r → tried_of f ≡ lowest ∷ []
  tried_low p = tried_start p refl

  pub tried_high : {a : Float} {r : Refusal} → residual_at f lowest ≡ Ok a → residual_at f highest ≡ Err r → tried_of f ≡ lowest ∷ highest ∷ []
  tried_high p q = tried_start p q

  pub tried_alike : {a b : Float} → residual_at f lowest ≡ Ok a → residual_at f highest ≡ Ok b → same_sign a b ≡ true → tried_of f ≡ lowest ∷ highest ∷ []
  tried_alike {a} {b} p q s = tried_start p q ∙ ap (λ (t : Bool). lowest ∷ highest ∷ cond t [] (tried_from f 200 (ends_of a b))) s

  pub tried_apart : {a b : Float} → residual_at f lowest ≡ Ok a → residual_at f highest ≡ Ok b → same_sign a b ≡ false → tried_of f ≡ lowest ∷ highest ∷ tried_from f 200 (ends_of a b)
  tried_apart {a} {b} p q s = tried_start p q ∙ ap (λ (t : Bool). lowest ∷ highest ∷ cond t [] (tried_from f 200 (ends_of a b))) s

-- a halving that leaves everything as it was is followed by none that does not: code that stops there answers as all 200 would
pub stays : (f : Float → Outcome Float) (left made : ℕ) (e : Ends) (v : Float) → residual_at f (midpoint_of e.low e.high) ≡ Ok v → close_enough v ≡ false
    → ends_moved_to e (midpoint_of e.low e.high) v ≡ e → halvings_from f left made e ≡ unconverged_at f e
stays f zero made e v p q r = unfold halvings_from in refl
stays f (suc left) made e v p q r = halving_away f made e left p q ∙ ap (λ (x : Ends). halvings_from f left (suc made) x) r ∙ stays f left (suc made) e v p q r
