-- The bumped fits of a basket, one after another, as its fits are: one entry's, and what stands in the lent lists after i turns. Assumes nothing.
use Rattle.std.specs.Prelude.{Ok, Err}
use mathlib.Core.Path.{◌≡◌, refl, ◌∙◌}
use mathlib.Core.Bool.{Bool, true, false}
use mathlib.Core.List.{List, [], ◌∷◌, ◌++◌, append-nil}
use Prim.Native.Nat.{ℕ, ◌+◌, ◌≤◌, ◌<◌}
use native.Mathlib.Omega.{arith}
use lib.ListN.{length, get_or, set, take, drop, length-set}
use lib.Seq.{take_all}
use lib.Ieee.{Float, nan, binary64, of_bits}
use lib.Ieee.Scale.{finite}
use Rattle.ieee.specs.Rounded.{◌⊕◌}
use Rattle.refusals.specs.declared.refusals.Refusal.{Refusal}
use Rattle.refusals.specs.declared.refusals.Refusal.TheVariants as R
use Rattle.refusals.specs.Refusals.{Outcome, following}
use Rattle.math_bisection.specs.declared.result.Fit.{Fit}
use Rattle.hullwhite_formulas.specs.declared.instruments.Optionlet.{Optionlet}
use Rattle.fit_objective.specs.declared.market.Quote.{Quote}
use Rattle.fit.specs.Fits.{caplet_fitted}
use Rattle.basket_entries.specs.Entries.{entries_of}
use Rattle.basket_entries.proofs.Walks.{from, entry_at, next_entry, no_entries}
use Rattle.basket.specs.Lent.{entry_of}
use Rattle.basket.specs.Basket.{diagonal_of, status_of, Bumps, bump_of, with_bump, bumps_of}
use Rattle.basket.proofs.Literals.{bump_is}
use Rattle.refusals.proofs.Walks.{next, longer}

-- ---- one entry's bumped fit
module _ (alpha : Float) (xs fs : List Float) (quote : Quote) (caplet : Optionlet) (sigma : Float) where
  abbrev bumped_fit : Outcome Fit
  bumped_fit = caplet_fitted quote.vol_type alpha xs fs caplet.strike caplet.start caplet.end (quote.volatility ⊕ of_bits binary64 0x3eb0_c6f7_a0b5_ed8d)

  module _ {fitted : Outcome Fit} (h : fitted ≡ bumped_fit) where
    pub bump_refused : {r : Refusal} → fitted ≡ Err r → fitted ≡ bump_of alpha xs fs (entry_of quote caplet) sigma
    unfolding bump_of
    bump_refused e = rw (← bump_is, ← h, e)

    module _ {fit : Fit} (e : fitted ≡ Ok fit) {d : Float} {b : Bool} (p : d ≡ diagonal_of fit.sigma sigma) (z : b ≡ finite d) where
      pub bump_kept : b ≡ true → Ok fit ≡ bump_of alpha xs fs (entry_of quote caplet) sigma
      unfolding bump_of
      bump_kept w = rw (← bump_is, ← h, e, ← p, ← z, w)

      pub bump_lost : b ≡ false → Err R.Overflow ≡ bump_of alpha xs fs (entry_of quote caplet) sigma
      unfolding bump_of
      bump_lost w = rw (← bump_is, ← h, e, ← p, ← z, w)

-- ---- as the walk takes it apart
pub bump_is_of : (alpha : Float) (xs fs : List Float) (sigma : Float) {quote asked : Quote} {caplet named : Optionlet} → quote ≡ asked → caplet ≡ named → {o : Outcome Fit} → o ≡ bump_of alpha xs fs (entry_of quote caplet) sigma
    → bump_of alpha xs fs (entry_of asked named) sigma ≡ o
bump_is_of alpha xs fs sigma q k h = rw (← q, ← k, ← h)

-- ---- an outcome with some bumps before its own
abbrev pub behind : List Float → List Float → Outcome Bumps → Outcome Bumps
behind ds cs (Ok o) = Ok (record { diagonal = ds ++ o.diagonal; statuses = cs ++ o.statuses })
behind ds cs (Err r) = Err r

behind_none : (o : Outcome Bumps) → o ≡ behind [] [] o
behind_none (Ok o) = refl
behind_none (Err r) = refl

same : {a a' b b' : List Float} → a ≡ a' → b ≡ b' → ◌≡◌ {A = Outcome Bumps} (Ok (record { diagonal = a; statuses = b })) (Ok (record { diagonal = a'; statuses = b' }))
same p q = rw (p, q)

behind_bump : (ds cs : List Float) (i : ℕ) (sigma : Float) (v : Fit) (d status : Float) (o : Outcome Bumps) → d ≡ diagonal_of v.sigma sigma → status ≡ status_of v.converged → i < length ds → i < length cs
    → behind (take i ds) (take i cs) (following o (λ rest. Ok (with_bump sigma v rest))) ≡ behind (take (i + 1) (set ds i d)) (take (i + 1) (set cs i status)) o
behind_bump ds cs i sigma v d status (Ok o) p q a b = rw (p, q) (same (longer ds i (diagonal_of v.sigma sigma) o.diagonal a) (longer cs i (status_of v.converged) o.statuses b))
behind_bump ds cs i sigma v d status (Err r) p q a b = refl

-- ---- i of the bumps are in the lent lists
pub record Bumping (alpha : Float) (xs fs : List Float) (ns : List Bool) (ks ts ends vs ss : List Float) (i : ℕ) (ds cs : List Float) : Type 0 where
  pub within : i ≤ length ns
  pub strikes : length ks ≡ length ns
  pub starts : length ts ≡ length ns
  pub ended : length ends ≡ length ns
  pub quoted : length vs ≡ length ns
  pub sigmas : length ss ≡ length ns
  pub diagonal : length ds ≡ length ns
  pub statuses : length cs ≡ length ns
  pub bumped : bumps_of alpha xs fs (entries_of ns ks ts ends vs) ss ≡ behind (take i ds) (take i cs) (bumps_of alpha xs fs (from ns ks ts ends vs i) (drop i ss))

module _ {alpha : Float} {xs fs : List Float} {ns : List Bool} {ks ts ends vs ss : List Float} {ds cs : List Float} where
  pub start : length ks ≡ length ns → length ts ≡ length ns → length ends ≡ length ns → length vs ≡ length ns → length ss ≡ length ns → length ds ≡ length ns → length cs ≡ length ns
      → Bumping alpha xs fs ns ks ts ends vs ss 0 ds cs
  start k t e v s d c = record { within = omega arith; strikes = k; starts = t; ended = e; quoted = v; sigmas = s; diagonal = d; statuses = c; bumped = behind_none (bumps_of alpha xs fs (entries_of ns ks ts ends vs) ss) }

  module _ {i : ℕ} (h : i < length ns) (f : Bumping alpha xs fs ns ks ts ends vs ss i ds cs) where
    here : from ns ks ts ends vs i ≡ entry_at ns ks ts ends vs i ∷ from ns ks ts ends vs (i + 1)
    here = next_entry ns ks ts ends vs i f.strikes f.starts f.ended f.quoted h

    sigma_here : drop i ss ≡ get_or ss i nan ∷ drop (i + 1) ss
    sigma_here = let l : i < length ss = omega arith in next ss i l

    pub turn : {fit : Fit} {x status : Float} → x ≡ diagonal_of fit.sigma (get_or ss i nan) → status ≡ status_of fit.converged → bump_of alpha xs fs (entry_at ns ks ts ends vs i) (get_or ss i nan) ≡ Ok fit
        → Bumping alpha xs fs ns ks ts ends vs ss (i + 1) (set ds i x) (set cs i status)
    unfolding bumps_of
    turn {fit} {x} {status} p z q =
        let a : i < length ds = omega arith in
        let b : i < length cs = omega arith in
        record {
          within = omega arith;
          strikes = f.strikes;
          starts = f.starts;
          ended = f.ended;
          quoted = f.quoted;
          sigmas = f.sigmas;
          diagonal = length-set ds i x ∙ f.diagonal;
          statuses = length-set cs i status ∙ f.statuses;
          bumped = f.bumped ∙ rw (here, sigma_here, q) (behind_bump ds cs i (get_or ss i nan) fit x status (bumps_of alpha xs fs (from ns ks ts ends vs (i + 1)) (drop (i + 1) ss)) p z a b);
        }

    pub stop : {r : Refusal} → bump_of alpha xs fs (entry_at ns ks ts ends vs i) (get_or ss i nan) ≡ Err r → bumps_of alpha xs fs (entries_of ns ks ts ends vs) ss ≡ Err r
    unfolding bumps_of
    stop q = f.bumped ∙ rw (here, sigma_here, q)

  pub end : {i : ℕ} → length ns ≤ i → Bumping alpha xs fs ns ks ts ends vs ss i ds cs → bumps_of alpha xs fs (entries_of ns ks ts ends vs) ss ≡ Ok (record { diagonal = ds; statuses = cs })
  unfolding bumps_of
  end {i} h f =
      let a : length ds ≤ i = omega arith in
      let b : length cs ≤ i = omega arith in
      f.bumped ∙ rw (no_entries ns ks ts ends vs i h, append-nil (take i ds), append-nil (take i cs), take_all i ds a, take_all i cs b)
