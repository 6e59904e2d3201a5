-- The fits of a basket, one after another: after i turns the records of the first i entries are in the lent lists, and what is left to say is what the other entries come to. Assumes nothing.
use Rattle.std.specs.Prelude.{Ok, Err}
use mathlib.Core.Path.{◌≡◌, refl, ◌∙◌}
use mathlib.Core.Bool.{Bool, false}
use mathlib.Core.List.{List, [], ◌∷◌, ◌++◌, append-nil}
use Prim.Native.Nat.{ℕ, ◌+◌, ◌≤◌, ◌<◌}
use native.Mathlib.Omega.{arith}
use lib.ListN.{length, get_or, set, take, length-set}
use lib.Seq.{take_all}
use lib.Ieee.{Float, nan}
use Rattle.refusals.specs.declared.refusals.Refusal.{Refusal}
use Rattle.refusals.specs.Refusals.{Outcome, following}
use Rattle.math_bisection.specs.declared.result.Fit.{Fit}
use Rattle.hullwhite_formulas.specs.declared.instruments.Optionlet.{Optionlet}
use Rattle.fit_objective.specs.declared.market.Quote.{Quote}
use Rattle.fit.specs.Fits.{caplet_fitted}
use Rattle.basket_entries.specs.Entries.{volatility_type_of, entries_of}
use Rattle.basket_entries.proofs.Walks.{from, entry_at, next_entry, no_entries}
use Rattle.basket.specs.Basket.{status_of, count_of, Records, with_fit, fits_of}
use Rattle.refusals.proofs.Walks.{longer}

-- ---- one entry's fit, as the code takes it apart
pub fit_is : (alpha : Float) (xs fs : List Float) {quote asked : Quote} {caplet named : Optionlet} → quote ≡ asked → caplet ≡ named → {o : Outcome Fit} → o ≡ caplet_fitted quote.vol_type alpha xs fs caplet.strike caplet.start caplet.end quote.volatility
    → caplet_fitted asked.vol_type alpha xs fs named.strike named.start named.end asked.volatility ≡ o
fit_is alpha xs fs q k h = rw (← q, ← k, ← h)

-- ---- an outcome with some records before its own
abbrev pub behind : List Float → List Float → List Float → List Float → Outcome Records → Outcome Records
behind ss cs hs rs (Ok o) = Ok (record { sigmas = ss ++ o.sigmas; statuses = cs ++ o.statuses; halvings = hs ++ o.halvings; residuals = rs ++ o.residuals })
behind ss cs hs rs (Err r) = Err r

behind_none : (o : Outcome Records) → o ≡ behind [] [] [] [] o
behind_none (Ok o) = refl
behind_none (Err r) = refl

same : {a a' b b' c c' d d' : List Float} → a ≡ a' → b ≡ b' → c ≡ c' → d ≡ d' → ◌≡◌ {A = Outcome Records} (Ok (record { sigmas = a; statuses = b; halvings = c; residuals = d })) (Ok (record { sigmas = a'; statuses = b'; halvings = c'; residuals = d' }))
same p q r s = rw (p, q, r, s)

behind_fit : (ss cs hs rs : List Float) (i : ℕ) (v : Fit) (status : Float) (o : Outcome Records) → status ≡ status_of v.converged → i < length ss → i < length cs → i < length hs → i < length rs
    → behind (take i ss) (take i cs) (take i hs) (take i rs) (following o (λ rest. Ok (with_fit v rest)))
    ≡ behind (take (i + 1) (set ss i v.sigma)) (take (i + 1) (set cs i status)) (take (i + 1) (set hs i (count_of v.halvings))) (take (i + 1) (set rs i v.residual)) o
behind_fit ss cs hs rs i v status (Ok o) p a b c d = rw p (same (longer ss i v.sigma o.sigmas a) (longer cs i (status_of v.converged) o.statuses b) (longer hs i (count_of v.halvings) o.halvings c) (longer rs i v.residual o.residuals d))
behind_fit ss cs hs rs i v status (Err r) p a b c d = refl

-- ---- i of the records are in the lent lists
pub record Fitting (alpha : Float) (xs fs : List Float) (ns : List Bool) (ks ts ends vs : List Float) (i : ℕ) (ss cs hs rs : List Float) : Type 0 where
  pub within : i ≤ length ns
  pub strikes : length ks ≡ length ns
  pub starts : length ts ≡ length ns
  pub ended : length ends ≡ length ns
  pub quoted : length vs ≡ length ns
  pub sigmas : length ss ≡ length ns
  pub statuses : length cs ≡ length ns
  pub halvings : length hs ≡ length ns
  pub residuals : length rs ≡ length ns
  pub fitted : fits_of alpha xs fs (entries_of ns ks ts ends vs) ≡ behind (take i ss) (take i cs) (take i hs) (take i rs) (fits_of alpha xs fs (from ns ks ts ends vs i))

module _ {alpha : Float} {xs fs : List Float} {ns : List Bool} {ks ts ends vs : List Float} {ss cs hs rs : List Float} where
  pub start : length ks ≡ length ns → length ts ≡ length ns → length ends ≡ length ns → length vs ≡ length ns → length ss ≡ length ns → length cs ≡ length ns → length hs ≡ length ns → length rs ≡ length ns
      → Fitting alpha xs fs ns ks ts ends vs 0 ss cs hs rs
  start k t e v s c h r = record { within = omega arith; strikes = k; starts = t; ended = e; quoted = v; sigmas = s; statuses = c; halvings = h; residuals = r; fitted = behind_none (fits_of alpha xs fs (entries_of ns ks ts ends vs)) }

  module _ {i : ℕ} (h : i < length ns) (f : Fitting alpha xs fs ns ks ts ends vs i ss cs hs rs) where
    here : from ns ks ts ends vs i ≡ entry_at ns ks ts ends vs i ∷ from ns ks ts ends vs (i + 1)
    here = next_entry ns ks ts ends vs i f.strikes f.starts f.ended f.quoted h

    pub turn : {fit : Fit} {status : Float} → status ≡ status_of fit.converged → caplet_fitted (volatility_type_of (get_or ns i false)) alpha xs fs (get_or ks i nan) (get_or ts i nan) (get_or ends i nan) (get_or vs i nan) ≡ Ok fit
        → Fitting alpha xs fs ns ks ts ends vs (i + 1) (set ss i fit.sigma) (set cs i status) (set hs i (count_of fit.halvings)) (set rs i fit.residual)
    unfolding fits_of
    turn {fit} {status} p q =
        let a : i < length ss = omega arith in
        let b : i < length cs = omega arith in
        let c : i < length hs = omega arith in
        let e : i < length rs = omega arith in
        record {
          within = omega arith;
          strikes = f.strikes;
          starts = f.starts;
          ended = f.ended;
          quoted = f.quoted;
          sigmas = length-set ss i fit.sigma ∙ f.sigmas;
          statuses = length-set cs i status ∙ f.statuses;
          halvings = length-set hs i (count_of fit.halvings) ∙ f.halvings;
          residuals = length-set rs i fit.residual ∙ f.residuals;
          fitted = f.fitted ∙ rw (here, q) (behind_fit ss cs hs rs i fit status (fits_of alpha xs fs (from ns ks ts ends vs (i + 1))) p a b c e);
        }

    pub stop : {r : Refusal} → caplet_fitted (volatility_type_of (get_or ns i false)) alpha xs fs (get_or ks i nan) (get_or ts i nan) (get_or ends i nan) (get_or vs i nan) ≡ Err r → fits_of alpha xs fs (entries_of ns ks ts ends vs) ≡ Err r
    unfolding fits_of
    stop q = f.fitted ∙ rw (here, q)

  pub end : {i : ℕ} → length ns ≤ i → Fitting alpha xs fs ns ks ts ends vs i ss cs hs rs → fits_of alpha xs fs (entries_of ns ks ts ends vs) ≡ Ok (record { sigmas = ss; statuses = cs; halvings = hs; residuals = rs })
  unfolding fits_of
  end {i} h f =
      let a : length ss ≤ i = omega arith in
      let b : length cs ≤ i = omega arith in
      let c : length hs ≤ i = omega arith in
      let e : length rs ≤ i = omega arith in
      f.fitted ∙ rw (no_entries ns ks ts ends vs i h, append-nil (take i ss), append-nil (take i cs), append-nil (take i hs), append-nil (take i rs), take_all i ss a, take_all i cs b, take_all i hs c, take_all i rs e)
