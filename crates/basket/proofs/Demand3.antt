-- Demand 3 of a basket, of the definitions: every place of a basket that is served is of a fit and of a bumped fit that are held, and none is refused for want of a bracket. Assumes nothing.
use Rattle.std.specs.Prelude.{Ok, Err}
use mathlib.Core.Path.{◌≡◌, refl, sym, ap, ◌∙◌, subst}
use mathlib.Core.Bool.{Bool, cond}
use mathlib.Core.List.{List, [], ◌∷◌, ◌++◌}
use Prim.Native.Nat.{ℕ, zero, suc, ◌-◌}
use lib.ListN.{length, get_or, replicate}
use lib.Ieee.{Float}
use lib.Ieee.Scale.{finite}
use Rattle.ieee.specs.Rounded.{◌⊕◌}
use Rattle.ieee.specs.Numbers as Numbers
use Rattle.refusals.specs.declared.refusals.Refusal.TheVariants as R
use Rattle.refusals.specs.Refusals.{Outcome, following}
use Rattle.refusals.proofs.Outcomes.{not_both, served_is}
use Rattle.hullwhite_terms.proofs.Callers.{past_rules, ends_so, ends_otherwise}
use Rattle.math_bisection.specs.declared.result.Fit.{Fit}
use Rattle.basket_entries.specs.Entries.{Entry, entries_of, basket_rules_on}
use Rattle.basket.specs.declared.call.Basket.{Basket}
use Rattle.basket.specs.Basket.{fit_of, bump, diagonal_of, status_of, count_of, Records, with_fit, fits_of, Bumps, bump_of, with_bump, bumps_of, padded, basket_from, fitted_basket, basket_of}
use Rattle.basket.specs.Demand3.{PlaceHolds, BasketHolds, BasketNeverNoBracket}
use Rattle.basket.proofs.Held.{fit_held, fit_never_so}

-- ---- a place of the values is that of the array
zeros_at : (k i : ℕ) → get_or (replicate k Numbers.zero) i Numbers.zero ≡ Numbers.zero
zeros_at zero zero = refl
zeros_at zero (suc i) = refl
zeros_at (suc k) zero = refl
zeros_at (suc k) (suc i) = zeros_at k i

behind_at : (vs : List Float) (k i : ℕ) → get_or (vs ++ replicate k Numbers.zero) i Numbers.zero ≡ get_or vs i Numbers.zero
behind_at [] k zero = zeros_at k zero
behind_at [] k (suc i) = zeros_at k (suc i)
behind_at (v ∷ vs) k zero = refl
behind_at (v ∷ vs) k (suc i) = behind_at vs k i

padded_at : (vs : List Float) (i : ℕ) → get_or (padded vs) i Numbers.zero ≡ get_or vs i Numbers.zero
padded_at vs i = behind_at vs (64 - length vs) i

-- ---- the first fit and those behind it, the first bumped fit and those behind it
record FirstFit (o : Outcome Fit) (o' : Outcome Records) (rs : Records) : Type 0 where
  fit : Fit
  rest : Records
  first : o ≡ Ok fit
  others : o' ≡ Ok rest
  joined : with_fit fit rest ≡ rs

first_fit : (o : Outcome Fit) (o' : Outcome Records) (rs : Records) → following o (λ v. following o' (λ rest. Ok (with_fit v rest))) ≡ Ok rs → FirstFit o o' rs
first_fit (Ok v) (Ok rest) rs e = record { fit = v; rest = rest; first = refl; others = refl; joined = served_is e }
first_fit (Ok v) (Err q) rs e = absurd (not_both e)
first_fit (Err q) o' rs e = absurd (not_both e)

record FirstBump (sigma : Float) (o : Outcome Fit) (o' : Outcome Bumps) (bs : Bumps) : Type 0 where
  fit : Fit
  rest : Bumps
  first : o ≡ Ok fit
  others : o' ≡ Ok rest
  joined : with_bump sigma fit rest ≡ bs

first_bump : (sigma : Float) (o : Outcome Fit) (o' : Outcome Bumps) (bs : Bumps) → following o (λ v. following o' (λ rest. Ok (with_bump sigma v rest))) ≡ Ok bs → FirstBump sigma o o' bs
first_bump sigma (Ok v) (Ok rest) bs e = record { fit = v; rest = rest; first = refl; others = refl; joined = served_is e }
first_bump sigma (Ok v) (Err q) bs e = absurd (not_both e)
first_bump sigma (Err q) o' bs e = absurd (not_both e)

module _ (alpha : Float) (xs fs : List Float) where
  -- a bumped fit is a fit, and rule 13 alone refuses besides
  bump_fits : (e : Entry) (sigma : Float) (fit : Fit) → bump_of alpha xs fs e sigma ≡ Ok fit → fit_of alpha xs fs e (e.vol ⊕ bump) ≡ Ok fit
  unfolding bump_of
  bump_fits e sigma fit h = go (fit_of alpha xs fs e (e.vol ⊕ bump)) h
    where
      go : (o : Outcome Fit) → following o (λ v. cond (finite (diagonal_of v.sigma sigma)) (Ok v) (Err R.Overflow)) ≡ Ok fit → o ≡ Ok fit
      go (Ok v) k = ap Ok (ends_so (finite (diagonal_of v.sigma sigma)) v k)
      go (Err q) k = absurd (not_both k)

  bump_never_so : (e : Entry) (sigma : Float) → bump_of alpha xs fs e sigma ≡ Err R.NoBracket → ⊥
  unfolding bump_of
  bump_never_so e sigma h = fit_never_so alpha xs fs e (e.vol ⊕ bump) (go (fit_of alpha xs fs e (e.vol ⊕ bump)) h)
    where
      go : (o : Outcome Fit) → following o (λ v. cond (finite (diagonal_of v.sigma sigma)) (Ok v) (Err R.Overflow)) ≡ Err R.NoBracket → o ≡ Err R.NoBracket
      go (Ok v) k = absurd (ends_otherwise (finite (diagonal_of v.sigma sigma)) v k)
      go (Err q) k = let z : q ≡ R.NoBracket = cc in ap Err z

  -- ---- place i of the records and of the bumps
  record Place (e : Entry) (rs : Records) (bs : Bumps) (i : ℕ) : Type 0 where
    fit : Fit
    is : fit_of alpha xs fs e e.vol ≡ Ok fit
    sigma_is : get_or rs.sigmas i Numbers.zero ≡ fit.sigma
    status_is : get_or rs.statuses i Numbers.zero ≡ status_of fit.converged
    halvings_are : get_or rs.halvings i Numbers.zero ≡ count_of fit.halvings
    residual_is : get_or rs.residuals i Numbers.zero ≡ fit.residual
    bumped : Fit
    bumped_is : fit_of alpha xs fs e (e.vol ⊕ bump) ≡ Ok bumped
    diagonal_is : get_or bs.diagonal i Numbers.zero ≡ diagonal_of bumped.sigma fit.sigma
    bumped_status_is : get_or bs.statuses i Numbers.zero ≡ status_of bumped.converged

  module _ (e : Entry) (behind : List Entry) where
    places : (before : List Entry) (rs : Records) (bs : Bumps) → fits_of alpha xs fs (before ++ (e ∷ behind)) ≡ Ok rs → bumps_of alpha xs fs (before ++ (e ∷ behind)) rs.sigmas ≡ Ok bs → Place e rs bs (length before)
    unfolding fits_of bumps_of
    places [] rs bs h k =
        let f = first_fit (fit_of alpha xs fs e e.vol) (fits_of alpha xs fs behind) rs h in
        let k' = subst (λ (z : Records). bumps_of alpha xs fs (e ∷ behind) z.sigmas ≡ Ok bs) (sym f.joined) k in
        let b = first_bump f.fit.sigma (bump_of alpha xs fs e f.fit.sigma) (bumps_of alpha xs fs behind f.rest.sigmas) bs k' in
        subst (λ (z : Records). Place e z bs 0) f.joined (subst (λ (z : Bumps). Place e (with_fit f.fit f.rest) z 0) b.joined (record {
          fit = f.fit;
          is = f.first;
          sigma_is = refl;
          status_is = refl;
          halvings_are = refl;
          residual_is = refl;
          bumped = b.fit;
          bumped_is = bump_fits e f.fit.sigma b.fit b.first;
          diagonal_is = refl;
          bumped_status_is = refl;
        }))
    places (x ∷ before) rs bs h k =
        let f = first_fit (fit_of alpha xs fs x x.vol) (fits_of alpha xs fs (before ++ (e ∷ behind))) rs h in
        let k' = subst (λ (z : Records). bumps_of alpha xs fs (x ∷ (before ++ (e ∷ behind))) z.sigmas ≡ Ok bs) (sym f.joined) k in
        let b = first_bump f.fit.sigma (bump_of alpha xs fs x f.fit.sigma) (bumps_of alpha xs fs (before ++ (e ∷ behind)) f.rest.sigmas) bs k' in
        let p = places before f.rest b.rest f.others b.others in
        subst (λ (z : Records). Place e z bs (suc (length before))) f.joined (subst (λ (z : Bumps). Place e (with_fit f.fit f.rest) z (suc (length before))) b.joined (record {
          fit = p.fit;
          is = p.is;
          sigma_is = p.sigma_is;
          status_is = p.status_is;
          halvings_are = p.halvings_are;
          residual_is = p.residual_is;
          bumped = p.bumped;
          bumped_is = p.bumped_is;
          diagonal_is = p.diagonal_is;
          bumped_status_is = p.bumped_status_is;
        }))

  place_held : (e : Entry) (n : ℕ) (rs : Records) (bs : Bumps) (i : ℕ) → Place e rs bs i → PlaceHolds alpha xs fs (basket_from n rs bs) i e
  place_held e n rs bs i p = record {
    first = fit_held alpha xs fs e e.vol p.fit p.is;
    sigma_is = padded_at rs.sigmas i ∙ p.sigma_is;
    status_is = padded_at rs.statuses i ∙ p.status_is;
    halvings_are = padded_at rs.halvings i ∙ p.halvings_are;
    residual_is = padded_at rs.residuals i ∙ p.residual_is;
    bumped = fit_held alpha xs fs e (e.vol ⊕ bump) p.bumped p.bumped_is;
    diagonal_is = padded_at bs.diagonal i ∙ p.diagonal_is;
    bumped_status_is = padded_at bs.statuses i ∙ p.bumped_status_is;
  }

  -- ---- a basket that is served has its records and its bumps
  record Both (es : List Entry) (b : Basket) : Type 0 where
    records : Records
    bumps : Bumps
    fitted : fits_of alpha xs fs es ≡ Ok records
    bumped : bumps_of alpha xs fs es records.sigmas ≡ Ok bumps
    is : basket_from (length es) records bumps ≡ b

  both : (es : List Entry) (b : Basket) → fitted_basket alpha xs fs es ≡ Ok b → Both es b
  unfolding fitted_basket
  both es b h = go (fits_of alpha xs fs es) refl h
    where
      then : (rs : Records) → fits_of alpha xs fs es ≡ Ok rs → (o : Outcome Bumps) → bumps_of alpha xs fs es rs.sigmas ≡ o → following o (λ bs. Ok (basket_from (length es) rs bs)) ≡ Ok b → Both es b
      then rs p (Ok bs) q k = record { records = rs; bumps = bs; fitted = p; bumped = q; is = served_is k }
      then rs p (Err r) q k = absurd (not_both k)

      go : (o : Outcome Records) → fits_of alpha xs fs es ≡ o → following o (λ rs. following (bumps_of alpha xs fs es rs.sigmas) (λ bs. Ok (basket_from (length es) rs bs))) ≡ Ok b → Both es b
      go (Ok rs) p k = then rs p (bumps_of alpha xs fs es rs.sigmas) refl k
      go (Err r) p k = absurd (not_both k)

  -- ---- no fit, and no bumped fit, is refused for want of a bracket
  fits_never_so : (es : List Entry) → fits_of alpha xs fs es ≡ Err R.NoBracket → ⊥
  unfolding fits_of
  fits_never_so [] h = not_both (sym h)
  fits_never_so (e ∷ es) h = go (fits_never_so es) (fit_of alpha xs fs e e.vol) refl (fits_of alpha xs fs es) refl h
    where
      go : (fits_of alpha xs fs es ≡ Err R.NoBracket → ⊥) → (o : Outcome Fit) → fit_of alpha xs fs e e.vol ≡ o → (o' : Outcome Records) → fits_of alpha xs fs es ≡ o' → following o (λ v. following o' (λ rest. Ok (with_fit v rest))) ≡ Err R.NoBracket → ⊥
      go others (Ok v) p (Ok rest) q k = not_both (sym k)
      go others (Ok v) p (Err r) q k = others (q ∙ (let z : r ≡ R.NoBracket = cc in ap Err z))
      go others (Err r) p o' q k = fit_never_so alpha xs fs e e.vol (p ∙ (let z : r ≡ R.NoBracket = cc in ap Err z))

  bumps_never_so : (es : List Entry) (ss : List Float) → bumps_of alpha xs fs es ss ≡ Err R.NoBracket → ⊥
  unfolding bumps_of
  bumps_never_so [] ss h = not_both (sym h)
  bumps_never_so (e ∷ es) [] h = not_both (sym h)
  bumps_never_so (e ∷ es) (s ∷ ss) h = go (bumps_never_so es ss) (bump_of alpha xs fs e s) refl (bumps_of alpha xs fs es ss) refl h
    where
      go : (bumps_of alpha xs fs es ss ≡ Err R.NoBracket → ⊥) → (o : Outcome Fit) → bump_of alpha xs fs e s ≡ o → (o' : Outcome Bumps) → bumps_of alpha xs fs es ss ≡ o' → following o (λ v. following o' (λ rest. Ok (with_bump s v rest))) ≡ Err R.NoBracket → ⊥
      go others (Ok v) p (Ok rest) q k = not_both (sym k)
      go others (Ok v) p (Err r) q k = others (q ∙ (let z : r ≡ R.NoBracket = cc in ap Err z))
      go others (Err r) p o' q k = bump_never_so e s (p ∙ (let z : r ≡ R.NoBracket = cc in ap Err z))

  fitted_never_so : (es : List Entry) → fitted_basket alpha xs fs es ≡ Err R.NoBracket → ⊥
  unfolding fitted_basket
  fitted_never_so es h = go (fits_of alpha xs fs es) refl h
    where
      then : (rs : Records) (o : Outcome Bumps) → bumps_of alpha xs fs es rs.sigmas ≡ o → following o (λ bs. Ok (basket_from (length es) rs bs)) ≡ Err R.NoBracket → ⊥
      then rs (Ok bs) q k = not_both (sym k)
      then rs (Err r) q k = bumps_never_so es rs.sigmas (q ∙ (let z : r ≡ R.NoBracket = cc in ap Err z))

      go : (o : Outcome Records) → fits_of alpha xs fs es ≡ o → following o (λ rs. following (bumps_of alpha xs fs es rs.sigmas) (λ bs. Ok (basket_from (length es) rs bs))) ≡ Err R.NoBracket → ⊥
      go (Ok rs) p k = then rs (bumps_of alpha xs fs es rs.sigmas) refl k
      go (Err r) p k = fits_never_so es (p ∙ (let z : r ≡ R.NoBracket = cc in ap Err z))

-- ---- of any answer that is the outcome defined: `BasketHolds` and `BasketNeverNoBracket`
module _ (alpha : Float) (xs fs : List Float) (ns : List Bool) (ks ts ends vs : List Float) {o : Outcome Basket} (is : o ≡ basket_of alpha xs fs ns ks ts ends vs) where
  pub basket_held : BasketHolds alpha xs fs ns ks ts ends vs o
  unfolding basket_of
  basket_held b h before e behind p =
      let r = past_rules (Ok b) tt (basket_rules_on alpha xs fs ns ks ts ends vs) (fitted_basket alpha xs fs (entries_of ns ks ts ends vs)) tt (sym is ∙ h) in
      let x = both alpha xs fs (before ++ (e ∷ behind)) b (subst (λ (es : List Entry). fitted_basket alpha xs fs es ≡ Ok b) p r.1) in
      subst (λ (z : Basket). PlaceHolds alpha xs fs z (length before) e) x.is (place_held alpha xs fs e (length (before ++ (e ∷ behind))) x.records x.bumps (length before) (places alpha xs fs e behind before x.records x.bumps x.fitted x.bumped))

  pub basket_never_so : BasketNeverNoBracket o
  unfolding basket_of
  basket_never_so h =
      let r = past_rules (Err R.NoBracket) tt (basket_rules_on alpha xs fs ns ks ts ends vs) (fitted_basket alpha xs fs (entries_of ns ks ts ends vs)) tt (sym is ∙ h) in
      fitted_never_so alpha xs fs (entries_of ns ks ts ends vs) r.1
