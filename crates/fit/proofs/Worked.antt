-- A fit of the objective on what is worked ahead is a fit of document 01's own, since the two are one at every sigma. Assumes nothing.
use Rattle.std.specs.Prelude.{Ok, Err}
use mathlib.Core.Path.{◌≡◌, refl, ap, ◌∙◌}
use mathlib.Core.List.{List}
use lib.Ieee.{Float}
use Rattle.ieee.specs.Rounded.{◌⊖◌}
use Rattle.refusals.specs.declared.refusals.Refusal.{Refusal}
use Rattle.refusals.specs.Refusals.{Outcome, following}
use Rattle.hullwhite_formulas.specs.declared.instruments.Optionlet.{Optionlet}
use Rattle.hullwhite_formulas.specs.HullWhite.{b_of, state_deviation_of, growth_of, optionlet_strike_of}
use Rattle.hullwhite_terms.specs.Terms.{curve_parts_of}
use Rattle.hullwhite_terms.specs.Swaption.{SwaptionTerms, terms_on, terms_of, terms_outcome}
use Rattle.hullwhite_terms.proofs.OnTerms.{terms_refused, terms_served}
use Rattle.hullwhite_jamshidian.specs.declared.price.SwaptionAhead.{SwaptionAhead}
use Rattle.hullwhite_jamshidian.specs.Ahead.{ahead_of}
use Rattle.math_bisection.specs.declared.result.Fit.{Fit}
use Rattle.math_bisection.specs.Result.{finishing_fit}
use Rattle.math_bisection.specs.Solve.{solve_of}
use Rattle.fit_objective.specs.declared.market.VolatilityType.{VolatilityType}
use Rattle.fit_objective.specs.declared.market.Quote.{Quote}
use Rattle.fit_objective.specs.declared.objective.Instrument.TheVariants as I
use Rattle.fit_objective.specs.Market.{caplet_market_price_of, swaption_market_price_of}
use Rattle.fit_objective.specs.Objective.{caplet_objective, swaption_objective}
use Rattle.fit_objective.specs.Ahead.{objective_of, objective_on}
use Rattle.fit_objective.proofs.Worked.{caplet_same, swaption_same, swaption_ahead}
use Rattle.fit.specs.Fits.{swaption_fitted}
use Rattle.hullwhite_terms.specs.declared.swaption.TermsAhead.{TermsAhead}

-- rule 13 after a fit of either objective
finished : {f g : Float → Outcome Float} {o q : Outcome Fit} → ((sigma : Float) → f sigma ≡ g sigma) → o ≡ solve_of f → q ≡ following o finishing_fit → q ≡ following (solve_of g) finishing_fit
finished {f} {g} same p h =
    let e : f ≡ g = λ i sigma. same sigma i in
    h ∙ ap (λ (x : Outcome Fit). following x finishing_fit) (p ∙ ap solve_of e)

module _ (quote : Quote) (alpha : Float) (caplet : Optionlet) (pt p_s : Float) where
  pub caplet_fit : {b deviation growth x market : Float} (cs bs ds ps : List Float) {o q : Outcome Fit} → b ≡ b_of alpha caplet.start caplet.end → deviation ≡ state_deviation_of alpha caplet.start → growth ≡ growth_of (caplet.end ⊖ caplet.start) caplet.strike → x ≡ optionlet_strike_of caplet.strike caplet.start caplet.end → market ≡ caplet_market_price_of quote.vol_type caplet.strike caplet.start caplet.end quote.volatility pt p_s
      → o ≡ solve_of (objective_of (I.Caplet (record { b = b; deviation = deviation; growth = growth; bond_strike = x; p_t = pt; p_end = p_s })) market cs bs ds ps) → q ≡ following o finishing_fit
      → q ≡ following (solve_of (caplet_objective quote.vol_type alpha caplet.strike caplet.start caplet.end quote.volatility pt p_s)) finishing_fit
  caplet_fit cs bs ds ps p q g r m = finished (caplet_same quote alpha caplet pt p_s cs bs ds ps p q g r m)

pub swaption_fit : (alpha t pt forward market : Float) (cs bs ps : List Float) {ds : List Float} {ahead : SwaptionAhead} {o q : Outcome Fit} → ds ≡ curve_parts_of forward pt bs ps → ahead ≡ ahead_of alpha t pt
    → o ≡ solve_of (objective_of (I.Swaption ahead) market cs bs ds ps) → q ≡ following o finishing_fit
    → q ≡ following (solve_of (objective_on alpha t (record { pt = pt; forward = forward; coefficients = cs; bs = bs; factors = ps }) market)) finishing_fit
swaption_fit alpha t pt forward market cs bs ps d h = finished (swaption_same alpha t pt forward market cs bs ps d h)

-- the call, by what its terms came to, `r` with the lists beside it
module _ (quote : VolatilityType) (alpha : Float) (ts fs payments accruals : List Float) (strike t vol : Float) (r : Outcome TermsAhead) (cs bs ps : List Float) (is : terms_outcome r cs bs ps ≡ terms_of alpha ts fs payments accruals strike t) where
  abbrev on : SwaptionTerms → Outcome Fit
  on w = following (solve_of (objective_on alpha t w (swaption_market_price_of quote strike t vol accruals w.pt w.factors))) finishing_fit

  same : (pt p_plus : Float) (qs : List Float) → on (terms_on alpha payments accruals strike t pt p_plus qs) ≡ following (solve_of (swaption_objective quote alpha payments accruals strike t vol pt p_plus qs)) finishing_fit
  same pt p_plus qs = finished (swaption_ahead quote alpha strike t vol payments accruals pt p_plus qs) refl refl

  pub off_curve : {q : Refusal} → r ≡ Err q → Err q ≡ swaption_fitted quote alpha ts fs payments accruals strike t vol
  unfolding swaption_fitted
  off_curve e = terms_refused alpha ts fs payments accruals strike t _ on same r cs bs ps is e

  pub on_curve : {ahead : TermsAhead} {market : Float} {cs' bs' ps' : List Float} {o : Outcome Fit} → r ≡ Ok ahead → cs' ≡ cs → bs' ≡ bs → ps' ≡ ps → market ≡ swaption_market_price_of quote strike t vol accruals ahead.p_t ps'
      → o ≡ following (solve_of (objective_on alpha t (record { pt = ahead.p_t; forward = ahead.forward; coefficients = cs'; bs = bs'; factors = ps' }) market)) finishing_fit → o ≡ swaption_fitted quote alpha ts fs payments accruals strike t vol
  unfolding swaption_fitted
  on_curve e c b p m h = h ∙ rw m (terms_served alpha ts fs payments accruals strike t _ on same r cs bs ps is e c b p)
