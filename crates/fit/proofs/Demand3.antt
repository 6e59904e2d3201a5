-- Demand 3 of kinds 8 to 11, of the definitions: a fit that is served is assured, at every sigma that a swaption's fit tries the root is located, and one is refused for want of a bracket exactly where a search that it tries has none. Assumes nothing.
use Rattle.std.specs.Prelude.{Some, Ok, Err}
use mathlib.Core.Path.{◌≡◌, sym, ap, ◌∙◌}
use mathlib.Core.Logic.{◌↔◌}
use mathlib.Core.List.{List, []}
use lib.Ieee.{Float}
use Rattle.refusals.specs.declared.refusals.Refusal.TheVariants as R
use Rattle.refusals.specs.Refusals.{Outcome, first_of, following}
use Rattle.curve.specs.Lookups.{factor_at}
use Rattle.refusals.specs.Faults.{curve_faults}
use Rattle.refusals.proofs.Outcomes.{not_both}
use Rattle.hullwhite_terms.proofs.Callers.{Late, past_rules, past_lookups}
use Rattle.hullwhite_terms.proofs.Begun.{Searches, searches, begins}
use Rattle.math_bisection.specs.declared.result.Fit.{Fit}
use Rattle.math_bisection.specs.Result.{finishing_fit}
use Rattle.math_bisection.specs.Solve.{solve_of}
use Rattle.math_bisection.proofs.Demand3.{demand3}
use Rattle.fit_objective.specs.declared.market.VolatilityType.{VolatilityType}
use Rattle.fit_objective.specs.Objective.{caplet_objective, swaption_objective}
use Rattle.fit_objective.proofs.Searches.{value_there, root_there, want_there, unbracketed_there, bracket_wanted}
use Rattle.fit_objective.proofs.Finished.{finished_served, finished_wanting}
use Rattle.fit.specs.Fits.{caplet_rules, swaption_rules_on, caplet_fitted, caplet_fit_outcome, swaption_fitted, swaption_fit_outcome}
use Rattle.fit.specs.Demand3.{CapletFitAssured, FitBegun, RootAt, SwaptionFitAssured, FitWantsBracket}

-- ---- caplets
module _ (quote : VolatilityType) (alpha : Float) (ts fs : List Float) (strike t S vol : Float) where
  abbrev fit_on : Float → Float → Outcome Fit
  fit_on pt p_s = following (solve_of (caplet_objective quote alpha strike t S vol pt p_s)) finishing_fit

  record CapletBegun (o : Outcome Fit) : Type 0 where
    passed : first_of (caplet_rules (curve_faults ts fs) quote alpha strike t S vol) ≡ Ok tt
    pt : Float
    p_s : Float
    at_start : factor_at ts fs t ≡ Some pt
    at_end : factor_at ts fs S ≡ Some p_s
    goes_on : fit_on pt p_s ≡ o

  caplet_begun : (o : Outcome Fit) → Late o → caplet_fit_outcome quote alpha ts fs strike t S vol ≡ o → CapletBegun o
  unfolding caplet_fit_outcome caplet_fitted
  caplet_begun o late e =
      let p = past_rules o late (caplet_rules (curve_faults ts fs) quote alpha strike t S vol) (caplet_fitted quote alpha ts fs strike t S vol) tt e in
      let r = past_lookups (factor_at ts fs t) (factor_at ts fs S) (Ok []) (λ pt p_s none. fit_on pt p_s) o late (λ q z. absurd (not_both (sym z))) p.1 in
      record { passed = p.0; pt = r.pt; p_s = r.p_plus; at_start = r.at_option; at_end = r.day_after; goes_on = r.goes_on }

  -- a caplet's objective is never refused
  never : (pt p_s sigma : Float) → caplet_objective quote alpha strike t S vol pt p_s sigma ≡ Err R.NoBracket → ⊥
  unfolding caplet_objective
  never pt p_s sigma e = not_both (sym e)

  -- of any answer whose outcome is the one defined: `CapletFitHolds` and `CapletFitNeverNoBracket`
  module _ {o : Outcome Fit} (is : o ≡ caplet_fit_outcome quote alpha ts fs strike t S vol) where
    pub caplet_held : (fit : Fit) → o ≡ Ok fit → CapletFitAssured quote alpha ts fs strike t S vol fit
    caplet_held fit e =
        let b = caplet_begun (Ok fit) tt (sym is ∙ e) in
        let f = caplet_objective quote alpha strike t S vol b.pt b.p_s in
        record {
          passed = b.passed;
          pt = b.pt;
          p_s = b.p_s;
          at_start = b.at_start;
          at_end = b.at_end;
          assured = demand3.assured f fit (finished_served (solve_of f) fit b.goes_on);
        }

    pub caplet_never_so : o ≡ Err R.NoBracket → ⊥
    caplet_never_so e =
        let b = caplet_begun (Err R.NoBracket) tt (sym is ∙ e) in
        let f = caplet_objective quote alpha strike t S vol b.pt b.p_s in
        let w = (demand3.no_bracket f).0 (finished_wanting (solve_of f) b.goes_on) in
        never b.pt b.p_s w.sigma w.there

-- ---- swaptions
module _ (quote : VolatilityType) (alpha : Float) (ts fs payments accruals : List Float) (strike t vol : Float) where
  abbrev objective_from : Float → Float → List Float → Float → Outcome Float
  objective_from pt p_plus ps = swaption_objective quote alpha payments accruals strike t vol pt p_plus ps

  abbrev swaption_on : Float → Float → List Float → Outcome Fit
  swaption_on pt p_plus ps = following (solve_of (objective_from pt p_plus ps)) finishing_fit

  fits : (o : Outcome Fit) → Late o → swaption_fit_outcome quote alpha ts fs payments accruals strike t vol ≡ o → Searches (swaption_rules_on quote alpha ts fs payments accruals strike t vol) ts fs payments t swaption_on o
  unfolding swaption_fit_outcome swaption_fitted
  fits o late e = searches (swaption_rules_on quote alpha ts fs payments accruals strike t vol) ts fs payments t swaption_on tt o late e

  -- a fit that is begun is what the call comes to
  fit_begins : (b : FitBegun quote alpha ts fs payments accruals strike t vol) → swaption_fit_outcome quote alpha ts fs payments accruals strike t vol ≡ swaption_on b.pt b.p_plus b.ps
  unfolding swaption_fit_outcome swaption_fitted
  fit_begins b = begins (swaption_rules_on quote alpha ts fs payments accruals strike t vol) ts fs payments t swaption_on b

  -- the search at a sigma where the objective is served
  root_at : (b : FitBegun quote alpha ts fs payments accruals strike t vol) (sigma x : Float) → objective_from b.pt b.p_plus b.ps sigma ≡ Ok x → RootAt quote alpha ts fs payments accruals strike t vol b sigma
  root_at b sigma x e =
      let r = value_there quote alpha payments accruals strike t vol b.pt b.p_plus b.ps sigma e in
      record { valued = r.0; price = r.1; located = root_there quote alpha payments accruals strike t vol b.pt b.p_plus b.ps sigma r.0 r.1 }

  -- of any answer whose outcome is the one defined: `SwaptionFitHolds` and `SwaptionFitNoBracketExactly`
  module _ {o : Outcome Fit} (is : o ≡ swaption_fit_outcome quote alpha ts fs payments accruals strike t vol) where
    pub swaption_held : (fit : Fit) → o ≡ Ok fit → SwaptionFitAssured quote alpha ts fs payments accruals strike t vol fit
    swaption_held fit e =
        let s = fits (Ok fit) tt (sym is ∙ e) in
        let b = s.begun in
        let f = objective_from b.pt b.p_plus b.ps in
        let a = demand3.assured f fit (finished_served (solve_of f) fit s.goes_on) in
        record { begun = b; assured = a; every_search = λ sigma m. let x = a.every sigma m in root_at b sigma x.residual x.there }

    pub swaption_refused_so : (o ≡ Err R.NoBracket) ↔ FitWantsBracket quote alpha ts fs payments accruals strike t vol
    swaption_refused_so = (there, back)
      where
        there : o ≡ Err R.NoBracket → FitWantsBracket quote alpha ts fs payments accruals strike t vol
        there e =
            let s = fits (Err R.NoBracket) tt (sym is ∙ e) in
            let b = s.begun in
            let f = objective_from b.pt b.p_plus b.ps in
            let w = (demand3.no_bracket f).0 (finished_wanting (solve_of f) s.goes_on) in
            record {
              begun = b;
              sigma = w.sigma;
              tried = w.tried;
              unbracketed = unbracketed_there quote alpha payments accruals strike t vol b.pt b.p_plus b.ps w.sigma (want_there quote alpha payments accruals strike t vol b.pt b.p_plus b.ps w.sigma w.there);
            }

        back : FitWantsBracket quote alpha ts fs payments accruals strike t vol → o ≡ Err R.NoBracket
        back w =
            let b = w.begun in
            let f = objective_from b.pt b.p_plus b.ps in
            let e = bracket_wanted quote alpha payments accruals strike t vol b.pt b.p_plus b.ps w.sigma w.unbracketed in
            let k = (demand3.no_bracket f).1 (record { sigma = w.sigma; tried = w.tried; there = e }) in
            is ∙ fit_begins b ∙ ap (λ (x : Outcome Fit). following x finishing_fit) k
