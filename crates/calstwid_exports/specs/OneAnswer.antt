-- A report is that of one answer alone: from its number and fields the answer can be made again, so what `Told` says of some answer with this report is said of what the report says.
use Rattle.std.specs.Prelude.{◌≡◌, refl, cond, eqb, Ok, Err}
use Rattle.std.proofs.Common.{sym, ◌∙◌, ap, arith, ne_eqb}
use Rattle.refusals.specs.declared.refusals.Refusal.{Refusal}
use Rattle.refusals.specs.Refusals.{Outcome, number_of}
use Rattle.refusals.proofs.Numbered.{refusal_of, numbered}
use Rattle.basket.specs.declared.call.Basket.{Basket}
use Rattle.calstwid_exports.specs.declared.reports.CriticalRateReport.{CriticalRateReport}
use Rattle.calstwid_exports.specs.declared.reports.ImplicitRateReport.{ImplicitRateReport}
use Rattle.calstwid_exports.specs.declared.reports.SwaptionReport.{SwaptionReport}
use Rattle.calstwid_exports.specs.declared.reports.ValuationReport.{ValuationReport}
use Rattle.calstwid_exports.specs.declared.reports.FitReport.{FitReport}
use Rattle.calstwid_exports.specs.declared.reports.BasketReport.{BasketReport}
use Rattle.calstwid_exports.specs.Reports.{critical_rate_report_of, implicit_rate_report_of, swaption_report_of, valuation_report_of, fit_report_of, basket_report_of}
use Rattle.search.specs.declared.Root.{Root}
use Rattle.hullwhite_jamshidian.specs.declared.price.Swaption.{Swaption}
use Rattle.pricer_value.specs.declared.value.Valuation.{Valuation}
use Rattle.pricer_critical_rate.specs.declared.implicit.ImplicitRate.{ImplicitRate}
use Rattle.math_bisection.specs.declared.result.Fit.{Fit}

-- ---- a refusal's number is no 0, and the refusal with that number is the refusal
again : {A : Type 0} (served : A) (from : Refusal → A) (r : Refusal) → cond (eqb (number_of r) 0) served (from (refusal_of (number_of r))) ≡ from r
again served from r = rw (ne_eqb (number_of r) 0 (λ e. let a = (numbered r).above in let z : ⊥ = omega (arith, a, e) in z), (numbered r).back)

module _ {A R : Type 0} (told : A → R) (back : R → A) (made : (a : A) → back (told a) ≡ a) where
  one : (a b : A) → told a ≡ told b → a ≡ b
  one a b e = sym (made a) ∙ ap back e ∙ made b

-- ---- report by report
abbrev critical_rate_from : CriticalRateReport → Outcome Root
critical_rate_from r = cond (eqb r.answer 0) (Ok (record { rate = r.rate; bracket = record { lower = r.lower; upper = r.upper; lower_sum = r.lower_sum; upper_sum = r.upper_sum }; low_rung = r.lower_rung; high_rung = r.upper_rung })) (Err (refusal_of r.answer))

critical_rate_made : (a : Outcome Root) → critical_rate_from (critical_rate_report_of a) ≡ a
critical_rate_made (Ok root) = refl
critical_rate_made (Err r) = again _ Err r

pub critical_rate_one : (a b : Outcome Root) → critical_rate_report_of a ≡ critical_rate_report_of b → a ≡ b
critical_rate_one = one critical_rate_report_of critical_rate_from critical_rate_made

abbrev implicit_rate_from : ImplicitRateReport → Outcome ImplicitRate
implicit_rate_from r = cond (eqb r.answer 0) (Ok (record { after_step = r.stepped; root = record { rate = r.rate; bracket = record { lower = r.lower; upper = r.upper; lower_sum = r.lower_sum; upper_sum = r.upper_sum }; low_rung = r.lower_rung; high_rung = r.upper_rung } })) (Err (refusal_of r.answer))

implicit_rate_made : (a : Outcome ImplicitRate) → implicit_rate_from (implicit_rate_report_of a) ≡ a
implicit_rate_made (Ok v) = refl
implicit_rate_made (Err r) = again _ Err r

pub implicit_rate_one : (a b : Outcome ImplicitRate) → implicit_rate_report_of a ≡ implicit_rate_report_of b → a ≡ b
implicit_rate_one = one implicit_rate_report_of implicit_rate_from implicit_rate_made

abbrev swaption_from : SwaptionReport → Outcome Swaption
swaption_from r = cond (eqb r.answer 0) (Ok (record { value = r.value; root = record { rate = r.rate; bracket = record { lower = r.lower; upper = r.upper; lower_sum = r.lower_sum; upper_sum = r.upper_sum }; low_rung = r.lower_rung; high_rung = r.upper_rung } })) (Err (refusal_of r.answer))

swaption_made : (a : Outcome Swaption) → swaption_from (swaption_report_of a) ≡ a
swaption_made (Ok v) = refl
swaption_made (Err r) = again _ Err r

pub swaption_one : (a b : Outcome Swaption) → swaption_report_of a ≡ swaption_report_of b → a ≡ b
swaption_one = one swaption_report_of swaption_from swaption_made

abbrev valuation_from : ValuationReport → Outcome Valuation
valuation_from r = cond (eqb r.answer 0) (Ok (record { value = r.value; after_step = r.stepped; root = record { rate = r.rate; bracket = record { lower = r.lower; upper = r.upper; lower_sum = r.lower_sum; upper_sum = r.upper_sum }; low_rung = r.lower_rung; high_rung = r.upper_rung } })) (Err (refusal_of r.answer))

valuation_made : (a : Outcome Valuation) → valuation_from (valuation_report_of a) ≡ a
valuation_made (Ok v) = refl
valuation_made (Err r) = again _ Err r

pub valuation_one : (a b : Outcome Valuation) → valuation_report_of a ≡ valuation_report_of b → a ≡ b
valuation_one = one valuation_report_of valuation_from valuation_made

abbrev fit_from : FitReport → Outcome Fit
fit_from r = cond (eqb r.answer 0) (Ok (record { sigma = r.sigma; converged = r.converged; halvings = r.halvings; residual = r.residual; ends = record { low = r.low; high = r.high; low_residual = r.low_residual; high_residual = r.high_residual } })) (Err (refusal_of r.answer))

fit_made : (a : Outcome Fit) → fit_from (fit_report_of a) ≡ a
fit_made (Ok fit) = refl
fit_made (Err r) = again _ Err r

pub fit_one : (a b : Outcome Fit) → fit_report_of a ≡ fit_report_of b → a ≡ b
fit_one = one fit_report_of fit_from fit_made

abbrev basket_from : BasketReport → Outcome Basket
basket_from r = cond (eqb r.answer 0) (Ok (record { count = r.count; sigmas = r.sigmas; statuses = r.statuses; halvings = r.halvings; residuals = r.residuals; diagonal = r.diagonal; bumped_statuses = r.bumped_statuses })) (Err (refusal_of r.answer))

basket_made : (a : Outcome Basket) → basket_from (basket_report_of a) ≡ a
basket_made (Ok basket) = refl
basket_made (Err r) = again _ Err r

pub basket_one : (a b : Outcome Basket) → basket_report_of a ≡ basket_report_of b → a ≡ b
basket_one = one basket_report_of basket_from basket_made
