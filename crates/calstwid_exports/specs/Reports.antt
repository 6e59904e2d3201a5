-- What a program in another language is told of an outcome. Document 01: "A refused call returns the first number below that applies, with value +0, every other result field 0 and any returned part empty." The zeros are those that each call has beside a refusal.
use Rattle.std.specs.Prelude.{◌≡◌, List, [], ℕ, length, Float, Ok, Err}
use Rattle.refusals.specs.Refusals.{Outcome, answer_number, answer_of, number_of, value_or, Answer}
use Rattle.draws.specs.Draws.{reaching}
use Rattle.search.specs.declared.Root.{Root}
use Rattle.search.specs.Values.{no_root}
use Rattle.pricer_critical_rate.specs.declared.implicit.ImplicitRate.{ImplicitRate}
use Rattle.pricer_critical_rate.specs.Implicit.{no_implicit_rate}
use Rattle.hullwhite_jamshidian.specs.declared.price.Swaption.{Swaption}
use Rattle.hullwhite_jamshidian.specs.Price.{no_swaption}
use Rattle.pricer_value.specs.declared.value.Valuation.{Valuation}
use Rattle.pricer_value.specs.Value.{no_valuation}
use Rattle.quotes.specs.declared.utils.D1D2.{D1D2}
use Rattle.quotes.specs.Utils.{no_d1_d2}
use Rattle.math_bisection.specs.declared.result.Fit.{Fit}
use Rattle.math_bisection.specs.Result.{no_fit}
use Rattle.basket.specs.declared.call.Basket.{Basket}
use Rattle.basket.specs.Basket.{no_basket}
use Rattle.calstwid_exports.specs.declared.reports.D1D2Report.{D1D2Report}
use Rattle.calstwid_exports.specs.declared.reports.CountReport.{CountReport}
use Rattle.calstwid_exports.specs.declared.reports.DrawsReport.{DrawsReport}
use Rattle.calstwid_exports.specs.declared.reports.CriticalRateReport.{CriticalRateReport}
use Rattle.calstwid_exports.specs.declared.reports.ImplicitRateReport.{ImplicitRateReport}
use Rattle.calstwid_exports.specs.declared.reports.SwaptionReport.{SwaptionReport}
use Rattle.calstwid_exports.specs.declared.reports.ValuationReport.{ValuationReport}
use Rattle.calstwid_exports.specs.declared.reports.FitReport.{FitReport}
use Rattle.calstwid_exports.specs.declared.reports.BasketReport.{BasketReport}

-- ---- the report of an outcome

abbrev pub d1_d2_report_of : Outcome D1D2 → D1D2Report
d1_d2_report_of o = let v = value_or no_d1_d2 o in record { answer = answer_number (answer_of o); d1 = v.d1; d2 = v.d2 }

-- how many values were written or are handed back: none beside a refusal
abbrev pub count_report_of : {A : Type 0} → Outcome (List A) → CountReport
count_report_of o = record { answer = answer_number (answer_of o); count = length (value_or [] o) }

-- the same of a call that draws, with the state that its draws reach, which is 0 beside a refusal
abbrev pub draws_report_of : Outcome (List Float) → ℕ → DrawsReport
draws_report_of o state = record { answer = answer_number (answer_of o); count = length (value_or [] o); state = value_or 0 (reaching o state) }

-- the rate, the final bracket with its sums, and the two rungs
abbrev pub critical_rate_report_of : Outcome Root → CriticalRateReport
critical_rate_report_of o =
    let v = value_or no_root o in
    let b = v.bracket in
    record { answer = answer_number (answer_of o); rate = v.rate; lower = b.lower; upper = b.upper; lower_sum = b.lower_sum; upper_sum = b.upper_sum; lower_rung = v.low_rung; upper_rung = v.high_rung }

-- the rate after the Newton step, and the same of the one before it
abbrev pub implicit_rate_report_of : Outcome ImplicitRate → ImplicitRateReport
implicit_rate_report_of o =
    let v = value_or no_implicit_rate o in
    let b = v.root.bracket in
    record { answer = answer_number (answer_of o); stepped = v.after_step; rate = v.root.rate; lower = b.lower; upper = b.upper; lower_sum = b.lower_sum; upper_sum = b.upper_sum; lower_rung = v.root.low_rung; upper_rung = v.root.high_rung }

-- kind 5
abbrev pub swaption_report_of : Outcome Swaption → SwaptionReport
swaption_report_of o =
    let v = value_or no_swaption o in
    let b = v.root.bracket in
    record { answer = answer_number (answer_of o); value = v.value; rate = v.root.rate; lower = b.lower; upper = b.upper; lower_sum = b.lower_sum; upper_sum = b.upper_sum; lower_rung = v.root.low_rung; upper_rung = v.root.high_rung }

-- kinds 6 and 7
abbrev pub valuation_report_of : Outcome Valuation → ValuationReport
valuation_report_of o =
    let v = value_or no_valuation o in
    let b = v.root.bracket in
    record { answer = answer_number (answer_of o); value = v.value; stepped = v.after_step; rate = v.root.rate; lower = b.lower; upper = b.upper; lower_sum = b.lower_sum; upper_sum = b.upper_sum; lower_rung = v.root.low_rung; upper_rung = v.root.high_rung }

-- kinds 8 to 11. "The status and the number of halvings (200 if unconverged) are returned too .. So are the last two ends with their residuals."
abbrev pub fit_report_of : Outcome Fit → FitReport
fit_report_of o =
    let v = value_or no_fit o in
    let e = v.ends in
    record { answer = answer_number (answer_of o); sigma = v.sigma; residual = v.residual; low = e.low; high = e.high; low_residual = e.low_residual; high_residual = e.high_residual; halvings = v.halvings; converged = v.converged }

-- "its answer carries 64 sigmas by value, their statuses, halvings and residuals, and the bumped-fit diagonal with the statuses of the bumped fits, unused places 0"
abbrev pub basket_report_of : Outcome Basket → BasketReport
basket_report_of o =
    let b = value_or no_basket o in
    record { answer = answer_number (answer_of o); count = b.count; sigmas = b.sigmas; statuses = b.statuses; halvings = b.halvings; residuals = b.residuals; diagonal = b.diagonal; bumped_statuses = b.bumped_statuses }

-- an answer without its values, and how many there are
abbrev pub count_told : Answer → ℕ → CountReport
count_told (Ok _) n = record { answer = 0; count = n }
count_told (Err r) n = record { answer = number_of r; count = 0 }

abbrev pub draws_told : Outcome ℕ → ℕ → DrawsReport
draws_told (Ok state) n = record { answer = 0; count = n; state = state }
draws_told (Err r) n = record { answer = number_of r; count = 0; state = 0 }

-- ---- demand 3 of a report. Each call promises it of its own answer; here there is such an answer, of which r is the report, and of it the fact holds. A report is that of one answer alone (`OneAnswer`), so the fact is of what the report says.
pub record Told {A R : Type 0} (told : A → R) (r : R) (Fact : A → Type 0) : Type 0 where
  pub answer : A
  pub reported : r ≡ told answer
  pub holds : Fact answer
