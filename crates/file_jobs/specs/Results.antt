-- What is told of a job of kinds 1 to 11: document 01's number, a value, and a note.
use Rattle.std.specs.Prelude.{ℕ, cond, List, ltb, eqb, Float, Ok, Err}
use Rattle.ieee.specs.Numbers.{zero}
use Rattle.refusals.specs.Refusals.{Outcome, number_of, answer_of, answer_number, value_or, following}
use Rattle.hullwhite_options.specs.declared.options.OptionType.TheVariants.{Put, Call}
use Rattle.hullwhite_options.specs.Options.{optionlet_outcome, bond_option_outcome}
use Rattle.hullwhite_jamshidian.specs.Price as Model
use Rattle.hullwhite_swaptions.specs.Model.{model_outcome}
use Rattle.pricer_formulas.specs.declared.bond_option.SwaptionType.TheVariants.{Payer, Receiver}
use Rattle.pricer_value.specs.Value as Pricer
use Rattle.pricer.specs.Pricer.{pricer_outcome}
use Rattle.math_bisection.specs.declared.result.Fit.{Fit}
use Rattle.fit_objective.specs.declared.market.VolatilityType.TheVariants.{Black, Normal}
use Rattle.fit.specs.Fits.{caplet_fit_outcome, swaption_fit_outcome}
use Rattle.file_layout.specs.declared.records.Job.{Job}
use Rattle.file_layout.specs.Request.{Request}
use Rattle.file_jobs.specs.declared.results.JobResult.{JobResult}
use Rattle.hullwhite_jamshidian.specs.declared.price.Swaption.{Swaption}
use Rattle.pricer_value.specs.declared.value.Valuation.{Valuation}

-- ---- from an outcome: "with value +0" beside a refusal; "Other notes are 0"

abbrev pub result_of_price : Outcome Float → JobResult
result_of_price o = record { answer = answer_number (answer_of o); value = value_or zero o; note = 0 }

-- "A fit's value is its sigma; its note is the halving that converged, 1 to 200, or 0."
abbrev pub note_of : Fit → ℕ
note_of fit = cond fit.converged fit.halvings 0

abbrev pub result_of_fit : Outcome Fit → JobResult
result_of_fit (Ok fit) = record { answer = 0; value = fit.sigma; note = note_of fit }
result_of_fit (Err r) = record { answer = number_of r; value = zero; note = 0 }

-- a swaption's value without its root
abbrev pub model_value : Outcome Swaption → Outcome Float
model_value o = following o (λ v. Ok v.value)

abbrev pub pricer_value : Outcome Valuation → Outcome Float
pricer_value o = following o (λ v. Ok v.value)

-- ---- the lists of a file as the code has them
abbrev pub request_of_lists : Float → List Float → List Float → List Float → List Float → List Float → List Float → List Float → List Float → List Float → List Job → Request
request_of_lists alpha pillars sigmas times factors payments accruals owns grid draws jobs = record {
  alpha = alpha;
  pillar_times = pillars;
  pillar_sigmas = sigmas;
  curve_times = times;
  curve_factors = factors;
  payments = payments;
  accruals = accruals;
  owns = owns;
  grid_times = grid;
  draws = draws;
  jobs = jobs;
}

-- ---- "Kinds": each on its own fields, in document 01's order. "Unused fields are ignored"
module _ (q : Request) (j : Job) where
  -- "1 caplet, 2 floorlet (strike, start, end, sigma); 3 bond put, 4 bond call (option time, bond time, strike, sigma)"
  unfoldable pub option_result : JobResult
  option_result =
      cond (eqb j.kind 1) (result_of_price (optionlet_outcome Put q.alpha q.curve_times q.curve_factors j.a j.b j.c j.d))
      (cond (eqb j.kind 2) (result_of_price (optionlet_outcome Call q.alpha q.curve_times q.curve_factors j.a j.b j.c j.d))
      (cond (eqb j.kind 3) (result_of_price (bond_option_outcome Put q.alpha q.curve_times q.curve_factors j.a j.b j.c j.d))
      (result_of_price (bond_option_outcome Call q.alpha q.curve_times q.curve_factors j.a j.b j.c j.d))))

  -- "5 model swaption (strike, option time, sigma); 6 payer, 7 receiver by the pricer (strike, option time, notional, side)"
  unfoldable pub swaption_result : JobResult
  swaption_result =
      cond (eqb j.kind 5) (result_of_price (model_value (model_outcome q.alpha q.curve_times q.curve_factors q.payments q.accruals j.a j.b j.c)))
      (cond (eqb j.kind 6)
      (result_of_price (pricer_value (pricer_outcome Payer q.alpha q.pillar_times q.pillar_sigmas q.curve_times q.curve_factors q.payments q.accruals q.owns j.a j.b j.c j.d)))
      (result_of_price (pricer_value (pricer_outcome Receiver q.alpha q.pillar_times q.pillar_sigmas q.curve_times q.curve_factors q.payments q.accruals q.owns j.a j.b j.c j.d))))

  -- "8 Black, 9 normal caplet fit (strike, start, end, quoted volatility); 10 Black, 11 normal swaption fit (strike, option time, quoted volatility)"
  unfoldable pub fit_result : JobResult
  fit_result =
      cond (eqb j.kind 8) (result_of_fit (caplet_fit_outcome Black q.alpha q.curve_times q.curve_factors j.a j.b j.c j.d))
      (cond (eqb j.kind 9) (result_of_fit (caplet_fit_outcome Normal q.alpha q.curve_times q.curve_factors j.a j.b j.c j.d))
      (cond (eqb j.kind 10) (result_of_fit (swaption_fit_outcome Black q.alpha q.curve_times q.curve_factors q.payments q.accruals j.a j.b j.c))
      (result_of_fit (swaption_fit_outcome Normal q.alpha q.curve_times q.curve_factors q.payments q.accruals j.a j.b j.c))))

-- a job of kinds 1 to 11
unfoldable pub job_result_of : Request → Job → JobResult
job_result_of q j = cond (ltb j.kind 5) (option_result q j) (cond (ltb j.kind 8) (swaption_result q j) (fit_result q j))
