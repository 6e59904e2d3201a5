-- What a job of kinds 5 to 11 is worked to, whole, with all that its call returns; and that what is told of it is told of the job.
use Rattle.std.specs.Prelude.{◌≡◌, refl, Bool, true, false, cond, ltb, eqb}
use Rattle.refusals.specs.Refusals.{Outcome}
use Rattle.hullwhite_jamshidian.specs.Price as Model
use Rattle.hullwhite_swaptions.specs.Model.{model_outcome}
use Rattle.pricer_formulas.specs.declared.bond_option.SwaptionType.TheVariants.{Payer, Receiver}
use Rattle.pricer_value.specs.Value as Pricer
use Rattle.pricer.specs.Pricer.{pricer_outcome}
use Rattle.math_bisection.specs.declared.result.Fit.{Fit}
use Rattle.fit_objective.specs.declared.market.VolatilityType.TheVariants.{Black, Normal}
use Rattle.fit.specs.Fits.{caplet_fit_outcome, swaption_fit_outcome}
use Rattle.file_layout.specs.declared.records.Job.{Job}
use Rattle.file_layout.specs.Request.{Request}
use Rattle.file_jobs.specs.declared.results.JobResult.{JobResult}
use Rattle.file_jobs.specs.declared.results.Worked.{Worked}
use Rattle.file_jobs.specs.declared.results.Worked.TheVariants as W
use Rattle.file_jobs.specs.Results.{result_of_price, result_of_fit, model_value, pricer_value, swaption_result, fit_result, job_result_of}
use Rattle.hullwhite_jamshidian.specs.declared.price.Swaption.{Swaption}
use Rattle.pricer_value.specs.declared.value.Valuation.{Valuation}

-- number, value and note of each sort
unfoldable pub result_from : Worked → JobResult
result_from (W.Swaption o) = result_of_price (model_value o)
result_from (W.Valuation o) = result_of_price (pricer_value o)
result_from (W.Fit o) = result_of_fit o

-- ---- "Kinds": the calls of `job_result_of`, on the same fields
module _ (q : Request) (j : Job) where
  abbrev model : Outcome Swaption
  model = model_outcome q.alpha q.curve_times q.curve_factors q.payments q.accruals j.a j.b j.c

  abbrev payer : Outcome Valuation
  payer = pricer_outcome Payer q.alpha q.pillar_times q.pillar_sigmas q.curve_times q.curve_factors q.payments q.accruals q.owns j.a j.b j.c j.d

  abbrev receiver : Outcome Valuation
  receiver = pricer_outcome Receiver q.alpha q.pillar_times q.pillar_sigmas q.curve_times q.curve_factors q.payments q.accruals q.owns j.a j.b j.c j.d

  abbrev black_caplet : Outcome Fit
  black_caplet = caplet_fit_outcome Black q.alpha q.curve_times q.curve_factors j.a j.b j.c j.d

  abbrev normal_caplet : Outcome Fit
  normal_caplet = caplet_fit_outcome Normal q.alpha q.curve_times q.curve_factors j.a j.b j.c j.d

  abbrev black_swaption : Outcome Fit
  black_swaption = swaption_fit_outcome Black q.alpha q.curve_times q.curve_factors q.payments q.accruals j.a j.b j.c

  abbrev normal_swaption : Outcome Fit
  normal_swaption = swaption_fit_outcome Normal q.alpha q.curve_times q.curve_factors q.payments q.accruals j.a j.b j.c

  unfoldable pub swaption_whole : Worked
  swaption_whole = cond (eqb j.kind 5) (W.Swaption model) (cond (eqb j.kind 6) (W.Valuation payer) (W.Valuation receiver))

  unfoldable pub fit_whole : Worked
  fit_whole = cond (eqb j.kind 8) (W.Fit black_caplet) (cond (eqb j.kind 9) (W.Fit normal_caplet) (cond (eqb j.kind 10) (W.Fit black_swaption) (W.Fit normal_swaption)))

unfoldable pub work_of : Request → Job → Worked
work_of q j = cond (ltb j.kind 8) (swaption_whole q j) (fit_whole q j)

-- ---- what is told of the whole is what is told of the job
swaptions_told : (a b : Bool) (w : Outcome Swaption) (x y : Outcome Valuation) → result_from (cond a (W.Swaption w) (cond b (W.Valuation x) (W.Valuation y))) ≡ cond a (result_of_price (model_value w)) (cond b (result_of_price (pricer_value x)) (result_of_price (pricer_value y)))
unfolding result_from
swaptions_told true b w x y = refl
swaptions_told false true w x y = refl
swaptions_told false false w x y = refl

fits_told : (a b c : Bool) (w x y z : Outcome Fit) → result_from (cond a (W.Fit w) (cond b (W.Fit x) (cond c (W.Fit y) (W.Fit z)))) ≡ cond a (result_of_fit w) (cond b (result_of_fit x) (cond c (result_of_fit y) (result_of_fit z)))
unfolding result_from
fits_told true b c w x y z = refl
fits_told false true c w x y z = refl
fits_told false false true w x y z = refl
fits_told false false false w x y z = refl

sorts_told : (a : Bool) (x y : Worked) (t u : JobResult) → result_from x ≡ t → result_from y ≡ u → result_from (cond a x y) ≡ cond a t u
sorts_told true x y t u e f = e
sorts_told false x y t u e f = f

module _ (q : Request) (j : Job) where
  swaption_is : result_from (swaption_whole q j) ≡ swaption_result q j
  unfolding swaption_whole swaption_result
  swaption_is = swaptions_told (eqb j.kind 5) (eqb j.kind 6) (model q j) (payer q j) (receiver q j)

  fit_is : result_from (fit_whole q j) ≡ fit_result q j
  unfolding fit_whole fit_result
  fit_is = fits_told (eqb j.kind 8) (eqb j.kind 9) (eqb j.kind 10) (black_caplet q j) (normal_caplet q j) (black_swaption q j) (normal_swaption q j)

  pub result_is : ltb j.kind 5 ≡ false → result_from (work_of q j) ≡ job_result_of q j
  unfolding work_of job_result_of
  result_is e = rw e (sorts_told (ltb j.kind 8) (swaption_whole q j) (fit_whole q j) (swaption_result q j) (fit_result q j) swaption_is fit_is)
