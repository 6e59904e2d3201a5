-- What is told of all that a job's call returned: of a swaption and of a valuation the value alone, and of a fit what a fit tells.
use Rattle.std.proofs.Common.{◌∙◌, ap}
use Rattle.file_jobs.specs.Results.{result_of_price}
use Rattle.file_jobs.specs.Worked.{result_from}
use Rattle.file_jobs.proofs.results.JobResultFromWorked.from.Goals as goal

pub returns-in-Swaption : goal.returns-in-Swaption
unfolding result_from
returns-in-Swaption c = rw c.in-Swaption.is (c.into.ensures ∙ ap result_of_price c.model_value.ensures)

pub returns-in-Valuation : goal.returns-in-Valuation
unfolding result_from
returns-in-Valuation c = rw c.in-Valuation.is (c.into-in-Valuation.ensures ∙ ap result_of_price c.pricer_value.ensures)

pub returns-in-Fit : goal.returns-in-Fit
unfolding result_from
returns-in-Fit c = rw c.in-Fit.is c.into-in-Fit.ensures
