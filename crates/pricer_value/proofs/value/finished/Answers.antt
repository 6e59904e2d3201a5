-- `pricer_value::value::finished` meets its contract: rule 13 asks whether every float of the answer is finite. Assumes nothing.
use Rattle.pricer_value.proofs.Pricing.{finishes}
use Rattle.pricer_value.proofs.value.finished.Goals as goal

pub returns-then-finite : goal.returns-then-finite
returns-then-finite c = finishes c.args.valuation c.is_finite.ensures c.is_finite-2.ensures c.is_finite-3.ensures c.if-finite.true

pub returns-else-finite : goal.returns-else-finite
returns-else-finite c = finishes c.args.valuation c.is_finite.ensures c.is_finite-2.ensures c.is_finite-3.ensures c.if-finite.false
