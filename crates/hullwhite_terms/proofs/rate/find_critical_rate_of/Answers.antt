-- `hullwhite_terms::rate::find_critical_rate_of` meets its contract: the weights are coefficient × A, and over them the search's sum is the priced coupon sum. Assumes nothing.
use mathlib.Core.Path.{◌∙◌}
use Rattle.search.proofs.Answers.{priced}
use Rattle.refusals.proofs.Lending.{work, values_are}
use Rattle.hullwhite_terms.proofs.rate.find_critical_rate_of.Goals as goal

pub returns : goal.returns
returns c =
    priced _ _ _ _ _ (values_are work _ c.requires.0 c.weights.new.out c.weights.auto.out ∙ c.weights.ensures) c.critical_rate_of_weights.ensures
