-- `hullwhite_jamshidian::price::price_at` meets its contract: A is that of specs/, and the search on the terms ends in a refusal or in a rate that the puts are priced at. Assumes nothing.
use mathlib.Core.Path.{◌∙◌}
use borrow.Author.Rules.{rules}
use Rattle.std.specs.Prelude.{Ok}
use Rattle.refusals.proofs.Lending.{work, values_are}
use Rattle.hullwhite_jamshidian.proofs.Pricing.{price_is, price_by}
use Rattle.hullwhite_jamshidian.proofs.price.price_at.Goals as goal

pub returns-in-Err-NotANumber : goal.returns-in-Err-NotANumber
returns-in-Err-NotANumber c =
    price_by _ _ _ _ _ _ c.half_variance_of-half_variance.ensures (values_are work _ c.requires.0 c.a_list_at.new.out c.a_list_at.auto.out ∙ c.a_list_at.ensures) _ c.find_critical_rate_of-found.ensures (search rules)

pub returns-in_default-found : goal.returns-in_default-found
returns-in_default-found c =
    price_by _ _ _ _ _ _ c.half_variance_of-half_variance.ensures (values_are work _ c.requires.0 c.a_list_at.new.out c.a_list_at.auto.out ∙ c.a_list_at.ensures) _ c.find_critical_rate_of-found.ensures (search rules)

pub returns : goal.returns
returns c =
    rw c.puts-value.ensures (price_is _ _ _ _ _ _ c.half_variance_of-half_variance.ensures (values_are work _ c.requires.0 c.a_list_at.new.out c.a_list_at.auto.out ∙ c.a_list_at.ensures) (Ok _) c.in-Ok.ensures)
