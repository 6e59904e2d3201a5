-- `pricer_value::value::terms_priced` meets its contract: A of each term is that of specs/, and the value is that on them. Assumes nothing.
use mathlib.Core.Path.{◌∙◌}
use Rattle.refusals.proofs.Lending.{work, values_are}
use Rattle.pricer_value.proofs.Pricing.{terms_are}
use Rattle.pricer_value.proofs.value.terms_priced.Goals as goal

pub returns : goal.returns
returns c =
    terms_are _ _ _ _ _ _ _ _ _ _ (values_are work _ c.requires.0 c.affine_a_list.new.out c.affine_a_list.auto.out ∙ c.affine_a_list.ensures) c.pricer_deviation-deviation.ensures c.priced_by.ensures
