-- `hullwhite_swaptions::model::model_priced` meets its contract: refused as the terms are, or the price on them. Assumes nothing.
use Rattle.std.specs.Prelude.{Ok, Err}
use mathlib.Core.Path.{refl, ◌∙◌}
use Rattle.refusals.proofs.Outcomes.{handed_on}
use Rattle.refusals.proofs.Lending.{work, values_are}
use Rattle.hullwhite_swaptions.proofs.Outcomes.{off_curve, on_curve}
use Rattle.hullwhite_swaptions.proofs.model.model_priced.Goals as goal

pub returns-in_err-p_t : goal.returns-in_err-p_t
returns-in_err-p_t c =
    let s = c.swaption_terms.new in
    handed_on c.from_residual.ensures.1 ∙ off_curve _ _ _ _ _ _ _ _ (Err _) s.c s.b s.p c.in_err-p_t.ensures refl

pub returns : goal.returns
returns c =
    let s = c.swaption_terms in
    let n = c.requires.0 in
    on_curve _ _ _ _ _ _ _ _ (Ok _) s.new.c s.new.b s.new.p c.in_ok-p_t.ensures refl (values_are work _ n s.new.c s.auto.c) (values_are work _ n s.new.b s.auto.b) (values_are work _ n s.new.p s.auto.p) c.model_price_on_terms.ensures
