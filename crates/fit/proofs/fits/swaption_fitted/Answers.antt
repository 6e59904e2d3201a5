-- `fit::fits::swaption_fitted` meets its contract: refused as the terms are, or the fit on them. Assumes nothing.
use mathlib.Core.Path.{◌∙◌}
use Rattle.refusals.proofs.Lending.{work, values_are}
use Rattle.refusals.proofs.Outcomes.{handed_on}
use Rattle.fit.proofs.Worked.{off_curve, on_curve}
use Rattle.fit.proofs.fits.swaption_fitted.Goals as goal

pub returns-in_err-p_t : goal.returns-in_err-p_t
returns-in_err-p_t c = handed_on c.from_residual.ensures.1 ∙ off_curve _ _ _ _ _ _ _ _ _ _ _ _ _ c.swaption_terms.ensures c.in_err-p_t.was

-- what was written into the lent lists is what the fit is given
pub returns : goal.returns
returns c =
    let s = c.requires.1 in
    let g = c.swaption_terms in
    on_curve _ _ _ _ _ _ _ _ _ _ _ _ _ g.ensures c.in_ok-p_t.was (values_are work _ s g.new.c g.auto.c) (values_are work _ s g.new.b g.auto.b) (values_are work _ s g.new.p g.auto.p) c.swaption_market_price-price.ensures c.terms_fitted.ensures
