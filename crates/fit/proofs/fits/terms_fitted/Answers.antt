-- `fit::fits::terms_fitted` meets its contract: the curve's parts are those of specs/, the bisection is that of their objective, and its fit is looked at by rule 13. Assumes nothing.
use mathlib.Core.Path.{◌∙◌}
use Rattle.refusals.proofs.Lending.{work, values_are}
use Rattle.fit.proofs.Worked.{swaption_fit}
use Rattle.fit.proofs.fits.terms_fitted.Goals as goal

-- what was written into the lent list is what the bisection is given
pub returns : goal.returns
returns c =
    swaption_fit _ _ _ _ _ _ _ _ (values_are work _ c.requires.0 c.curve_parts.new.out c.curve_parts.auto.out ∙ c.curve_parts.ensures) c.ahead_of.ensures c.solve-fitted.ensures c.finished.ensures
