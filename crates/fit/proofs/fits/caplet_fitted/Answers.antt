-- `fit::fits::caplet_fitted` meets its contract: each factor is found or the call is refused by rule 8, and then the volatility is fitted. Assumes nothing.
use Rattle.curve.proofs.Outcomes.{lacking, found_is}
use Rattle.fit.specs.Fits.{caplet_fitted}
use Rattle.fit.proofs.fits.caplet_fitted.Goals as goal

pub returns-in_default : goal.returns-in_default
unfolding caplet_fitted
returns-in_default c = lacking _ _ c.in_default.is c.factor.ensures

pub returns-in_default-factor : goal.returns-in_default-factor
unfolding caplet_fitted
returns-in_default-factor c =
    found_is _ _ c.in-Some.is c.factor.ensures (lacking _ _ c.in_default-factor.is c.factor-2.ensures)

pub returns : goal.returns
unfolding caplet_fitted
returns c =
    found_is _ _ c.in-Some.is c.factor.ensures (found_is _ _ c.in-Some-factor.is c.factor-2.ensures c.caplet_worked.ensures)
