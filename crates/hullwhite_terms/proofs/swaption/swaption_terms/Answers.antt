-- `swaption_terms` meets its contract: each factor is found or the call is refused by rule 8, and each list of the terms is the one of specs/. Assumes nothing.
use Rattle.refusals.proofs.Outcomes.{handed_on}
use Rattle.curve.proofs.Outcomes.{at, missing}
use Rattle.hullwhite_terms.specs.Swaption.{terms_of}
use Rattle.hullwhite_terms.proofs.swaption.swaption_terms.Goals as goal

pub returns-in_default : goal.returns-in_default
unfolding terms_of
returns-in_default c = rw (missing _ c.in_default.is c.factor.ensures)

pub returns-in_default-factor : goal.returns-in_default-factor
unfolding terms_of
returns-in_default-factor c =
    rw (at _ c.in-Some.is c.factor.ensures, ← c.day.ensures, missing _ c.in_default-factor.is c.factor-2.ensures)

pub returns-in_err-fetch : goal.returns-in_err-fetch
unfolding terms_of
returns-in_err-fetch c =
    rw (at _ c.in-Some.is c.factor.ensures, ← c.day.ensures, at _ c.in-Some-factor.is c.factor-2.ensures, c.in_err-fetch.ensures, handed_on c.from_residual.ensures.1)

pub returns : goal.returns
unfolding terms_of
returns c =
    rw (at _ c.in-Some.is c.factor.ensures, ← c.day.ensures, at _ c.in-Some-factor.is c.factor-2.ensures, c.in_ok-fetch.ensures, c.forward_of.ensures, c.coefficients.ensures, c.bs.ensures)
