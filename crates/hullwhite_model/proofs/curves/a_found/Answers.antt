-- `hullwhite_model::a_found` meets its contract: each factor is found or one is missing, and then the formula is worked. Assumes nothing.
use Rattle.curve.proofs.Outcomes.{at, missing}
use Rattle.hullwhite_model.proofs.curves.a_found.Goals as goal

pub returns-in_default : goal.returns-in_default
returns-in_default c = λ rest. rw (missing _ c.in_default.is c.factor.ensures)

pub returns-in_default-factor : goal.returns-in_default-factor
returns-in_default-factor c =
    λ rest. rw (at _ c.in-Some.is c.factor.ensures, missing _ c.in_default-factor.is c.factor-2.ensures)

pub returns-in_default-factor-2 : goal.returns-in_default-factor-2
returns-in_default-factor-2 c =
    λ rest. rw (at _ c.in-Some.is c.factor.ensures, at _ c.in-Some-factor.is c.factor-2.ensures, ← c.day.ensures, missing _ c.in_default-factor-2.is c.factor-3.ensures)

pub returns : goal.returns
returns c =
    λ rest. rw (at _ c.in-Some.is c.factor.ensures, at _ c.in-Some-factor.is c.factor-2.ensures, ← c.day.ensures, at _ c.in-Some-factor-2.is c.factor-3.ensures, ← c.forward_of-forward.ensures, ← c.a_of.ensures)
