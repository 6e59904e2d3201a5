-- `hullwhite_swaptions::model::finished` meets its contract: a refusal goes on as it is, and else rule 13 asks whether every float of the answer is finite. Assumes nothing.
use Rattle.hullwhite_swaptions.proofs.Outcomes.{finishes, overflows}
use Rattle.hullwhite_swaptions.proofs.model.finished.Goals as goal

pub returns-in_default : goal.returns-in_default
returns-in_default c = rw c.in_default.is

pub returns-then-is_finite : goal.returns-then-is_finite
returns-then-is_finite c = finishes _ _ c.in-Ok.is (rw (← c.is_finite.ensures, ← c.is_finite-2.ensures) c.if-is_finite.true)

pub returns-else-is_finite : goal.returns-else-is_finite
returns-else-is_finite c = overflows _ _ c.in-Ok.is (rw (← c.is_finite.ensures, ← c.is_finite-2.ensures) c.if-is_finite.false)
