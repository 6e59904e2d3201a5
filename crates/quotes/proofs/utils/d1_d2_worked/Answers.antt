-- `quotes::d1_d2_worked` meets its contract: rule 13 asks whether both values are finite. Assumes nothing.
use Rattle.quotes.specs.Utils.{d1d2_worked}
use Rattle.quotes.proofs.utils.d1_d2_worked.Goals as goal

pub returns-then-is_finite : goal.returns-then-is_finite
unfolding d1d2_worked
returns-then-is_finite c =
    rw (← c.quote_d1_of-d1.ensures, ← c.quote_d2_of-d2.ensures, ← c.is_finite.ensures, ← c.is_finite-2.ensures, c.if-is_finite.true)

pub returns-else-is_finite : goal.returns-else-is_finite
unfolding d1d2_worked
returns-else-is_finite c =
    rw (← c.quote_d1_of-d1.ensures, ← c.quote_d2_of-d2.ensures, ← c.is_finite.ensures, ← c.is_finite-2.ensures, c.if-is_finite.false)
