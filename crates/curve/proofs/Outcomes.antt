-- A lookup that the code took apart is what its definition says.
use Rattle.std.specs.Prelude.{Option, Some, None, Err}
use mathlib.Core.Path.{◌≡◌, refl}
use lib.Ieee.{Float}
use Rattle.refusals.specs.declared.refusals.Refusal.{Refusal}
use Rattle.refusals.specs.Refusals.{Outcome}
use Rattle.curve.specs.Lookups.{required}

pub at : (found : Option Float) {m : Option Float} {p : Float} → found ≡ Some p → found ≡ m → m ≡ Some p
at found e h = rw (← h, e) refl

pub missing : (found : Option Float) {m : Option Float} → found ≡ None → found ≡ m → m ≡ None
missing found e h = rw (← h, e) refl

-- ---- what a call takes apart where it may be turned down: it is refused by r, or the rest of it follows
pub lacking : {A : Type 0} {found m : Option Float} (r : Refusal) (rest : Float → Outcome A) → found ≡ None → found ≡ m → Err r ≡ required r m rest
lacking r rest e h = rw (← h, e) refl

pub found_is : {A : Type 0} {found m : Option Float} {p : Float} {o : Outcome A} (r : Refusal) (rest : Float → Outcome A) → found ≡ Some p → found ≡ m → o ≡ rest p → o ≡ required r m rest
found_is r rest e h k = rw (← h, e) k
