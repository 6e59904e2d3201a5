-- A curve that a call's rules let through has times that strictly rise: rule 4 did not apply. Assumes nothing.
use Rattle.std.specs.Prelude.{Ok}
use mathlib.Core.Path.{◌≡◌, sym, ap, ◌∙◌}
use mathlib.Core.Bool.{true, false}
use mathlib.Core.List.{List}
use lib.Ieee.{Float}
use Rattle.refusals.specs.declared.curves.Faults.{Faults}
use Rattle.refusals.specs.declared.refusals.Rule.{Rule}
use Rattle.refusals.specs.Refusals.{first_of, Answer}
use Rattle.refusals.specs.Order.{NoneApplies, none_applies}
use Rattle.refusals.specs.Checks.{in_order}
use Rattle.refusals.specs.Faults.{curve_faults}
use Rattle.refusals.proofs.CurveLaws.{curve_rises}

-- `fourth` takes the line of rule 4 among those that did not apply
pub rises : (curve : Faults) (ts fs : List Float) (answer : Answer) (rules : List Rule) → curve ≡ curve_faults ts fs → answer ≡ Ok tt → answer ≡ first_of rules
    → (NoneApplies rules → curve.order ≡ false) → in_order true ts ≡ true
rises curve ts fs answer rules faults served first fourth =
    curve_rises ts fs (sym (ap (λ (k : Faults). k.order) faults) ∙ fourth ((none_applies rules).0 (sym first ∙ served)))
