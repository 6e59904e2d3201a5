-- What transition variances that their rules let through know: the steps fit the working list and the output; and what the writing of a worked list comes to. Assumes nothing.
use Rattle.std.specs.Prelude.{Ok}
use mathlib.Core.Path.{◌≡◌, sym, ◌∙◌}
use mathlib.Core.Bool.{Bool, ◌||◌}
use Prim.Native.Nat.{ℕ, ◌≤◌}
use borrow.Author.Tests.{ltb-false}
use lib.Dec.{ltb}
use lib.Ieee.{Float}
use Rattle.refusals.specs.declared.curves.Faults.{Faults}
use Rattle.refusals.specs.Refusals.{first_of, Answer}
use Rattle.refusals.specs.Order.{none_applies}
use Rattle.refusals.proofs.Outcomes.{neither}
use Rattle.hullwhite_transitions.specs.Transition.{transition_rules}

-- ---- rule 1 did not apply
pub steps_fit : (pillars : Faults) (empty : Bool) (alpha : Float) (steps room : ℕ) (time_step : Float) {answer : Answer}
    → answer ≡ Ok tt → answer ≡ first_of (transition_rules pillars empty alpha steps room time_step) → (steps ≤ 1024) × (steps ≤ room)
steps_fit pillars empty alpha steps room time_step e h =
    let none = (none_applies (transition_rules pillars empty alpha steps room time_step)).0 (sym h ∙ e) in
    let two = neither (pillars.size || ltb 1024 steps) (ltb room steps) none.0 in
    let one = neither pillars.size (ltb 1024 steps) two.0 in
    (ltb-false 1024 steps one.1, ltb-false room steps two.1)
