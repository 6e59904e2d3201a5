-- `fit_solver::bisect::halvings` meets its contract. The loop's invariant: the halvings left, from the ends so far, give what all 200 give from the start. Assumes nothing.
use mathlib.Core.Path.{◌≡◌}
use Prim.Native.Nat.{◌-◌}
use Rattle.math_bisection.specs.Solve.{halvings_from}
use Rattle.fit_objective.specs.Asked.{objective_at}
use Rattle.fit_solver.proofs.bisect.halvings.Given as goal

abbrev pub invariant-loop-made : goal.invariant-loop-made
invariant-loop-made l =
    let f = objective_at l.objective in
    halvings_from f (200 - l.made) l.made l.ends ≡ halvings_from f 200 0 l.initial.ends
