-- `hullwhite_transitions::transition::variances` meets its contract. The loop's invariant: the variances worked, and behind them those of the steps from i on, are the variances of all. Assumes nothing.
use Rattle.std.proofs.Common.{◌≡◌, ◌++◌, ◌-◌, length, take}
use Rattle.hullwhite_transitions.specs.Transition.{variances_of}
use Rattle.hullwhite_transitions.proofs.transition.variances.Given as goal

abbrev pub invariant-loop-i : goal.invariant-loop-i
invariant-loop-i l =
    let all = variances_of l.alpha l.times l.sigmas l.time_step in
    take l.i l.out ++ all l.i (length l.initial.out - l.i) ≡ all 0 (length l.initial.out)
