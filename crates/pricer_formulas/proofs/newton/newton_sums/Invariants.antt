-- `pricer_formulas::newton_sums` meets its contract. The loop's invariant: the terms left, added to the two sums so far, give the whole sums. Assumes nothing.
use mathlib.Core.Path.{◌≡◌}
use lib.ListN.{drop}
use Rattle.pricer_formulas.specs.Newton.{sums_from, sums_of}
use Rattle.pricer_formulas.proofs.newton.newton_sums.Given as goal

abbrev pub invariant-loop-i : goal.invariant-loop-i
invariant-loop-i l = sums_from l.rate l.total (drop l.i l.c) (drop l.i l.a) (drop l.i l.b) ≡ sums_of l.rate l.c l.a l.b
