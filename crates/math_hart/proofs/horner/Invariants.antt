-- `math_hart::horner` meets its contract: what is left of the steps, from a on, is the whole. Assumes nothing.
use Rattle.std.proofs.Common.{◌≡◌, drop}
use Rattle.math_hart.specs.Polynomials.{horner}
use Rattle.math_hart.proofs.horner.Given as goal

abbrev pub invariant-loop-c : goal.invariant-loop-c
invariant-loop-c g l = horner g.S.Step.step_of l.z l.a (drop l.c-index l.rest) ≡ horner g.S.Step.step_of l.z l.first l.rest
