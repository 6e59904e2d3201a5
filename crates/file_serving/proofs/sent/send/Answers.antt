-- `file_serving::sent::send` meets its contract: the next piece is due. Assumes nothing.
use mathlib.Core.Path.{refl, sym, ap}
use Prim.Native.Nat.{◌+◌}
use native.Mathlib.Omega.{arith}
use Rattle.file_serving.specs.Sending.{file_of}
use Rattle.file_serving.proofs.Sending.{few}
use Rattle.file_serving.proofs.sent.send.Goals as goal

pub overflow_add-due : goal.overflow_add-due
overflow_add-due g c = omega (arith, c.requires.1, few (file_of c.args.sent))

pub overflow_add-after : goal.overflow_add-after
overflow_add-after g c = omega (arith, c.requires.0.2, c.requires.1, few (file_of c.args.sent))

pub returns-clause-next : goal.returns-clause-next
returns-clause-next g c = ((refl, refl), refl, ap (λ n. n + 1) (sym c.requires.0.2))
