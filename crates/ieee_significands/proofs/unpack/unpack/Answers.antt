-- `ieee_significands::unpack::unpack` meets its contract. By whether the exponent's field is 0, and the digits are. Assumes nothing.
use mathlib.Core.Path.{refl, sym, ap, ◌∙◌}
use Prim.Native.Nat.{ℕ, ◌+◌, ◌*◌, ◌^◌}
use native.Mathlib.Nat.{zero-mul}
use native.Mathlib.Omega.{arith}
use Rattle.ieee_significands.proofs.Unpacking.{normal_zero, unpacked}
use Rattle.ieee_significands.proofs.unpack.unpack.Goals as goal

pub returns-then-f-gt0 : goal.returns-then-f-gt0
returns-then-f-gt0 c =
    let f = c.read-f in
    let r = c.ordinary in
    unpacked c.args.x f.result.sign r.result.sign ((f.result.digits + 2 ^ 52) * 2 ^ (f.result.exp + 63)) r.result.sig r.result.exp
    (f.ensures.high c.if-f-gt0.true) r.ensures.0 r.ensures.1 r.result.normal

pub returns-then-f-eq0 : goal.returns-then-f-eq0
returns-then-f-eq0 c =
    let f = c.read-f in
    unpacked c.args.x f.result.sign f.result.sign (f.result.digits * 2 ^ 64) 0 0
    (f.ensures.low (omega (arith, c.if-f-gt0.false))) refl (sym (ap (λ (n : ℕ). n * 2 ^ 64) c.if-f-eq0.true ∙ zero-mul (2 ^ 64))) normal_zero

pub returns : goal.returns
returns c =
    let f = c.read-f in
    let r = c.normal in
    unpacked c.args.x f.result.sign r.result.sign (f.result.digits * 2 ^ 64) r.result.sig r.result.exp
    (f.ensures.low (omega (arith, c.if-f-gt0.false))) r.ensures.0 r.ensures.1 r.result.normal
