-- `ieee::sum::terms_of` meets its contract. By whether all three operands are ordinary. Assumes nothing.
use Prim.Native.Nat.{◌+◌, ◌*◌, ◌^◌}
use native.Mathlib.Omega.{arith}
use Rattle.ieee_significands.proofs.Unpacking.{unpacked, fields_sign}
use Rattle.ieee.proofs.Summing.{times_full, placed_pos}
use Rattle.ieee.proofs.Fusing.{terms_are}
use Rattle.ieee.proofs.sum.terms_of.Goals as goal

pub returns-then-h-gt0 : goal.returns-then-h-gt0
returns-then-h-gt0 c =
    let x = c.ordinary-x in
    let y = c.ordinary-y in
    let z = c.ordinary-z in
    let f = c.read-f in
    let g = c.read-g in
    let h = c.read-h in
    let s = c.args in
    rw (c.product.ensures, c.above.ensures, ← x.ensures.0, ← y.ensures.0, ← z.ensures.0)
    (terms_are s.a s.b s.c x.result.sign y.result.sign z.result.sign x.result.sig x.result.exp y.result.sig y.result.exp z.result.sig z.result.exp
    (x.result.sig * y.result.sig) (x.result.exp + y.result.exp + 1) (z.result.sig * 2 ^ 64) (z.result.exp + 1075)
    (unpacked s.a f.result.sign x.result.sign ((f.result.digits + 2 ^ 52) * 2 ^ (f.result.exp + 63)) x.result.sig x.result.exp (f.ensures.high c.if-f-gt0.true) x.ensures.0 x.ensures.1 x.result.normal)
    (unpacked s.b g.result.sign y.result.sign ((g.result.digits + 2 ^ 52) * 2 ^ (g.result.exp + 63)) y.result.sig y.result.exp (g.ensures.high c.if-g-gt0.true) y.ensures.0 y.ensures.1 y.result.normal)
    (unpacked s.c h.result.sign z.result.sign ((h.result.digits + 2 ^ 52) * 2 ^ (h.result.exp + 63)) z.result.sig z.result.exp (h.ensures.high c.if-h-gt0.true) z.ensures.0 z.ensures.1 z.result.normal)
    (times_full x.result.sig x.result.exp y.result.sig y.result.exp x.result.normal y.result.normal x.ensures.2 y.ensures.2)
    (placed_pos z.result.sig z.result.exp z.result.normal (λ e. omega (arith, z.ensures.2))))

pub returns-else-f-gt0 : goal.returns-else-f-gt0
returns-else-f-gt0 c =
    let x = c.unpack in
    let y = c.unpack-else-f-gt0 in
    let z = c.unpack-else-f-gt0-2 in
    let p = c.times in
    let q = c.placed in
    let f = fields_sign c.args.a c.read-f.result.sign x.result.sign c.read-f.result.exp c.read-f.result.digits x.result.sig x.result.exp c.read-f.ensures x.ensures in
    let g = fields_sign c.args.b c.read-g.result.sign y.result.sign c.read-g.result.exp c.read-g.result.digits y.result.sig y.result.exp c.read-g.ensures y.ensures in
    let h = fields_sign c.args.c c.read-h.result.sign z.result.sign c.read-h.result.exp c.read-h.result.digits z.result.sig z.result.exp c.read-h.ensures z.ensures in
    rw (p.ensures.sign, q.ensures.sign, f, g, h)
    (terms_are c.args.a c.args.b c.args.c x.result.sign y.result.sign z.result.sign x.result.sig x.result.exp y.result.sig y.result.exp z.result.sig z.result.exp
    p.result.v p.result.exp q.result.v q.result.exp x.ensures y.ensures z.ensures p.ensures.value q.ensures.value)
