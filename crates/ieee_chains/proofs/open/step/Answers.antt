-- `ieee_chains::open::step` meets its contract. The sum at the place of the third operand, and the sum at the product's, by the laws of `proofs/Opening.antt`. Assumes nothing.
use mathlib.Core.Path.{◌≡◌, ap, ap₂, ◌∙◌}
use Prim.Native.Nat.{ℕ, ◌+◌, ◌-◌, ◌/◌, ◌^◌, ◌≤◌, ◌<◌, max}
use native.Mathlib.Nat.{le_trans}
use native.Mathlib.Omega.{arith}
use lib.Dec.{lit≤}
use mir.Syntax.{w64}
use mir.Val.{Fits}
use Rattle.ieee_words.specs.Words.{jammed}
use Rattle.ieee.specs.Fused.{fused_of}
use Rattle.ieee_chains.specs.Open.{value_of, field, Digits}
use Rattle.ieee_chains.proofs.Opening.{Operands, near_bounds, near_step, far_step}
use Rattle.ieee_chains.proofs.open.step.Goals as goal

-- the operands as the step has them: the third one is opened, (k, l)
operands : {q i y j k l f : ℕ} → Digits q → Digits y → i ≤ 2000 → j ≤ 2000 → Digits k → l + 1 ≡ f → f ≤ 2000 → Operands q i y j k l
operands {l = l} {f = f} a b p r d e h = record {
  first = a;
  second = b;
  third = d;
  first_place = p;
  second_place = r;
  third_place = go l f e h;
}
  where
    go : (l f : ℕ) → l + 1 ≡ f → f ≤ 2000 → l ≤ 2000
    go l f e h = omega arith

pub overflow_add-s : goal.overflow_add-s
overflow_add-s c =
    let o = c.opened-o in
    let r = c.requires in
    let w = c.jam_below-w in
    let b = near_bounds c.args.q c.args.i c.args.y c.args.j o.result.sig o.result.exp (operands r.0 r.1 r.2 r.3 o.ensures.1 o.ensures.2 r.6) c.if-p-l.true w.result.left w.result.sticky (w.ensures ∙ ap (λ (x : ℕ). jammed x (64 + (o.result.exp + 1027 - (c.args.i + c.args.j)))) c.product-v.ensures) in
    go b.1
  where
    go : {n : ℕ} → n < 2 ^ 62 → Fits w64 n
    go {n} h = omega arith

pub invariant_of-s : goal.invariant_of-s
invariant_of-s c =
    let o = c.opened-o in
    let r = c.requires in
    let w = c.jam_below-w in
    let b = near_bounds c.args.q c.args.i c.args.y c.args.j o.result.sig o.result.exp (operands r.0 r.1 r.2 r.3 o.ensures.1 o.ensures.2 r.6) c.if-p-l.true w.result.left w.result.sticky (w.ensures ∙ ap (λ (x : ℕ). jammed x (64 + (o.result.exp + 1027 - (c.args.i + c.args.j)))) c.product-v.ensures) in
    record { over = le_trans (lit≤ tt) b.0; under = b.1; digit = omega (arith, w.result.digit) }

pub returns-then-p-l : goal.returns-then-p-l
returns-then-p-l c =
    let o = c.opened-o in
    let r = c.requires in
    let w = c.jam_below-w in
    let g = c.rounded.ensures in (
      g.0 ∙ near_step c.args.q c.args.i c.args.y c.args.j o.result.sig o.result.exp (operands r.0 r.1 r.2 r.3 o.ensures.1 o.ensures.2 r.6) c.if-p-l.true w.result.left w.result.sticky (w.ensures ∙ ap (λ (x : ℕ). jammed x (64 + (o.result.exp + 1027 - (c.args.i + c.args.j)))) c.product-v.ensures)
          ∙ ap (fused_of (value_of c.args.q c.args.i) (value_of c.args.y c.args.j)) o.ensures.0,
      g.1,
      low o.result.exp c.rounded.result.exp (field c.args.c) o.ensures.2 g.2,
      high o.result.exp c.rounded.result.exp (field c.args.c) (c.args.i + c.args.j - 1020) o.ensures.2 g.3,
    )
  where
    low : (l x f : ℕ) → l + 1 ≡ f → l + 8 ≤ x + 8 → f ≤ x + 1
    low l x f e h = omega arith

    high : (l x f t : ℕ) → l + 1 ≡ f → x + 1 ≤ l + 8 → x ≤ max (f + 6) t
    high l x f t e h = omega arith

pub returns-else-p-l : goal.returns-else-p-l
returns-else-p-l c =
    let o = c.opened-o in
    let r = c.requires in
    let w = c.jam_below-t in
    let g = c.rounded-else-p-l.ensures in (
      g.0 ∙ far_step c.args.q c.args.i c.args.y c.args.j o.result.sig o.result.exp (operands r.0 r.1 r.2 r.3 o.ensures.1 o.ensures.2 r.6) c.if-p-l.false (close o.result.exp c.args.i c.args.j (field c.args.c) o.ensures.2 r.8) w.result.left w.result.sticky (w.ensures ∙ ap₂ (λ (x y : ℕ). jammed (x + y / 2 ^ (c.args.i + c.args.j - (o.result.exp + 1027))) 64) c.product-v.ensures c.above.ensures) w.result.digit
          ∙ ap (fused_of (value_of c.args.q c.args.i) (value_of c.args.y c.args.j)) o.ensures.0,
      g.1,
      low c.args.i c.args.j o.result.exp c.rounded-else-p-l.result.exp (field c.args.c) o.ensures.2 c.if-p-l.false g.2,
      high (c.args.i + c.args.j) c.rounded-else-p-l.result.exp (field c.args.c) g.3,
    )
  where
    close : (l i j f : ℕ) → l + 1 ≡ f → i + j < f + 1090 → i + j < l + 1091
    close l i j f e h = omega arith

    low : (i j l x f : ℕ) → l + 1 ≡ f → l + 1027 < i + j → i + j - 1019 ≤ x + 8 → f ≤ x + 1
    low i j l x f e h k = omega arith

    high : (p x f : ℕ) → x + 1 ≤ p - 1019 → x ≤ max (f + 6) (p - 1020)
    high p x f h = omega arith
