-- `math_hart::quotient` meets its contract: each step leaves room for the next, and the two numbers at the end are those of the fused steps. Assumes nothing.
use mathlib.Core.Path.{◌∙◌, ap₂}
use Prim.Native.Nat.{ℕ, ◌<◌}
use lib.Dec.{lit<, lit≤}
use lib.Ieee.{Float}
use Rattle.ieee.specs.Rounded.{◌⊗◌, ◌⊘◌}
use Rattle.ieee.specs.Fused.{fused_of}
use Rattle.math_hart.proofs.Coefficients.{literal, num_bits, num_is, den_bits, den_is}
use Rattle.math_hart.proofs.Chain.{After, Coefficient, coefficients, coefficient_opens, ordinary_opens, first, ready, stepped, closes}
use Rattle.math_hart.proofs.quotient.Goals as goal

abbrev ca : ℕ → Float
ca = literal num_bits

Ca : (n : ℕ) → n < 7 → Coefficient (ca n)
Ca = coefficients num_bits tt

abbrev a1 : Float → Float
a1 z = fused_of (ca 0) z (ca 1)

abbrev a2 : Float → Float
a2 z = fused_of (a1 z) z (ca 2)

abbrev a3 : Float → Float
a3 z = fused_of (a2 z) z (ca 3)

abbrev a4 : Float → Float
a4 z = fused_of (a3 z) z (ca 4)

abbrev a5 : Float → Float
a5 z = fused_of (a4 z) z (ca 5)

abbrev a6 : Float → Float
a6 z = fused_of (a5 z) z (ca 6)

abbrev cb : ℕ → Float
cb = literal den_bits

Cb : (n : ℕ) → n < 8 → Coefficient (cb n)
Cb = coefficients den_bits tt

abbrev b1 : Float → Float
b1 z = fused_of (cb 0) z (cb 1)

abbrev b2 : Float → Float
b2 z = fused_of (b1 z) z (cb 2)

abbrev b3 : Float → Float
b3 z = fused_of (b2 z) z (cb 3)

abbrev b4 : Float → Float
b4 z = fused_of (b3 z) z (cb 4)

abbrev b5 : Float → Float
b5 z = fused_of (b4 z) z (cb 5)

abbrev b6 : Float → Float
b6 z = fused_of (b5 z) z (cb 6)

abbrev b7 : Float → Float
b7 z = fused_of (b6 z) z (cb 7)

pub opened-y-requires : goal.opened-y-requires
opened-y-requires c = ordinary_opens c.args.z c.requires

pub opened-a-requires : goal.opened-a-requires
opened-a-requires c = coefficient_opens (ca 0) (Ca 0 (lit< tt))

pub opened-b-requires : goal.opened-b-requires
opened-b-requires c = coefficient_opens (cb 0) (Cb 0 (lit< tt))

after_a0 : (c : goal.After-opened-a) → After 0 c.opened-a.result.sig c.opened-a.result.exp (ca 0)
after_a0 c = first (ca 0) c.opened-a.result.sig c.opened-a.result.exp (Ca 0 (lit< tt)) c.opened-a.ensures

after_b0 : (c : goal.After-opened-b) → After 0 c.opened-b.result.sig c.opened-b.result.exp (cb 0)
after_b0 c = first (cb 0) c.opened-b.result.sig c.opened-b.result.exp (Cb 0 (lit< tt)) c.opened-b.ensures

pub step-b-requires : goal.step-b-requires
step-b-requires c = ready c.args.z c.opened-y.result.sig c.opened-y.result.exp c.requires c.opened-y.ensures 0 c.opened-b.result.sig c.opened-b.result.exp (cb 0) (cb 1) (lit≤ tt) (after_b0 c) (Cb 1 (lit< tt))

after_b1 : (c : goal.After-step-b) → After 1 c.step-b.result.sig c.step-b.result.exp (b1 c.args.z)
after_b1 c = stepped c.args.z c.opened-y.result.sig c.opened-y.result.exp c.requires c.opened-y.ensures 0 c.opened-b.result.sig c.opened-b.result.exp (cb 0) (cb 1) (lit≤ tt) (after_b0 c.before) (Cb 1 (lit< tt)) c.step-b.result.sig c.step-b.result.exp c.step-b.ensures

pub step-a-requires : goal.step-a-requires
step-a-requires c = ready c.args.z c.opened-y.result.sig c.opened-y.result.exp c.requires c.opened-y.ensures 0 c.opened-a.result.sig c.opened-a.result.exp (ca 0) (ca 1) (lit≤ tt) (after_a0 c.before.before) (Ca 1 (lit< tt))

after_a1 : (c : goal.After-step-a) → After 1 c.step-a.result.sig c.step-a.result.exp (a1 c.args.z)
after_a1 c = stepped c.args.z c.opened-y.result.sig c.opened-y.result.exp c.requires c.opened-y.ensures 0 c.opened-a.result.sig c.opened-a.result.exp (ca 0) (ca 1) (lit≤ tt) (after_a0 c.before.before.before) (Ca 1 (lit< tt)) c.step-a.result.sig c.step-a.result.exp c.step-a.ensures

pub step-b-requires-2 : goal.step-b-requires-2
step-b-requires-2 c = ready c.args.z c.opened-y.result.sig c.opened-y.result.exp c.requires c.opened-y.ensures 1 c.step-b.result.sig c.step-b.result.exp (b1 c.args.z) (cb 2) (lit≤ tt) (after_b1 c.before) (Cb 2 (lit< tt))

after_b2 : (c : goal.After-step-b-2) → After 2 c.step-b-2.result.sig c.step-b-2.result.exp (b2 c.args.z)
after_b2 c = stepped c.args.z c.opened-y.result.sig c.opened-y.result.exp c.requires c.opened-y.ensures 1 c.step-b.result.sig c.step-b.result.exp (b1 c.args.z) (cb 2) (lit≤ tt) (after_b1 c.before.before) (Cb 2 (lit< tt)) c.step-b-2.result.sig c.step-b-2.result.exp c.step-b-2.ensures

pub step-a-requires-2 : goal.step-a-requires-2
step-a-requires-2 c = ready c.args.z c.opened-y.result.sig c.opened-y.result.exp c.requires c.opened-y.ensures 1 c.step-a.result.sig c.step-a.result.exp (a1 c.args.z) (ca 2) (lit≤ tt) (after_a1 c.before) (Ca 2 (lit< tt))

after_a2 : (c : goal.After-step-a-2) → After 2 c.step-a-2.result.sig c.step-a-2.result.exp (a2 c.args.z)
after_a2 c = stepped c.args.z c.opened-y.result.sig c.opened-y.result.exp c.requires c.opened-y.ensures 1 c.step-a.result.sig c.step-a.result.exp (a1 c.args.z) (ca 2) (lit≤ tt) (after_a1 c.before.before) (Ca 2 (lit< tt)) c.step-a-2.result.sig c.step-a-2.result.exp c.step-a-2.ensures

pub step-b-requires-3 : goal.step-b-requires-3
step-b-requires-3 c = ready c.args.z c.opened-y.result.sig c.opened-y.result.exp c.requires c.opened-y.ensures 2 c.step-b-2.result.sig c.step-b-2.result.exp (b2 c.args.z) (cb 3) (lit≤ tt) (after_b2 c.before) (Cb 3 (lit< tt))

after_b3 : (c : goal.After-step-b-3) → After 3 c.step-b-3.result.sig c.step-b-3.result.exp (b3 c.args.z)
after_b3 c = stepped c.args.z c.opened-y.result.sig c.opened-y.result.exp c.requires c.opened-y.ensures 2 c.step-b-2.result.sig c.step-b-2.result.exp (b2 c.args.z) (cb 3) (lit≤ tt) (after_b2 c.before.before) (Cb 3 (lit< tt)) c.step-b-3.result.sig c.step-b-3.result.exp c.step-b-3.ensures

pub step-a-requires-3 : goal.step-a-requires-3
step-a-requires-3 c = ready c.args.z c.opened-y.result.sig c.opened-y.result.exp c.requires c.opened-y.ensures 2 c.step-a-2.result.sig c.step-a-2.result.exp (a2 c.args.z) (ca 3) (lit≤ tt) (after_a2 c.before) (Ca 3 (lit< tt))

after_a3 : (c : goal.After-step-a-3) → After 3 c.step-a-3.result.sig c.step-a-3.result.exp (a3 c.args.z)
after_a3 c = stepped c.args.z c.opened-y.result.sig c.opened-y.result.exp c.requires c.opened-y.ensures 2 c.step-a-2.result.sig c.step-a-2.result.exp (a2 c.args.z) (ca 3) (lit≤ tt) (after_a2 c.before.before) (Ca 3 (lit< tt)) c.step-a-3.result.sig c.step-a-3.result.exp c.step-a-3.ensures

pub step-b-requires-4 : goal.step-b-requires-4
step-b-requires-4 c = ready c.args.z c.opened-y.result.sig c.opened-y.result.exp c.requires c.opened-y.ensures 3 c.step-b-3.result.sig c.step-b-3.result.exp (b3 c.args.z) (cb 4) (lit≤ tt) (after_b3 c.before) (Cb 4 (lit< tt))

after_b4 : (c : goal.After-step-b-4) → After 4 c.step-b-4.result.sig c.step-b-4.result.exp (b4 c.args.z)
after_b4 c = stepped c.args.z c.opened-y.result.sig c.opened-y.result.exp c.requires c.opened-y.ensures 3 c.step-b-3.result.sig c.step-b-3.result.exp (b3 c.args.z) (cb 4) (lit≤ tt) (after_b3 c.before.before) (Cb 4 (lit< tt)) c.step-b-4.result.sig c.step-b-4.result.exp c.step-b-4.ensures

pub step-a-requires-4 : goal.step-a-requires-4
step-a-requires-4 c = ready c.args.z c.opened-y.result.sig c.opened-y.result.exp c.requires c.opened-y.ensures 3 c.step-a-3.result.sig c.step-a-3.result.exp (a3 c.args.z) (ca 4) (lit≤ tt) (after_a3 c.before) (Ca 4 (lit< tt))

after_a4 : (c : goal.After-step-a-4) → After 4 c.step-a-4.result.sig c.step-a-4.result.exp (a4 c.args.z)
after_a4 c = stepped c.args.z c.opened-y.result.sig c.opened-y.result.exp c.requires c.opened-y.ensures 3 c.step-a-3.result.sig c.step-a-3.result.exp (a3 c.args.z) (ca 4) (lit≤ tt) (after_a3 c.before.before) (Ca 4 (lit< tt)) c.step-a-4.result.sig c.step-a-4.result.exp c.step-a-4.ensures

pub step-b-requires-5 : goal.step-b-requires-5
step-b-requires-5 c = ready c.args.z c.opened-y.result.sig c.opened-y.result.exp c.requires c.opened-y.ensures 4 c.step-b-4.result.sig c.step-b-4.result.exp (b4 c.args.z) (cb 5) (lit≤ tt) (after_b4 c.before) (Cb 5 (lit< tt))

after_b5 : (c : goal.After-step-b-5) → After 5 c.step-b-5.result.sig c.step-b-5.result.exp (b5 c.args.z)
after_b5 c = stepped c.args.z c.opened-y.result.sig c.opened-y.result.exp c.requires c.opened-y.ensures 4 c.step-b-4.result.sig c.step-b-4.result.exp (b4 c.args.z) (cb 5) (lit≤ tt) (after_b4 c.before.before) (Cb 5 (lit< tt)) c.step-b-5.result.sig c.step-b-5.result.exp c.step-b-5.ensures

pub step-a-requires-5 : goal.step-a-requires-5
step-a-requires-5 c = ready c.args.z c.opened-y.result.sig c.opened-y.result.exp c.requires c.opened-y.ensures 4 c.step-a-4.result.sig c.step-a-4.result.exp (a4 c.args.z) (ca 5) (lit≤ tt) (after_a4 c.before) (Ca 5 (lit< tt))

after_a5 : (c : goal.After-step-a-5) → After 5 c.step-a-5.result.sig c.step-a-5.result.exp (a5 c.args.z)
after_a5 c = stepped c.args.z c.opened-y.result.sig c.opened-y.result.exp c.requires c.opened-y.ensures 4 c.step-a-4.result.sig c.step-a-4.result.exp (a4 c.args.z) (ca 5) (lit≤ tt) (after_a4 c.before.before) (Ca 5 (lit< tt)) c.step-a-5.result.sig c.step-a-5.result.exp c.step-a-5.ensures

pub step-b-requires-6 : goal.step-b-requires-6
step-b-requires-6 c = ready c.args.z c.opened-y.result.sig c.opened-y.result.exp c.requires c.opened-y.ensures 5 c.step-b-5.result.sig c.step-b-5.result.exp (b5 c.args.z) (cb 6) (lit≤ tt) (after_b5 c.before) (Cb 6 (lit< tt))

after_b6 : (c : goal.After-step-b-6) → After 6 c.step-b-6.result.sig c.step-b-6.result.exp (b6 c.args.z)
after_b6 c = stepped c.args.z c.opened-y.result.sig c.opened-y.result.exp c.requires c.opened-y.ensures 5 c.step-b-5.result.sig c.step-b-5.result.exp (b5 c.args.z) (cb 6) (lit≤ tt) (after_b5 c.before.before) (Cb 6 (lit< tt)) c.step-b-6.result.sig c.step-b-6.result.exp c.step-b-6.ensures

pub step-a-requires-6 : goal.step-a-requires-6
step-a-requires-6 c = ready c.args.z c.opened-y.result.sig c.opened-y.result.exp c.requires c.opened-y.ensures 5 c.step-a-5.result.sig c.step-a-5.result.exp (a5 c.args.z) (ca 6) (lit≤ tt) (after_a5 c.before) (Ca 6 (lit< tt))

after_a6 : (c : goal.After-step-a-6) → After 6 c.step-a-6.result.sig c.step-a-6.result.exp (a6 c.args.z)
after_a6 c = stepped c.args.z c.opened-y.result.sig c.opened-y.result.exp c.requires c.opened-y.ensures 5 c.step-a-5.result.sig c.step-a-5.result.exp (a5 c.args.z) (ca 6) (lit≤ tt) (after_a5 c.before.before) (Ca 6 (lit< tt)) c.step-a-6.result.sig c.step-a-6.result.exp c.step-a-6.ensures

pub step-b-requires-7 : goal.step-b-requires-7
step-b-requires-7 c = ready c.args.z c.opened-y.result.sig c.opened-y.result.exp c.requires c.opened-y.ensures 6 c.step-b-6.result.sig c.step-b-6.result.exp (b6 c.args.z) (cb 7) (lit≤ tt) (after_b6 c.before) (Cb 7 (lit< tt))

after_b7 : (c : goal.After-step-b-7) → After 7 c.step-b-7.result.sig c.step-b-7.result.exp (b7 c.args.z)
after_b7 c = stepped c.args.z c.opened-y.result.sig c.opened-y.result.exp c.requires c.opened-y.ensures 6 c.step-b-6.result.sig c.step-b-6.result.exp (b6 c.args.z) (cb 7) (lit≤ tt) (after_b6 c.before.before) (Cb 7 (lit< tt)) c.step-b-7.result.sig c.step-b-7.result.exp c.step-b-7.ensures

pub closed-requires : goal.closed-requires
closed-requires c = closes 6 c.step-a-6.result.sig c.step-a-6.result.exp (a6 c.args.z) (lit≤ tt) (after_a6 c.before)

pub closed-requires-2 : goal.closed-requires-2
closed-requires-2 c = closes 7 c.step-b-7.result.sig c.step-b-7.result.exp (b7 c.args.z) (lit≤ tt) (after_b7 c.before)

pub returns : goal.returns
returns c =
    ap₂ (λ (p q : Float). c.args.e ⊗ p ⊘ q) (c.closed.ensures ∙ (after_a6 c.before.before.before).0 ∙ num_is fused_of c.args.z) (c.closed-2.ensures ∙ (after_b7 c.before.before).0 ∙ den_is fused_of c.args.z)
