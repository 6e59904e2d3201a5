-- `ieee_chains::rounding::Sum::rounded` meets its contract. The shift to the left drops nothing and leaves room for the sticky digit, and of 63 digits ten are dropped. Assumes nothing.
use mathlib.Core.Path.{refl}
use Prim.Native.Nat.{ℕ, ◌+◌, ◌/◌, ◌%◌, ◌^◌, ◌≤◌, ◌<◌}
use native.Mathlib.Omega.{arith}
use lib.Dec.{lit≤}
use mir.Syntax.{w64}
use mir.Val.{Fits}
use Rattle.ieee_chains.proofs.Opening.{zeros_some, up_range, settled_under, settled_digits}
use Rattle.ieee_chains.proofs.rounding.Sum.rounded.Goals as goal

pub overflow_sub-up : goal.overflow_sub-up
overflow_sub-up c = let s = c.args.self in zeros_some s.whole s.sticky 62 s.over s.under s.digit (lit≤ tt)

pub overflow_add-m : goal.overflow_add-m
overflow_add-m c = go (let s = c.args.self in settled_under s.whole s.sticky 62 s.over s.under s.digit (lit≤ tt))
  where
    go : {m : ℕ} → m < 2 ^ 63 → Fits w64 m
    go {m} h = omega arith

pub overflow_add-result : goal.overflow_add-result
overflow_add-result c = go _ (lit≤ tt) (let s = c.args.self in settled_under s.whole s.sticky 62 s.over s.under s.digit (lit≤ tt))
  where
    go : {m : ℕ} (d : ℕ) → d ≤ 1024 → m < 2 ^ 63 → Fits w64 (m + d)
    go {m} d k h = omega arith

pub overflow_add-result-2 : goal.overflow_add-result-2
overflow_add-result-2 c = go _ (lit≤ tt) (let s = c.args.self in settled_under s.whole s.sticky 62 s.over s.under s.digit (lit≤ tt))
  where
    go : {m : ℕ} (d : ℕ) → d ≤ 1024 → m < 2 ^ 63 → Fits w64 (m + d + m / 1024 % 2)
    go {m} d k h = omega arith

pub returns : goal.returns
returns c =
    let s = c.args.self in
    (refl, refl, settled_digits s.whole s.sticky 62 s.over s.under s.digit (lit≤ tt), (up_range s.whole s.sticky 62 s.over s.under s.digit (lit≤ tt)).1)
