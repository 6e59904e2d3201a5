-- `ieee_chains::open::rounded` meets its contract: by what `Sum::rounded` gives, at its place. Assumes nothing.
use Prim.Native.Nat.{ℕ, ◌+◌, ◌-◌, ◌≤◌}
use native.Mathlib.Omega.{arith}
use Rattle.ieee_chains.specs.Rounding.{up_of}
use Rattle.ieee_chains.proofs.Opening.{up_range, up_most, settled_digits, settled}
use Rattle.ieee_chains.proofs.open.rounded.Goals as goal

pub returns : goal.returns
returns c =
    let s = c.args.s in
    let p = c.args.place in
    let b = bounds (up_of s.whole) p (up_range s.whole s.sticky p s.over s.under s.digit c.requires.1).0 (up_most s.whole s.sticky p s.over s.under s.digit c.requires.1 c.requires.0) c.requires.1 in
    rw (c.rounded-k.ensures.0, c.rounded-k.ensures.1) (settled s.whole s.sticky p s.over s.under s.digit c.requires.1, settled_digits s.whole s.sticky p s.over s.under s.digit c.requires.1, b.0, b.1)
  where
    bounds : (u p : ℕ) → 1 ≤ u → u ≤ 8 → 62 ≤ p → (p ≤ p - u + 8) × (p - u + 1 ≤ p)
    bounds u p a b c = (omega arith, omega arith)
