-- `ieee_chains::open::opened` meets its contract. The fields of the pattern, with the leading digit put before the others. Assumes nothing.
use mathlib.Core.Path.{◌≡◌, sym, subst}
use Prim.Native.Nat.{ℕ, ◌+◌, ◌-◌, ◌≤◌}
use native.Mathlib.Omega.{arith}
use lib.Dec.{T}
use lib.Ieee.{binary64, to_bits}
use Rattle.ieee_chains.specs.Open.{field}
use Rattle.ieee_chains.proofs.Opening.{open_is, open_digits}
use Rattle.ieee_chains.proofs.open.opened.Goals as goal

-- what owning an `f64` tells is that the format holds it
pub returns : goal.returns
returns c =
    let x = c.args.x in
    (open_is x (subst T (sym c.well_formed.0.1) tt) c.requires.1 c.requires.2, open_digits (to_bits binary64 x), back (field x) c.requires.1)
  where
    back : (f : ℕ) → 1 ≤ f → f - 1 + 1 ≡ f
    back f h = omega arith
