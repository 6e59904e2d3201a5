-- `ieee::root::positive` meets its contract. The root of the significand, rounded as the root of x. Assumes nothing.
use mathlib.Core.Path.{sym, ap, ◌∙◌}
use mathlib.Core.Bool.{false}
use Prim.Native.Nat.{ℕ, ◌+◌, ◌*◌, ◌/◌, ◌^◌}
use native.Mathlib.Nat.{le_trans, le_of_eq, lt_of_le_of_lt}
use native.Mathlib.Omega.{arith}
use lib.Ieee.{binary64, round}
use lib.Ieee.Positive.{positive-finite}
use Rattle.ieee.proofs.Rooting.{significand, root_of_parts}
use Rattle.ieee.proofs.Roots.{sticky_over, sticky_under, rounded_root}
use Rattle.ieee.proofs.root.positive.Goals as goal

pub unpack-p-requires : goal.unpack-p-requires
unpack-p-requires c = positive-finite c.args.x c.requires

pub radicand-s-requires : goal.radicand-s-requires
radicand-s-requires c =
    let p = c.unpack-p.result in
    (significand c.args.x p.sign p.sig p.exp c.requires c.unpack-p.ensures, c.unpack-p.ensures.normal.under)

pub full-requires : goal.full-requires
full-requires c =
    let r = c.radicand-s.result in
    let e = c.radicand-s.ensures in
    let h = c.unpack-p.result.exp / 2 in (
      le_trans (sticky_over r h e.0 e.1) (le_of_eq (sym c.refined-m.ensures)),
      lt_of_le_of_lt (le_of_eq c.refined-m.ensures) (sticky_under r h e.0 e.1),
      omega arith,
    )

pub returns : goal.returns
returns c =
    let p = c.unpack-p.result in
    let r = c.radicand-s.result in
    let e = c.radicand-s.ensures in
    let h = p.exp / 2 in
    c.full.ensures
    ∙ ap (λ (m : ℕ). round binary64 false (m * 2 ^ (h + 1676)) (2 ^ 2277)) c.refined-m.ensures
    ∙ rounded_root r h e.0 e.1
    ∙ root_of_parts c.args.x p.sign p.sig p.exp r h c.requires c.unpack-p.ensures e.2
