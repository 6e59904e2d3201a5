-- `ieee::sum::added` meets its contract. A sum is the same in either order. Assumes nothing.
use mathlib.Core.Path.{◌∙◌}
use Prim.Native.Nat.{◌*◌, ◌^◌}
use lib.Ieee.{binary64}
use Rattle.ieee.proofs.Sums.{sum_swap}
use Rattle.ieee.proofs.sum.added.Goals as goal

pub returns-else-y-x : goal.returns-else-y-x
returns-else-y-x c =
    let x = c.args.x in
    let y = c.args.y in
    let r = c.sum-else-y-x.ensures in
    record {
      value = r.value ∙ sum_swap binary64 y.sign (y.v * 2 ^ y.exp) x.sign (x.v * 2 ^ x.exp) (2 ^ 2277);
      under = r.under;
      small = r.small;
    }
