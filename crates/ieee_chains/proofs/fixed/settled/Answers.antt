-- `ieee_chains::fixed::settled` meets its contract: by what `rounded` gives, shifted back. Assumes nothing.
use Rattle.ieee_chains.proofs.Fixing.{settled_held, settled_most}
use Rattle.ieee_chains.proofs.fixed.settled.Goals as goal

pub returns : goal.returns
returns c =
    let k = c.rounded-k.ensures in
    let s = c.args.s in
    rw (k.0, k.1) (record {
      most = settled_most s.whole s.sticky s.over s.under s.digit;
      value = settled_held s.whole s.sticky s.over s.under s.digit;
    })
