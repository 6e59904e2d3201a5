-- `ieee_significands::pack::magnitude` meets its contract. The exponent's field and the digits of q * 2 ^ k, or an infinity's. Assumes nothing.
use Rattle.ieee_significands.proofs.Packing.{magnitude_low, magnitude_high}
use Rattle.ieee_significands.proofs.pack.magnitude.Goals as goal

pub returns-then-k-lt2046 : goal.returns-then-k-lt2046
returns-then-k-lt2046 c = magnitude_low c.args.q c.args.k c.requires c.if-k-lt2046.true

pub returns-else-k-lt2046 : goal.returns-else-k-lt2046
returns-else-k-lt2046 c = magnitude_high c.args.q c.args.k c.requires c.if-k-lt2046.false
