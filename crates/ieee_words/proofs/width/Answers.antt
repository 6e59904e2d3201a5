-- `ieee_words::width` meets its contract: by what the count of leading zeros is. Assumes nothing.
use Rattle.ieee_words.proofs.Words.{width_of}
use Rattle.ieee_words.proofs.width.Goals as goal

pub returns : goal.returns
returns c = width_of c.args.v c.ranges.v.fits
