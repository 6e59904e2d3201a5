-- `ieee_words::jam` meets its contract: by whether it shifts by a word. Assumes nothing.
use Rattle.ieee_words.proofs.Words.{jam_far}
use Rattle.ieee_words.proofs.jam.Goals as goal

pub returns-else-d-lt64 : goal.returns-else-d-lt64
returns-else-d-lt64 c =
    jam_far c.args.v c.args.d c.min.result c.jam_below-c.result.left c.jam_below-c.result.sticky _ c.ranges.v.fits c.min.ensures c.if-d-lt64.false c.jam_below-c.ensures c.jam_below-c.result.digit c.stuck.ensures
