-- `fit::fits::strike_wrong` meets its contract: each arm is what `strike_wrong` says of its quote. Assumes nothing.
use Rattle.fit.proofs.fits.strike_wrong.Goals as goal

pub returns-in-Black : goal.returns-in-Black
returns-in-Black c = rw c.in-Black.is
