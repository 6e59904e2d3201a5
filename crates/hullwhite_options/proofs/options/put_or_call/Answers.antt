-- `hullwhite_options::put_or_call` meets its contract: a put or a call, as asked. Assumes nothing.
use Rattle.hullwhite_options.specs.Options.{bond_option_at}
use Rattle.hullwhite_options.proofs.options.put_or_call.Goals as goal

pub returns-in-Put : goal.returns-in-Put
unfolding bond_option_at
returns-in-Put c = rw c.in-Put.is (cc)

pub returns-in-Call : goal.returns-in-Call
unfolding bond_option_at
returns-in-Call c = rw c.in-Call.is (cc)
