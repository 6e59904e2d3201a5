-- `pricer_formulas::moving` meets its contract: each arm is what `pricer_option_of` says of its variant. Assumes nothing.
use Rattle.pricer_formulas.specs.BondOption.{moving_of}
use Rattle.pricer_formulas.proofs.bond_option.moving.Goals as goal

pub returns-in-Payer : goal.returns-in-Payer
unfolding moving_of
returns-in-Payer c = rw (c.in-Payer.is, c.pricer_norm_cdf-in-Payer.ensures, c.pricer_norm_cdf.ensures, c.pricer_d1-d1.ensures)

pub returns-in-Receiver : goal.returns-in-Receiver
unfolding moving_of
returns-in-Receiver c = rw (c.in-Receiver.is, c.pricer_norm_cdf-in-Receiver-2.ensures, c.pricer_norm_cdf-in-Receiver.ensures, c.pricer_d1-d1.ensures)
