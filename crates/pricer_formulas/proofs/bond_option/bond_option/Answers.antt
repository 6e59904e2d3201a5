-- `pricer_formulas::bond_option` meets its contract: the intrinsic value where the bond hardly moves, else the option on it. Assumes nothing.
use Rattle.pricer_formulas.specs.BondOption.{pricer_bond_option_of}
use Rattle.pricer_formulas.proofs.Literals.{still_is}
use Rattle.pricer_formulas.proofs.bond_option.bond_option.Goals as goal

pub returns-then-volatility : goal.returns-then-volatility
unfolding pricer_bond_option_of
returns-then-volatility c = rw (← still_is, c.if-volatility.true, c.floored_at_zero.ensures, c.intrinsic.ensures)

pub returns-else-volatility : goal.returns-else-volatility
unfolding pricer_bond_option_of
returns-else-volatility c = rw (← still_is, c.if-volatility.false, c.moving.ensures)
