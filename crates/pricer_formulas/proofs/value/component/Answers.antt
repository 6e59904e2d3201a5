-- `pricer_formulas::component` meets its contract. Assumes nothing.
use Rattle.pricer_formulas.specs.Components.{component_of}
use Rattle.pricer_formulas.proofs.value.component.Goals as goal

pub returns : goal.returns
unfolding component_of
returns c = rw (c.bond_option.ensures, c.bond_at-strike.ensures)
