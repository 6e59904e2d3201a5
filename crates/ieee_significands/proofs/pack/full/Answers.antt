-- `ieee_significands::pack::full` meets its contract. Of 63 digits ten are dropped. Assumes nothing.
use mathlib.Core.Path.{◌∙◌}
use Rattle.ieee_significands.proofs.Packing.{full_whole, full_is}
use Rattle.ieee_significands.proofs.pack.full.Goals as goal

pub assemble-requires : goal.assemble-requires
assemble-requires c = full_whole c.args.m c.args.exp c.requires.0 c.requires.1 c.requires.2

pub returns : goal.returns
returns c =
    c.assemble.ensures ∙ full_is c.args.m c.args.exp c.requires.0 c.requires.1 c.requires.2 c.args.sign
