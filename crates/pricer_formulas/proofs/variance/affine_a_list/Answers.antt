-- `pricer_formulas::affine_a_list` meets its contract: each turn of its loop writes the next entry of the list. Assumes nothing.
use Rattle.refusals.proofs.Filling.{start, turn, end}
use Rattle.pricer_formulas.proofs.Entries.{affines_length, affines_at}
use Rattle.pricer_formulas.proofs.variance.affine_a_list.Goals as goal

pub loop-i-init : goal.loop-i-init
loop-i-init c = start c.requires.0

pub loop-i-preserved : goal.loop-i-preserved
loop-i-preserved c =
    turn (affines_length _ _ _ _ _ c.requires.1) c.requires.0 c.loop-i-test.true (affines_at _ _ _ _ _ _ c.requires.1 c.loop-i-test.true) c.affine_a.ensures c.loop-i.invariant

pub returns : goal.returns
returns c =
    end (affines_length _ _ _ _ _ c.requires.1) c.requires.0 c.loop-i-test.false c.loop-i.invariant
