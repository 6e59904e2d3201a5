-- `pricer_formulas::affine_a_list` meets its contract: each turn of its loop writes the next entry of the list. Assumes nothing.
use lib.ListN.{length}
use Rattle.refusals.proofs.Filling.{Filling}
use Rattle.pricer_formulas.specs.Affine.{affine_aList_of}
use Rattle.pricer_formulas.proofs.variance.affine_a_list.Given as goal

abbrev pub invariant-loop-i : goal.invariant-loop-i
invariant-loop-i l = Filling (affine_aList_of l.variance l.forward l.p_t l.b l.p) l.initial.out (length l.b) l.i l.out
