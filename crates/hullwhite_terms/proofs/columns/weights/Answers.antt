-- `weights` meets its contract: each entry that it writes is the one of specs/.
use borrow.Author.Rules.{rules}
use Rattle.hullwhite_terms.proofs.Entries.{written, weights_length, weights_at}
use Rattle.hullwhite_terms.proofs.columns.weights.Goals as goal

pub returns : goal.returns
returns c = written _ c.fill.auto.out c.requires.0 (weights_length _ _ c.requires.1) (λ i l h. let k = c.fill.ensures i l in rw (weights_at _ _ i c.requires.1 h) (search rules))
