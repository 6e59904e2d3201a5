-- `a_list_at` meets its contract: each entry that it writes is the one of specs/.
use borrow.Author.Rules.{rules}
use Rattle.hullwhite_terms.proofs.Entries.{written, a_list_at_length, a_list_at_nth}
use Rattle.hullwhite_terms.proofs.columns.a_list_at.Goals as goal

pub returns : goal.returns
returns c = written _ c.fill.auto.out c.requires.0 (a_list_at_length _ _ _ c.requires.1) (λ i l h. let k = c.fill.ensures i l in rw (a_list_at_nth _ _ _ i c.requires.1 h) (search rules))
