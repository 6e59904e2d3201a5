-- `bs` meets its contract: each entry that it writes is the one of specs/.
use borrow.Author.Rules.{rules}
use Rattle.hullwhite_terms.proofs.Entries.{written, bs_length, bs_at}
use Rattle.hullwhite_terms.proofs.columns.bs.Goals as goal

pub returns : goal.returns
returns c = written _ c.fill.auto.out c.requires (bs_length _ _ _) (λ i l h. let k = c.fill.ensures i l in rw (bs_at _ _ _ i h) (search rules))
