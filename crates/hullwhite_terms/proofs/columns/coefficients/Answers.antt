-- `coefficients` meets its contract: each entry that it writes is the one of specs/.
use borrow.Author.Rules.{rules}
use Rattle.hullwhite_terms.proofs.Entries.{written, coefficients_length, coefficients_at}
use Rattle.hullwhite_terms.proofs.columns.coefficients.Goals as goal

pub returns : goal.returns
returns c = written _ c.fill.auto.out c.requires (coefficients_length _ _) (λ i l h. let k = c.fill.ensures i l in rw (coefficients_at _ _ i h) (search rules))
