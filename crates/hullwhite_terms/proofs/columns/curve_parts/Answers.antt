-- `curve_parts` meets its contract: each entry that it writes is the one of specs/.
use borrow.Author.Rules.{rules}
use Rattle.hullwhite_terms.proofs.Entries.{written, curve_parts_length, curve_parts_at}
use Rattle.hullwhite_terms.proofs.columns.curve_parts.Goals as goal

pub returns : goal.returns
returns c = written _ c.fill.auto.out c.requires.0 (curve_parts_length _ _ _ _ c.requires.1) (λ i l h. let k = c.fill.ensures i l in rw (curve_parts_at _ _ _ _ i c.requires.1 h) (search rules))
