-- `ieee_words::jam_below` meets its contract: by whether a digit 1 of the upper word is shifted out. Assumes nothing.
use Rattle.std.proofs.Common.{ap, ◌∙◌, min}
use Rattle.ieee_words.proofs.Words.{below_none, below_some}
use Rattle.ieee_words.proofs.jam_below.Goals as goal
use Rattle.ieee_words.proofs.jam_below.Goals.{then-left-d, else-left-d}

pub returns : goal.returns
returns c =
    let u = c.upper-high in
    elim c.if-left-d.branch [
      | then-left-d w ↦ below_none c.args.v c.args.d u.result _ u.ensures u.type_inv w.if-left-d.true (w.sticky-is ∙ w.min-sticky.ensures ∙ ap (λ n. min n 1) c.lower-low.ensures)
      | else-left-d w ↦ rw w.sticky-is (below_some c.args.v c.args.d u.result u.ensures u.type_inv w.if-left-d.false)
    ]
