-- `ieee_chains::fixed::packed` meets its contract: by what `rounded` gives, and the pattern is that of a number put together again. Assumes nothing.
use mathlib.Core.Path.{sym, ◌∙◌, subst}
use mathlib.Core.Bool.{Bool, not}
use lib.Dec.{T}
use Rattle.ieee_chains.proofs.Opening.{closed_no_nan, closed_is}
use Rattle.ieee_chains.proofs.Fixing.{digits, settled_place, settled_is}
use Rattle.ieee_chains.proofs.fixed.packed.Goals as goal

pub float_from_bits-result : goal.float_from_bits-result
float_from_bits-result c =
    let k = c.rounded-k.ensures in
    let a = c.args.s in
    rw (k.0, k.1)
    (subst (λ (b : Bool). T (not b)) (sym (closed_no_nan _ _ (digits a.whole a.sticky a.over a.under a.digit) (settled_place a.whole a.sticky a.over a.under a.digit c.args.places))) tt)

pub returns : goal.returns
returns c =
    let k = c.rounded-k.ensures in
    let a = c.args.s in
    rw (k.0, k.1)
    (closed_is _ _ (digits a.whole a.sticky a.over a.under a.digit) (settled_place a.whole a.sticky a.over a.under a.digit c.args.places)
    ∙ settled_is a.whole a.sticky a.over a.under a.digit c.args.places c.requires)
