-- `hullwhite_jamshidian::price::puts` meets its contract. The loop's invariant: the puts left, added to the total so far, give the whole sum. Assumes nothing.
use mathlib.Core.Path.{refl, ◌∙◌}
use Rattle.hullwhite_jamshidian.specs.Ahead.{puts_ahead}
use Rattle.hullwhite_jamshidian.proofs.Puts.{puts_on, puts_done}
use borrow.Author.Rules.{rules}
use Rattle.hullwhite_jamshidian.proofs.price.puts.Goals as goal

pub loop-i-init : goal.loop-i-init
loop-i-init c = unfold puts_ahead in refl

pub loop-i-preserved : goal.loop-i-preserved
loop-i-preserved c = puts_on _ _ _ _ _ _ _ _ _ _ _ c.loop-i-test.true (search rules) (search rules) (search rules) c.coupon_put-price.ensures c.fused-total.ensures ∙ c.loop-i.invariant

pub returns : goal.returns
returns c = puts_done _ _ _ _ _ _ _ _ _ c.loop-i-test.false ∙ c.loop-i.invariant
