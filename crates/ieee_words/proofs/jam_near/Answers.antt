-- `ieee_words::jam_near` meets its contract: the words of the number that is shifted. Assumes nothing.
use Rattle.std.proofs.Common.{◌≡◌, ◌+◌, ◌*◌, ◌/◌, ◌%◌, ◌^◌, ◌-◌, ap, ◌∙◌}
use Rattle.ieee_words.proofs.Words.{lost_is, cut_le, near_fits, near_is, shifted_fits, jam_near}
use Rattle.ieee_words.proofs.jam_near.Goals as goal

-- the two words together are v shifted right
shifted : (c : goal.After-above) → c.above.result + (c.upper-high.result * 2 % 2 ^ 64 * 2 ^ (63 - c.args.d) % 2 ^ 64 + c.lower-low.result / 2 ^ c.args.d) ≡ c.args.v / 2 ^ c.args.d
shifted c =
    ap (λ n. n + (c.upper-high.result * 2 % 2 ^ 64 * 2 ^ (63 - c.args.d) % 2 ^ 64 + c.lower-low.result / 2 ^ c.args.d)) c.above.ensures
    ∙ near_is c.args.v c.upper-high.result c.lower-low.result c.args.d c.upper-high.ensures c.lower-low.ensures c.requires

pub overflow_add-kept : goal.overflow_add-kept
overflow_add-kept c = near_fits c.upper-high.result c.lower-low.result c.args.d c.lower-low.type_inv c.requires

pub overflow_sub-low : goal.overflow_sub-low
overflow_sub-low c = cut_le c.lower-low.result c.args.d c.lower-low.type_inv

pub overflow_add-above : goal.overflow_add-above
overflow_add-above c = shifted_fits c.args.v c.args.d _ c.ranges.v.fits (shifted c)

pub returns : goal.returns
returns c = jam_near c.args.v c.args.d _ _ _ (shifted c.before) (lost_is c.args.v c.lower-low.result c.args.d c.lower-low.ensures c.requires) c.stuck.ensures
