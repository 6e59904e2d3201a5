-- `ieee_significands::pack::raised` meets its contract. The upper word, with its last digit sticky, rounds as the number, and the shift to the left drops nothing. Assumes nothing.
use mathlib.Core.Path.{sym, ap, ◌∙◌}
use Prim.Native.Nat.{ℕ, suc, ◌+◌, ◌^◌, ◌≤◌, ◌<◌}
use native.Mathlib.Nat.{lt_of_lt_of_le, le_of_eq, le_trans}
use native.Mathlib.Omega.{arith}
use lib.Dec.{lit<}
use lib.Ieee.{binary64, round}
use Rattle.ieee_significands.proofs.Packing.{upper_under, zeros_pos, raised_full, raised_value, word_digits, word_rounds}
use Rattle.ieee_significands.proofs.pack.raised.Goals as goal

over : (c : goal.After-upper) → 2 ^ 54 ≤ c.upper.result
over c = le_trans c.requires.0 (le_of_eq (sym c.upper.ensures))

some : (c : goal.After-upper) → 0 < c.upper.result
some c = lt_of_lt_of_le (lit< tt) (over c)

under : (c : goal.After-upper) → c.upper.result < 2 ^ 63
under c = upper_under c.args.v c.upper.result c.upper.ensures c.requires.1

far : (c : goal.After-upper) → 1255 ≤ c.args.exp + 64
far c = let h = c.requires.2 in omega arith

digits : (c : goal.After-jam-m) (j : ℕ) → 2 ^ j ≤ c.upper.result → c.upper.result < 2 ^ suc j → (2 ^ j ≤ c.jam-m.result) × (c.jam-m.result < 2 ^ suc j)
digits c = word_digits c.args.v c.upper.result c.args.exp c.jam-m.result c.upper.ensures (over c.before) c.requires.2 c.jam-m.ensures

pub overflow_sub-up : goal.overflow_sub-up
overflow_sub-up c = zeros_pos c.upper.result c.upper.result (c.args.exp + 64) (some c) (under c) (λ j k l. (k, l)) (far c)

pub full-requires : goal.full-requires
full-requires c = raised_full c.upper.result c.jam-m.result (c.args.exp + 64) (some c.before) (under c.before) (digits c) (far c.before)

pub returns : goal.returns
returns c =
    let j = c.before in
    c.full.ensures
    ∙ ap (λ (x : ℕ). round binary64 c.args.sign x (2 ^ 2277)) (raised_value c.upper.result c.jam-m.result (c.args.exp + 64) (some j.before) (under j.before) (digits j) (far j.before))
    ∙ word_rounds c.args.v c.upper.result c.args.exp c.jam-m.result c.upper.ensures (over j.before) c.requires.2 c.jam-m.ensures c.args.sign
