-- `test_vectors::tally::Tally::add_all` meets its contract: what is counted so far, with the records that are left, makes up the whole. Assumes nothing.
use Rattle.std.proofs.Common.{◌≡◌, ◌<◌, ◌≤◌, ◌-◌, ◌*◌, ◌+◌, ℕ, suc, List, cond, arith, sym, ◌∙◌}
use Rattle.test_vectors.specs.Counting.{one_more, agreement_at, records_from, differing_from}
use Rattle.test_vectors.proofs.tally.Tally.add_all.Goals as goal

-- one record more of those that are left
left_over : (n i : ℕ) → i < n → n - i ≡ suc (n - (i + 1))
left_over n i h = omega arith

next_place : (i : ℕ) → 40 * (i + 1) ≡ 40 * i + 40
next_place i = omega arith

records_turn : (n i m : ℕ) → i < n → records_from (n - (i + 1)) (one_more m) ≡ records_from (n - i) m
unfolding records_from
records_turn n i m h = rw (left_over n i h)

differing_turn : (s : List ℕ) (n i m : ℕ) → i < n → differing_from s (40 * (i + 1)) (n - (i + 1)) (cond (agreement_at s (40 * i)) m (one_more m)) ≡ differing_from s (40 * i) (n - i) m
unfolding differing_from
differing_turn s n i m h = rw (left_over n i h, next_place i)

-- none is left
records_end : (n i m : ℕ) → n ≤ i → records_from (n - i) m ≡ m
unfolding records_from
records_end n i m h = let z : n - i ≡ 0 = omega arith in rw z

differing_end : (s : List ℕ) (at n i m : ℕ) → n ≤ i → differing_from s at (n - i) m ≡ m
unfolding differing_from
differing_end s at n i m h = let z : n - i ≡ 0 = omega arith in rw z

pub loop-i-preserved : goal.loop-i-preserved
loop-i-preserved c =
    let p = c.parsed.ensures in
    let h = c.loop-i-test.true in
    rw (c.add.ensures.total, p.function, p.arguments.0, p.arguments.1, p.arguments.2, p.expected)
    (records_turn _ _ _ h ∙ c.loop-i.invariant.0, differing_turn _ _ _ _ h ∙ c.loop-i.invariant.1)

pub returns : goal.returns
returns c =
    let h = c.loop-i-test.false in
    record {
      records = sym (records_end _ _ _ h) ∙ c.loop-i.invariant.0;
      differing = sym (differing_end _ _ _ _ _ h) ∙ c.loop-i.invariant.1;
    }
