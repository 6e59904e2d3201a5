-- `basket_entries::rules::times_wrong` meets its contract. The loop's invariant: the entries that are left break rule 5 where some entry does. Assumes nothing.
use mathlib.Core.Path.{◌≡◌}
use Rattle.std.specs.Iterator.Adapters.{zip_first, zip_second}
use Rattle.std.specs.Slice.Iter.{iter_rest}
use Rattle.basket_entries.specs.Entries.{times_wrong}
use Rattle.basket_entries.proofs.rules.times_wrong.Given as goal

abbrev pub invariant-loop-start : goal.invariant-loop-start
invariant-loop-start l = times_wrong (iter_rest (zip_first l.start-iterator)) (iter_rest (zip_second l.start-iterator)) ≡ times_wrong l.starts l.ends
