-- `basket_entries::rules::domain_wrong` meets its contract. The loop's invariant: the entries that are left break rule 6 where some entry does. Assumes nothing.
use mathlib.Core.Path.{◌≡◌}
use Rattle.std.specs.Iterator.Adapters.{zip_first, zip_second}
use Rattle.std.specs.Slice.Iter.{iter_rest}
use Rattle.basket_entries.specs.Entries.{domain_wrong}
use Rattle.basket_entries.proofs.rules.domain_wrong.Given as goal

abbrev pub invariant-loop-normal : goal.invariant-loop-normal
invariant-loop-normal l =
    let entries = zip_first l.normal-iterator in
    domain_wrong (iter_rest (zip_first entries)) (iter_rest (zip_second entries)) (iter_rest (zip_second l.normal-iterator)) ≡ domain_wrong l.normals l.strikes l.vols
