-- `hullwhite_parameters::hull_white_piecewise_variance_of` meets its contract. The loop's invariant: the pillars that are left are those from place i on, and their pieces make up the whole. Assumes nothing.
use Rattle.std.proofs.Common.{◌≡◌, drop, nat_eq}
use Rattle.hullwhite_parameters.specs.Variance.{variance_pieces_of, piecewise_variance_of}
use Rattle.hullwhite_parameters.proofs.variance.hull_white_piecewise_variance_of.Given as goal

abbrev pub invariant-loop-i : goal.invariant-loop-i
invariant-loop-i l =
    let left = l.i-iterator.iter in
    (left.a.rest.now ≡ drop l.i-iterator.count l.times)
    × (variance_pieces_of l.alpha (nat_eq l.i-iterator.count 0) l.variance left.a.rest.now left.b.rest.now l.start l.end ≡ piecewise_variance_of l.alpha l.times l.sigmas l.start l.end)
