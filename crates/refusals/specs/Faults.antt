-- What each list of a request may break, rule by rule: document 01's rules 1, 2, 4 and 6 over the curve, the pillars, the coupons and the grid.
use Rattle.std.specs.Prelude.{true, false, not, ◌&&◌, ◌||◌, List, ltb, eqb, length, Float}
use Rattle.ieee.specs.Numbers.{zero}
use Rattle.refusals.specs.declared.curves.Faults.{Faults}
use Rattle.refusals.specs.declared.checks.Test.TheVariants.{Finite, Above, AtLeast}
use Rattle.refusals.specs.Checks.{all_of, in_order}

-- 1: the list is over its limit, or paired lists differ in length. 2: a number is NaN or infinite. 4: the times do not strictly rise. 6: a factor is not above 0
abbrev pub curve_faults : List Float → List Float → Faults
curve_faults times factors = record {
  size = ltb 2048 (length times) || not (eqb (length times) (length factors));
  not_finite = not (all_of Finite times && all_of Finite factors);
  order = not (in_order true times);
  domain = not (all_of (Above zero) factors);
}

-- 6: a sigma is negative
abbrev pub pillar_faults : List Float → List Float → Faults
pillar_faults times sigmas = record {
  size = ltb 64 (length times) || not (eqb (length times) (length sigmas));
  not_finite = not (all_of Finite times && all_of Finite sigmas);
  order = not (in_order true times);
  domain = not (all_of (AtLeast zero) sigmas);
}

-- payment times and accruals; what the times must be above is the call's option time, and own factors are asked by a call that uses them
abbrev pub coupon_faults : List Float → List Float → Faults
coupon_faults payments accruals = record {
  size = ltb 64 (length payments) || not (eqb (length payments) (length accruals));
  not_finite = not (all_of Finite payments && all_of Finite accruals);
  order = false;
  domain = false;
}

-- 4: the grid's times fall
abbrev pub grid_faults : List Float → List Float → Faults
grid_faults times draws = record {
  size = ltb 1024 (length times) || not (eqb (length times) (length draws));
  not_finite = not (all_of Finite times && all_of Finite draws);
  order = not (in_order false times);
  domain = false;
}

-- the same of a grid whose draws a seed gives, document 02, A.5: "may name a seed in place of its list of draws"
abbrev pub seeded_grid_faults : List Float → Faults
seeded_grid_faults times = record {
  size = ltb 1024 (length times);
  not_finite = not (all_of Finite times);
  order = not (in_order false times);
  domain = false;
}
