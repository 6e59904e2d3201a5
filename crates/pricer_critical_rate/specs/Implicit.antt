-- `implicit_critical_rate` as a call on the same terms: it "adds one Newton step" to the rate that the search finds.
use Rattle.std.specs.Prelude.{◌&&◌, cond, List, Float, Ok, Err}
use Rattle.std.specs.Float.Ieee.Scale.{finite}
use Rattle.ieee.specs.Numbers.{zero}
use Rattle.refusals.specs.declared.refusals.Refusal.TheVariants as R
use Rattle.refusals.specs.Refusals.{Outcome, unless, following}
use Rattle.search_sum.specs.Sum.{coupon_sum}
use Rattle.search.specs.Rate.{critical_of}
use Rattle.search.specs.declared.Root.{Root}
use Rattle.search.specs.Values.{no_root, critical_outcome, root_finite}
use Rattle.pricer_formulas.specs.Newton.{sums_of, stepped}
use Rattle.pricer_critical_rate.specs.Find.{search_rules}
use Rattle.pricer_critical_rate.specs.declared.implicit.ImplicitRate.{ImplicitRate}

-- beside a refusal's number
abbrev pub no_implicit_rate : ImplicitRate
no_implicit_rate = record { after_step = zero; root = no_root }

-- rule 13: "bracket sums, end residuals and the critical rate before and after the Newton step included"
abbrev pub finishing_implicit : ImplicitRate → Outcome ImplicitRate
finishing_implicit v = cond (root_finite v.root.rate v.root.bracket && finite v.after_step) (Ok v) (Err R.Overflow)

-- the step from the root, which may be refused by 11, then 13
unfoldable pub stepped_from : List Float → List Float → List Float → Root → Outcome ImplicitRate
stepped_from cs affs bs root = following (stepped root.rate (sums_of root.rate cs affs bs)) (λ s. finishing_implicit (record { after_step = s; root = root }))

unfoldable pub implicit_outcome : List Float → List Float → List Float → Outcome ImplicitRate
implicit_outcome cs affs bs = unless (search_rules cs affs bs) (following (critical_outcome (critical_of (coupon_sum cs affs bs))) (stepped_from cs affs bs))
