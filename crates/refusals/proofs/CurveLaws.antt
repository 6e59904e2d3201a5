-- What a curve shows that does not break rule 4.
use mathlib.Core.Path.{◌≡◌}
use mathlib.Core.Bool.{true, false}
use mathlib.Core.List.{List}
use borrow.Author.Tests.{not-false}
use lib.Ieee.{Float}
use Rattle.refusals.specs.Checks.{in_order}
use Rattle.refusals.specs.Faults.{curve_faults}

module _ (ts fs : List Float) where
  -- its times strictly rise, which `curve::factor` requires
  pub curve_rises : (curve_faults ts fs).order ≡ false → in_order true ts ≡ true
  curve_rises h = not-false (in_order true ts) h
