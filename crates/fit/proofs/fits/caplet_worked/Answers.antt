-- `fit::fits::caplet_worked` meets its contract: the bisection is that of the objective worked ahead, and its fit is looked at by rule 13. Assumes nothing.
use mathlib.Core.Path.{ap}
use lib.Ieee.{Float}
use Rattle.ieee.specs.Rounded.{◌⊘◌}
use Rattle.ieee.specs.Numbers.{one}
use Rattle.hullwhite_formulas.specs.HullWhite.{optionlet_strike_of}
use Rattle.fit.proofs.Worked.{caplet_fit}
use Rattle.fit.proofs.fits.caplet_worked.Goals as goal

pub returns : goal.returns
unfolding optionlet_strike_of
returns c =
    caplet_fit _ _ _ _ _ _ _ _ _ c.b_of.ensures c.state_deviation_of.ensures c.growth_of-growth.ensures (ap (λ (g : Float). one ⊘ g) c.growth_of-growth.ensures) c.caplet_market_price-price.ensures c.solve-fitted.ensures c.finished.ensures
