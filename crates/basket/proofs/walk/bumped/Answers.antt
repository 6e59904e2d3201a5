-- `basket::walk::bumped` meets its contract: the fit is refused, or kept where the diagonal's float is finite. Assumes nothing.
use Rattle.basket.proofs.Bumping.{bump_refused, bump_kept, bump_lost}
use Rattle.basket.proofs.walk.bumped.Goals as goal

pub returns-in_default : goal.returns-in_default
returns-in_default c = let a = c.args in bump_refused a.alpha a.times.now a.factors.now a.quote a.caplet a.sigma c.caplet_fitted-fitted.ensures c.in_default.is

pub returns-then-is_finite : goal.returns-then-is_finite
returns-then-is_finite c =
    let a = c.args in
    bump_kept a.alpha a.times.now a.factors.now a.quote a.caplet a.sigma c.caplet_fitted-fitted.ensures c.in-Ok.is c.diagonal_of.ensures c.is_finite.ensures c.if-is_finite.true

pub returns-else-is_finite : goal.returns-else-is_finite
returns-else-is_finite c =
    let a = c.args in
    bump_lost a.alpha a.times.now a.factors.now a.quote a.caplet a.sigma c.caplet_fitted-fitted.ensures c.in-Ok.is c.diagonal_of.ensures c.is_finite.ensures c.if-is_finite.false
