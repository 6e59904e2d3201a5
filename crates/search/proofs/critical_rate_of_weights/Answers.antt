-- `search::critical_rate_of_weights` meets its contract: what its parts came to makes up the answer that is defined, and of that one the facts hold. Assumes nothing.
use Rattle.std.proofs.lemmas.Result.{err_from_is_err_and}
use Rattle.search.proofs.Answers.{answered}
use Rattle.search.proofs.Joining.{low_nan, high_nan, low_none, high_none, stopped, found}
use Rattle.search.proofs.critical_rate_of_weights.Goals as goal

pub returns-in_err-low : goal.returns-in_err-low
returns-in_err-low c =
    let p = err_from_is_err_and c.from_residual.result c.from_residual.ensures.1 in
    rw (p.1, p.2) (answered _ _ (low_nan _ _ c.in_err-low.ensures))

pub returns-in_err-high : goal.returns-in_err-high
returns-in_err-high c =
    let p = err_from_is_err_and c.from_residual-in_err-high.result c.from_residual-in_err-high.ensures.1 in
    rw (p.1, p.2) (answered _ _ (high_nan _ _ _ c.in_ok-low.ensures c.in_err-high.ensures))

pub returns-in_default : goal.returns-in_default
returns-in_default c = answered _ _ (high_none _ _ _ c.in_ok-low.ensures c.in_ok-high.ensures _ c.in_default.is-0 c.in_default.is-1)

pub returns-in_default-2 : goal.returns-in_default-2
returns-in_default-2 c = answered _ _ (low_none _ _ _ c.in_ok-low.ensures c.in_ok-high.ensures c.in_default.is-0)

pub returns-in_err-bracket : goal.returns-in_err-bracket
returns-in_err-bracket c =
    let p = err_from_is_err_and c.from_residual-in_err-bracket.result c.from_residual-in_err-bracket.ensures.1 in
    let both = c.in-Some-Some in
    rw (p.1, p.2) (answered _ _ (stopped _ _ _ c.in_ok-low.ensures c.in_ok-high.ensures _ _ both.is-0 both.is-1 _ c.in_err-bracket.ensures))

pub returns : goal.returns
returns c =
    let both = c.in-Some-Some in
    answered _ _ (found _ _ _ c.in_ok-low.ensures c.in_ok-high.ensures _ _ both.is-0 both.is-1 _ _ c.in_ok-bracket.ensures c.midpoint.ensures)
