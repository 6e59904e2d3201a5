-- `hullwhite_paths::path::starts_below` meets its contract: an empty grid starts nowhere below 0. Assumes nothing.
use mathlib.Core.Path.{sym}
use Rattle.hullwhite_paths.proofs.Starts.{starts_none, starts_first}
use Rattle.hullwhite_paths.proofs.path.starts_below.Goals as goal

pub returns-then-grid-eq0 : goal.returns-then-grid-eq0
returns-then-grid-eq0 c = sym (starts_none c.args.grid.now c.if-grid-eq0.true)

pub returns-else-grid-eq0 : goal.returns-else-grid-eq0
returns-else-grid-eq0 c = sym (starts_first c.args.grid.now c.if-grid-eq0.false)
