-- `hullwhite_paths::path::several_for` meets its contract: the published centre alone has a limit of one. Assumes nothing.
use Rattle.hullwhite_paths.proofs.path.several_for.Goals as goal

pub returns-in-StateVariance : goal.returns-in-StateVariance
returns-in-StateVariance c = rw c.in-StateVariance.is

pub returns-in-Published : goal.returns-in-Published
returns-in-Published c = rw c.in-Published.is
