-- The objective on what is worked ahead, of the code's own value for it.
use Rattle.std.specs.Prelude.{Float}
use Rattle.refusals.specs.Refusals.{Outcome}
use Rattle.fit_objective.specs.declared.objective.Objective.{Objective}
use Rattle.fit_objective.specs.Ahead.{model_price_of, objective_of}

abbrev pub price_asked : Objective → Float → Outcome Float
price_asked o = model_price_of o.instrument o.c.now o.b.now o.curve_part.now o.p.now

abbrev pub objective_at : Objective → Float → Outcome Float
objective_at o = objective_of o.instrument o.market o.c.now o.b.now o.curve_part.now o.p.now
