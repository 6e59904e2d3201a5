-- The residual at a sigma, by the model's price there: its refusal, a NaN, or what is left of it. Assumes nothing.
use Rattle.std.specs.Prelude.{Ok, Err}
use mathlib.Core.Path.{◌≡◌, ◌∙◌}
use mathlib.Core.Bool.{true, false}
use lib.Ieee.{Float, ne}
use Rattle.ieee.specs.Rounded.{◌⊖◌}
use Rattle.math_elementary.proofs.Floats.{nan_yes, nan_no}
use Rattle.refusals.specs.declared.refusals.Refusal.{Refusal}
use Rattle.refusals.specs.declared.refusals.Refusal.TheVariants as R
use Rattle.refusals.specs.Refusals.{Outcome}
use Rattle.math_bisection.specs.Solve.{residual_at}
use Rattle.fit_objective.specs.declared.objective.Objective.{Objective}
use Rattle.fit_objective.specs.Ahead.{objective_of}
use Rattle.fit_objective.specs.Asked.{price_asked, objective_at}

module _ (o : Objective) (sigma : Float) where
  pub residual_refused : {q : Refusal} {price : Outcome Float} → price ≡ price_asked o sigma → price ≡ Err q → price ≡ residual_at (objective_at o) sigma
  unfolding residual_at objective_of
  residual_refused h e = e ∙ rw (← h, e)

  module _ {v : Float} (h : Ok v ≡ price_asked o sigma) where
    pub residual_nan : ne (v ⊖ o.market) (v ⊖ o.market) ≡ true → Err R.NanReached ≡ residual_at (objective_at o) sigma
    unfolding residual_at objective_of
    residual_nan n = rw (← h, nan_yes _ n)

    pub residual_there : ne (v ⊖ o.market) (v ⊖ o.market) ≡ false → Ok (v ⊖ o.market) ≡ residual_at (objective_at o) sigma
    unfolding residual_at objective_of
    residual_there n = rw (← h, nan_no _ n)
