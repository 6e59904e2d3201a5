-- For callers of `fetch`: it is refused by rule 8 alone.
use Rattle.std.specs.Prelude.{Option, Some, None, Ok, Err}
use mathlib.Core.Path.{◌≡◌, sym, ap}
use mathlib.Core.List.{List, [], ◌∷◌}
use lib.Ieee.{Float}
use Rattle.refusals.specs.declared.refusals.Refusal.{Refusal}
use Rattle.refusals.specs.declared.refusals.Refusal.TheVariants as R
use Rattle.refusals.specs.Refusals.{Outcome, prepend}
use Rattle.curve.specs.Lookups.{factor_at, needing}
use Rattle.refusals.proofs.Outcomes.{not_both}
use Rattle.hullwhite_terms.specs.Terms.{factors_at}

-- ---- the only refusal of a fetch
of_prepended : (p : Float) (o : Outcome (List Float)) (q : Refusal) → prepend p o ≡ Err q → o ≡ Err q
of_prepended p (Ok ps) q e = absurd (not_both (sym e))
of_prepended p (Err r) q e = let x : r ≡ q = cc in ap Err x

of_needed : (m : Option Float) (o : Outcome (List Float)) (q : Refusal) → (o ≡ Err q → q ≡ R.OffCurve) → needing m (λ p. prepend p o) ≡ Err q → q ≡ R.OffCurve
of_needed (Some p) o q h e = h (of_prepended p o q e)
of_needed None o q h e = cc

pub off_curve : (ts fs payments : List Float) (q : Refusal) → factors_at ts fs payments ≡ Err q → q ≡ R.OffCurve
unfolding factors_at
off_curve ts fs [] q e = absurd (not_both (sym e))
off_curve ts fs (payment ∷ payments) q e = of_needed (factor_at ts fs payment) (factors_at ts fs payments) q (off_curve ts fs payments q) e
