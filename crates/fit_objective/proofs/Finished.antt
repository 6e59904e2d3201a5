-- Rule 13 after a fit: it is the fit itself that is served, and no other refusal is put for the fit's own. Assumes nothing.
use Rattle.std.specs.Prelude.{Ok, Err}
use mathlib.Core.Path.{◌≡◌, ap}
use Rattle.refusals.specs.declared.refusals.Refusal.TheVariants as R
use Rattle.refusals.specs.Refusals.{Outcome, following}
use Rattle.refusals.proofs.Outcomes.{not_both}
use Rattle.hullwhite_terms.proofs.Callers.{ends_so, ends_otherwise}
use Rattle.math_bisection.specs.declared.result.Fit.{Fit}
use Rattle.math_bisection.specs.Result.{finishing_fit}
use Rattle.math_bisection.proofs.Finishing.{all_finite}

pub finished_served : (o : Outcome Fit) (fit : Fit) → following o finishing_fit ≡ Ok fit → o ≡ Ok fit
finished_served (Ok x) fit e = ap Ok (ends_so (all_finite x) x e)
finished_served (Err q) fit e = absurd (not_both e)

pub finished_wanting : (o : Outcome Fit) → following o finishing_fit ≡ Err R.NoBracket → o ≡ Err R.NoBracket
finished_wanting (Ok x) e = absurd (ends_otherwise (all_finite x) x e)
finished_wanting (Err q) e = let z : q ≡ R.NoBracket = cc in ap Err z
