-- The answer that is defined has all that specs/Facts.antt says of an answer, and with it a caller of `critical_rate_of_weights` that gives weights. Assumes nothing.
use Rattle.std.specs.Prelude.{Result}
use mathlib.Core.Path.{◌≡◌, refl, sym, ap, ◌∙◌, subst}
use mathlib.Core.Bool.{Bool, true, false, ◌&&◌}
use mathlib.Core.List.{List}
use lib.Ieee.{Float}
use lib.Ieee.Scale.{finite}
use Rattle.search.specs.declared.Bracket.{Bracket}
use Rattle.search.specs.declared.Root.{Root}
use Rattle.search.specs.declared.Unfound.{Unfound}
use Rattle.search_sum.specs.Sum.{coupon_sum, weights_of, weighted_sum, weights_ahead_lem}
use Rattle.search.specs.Rate.{critical_of}
use Rattle.search.specs.Values.{root_finite}
use Rattle.search.specs.Facts.{Searched}
use Rattle.search.proofs.Demand3.{accepted}
use Rattle.search.proofs.Reaching.{exactly}

pub answered : (sum : Float → Float) (r : Result Root Unfound) → r ≡ critical_of sum → Searched sum r
answered sum r e = subst (Searched sum) (sym e) (record { is = refl; exactly = exactly sum; accepted = accepted sum; report = refl })

-- for a caller of `critical_rate_of_weights`: with weights that are coefficient × A, its answer is that of the terms' priced coupon sum
pub priced : (coefficients affines bs weights : List Float) (r : Result Root Unfound) → weights ≡ weights_of coefficients affines → Searched (weighted_sum weights bs) r → Searched (coupon_sum coefficients affines bs) r
priced coefficients affines bs weights r e a = subst (λ (sum : Float → Float). Searched sum r) (ap (λ (ws : List Float). weighted_sum ws bs) e ∙ sym (weights_ahead_lem coefficients affines bs)) a

-- for rule 13 of an answer with a root in it: `x` is asked of the answer's other floats
pub and_root : (x : Bool) (rate : Float) (b : Bracket) → (x && root_finite rate b) ≡ (x && finite rate && finite b.lower && finite b.upper && finite b.lower_sum && finite b.upper_sum)
and_root true rate b = refl
and_root false rate b = refl
