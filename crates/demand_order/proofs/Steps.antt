-- The steps that calls are made of: by which refusals each may refuse, and how the lookups of a call are one list of times that it needs.
use Rattle.std.specs.Prelude.{◌≡◌, refl, Bool, true, false, cond, List, [], ◌∷◌, T, drop, Float, Option, Some, None, Ok, Err, Result}
use Rattle.std.proofs.Common.{sym, ◌∙◌, ap, arith}
use Prim.Native.Nat.{ℕ, zero, suc}
use Rattle.std.specs.Float.Ieee.{is_nan}
use Rattle.math_elementary.specs.Simple.{midpoint_of}
use Rattle.refusals.specs.declared.refusals.Refusal.{Refusal}
use Rattle.refusals.specs.declared.refusals.Refusal.TheVariants as R
use Rattle.refusals.specs.declared.refusals.Rule.{Rule}
use Rattle.refusals.specs.Refusals.{Outcome, first_of, unless, following, prepend}
use Rattle.refusals.proofs.Outcomes.{not_both}
use Rattle.curve.specs.Lookups.{factor_at, required, needing}
use Rattle.search.specs.declared.Root.{Root}
use Rattle.search.specs.declared.Unfound.{Unfound}
use Rattle.search.specs.declared.Unfound.TheVariants as U
use Rattle.search.specs.Values.{critical_outcome}
use Rattle.hullwhite_terms.specs.Terms.{factors_at}
use Rattle.math_bisection.specs.declared.halving.Ends.{Ends}
use Rattle.math_bisection.specs.Solve.{lowest, highest, same_sign, close_enough, residual_at, ends_moved_to, unconverged_at, halvings_from, ends_of, solve_of}
use Rattle.demand_order.specs.Stages.{Stage, off_curve, evaluated, finished, stage_of, Only, Met, all_rules}
use Rattle.demand_order.specs.Steps.{nth}
use Rattle.demand_order.proofs.Stages.{met}

-- ---- what refuses by a stage's refusals alone
module _ {B : Type 0} {s : Stage} where
  pub never : (v : B) → Only s (Ok v)
  never v r e = absurd (not_both (sym e))

  pub by : (q : Refusal) → stage_of q ≡ s → Only {B = B} s (Err q)
  by q k r e = let p : r ≡ q = cc in ap stage_of p ∙ k

  pub either : (b : Bool) {o p : Outcome B} → Only s o → Only s p → Only s (cond b o p)
  either true k l = k
  either false k l = l

pub following_only : {B C : Type 0} {s : Stage} (o : Outcome B) (rest : B → Outcome C) → Only s o → ((v : B) → Only s (rest v)) → Only s (following o rest)
following_only (Ok v) rest k l = l v
following_only (Err q) rest k l = by q (k q refl)

pub prepend_only : {s : Stage} (x : Float) (o : Outcome (List Float)) → Only s o → Only s (prepend x o)
prepend_only x (Ok xs) k = never (x ∷ xs)
prepend_only x (Err q) k = by q (k q refl)

-- rule 13 refuses by 13, whatever it looks at
pub finishing_only : {B : Type 0} (b : Bool) (v : B) → Only finished (cond b (Ok v) (Err R.Overflow))
finishing_only b v = either b (never v) (by R.Overflow refl)

-- a lookup refuses by 8, and so do several
pub needing_only : {B : Type 0} (m : Option Float) {rest : Float → Outcome B} → ((p : Float) → Only off_curve (rest p)) → Only off_curve (needing m rest)
needing_only (Some p) k = k p
needing_only None k = by R.OffCurve refl

-- one that finds refuses nothing
pub required_only : {B : Type 0} {s : Stage} (q : Refusal) (m : Option Float) → (p : Float) × (m ≡ Some p) → {rest : Float → Outcome B} → ((p : Float) → Only s (rest p)) → Only s (required q m rest)
required_only q (Some p) e k = k p
required_only q None e k = absurd (let z : ◌≡◌ {A = ℕ} 0 1 = cc e.1 in let y : ⊥ = omega arith in y)

pub factors_only : (ts fs times : List Float) → Only off_curve (factors_at ts fs times)
unfolding factors_at
factors_only ts fs [] = never []
factors_only ts fs (t ∷ times) = needing_only (factor_at ts fs t) (λ p. prepend_only p (factors_at ts fs times) (factors_only ts fs times))

-- a search refuses by 9 and 10
pub search_only : (c : Result Root Unfound) → Only evaluated (critical_outcome c)
search_only (Ok root) = never _
search_only (Err U.NotANumber) = by R.NanReached refl
search_only (Err U.NoBracket) = by R.NoBracket refl

-- a fit refuses by 9 and 12, and as its objective does
module _ (f : Float → Outcome Float) (k : (sigma : Float) → Only evaluated (f sigma)) where
  residual_only : (sigma : Float) → Only evaluated (residual_at f sigma)
  unfolding residual_at
  residual_only sigma = following_only (f sigma) _ (k sigma) (λ v. either (is_nan v) (by R.NanReached refl) (never v))

  halvings_only : (left made : ℕ) (e : Ends) → Only evaluated (halvings_from f left made e)
  unfolding halvings_from unconverged_at
  halvings_only zero made e = following_only (residual_at f (midpoint_of e.low e.high)) _ (residual_only _) (λ v. never _)
  halvings_only (suc left) made e =
      following_only (residual_at f (midpoint_of e.low e.high)) _ (residual_only _) (λ v.
      either (close_enough v) (never _) (halvings_only left (suc made) (ends_moved_to e (midpoint_of e.low e.high) v)))

  pub solve_only : Only evaluated (solve_of f)
  unfolding solve_of
  solve_only =
      following_only (residual_at f lowest) _ (residual_only lowest) (λ a.
      following_only (residual_at f highest) _ (residual_only highest) (λ b.
      either (same_sign a b) (by R.NoSignChange refl) (halvings_only 200 0 (ends_of a b))))

-- ---- lookups one by one are those of a list of times
module _ {B : Type 0} where
  pub two_and : (m n : Option Float) (o : Outcome (List Float)) (rest : Float → Float → List Float → Outcome B)
      → needing m (λ x. needing n (λ y. following o (λ ps. rest x y ps))) ≡ following (needing m (λ x. prepend x (needing n (λ y. prepend y o)))) (λ ps. rest (nth 0 ps) (nth 1 ps) (drop 2 ps))
  two_and (Some x) (Some y) (Ok ps) rest = refl
  two_and (Some x) (Some y) (Err r) rest = refl
  two_and (Some x) None o rest = refl
  two_and None n o rest = refl

  pub three : (m n k : Option Float) (rest : Float → Float → Float → Outcome B)
      → needing m (λ x. needing n (λ y. needing k (λ z. rest x y z))) ≡ following (needing m (λ x. prepend x (needing n (λ y. prepend y (needing k (λ z. prepend z (Ok []))))))) (λ ps. rest (nth 0 ps) (nth 1 ps) (nth 2 ps))
  three (Some x) (Some y) (Some z) rest = refl
  three (Some x) (Some y) None rest = refl
  three (Some x) None k rest = refl
  three None n k rest = refl

-- ---- a call that evaluates nothing: what it answers is `value` of the factors found
pub plain : {W B : Type 0} (rules : List Rule) (found : Outcome (List Float)) (value : List Float → W) (answered : W → Outcome B) (o : Outcome B)
    → T (all_rules rules) → (first_of rules ≡ Ok tt → Only off_curve found) → ((v : W) → Only finished (answered v)) → o ≡ unless rules (following found (λ ps. answered (value ps)))
    → Met rules found (λ ps. Ok (value ps)) answered o
plain rules found value answered o k lookups answers e = met rules found (λ ps. Ok (value ps)) answered k lookups (λ ps. never (value ps)) answers o e
