-- How many values a report counts, from the call's answer without them. Assumes nothing.
use Rattle.std.specs.Prelude.{Ok, Err}
use mathlib.Core.Path.{◌≡◌, refl, sym, ◌∙◌, ap}
use mathlib.Core.Bool.{Bool, true, false, cond}
use mathlib.Core.List.{List, [], ◌∷◌}
use Prim.Native.Nat.{ℕ, zero, suc}
use lib.Dec.{eqb}
use lib.ListN.{length, take}
use lib.Ieee.{Float, le}
use Rattle.refusals.specs.declared.refusals.Refusal.TheVariants as R
use Rattle.refusals.specs.declared.checks.Test.TheVariants.{Finite}
use Rattle.refusals.specs.Checks.{all_of}
use Rattle.refusals.specs.Faults.{pillar_faults}
use Rattle.refusals.specs.Refusals.{Outcome, answer_of, value_or, first_of, after, Answer}
use Rattle.refusals.proofs.Outcomes.{not_both, served_is, refused_is}
use Rattle.curve.specs.Lookups.{up_to}
use Rattle.draws.specs.Draws.{draws_of, reaching, draw_rules, draws_outcome}
use Rattle.draws.proofs.Lists.{draws_length}
use Rattle.hullwhite_parameters.specs.Parameters.{rules_at, reached_outcome}
use Rattle.hullwhite_transitions.specs.Transition.{transition_rules, variances_of, transition_outcome}
use Rattle.calstwid_exports.specs.Reports.{count_report_of, draws_report_of, count_told, draws_told}

-- a list that has n values wherever it is served
pub counted : {B : Type 0} (o : Outcome (List B)) (answer : Answer) (n : ℕ) → answer ≡ answer_of o → ((xs : List B) → o ≡ Ok xs → length xs ≡ n) → count_told answer n ≡ count_report_of o
counted (Ok xs) answer n e h = rw (e, h xs refl) refl
counted (Err r) answer n e h = rw e refl

-- the same with the state that a call has reached
pub drawn : (o : Outcome (List Float)) (answer : Outcome ℕ) (state n : ℕ) → answer ≡ reaching o state → ((xs : List Float) → o ≡ Ok xs → length xs ≡ n) → draws_told answer n ≡ draws_report_of o state
drawn (Ok xs) (Ok s) state n e h = rw (served_is e, h xs refl) refl
drawn (Ok xs) (Err r) state n e h = absurd (not_both e)
drawn (Err r) (Ok s) state n e h = absurd (not_both (sym e))
drawn (Err r) (Err q) state n e h = rw (refused_is e) refl

-- a part that is handed back, empty beside a refusal
pub counted_part : {B : Type 0} (o : Outcome (List B)) (answer : Answer) (part : List B) → answer ≡ answer_of o → part ≡ value_or [] o → count_told answer (length part) ≡ count_report_of o
counted_part (Ok xs) answer part e h = rw (e, h) refl
counted_part (Err r) answer part e h = rw e refl

-- the pillar times at or before t are the front of the list that they are of
front : (t : Float) (ts : List Float) → take (length (up_to t ts)) ts ≡ up_to t ts
unfolding up_to
front t [] = refl
front t (x ∷ xs) = go (front t xs) (le x t)
  where
    go : take (length (up_to t xs)) xs ≡ up_to t xs → (b : Bool) → take (length (cond b (x ∷ up_to t xs) [])) (x ∷ xs) ≡ cond b (x ∷ up_to t xs) []
    go rest true = ap (λ (ys : List Float). x ∷ ys) rest
    go rest false = refl

front_of : (a : Answer) (t : Float) (ts : List Float) → let part = value_or [] (after a (Ok (up_to t ts))) in take (length part) ts ≡ part
front_of (Ok tt) t ts = front t ts
front_of (Err r) t ts = refl

pub reached_front : (ts ss : List Float) (t : Float) (n : ℕ) → n ≡ length (value_or [] (reached_outcome ts ss t)) → take n ts ≡ value_or [] (reached_outcome ts ss t)
unfolding reached_outcome
reached_front ts ss t n e = ap (λ (m : ℕ). take m ts) e ∙ front_of (first_of (rules_at ts ss t)) t ts

-- ---- the variances of as many steps as were asked for
module _ (alpha : Float) (ts ss : List Float) (time_step : Float) where
  variances_length : (i n : ℕ) → length (variances_of alpha ts ss time_step i n) ≡ n
  unfolding variances_of
  variances_length i zero = refl
  variances_length i (suc n) = ap suc (variances_length (suc i) n)

  let_through : (a : Answer) (b : Bool) (ys xs : List Float) → after a (cond b (Ok ys) (Err R.Overflow)) ≡ Ok xs → ys ≡ xs
  let_through (Ok tt) true ys xs e = served_is e
  let_through (Ok tt) false ys xs e = absurd (not_both e)
  let_through (Err r) b ys xs e = absurd (not_both e)

  pub steps_length : (steps room : ℕ) (xs : List Float) → transition_outcome alpha ts ss steps time_step room ≡ Ok xs → length xs ≡ steps
  unfolding transition_outcome
  steps_length steps room xs e =
      let ys = variances_of alpha ts ss time_step 0 steps in
      let a = first_of (transition_rules (pillar_faults ts ss) (eqb (length ts) 0) alpha steps room time_step) in
      ap length (sym (let_through a (all_of Finite ys) ys xs e)) ∙ variances_length 0 steps

-- ---- as many draws as there were places
pub drawn_length : (seed n : ℕ) (xs : List Float) → draws_outcome seed n ≡ Ok xs → length xs ≡ n
unfolding draws_outcome
drawn_length seed n xs e = go (first_of (draw_rules seed n)) e
  where
    go : (a : Answer) → after a (Ok (draws_of n seed)) ≡ Ok xs → length xs ≡ n
    go (Ok tt) k = ap length (sym (served_is k)) ∙ draws_length n seed
    go (Err r) k = absurd (not_both k)
