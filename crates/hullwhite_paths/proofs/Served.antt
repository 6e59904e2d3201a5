-- What a caller knows of a path that is served: it has a value for each grid point. Assumes nothing.
use Rattle.std.specs.Prelude.{Option, Some, None, Ok, Err}
use mathlib.Core.Path.{◌≡◌, refl, sym, ◌∙◌, ap}
use mathlib.Core.Bool.{Bool, true, false, cond}
use mathlib.Core.List.{List, [], ◌∷◌}
use Prim.Native.Nat.{ℕ, suc}
use native.Mathlib.Omega.{arith}
use lib.Dec.{ltb, eqb}
use lib.ListN.{length}
use lib.Ieee.{Float}
use Rattle.ieee.specs.Rounded.{◌⊕◌}
use Rattle.refusals.specs.declared.refusals.Refusal.{Refusal}
use Rattle.refusals.specs.declared.refusals.Refusal.TheVariants as R
use Rattle.refusals.specs.declared.checks.Test.TheVariants.{Finite}
use Rattle.refusals.specs.Checks.{all_of}
use Rattle.refusals.specs.Refusals.{Outcome, first_of, after, following, prepend, Answer}
use Rattle.curve.specs.Lookups.{factor_at, required, needing, volatility_at}
use Rattle.refusals.specs.Faults.{curve_faults, pillar_faults, grid_faults}
use Rattle.refusals.proofs.Outcomes.{not_both, served_is}
use Rattle.draws.specs.Draws.{draws_of}
use Rattle.draws.proofs.Lists.{draws_length}
use Rattle.hullwhite_formulas.specs.HullWhite.{h, forward_of}
use Rattle.hullwhite_points.specs.declared.walk.State.{State}
use Rattle.hullwhite_points.specs.declared.walk.Centre.{Centre}
use Rattle.hullwhite_transitions.specs.Written.{finishing_list}
use Rattle.hullwhite_points.specs.Path.{state_after, shift_of, path_from, start_state}
use Rattle.hullwhite_paths.specs.Generate.{starts_below, several_for, path_rules, generate_outcome}
use Rattle.hullwhite_paths.specs.Seeded.{seeded_rules_on, seeded_outcome}
use Rattle.hullwhite_paths.proofs.Outcomes.{grid_fits}

-- ---- what is served was let through at each step
after_served : {B : Type 0} (a : Answer) (rest : Outcome B) (v : B) → after a rest ≡ Ok v → (a ≡ Ok tt) × (rest ≡ Ok v)
after_served (Ok tt) rest v e = (refl, e)
after_served (Err r) rest v e = absurd (not_both e)

following_served : {B C : Type 0} (o : Outcome B) (rest : B → Outcome C) (v : C) → following o rest ≡ Ok v → (u : B) × (o ≡ Ok u) × (rest u ≡ Ok v)
following_served (Ok u) rest v e = (u, refl, e)
following_served (Err r) rest v e = absurd (not_both e)

required_served : {B : Type 0} (r : Refusal) (m : Option Float) (rest : Float → Outcome B) (v : B) → required r m rest ≡ Ok v → (x : Float) × (rest x ≡ Ok v)
required_served r (Some x) rest v e = (x, e)
required_served r None rest v e = absurd (not_both e)

prepend_served : (x : Float) (o : Outcome (List Float)) (ys : List Float) → prepend x o ≡ Ok ys → (zs : List Float) × (o ≡ Ok zs) × (x ∷ zs ≡ ys)
prepend_served x (Ok zs) ys e = (zs, refl, served_is e)
prepend_served x (Err r) ys e = absurd (not_both e)

finished : (b : Bool) (ys xs : List Float) → cond b (Ok ys) (Err R.Overflow) ≡ Ok xs → ys ≡ xs
finished true ys xs e = served_is e
finished false ys xs e = absurd (not_both e)

module _ (centre : Centre) (alpha : Float) (ps ss ts fs : List Float) where
  from_length : (s : State) (grid draws ys : List Float) → length draws ≡ length grid → path_from centre alpha ps ss ts fs s grid draws ≡ Ok ys → length ys ≡ length grid
  unfolding path_from
  from_length s [] draws ys same e = ap length (sym (served_is e))
  from_length s (t ∷ grid) [] ys same e = absurd (let z : ⊥ = omega arith in z)
  from_length s (t ∷ grid) (draw ∷ draws) ys same e =
      let a = required_served R.Empty (volatility_at ps ss t) (λ sigma. needing (factor_at ts fs t) (λ p. needing (factor_at ts fs (t ⊕ h)) (λ p_plus. prepend ((state_after alpha sigma t draw s).x ⊕ shift_of centre alpha sigma t (state_after alpha sigma t draw s).variance (forward_of p p_plus)) (path_from centre alpha ps ss ts fs (state_after alpha sigma t draw s) grid draws)))) ys e in
      let next = state_after alpha a.0 t draw s in
      let b = required_served R.OffCurve (factor_at ts fs t) (λ p. needing (factor_at ts fs (t ⊕ h)) (λ p_plus. prepend (next.x ⊕ shift_of centre alpha a.0 t next.variance (forward_of p p_plus)) (path_from centre alpha ps ss ts fs next grid draws))) ys a.1 in
      let d = required_served R.OffCurve (factor_at ts fs (t ⊕ h)) (λ p_plus. prepend (next.x ⊕ shift_of centre alpha a.0 t next.variance (forward_of b.0 p_plus)) (path_from centre alpha ps ss ts fs next grid draws)) ys b.1 in
      let w = prepend_served (next.x ⊕ shift_of centre alpha a.0 t next.variance (forward_of b.0 d.0)) (path_from centre alpha ps ss ts fs next grid draws) ys d.1 in
      let z : length draws ≡ length grid = omega arith in
      rw (← w.2) (ap suc {x = length w.0} (from_length next grid draws w.0 z w.1))

  -- behind the rules
  walked_length : (grid draws xs : List Float) → length draws ≡ length grid → following (path_from centre alpha ps ss ts fs start_state grid draws) finishing_list ≡ Ok xs → length xs ≡ length grid
  walked_length grid draws xs same e =
      let w = following_served (path_from centre alpha ps ss ts fs start_state grid draws) finishing_list xs e in
      ap length (sym (finished (all_of Finite w.0) w.0 xs w.2)) ∙ from_length start_state grid draws w.0 same w.1

  pub path_length : (grid draws : List Float) (room : ℕ) (xs : List Float) → generate_outcome centre alpha ps ss ts fs grid draws room ≡ Ok xs → length xs ≡ length grid
  unfolding generate_outcome
  path_length grid draws room xs e =
      let empty = eqb (length ps) 0 in
      let several = several_for centre (length ps) in
      let below = starts_below grid in
      let rules = path_rules (pillar_faults ps ss) (curve_faults ts fs) (grid_faults grid draws) empty several below (ltb room (length grid)) alpha in
      let a = after_served (first_of rules) (following (path_from centre alpha ps ss ts fs start_state grid draws) finishing_list) xs e in
      walked_length grid draws xs (grid_fits ps ss ts fs grid draws empty several below room alpha a.0 refl).1 a.1

  pub seeded_length : (grid : List Float) (seed room : ℕ) (xs : List Float) → seeded_outcome centre alpha ps ss ts fs grid seed room ≡ Ok xs → length xs ≡ length grid
  unfolding seeded_outcome
  seeded_length grid seed room xs e =
      let draws = draws_of (length grid) seed in
      let a = after_served (first_of (seeded_rules_on centre alpha ps ss ts fs grid seed room)) (following (path_from centre alpha ps ss ts fs start_state grid draws) finishing_list) xs e in
      walked_length grid draws xs (draws_length (length grid) seed) a.1
