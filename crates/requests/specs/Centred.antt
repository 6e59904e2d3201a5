-- Document 02, A.6: "The shift in document 01 is the Rust's; Brigo and Mercurio have another. Kind 13 is a path whose shift is f + 0.5 × (g × g), with g = (sigma/alpha) × (1 - exp((-alpha) × t)) and f as before. It serves one pillar only. Kind 12 goes on as the Rust has it, and kind 13 is judged by this formula alone. No pillars meet rule 7; more than one in kind 13 is refused as 15, directly after it." That no pillars meet rule 7 in either kind: `path_wants_pillars` in NoPillars.
use Rattle.std.specs.Prelude.{◌≡◌, ◌↔◌, Bool, true, false, cond, not, ◌||◌, ℕ, suc, ◌<◌, ltb, eqb, Option, Some, None, Ok, Err}
use Rattle.std.proofs.Math.Path.{refl}
use Rattle.std.proofs.Common.{ap, ◌∙◌, arith}
use Rattle.std.proofs.lemmas.Bool.{false≢true}
use mathlib.Core.List.{List, [], ◌∷◌, ◌++◌}
use borrow.Author.Tests.{ltb-true, ltb-false, eqb-true, eqb-false, lt-ltb, not-false}
use Rattle.std.proofs.Math.ListN.{length}
use Rattle.std.specs.Float.Ieee.{Float, add, sub, mul, div, neg, lt, le, eq, ne, is_nan, of_int, of_bits, size}
use Rattle.std.specs.Float.{binary64}
use Rattle.std.specs.Float.Ieee.Scale.{finite}
use Rattle.ieee.specs.Rounded.{◌⊕◌}
use Rattle.ieee.specs.Numbers.{zero, half}
use Rattle.ieee.specs.Decimal.{decimal}
use Rattle.ieee.specs.Fused.{fused_of}
use Rattle.math_exponential.specs.Exp.{exp_of, nearest_whole, series_of}
use Rattle.refusals.specs.declared.refusals.Refusal.TheVariants as R
use Rattle.refusals.specs.declared.refusals.Rule.{Rule}
use Rattle.refusals.specs.Refusals.{Outcome, place_of, rule, first_of, after, unless, following, prepend, Answer}
use Rattle.refusals.specs.Order.{none_applies}
use Rattle.refusals.specs.Faults.{curve_faults, pillar_faults, grid_faults}
use Rattle.refusals.proofs.Outcomes.{not_both, neither}
use Rattle.curve.specs.Lookups.{factor_at, needing, required, volatility_at, last_at}
use Rattle.hullwhite_formulas.specs.HullWhite.{h, forward_of}
use Rattle.hullwhite_transitions.specs.Written.{finishing_list}
use Rattle.hullwhite_points.specs.declared.walk.State.{State}
use Rattle.hullwhite_points.specs.declared.walk.Centre.{Centre}
use Rattle.hullwhite_points.specs.declared.walk.Centre.TheVariants as C
use Rattle.hullwhite_points.specs.Path.{start_state, state_after, generate_shift_of, published_shift_of, shift_of, path_from}
use Rattle.hullwhite_paths.specs.Generate.{starts_below, generate_outcome}
use Rattle.demand_order.proofs.Calls.{path_met}
use Rattle.requests.specs.Asked.{silent_last, let_through, asked_last_first}

-- ---- both kinds differ in the shift alone: `shift_alone` and `centred` of proofs/Centred.antt

-- a point of a path ahead of its shift: the state reached there, the volatility and the forward
pub record Point : Type 0 where
  pub state : State
  pub sigma : Float
  pub forward : Float

abbrev pub onto : Point → Outcome (List Point) → Outcome (List Point)
onto point (Ok points) = Ok (point ∷ points)
onto point (Err r) = Err r

-- the points of the grid that is left, from the state s, each with its draw: no centre has a part in them
unfoldable pub points_from : Float → List Float → List Float → List Float → List Float → State → List Float → List Float → Outcome (List Point)
points_from alpha ps ss ts fs s [] draws = Ok []
points_from alpha ps ss ts fs s (t ∷ grid) [] = Ok []
points_from alpha ps ss ts fs s (t ∷ grid) (draw ∷ draws) =
    required R.Empty (volatility_at ps ss t) (λ sigma.
    needing (factor_at ts fs t) (λ p.
    needing (factor_at ts fs (t ⊕ h)) (λ p_plus.
    let next = state_after alpha sigma t draw s in
    onto (record { state = next; sigma = sigma; forward = forward_of p p_plus }) (points_from alpha ps ss ts fs next grid draws))))

-- the rate at a point, and at each
abbrev pub rate_at : Centre → Float → Point → Float
rate_at centre alpha point = point.state.x ⊕ shift_of centre alpha point.sigma point.state.t point.state.variance point.forward

unfoldable pub rates_of : Centre → Float → List Point → List Float
rates_of centre alpha [] = []
rates_of centre alpha (point ∷ points) = rate_at centre alpha point ∷ rates_of centre alpha points

-- ---- "Kind 12 goes on as the Rust has it": document 01's path as it stood, with its seven rules

-- "the shift is the forward plus half the state variance, as in `generate`"
unfoldable pub generated_from : Float → List Float → List Float → List Float → List Float → State → List Float → List Float → Outcome (List Float)
generated_from alpha ps ss ts fs s [] draws = Ok []
generated_from alpha ps ss ts fs s (t ∷ grid) [] = Ok []
generated_from alpha ps ss ts fs s (t ∷ grid) (draw ∷ draws) =
    required R.Empty (volatility_at ps ss t) (λ sigma.
    needing (factor_at ts fs t) (λ p.
    needing (factor_at ts fs (t ⊕ h)) (λ p_plus.
    let next = state_after alpha sigma t draw s in
    prepend (next.x ⊕ fused_of half next.variance (forward_of p p_plus)) (generated_from alpha ps ss ts fs next grid draws))))

same_points : (alpha : Float) (ps ss ts fs : List Float) (s : State) (grid draws : List Float) → path_from C.StateVariance alpha ps ss ts fs s grid draws ≡ generated_from alpha ps ss ts fs s grid draws
unfolding path_from generated_from generate_shift_of
same_points alpha ps ss ts fs s [] draws = refl
same_points alpha ps ss ts fs s (t ∷ grid) [] = refl
same_points alpha ps ss ts fs s (t ∷ grid) (draw ∷ draws) = found (volatility_at ps ss t) (λ sigma. same_points alpha ps ss ts fs (state_after alpha sigma t draw s) grid draws)
  where
    rate : Float → Float → Float → Float
    rate sigma p p_plus = let next = state_after alpha sigma t draw s in next.x ⊕ fused_of half next.variance (forward_of p p_plus)

    found : (v : Option Float) → ((sigma : Float) → path_from C.StateVariance alpha ps ss ts fs (state_after alpha sigma t draw s) grid draws ≡ generated_from alpha ps ss ts fs (state_after alpha sigma t draw s) grid draws)
        → required R.Empty v (λ sigma. needing (factor_at ts fs t) (λ p. needing (factor_at ts fs (t ⊕ h)) (λ p_plus. prepend (rate sigma p p_plus) (path_from C.StateVariance alpha ps ss ts fs (state_after alpha sigma t draw s) grid draws))))
        ≡ required R.Empty v (λ sigma. needing (factor_at ts fs t) (λ p. needing (factor_at ts fs (t ⊕ h)) (λ p_plus. prepend (rate sigma p p_plus) (generated_from alpha ps ss ts fs (state_after alpha sigma t draw s) grid draws))))
    found (Some sigma) later = rw (later sigma)
    found None later = refl

-- ---- "It serves one pillar only.": kind 13 with one pillar, its sigma the volatility at every time

pub one_sigma : (time sigma t : Float) → volatility_at (time ∷ []) (sigma ∷ []) t ≡ Some sigma
unfolding volatility_at last_at
one_sigma time sigma t = either (le time t)
  where
    either : (b : Bool) → Some (cond b sigma sigma) ≡ Some sigma
    either true = refl
    either false = refl

-- "a path whose shift is f + 0.5 × (g × g)", on one sigma
unfoldable pub published_from : Float → Float → List Float → List Float → State → List Float → List Float → Outcome (List Float)
published_from alpha sigma ts fs s [] draws = Ok []
published_from alpha sigma ts fs s (t ∷ grid) [] = Ok []
published_from alpha sigma ts fs s (t ∷ grid) (draw ∷ draws) =
    needing (factor_at ts fs t) (λ p.
    needing (factor_at ts fs (t ⊕ h)) (λ p_plus.
    let next = state_after alpha sigma t draw s in
    prepend (next.x ⊕ published_shift_of alpha sigma t (forward_of p p_plus)) (published_from alpha sigma ts fs next grid draws)))

on_one_sigma : (alpha time sigma : Float) (ts fs : List Float) (s : State) (grid draws : List Float) → path_from C.Published alpha (time ∷ []) (sigma ∷ []) ts fs s grid draws ≡ published_from alpha sigma ts fs s grid draws
unfolding path_from published_from
on_one_sigma alpha time sigma ts fs s [] draws = refl
on_one_sigma alpha time sigma ts fs s (t ∷ grid) [] = refl
on_one_sigma alpha time sigma ts fs s (t ∷ grid) (draw ∷ draws) = rw (one_sigma time sigma t, on_one_sigma alpha time sigma ts fs (state_after alpha sigma t draw s) grid draws)

one_listed : (xs : List Float) → length xs ≡ 1 → (x : Float) × (xs ≡ x ∷ [])
one_listed [] e = absurd (let z : ⊥ = omega arith in z)
one_listed (x ∷ []) e = (x, refl)
one_listed (x ∷ y ∷ ys) e = absurd (let z : ⊥ = omega arith in z)

passed : {B : Type 0} (a : Answer) (rest : Outcome B) (v : B) → after a rest ≡ Ok v → a ≡ Ok tt
passed (Ok tt) rest v e = refl
passed (Err r) rest v e = absurd (not_both e)

-- ---- the calls
module _ (alpha : Float) (ps ss ts fs grid draws : List Float) (room : ℕ) where
  -- document 01's rules of a path, 1 to 7, which both kinds meet
  abbrev pub seven_rules : List Rule
  seven_rules =
      rule R.Size ((pillar_faults ps ss).size || (curve_faults ts fs).size || (grid_faults grid draws).size || ltb room (length grid))
      ∷ rule R.NotFinite ((pillar_faults ps ss).not_finite || (curve_faults ts fs).not_finite || (grid_faults grid draws).not_finite || not (finite alpha))
      ∷ rule R.MeanReversion (le alpha zero)
      ∷ rule R.Order ((pillar_faults ps ss).order || (curve_faults ts fs).order || (grid_faults grid draws).order)
      ∷ rule R.Times (starts_below grid)
      ∷ rule R.Domain ((pillar_faults ps ss).domain || (curve_faults ts fs).domain)
      ∷ rule R.Empty (eqb (length ps) 0)
      ∷ []

  -- "Kind 12 goes on as the Rust has it": its outcome is what it was, on any input
  pub kind_twelve : generate_outcome C.StateVariance alpha ps ss ts fs grid draws room ≡ unless seven_rules (following (generated_from alpha ps ss ts fs start_state grid draws) finishing_list)
  unfolding generate_outcome
  kind_twelve =
      ap (λ (a : Answer). after a (following (path_from C.StateVariance alpha ps ss ts fs start_state grid draws) finishing_list)) (silent_last seven_rules R.SeveralPillars)
      ∙ ap (λ (o : Outcome (List Float)). unless seven_rules (following o finishing_list)) (same_points alpha ps ss ts fs start_state grid draws)

  -- "It serves one pillar only.": what is served has one pillar, with one sigma
  pub one_pillar : {v : List Float} → generate_outcome C.Published alpha ps ss ts fs grid draws room ≡ Ok v → (time : Float) × (sigma : Float) × (ps ≡ time ∷ []) × (ss ≡ sigma ∷ [])
  unfolding generate_outcome
  one_pillar {v} e =
      let none = (none_applies (seven_rules ++ (rule R.SeveralPillars (ltb 1 (length ps)) ∷ []))).0 (passed _ _ v e) in
      let some = eqb-false (length ps) 0 none.1.1.1.1.1.1.0 in
      let few = ltb-false 1 (length ps) none.1.1.1.1.1.1.1.0 in
      let lists = (neither ((pillar_faults ps ss).size || (curve_faults ts fs).size || (grid_faults grid draws).size) (ltb room (length grid)) none.0).0 in
      let two = (neither ((pillar_faults ps ss).size || (curve_faults ts fs).size) (grid_faults grid draws).size lists).0 in
      let size = (neither (pillar_faults ps ss).size (curve_faults ts fs).size two).0 in
      let paired = eqb-true (length ps) (length ss) (not-false (eqb (length ps) (length ss)) (neither (ltb 64 (length ps)) (not (eqb (length ps) (length ss))) size).1) in
      let time = one_listed ps (omega (arith, some, few)) in
      let sigma = one_listed ss (omega (arith, some, few, paired)) in
      (time.0, sigma.0, time.1, sigma.1)

  -- "more than one in kind 13 is refused as 15, directly after it": exactly where rules 1 to 7 let the call through
  pub fifteen : (generate_outcome C.Published alpha ps ss ts fs grid draws room ≡ Err R.SeveralPillars) ↔ ((first_of seven_rules ≡ Ok tt) × (1 < length ps))
  unfolding generate_outcome first_of
  fifteen = (there, back)
    where
      there : generate_outcome C.Published alpha ps ss ts fs grid draws room ≡ Err R.SeveralPillars → (first_of seven_rules ≡ Ok tt) × (1 < length ps)
      there e =
          let both = asked_last_first seven_rules R.SeveralPillars (ltb 1 (length ps)) tt (((path_met C.Published alpha ps ss ts fs grid draws room).refused_at R.SeveralPillars).0 e) in
          (both.0, ltb-true 1 (length ps) both.1)

      back : (first_of seven_rules ≡ Ok tt) × (1 < length ps) → generate_outcome C.Published alpha ps ss ts fs grid draws room ≡ Err R.SeveralPillars
      back e = ap (λ (a : Answer). after a (following (path_from C.Published alpha ps ss ts fs start_state grid draws) finishing_list))
          (let_through seven_rules (rule R.SeveralPillars (ltb 1 (length ps)) ∷ []) e.0 ∙ ap (λ (b : Bool). cond b (Err R.SeveralPillars) (Ok tt)) (lt-ltb 1 (length ps) e.1))

  -- and never in kind 12
  pub twelve_never : generate_outcome C.StateVariance alpha ps ss ts fs grid draws room ≡ Err R.SeveralPillars → ⊥
  twelve_never e = false≢true (asked_last_first seven_rules R.SeveralPillars false tt (((path_met C.StateVariance alpha ps ss ts fs grid draws room).refused_at R.SeveralPillars).0 e)).1

  -- more than 64 pillars are "over its limit" in both kinds, before anything else is asked
  pub over_the_limit : (centre : Centre) → 64 < length ps → generate_outcome centre alpha ps ss ts fs grid draws room ≡ Err R.Size
  unfolding generate_outcome first_of
  over_the_limit centre many = rw (lt-ltb 64 (length ps) many)

-- "Kind 13 is a path whose shift is f + 0.5 × (g × g)": with one pillar, the seven rules, and then the walk on its sigma with that shift, on any input
pub kind_thirteen : (alpha time sigma : Float) (ts fs grid draws : List Float) (room : ℕ)
    → generate_outcome C.Published alpha (time ∷ []) (sigma ∷ []) ts fs grid draws room ≡ unless (seven_rules alpha (time ∷ []) (sigma ∷ []) ts fs grid draws room) (following (published_from alpha sigma ts fs start_state grid draws) finishing_list)
unfolding generate_outcome
kind_thirteen alpha time sigma ts fs grid draws room =
    ap (λ (a : Answer). after a (following (path_from C.Published alpha (time ∷ []) (sigma ∷ []) ts fs start_state grid draws) finishing_list)) (silent_last (seven_rules alpha (time ∷ []) (sigma ∷ []) ts fs grid draws room) R.SeveralPillars)
    ∙ ap (λ (o : Outcome (List Float)). unless (seven_rules alpha (time ∷ []) (sigma ∷ []) ts fs grid draws room) (following o finishing_list)) (on_one_sigma alpha time sigma ts fs start_state grid draws)

-- "directly after it": 15 stands between 7 and 8, and nothing between them and it
pub directly_after : (place_of R.SeveralPillars ≡ suc (place_of R.Empty)) × (place_of R.OffCurve ≡ suc (place_of R.SeveralPillars))
directly_after = (refl, refl)

-- a worked input, alpha 0.02, sigma 0.103, t = 14.9 and f = 0.018, at which g × g fused into the sum, a division behind the product, the model's B and exp_m1 would each give other bits
pub shift_worked : published_shift_of (decimal 2 2) (decimal 103 3) (decimal 149 1) (decimal 18 3) ≡ of_bits binary64 0x3fec_c1d4_cc28_6572
unfolding published_shift_of exp_of nearest_whole series_of decimal add sub mul div neg lt le eq ne is_nan of_int of_bits size
shift_worked = refl
