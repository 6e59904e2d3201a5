-- Document 02, A.5: "Two desks want the same scenario from a seed. The state is a nonzero u64; a step is Marsaglia's xorshift64, left 13, right 7, left 17. A draw adds the top 32 bits of the state after each of twelve steps, takes away 6 × 2^32 and divides by 2^32, all exactly. To be shown: the state never becomes 0, every draw is at least -6 and below 6, and the first n draws do not depend on how many follow. A library call for a path may name a seed in place of its list of draws; run files keep theirs. A zero seed is refused as 14, directly after rule 6."
use Rattle.std.specs.Prelude.{◌≡◌, Bool, true, false, not, ◌&&◌, ◌||◌, ℕ, zero, suc, ◌+◌, ◌*◌, ◌^◌, ◌≤◌, ◌<◌, T, ltb, eqb, length, take, get_or, Float, Ok, Err}
use Rattle.std.proofs.Math.Path.{refl, ap}
use Rattle.std.proofs.Common.{sym, ◌∙◌, arith, eq-eqb, ne_eqb, lt-ltb, le-ltb}
use mathlib.Core.List.{List, [], ◌∷◌, ◌++◌}
use Rattle.std.specs.Float.{binary64, nan}
use Rattle.std.specs.Float.Ieee.{neg, lt, le, of_bits, round, size}
use Rattle.std.specs.Float.Ieee.Scale.{finite}
use Rattle.ieee.specs.Numbers as Numbers
use Rattle.ieee.specs.Decimal.{decimal}
use Rattle.refusals.specs.declared.curves.Faults.{Faults}
use Rattle.refusals.specs.declared.checks.Test.TheVariants.{Finite}
use Rattle.refusals.specs.declared.refusals.Refusal.TheVariants as R
use Rattle.refusals.specs.declared.refusals.Rule.{Rule}
use Rattle.refusals.specs.Refusals.{number_of, place_of, rule, first_of, after, unless, following, Answer}
use Rattle.refusals.specs.Checks.{all_of, in_order}
use Rattle.refusals.specs.Faults.{curve_faults, pillar_faults, grid_faults, seeded_grid_faults}
use Rattle.draws.specs.Xorshift.{left_of, right_of, step_of, steps_of}
use Rattle.draws.specs.Draws.{sum_of, quotient_of, Exactly, draw_of, draws_of, reached_by, draws_outcome}
use Rattle.draws.proofs.Steps.{steps_fit, steps_nonzero}
use Rattle.draws.proofs.Sums.{sum_below}
use Rattle.draws.proofs.Exact.{exactly, draw_at_least, draw_below, draw_finite, draw_no_minus_zero}
use Rattle.draws.proofs.Lists.{draws_length, draws_onward, draws_first, draw_numbered, reached_steps}
use Rattle.hullwhite_points.specs.declared.walk.Centre.{Centre}
use Rattle.hullwhite_points.specs.Path.{start_state, path_from}
use Rattle.hullwhite_transitions.specs.Written.{finishing_list}
use Rattle.hullwhite_paths.specs.Generate.{starts_below, several_for, generate_outcome}
use Rattle.hullwhite_paths.specs.Seeded.{seeded_rules, seeded_outcome}
use Rattle.hullwhite_paths.proofs.Outcomes.{same_rules}
use Rattle.demand_order.specs.Calls.{path_rules_on}
use Rattle.demand_order.proofs.Calls.{path_met, seeded_met}
use Rattle.requests.specs.Asked.{asked_behind, silent_last, never_asked}

-- a seed that is served
pub record Seed (x : ℕ) : Type 0 where
  -- "The state is a nonzero u64"
  pub word : x < 2 ^ 64
  pub nonzero : x ≡ 0 → ⊥

-- ---- "the state never becomes 0": after any number of steps a seed is one again
pub never_zero : (n x : ℕ) → Seed x → Seed (steps_of n x)
never_zero n x s = record { word = steps_fit n x s.word; nonzero = steps_nonzero n x s.word s.nonzero }

-- ---- a draw

-- "all exactly": a draw is the number itself, with the sum of its twelve steps, which is below 12 × 2^32
pub draw_exact : (x : ℕ) → Seed x → (sum_of 12 x < 12 * 2 ^ 32) × Exactly (draw_of x) (sum_of 12 x)
unfolding draw_of
draw_exact x s = let below = sum_below x s.word in (below, exactly (sum_of 12 x) below)

-- "every draw is at least -6 and below 6"
pub draw_between : (x : ℕ) → Seed x → T (le (neg (decimal 6 0)) (draw_of x)) × T (lt (draw_of x) (decimal 6 0))
unfolding draw_of
draw_between x s = let below = sum_below x s.word in (draw_at_least (sum_of 12 x) below, draw_below (sum_of 12 x) below)

-- no draw is -0
pub never_minus_zero : (x : ℕ) → Seed x → draw_of x ≡ neg Numbers.zero → ⊥
unfolding draw_of
never_minus_zero x s = draw_no_minus_zero (sum_of 12 x) (sum_below x s.word)

-- ---- the draws of a seed

-- draw number i is the draw of the state after 12 × i steps, however many there are, and the state reached by n draws is that after 12 × n: so that all that is said above of a draw is said of each
pub each_draw : (n i x : ℕ) → i < n → get_or (draws_of n x) i nan ≡ draw_of (steps_of (12 * i) x)
each_draw = draw_numbered

pub state_reached : (n x : ℕ) → reached_by n x ≡ steps_of (12 * n) x
state_reached = reached_steps

-- so that the state told may be handed on as a seed
pub reached_seed : (n x : ℕ) → Seed x → Seed (reached_by n x)
reached_seed n x s = rw (state_reached n x) (never_zero (12 * n) x s)

-- "the first n draws do not depend on how many follow"
pub first_draws : (n m x : ℕ) → take n (draws_of (n + m) x) ≡ draws_of n x
first_draws = draws_first

-- and what follows goes on from the state reached
pub draws_go_on : (n m x : ℕ) → draws_of (n + m) x ≡ draws_of n x ++ draws_of m (reached_by n x)
draws_go_on = draws_onward

-- what is so of every draw of a list: with the sum of its own twelve steps it is exact, at least -6, below 6, and not -0
pub record Stated (d : Float) (sum : ℕ) : Type 0 where
  pub exact : Exactly d sum
  pub least : T (le (neg (decimal 6 0)) d)
  pub most : T (lt d (decimal 6 0))
  pub no_minus_zero : d ≡ neg Numbers.zero → ⊥

-- ---- "A library call for a path may name a seed in place of its list of draws": with a seed that is served it is the call with those draws listed, refusals included

all_finite_lem : (n x : ℕ) → x < 2 ^ 64 → all_of Finite (draws_of n x) ≡ true
unfolding draws_of draw_of all_of
all_finite_lem zero x b = refl
all_finite_lem (suc n) x b = rw (draw_finite (sum_of 12 x) (sum_below x b), all_finite_lem n (steps_of 12 x) (steps_fit 12 x b)) refl

sure : (a : Bool) → (a && true) ≡ a
sure true = refl
sure false = refl

unless_other : (a : Bool) → (a || not true) ≡ a
unless_other true = refl
unless_other false = refl

same_faults : (grid : List Float) (x : ℕ) → x < 2 ^ 64 → grid_faults grid (draws_of (length grid) x) ≡ seeded_grid_faults grid
same_faults grid x b =
    rw (draws_length (length grid) x, eq-eqb (length grid) (length grid) refl, all_finite_lem (length grid) x b, sure (all_of Finite grid), unless_other (ltb 1024 (length grid))) refl

pub seeded_is_listed : (centre : Centre) (alpha : Float) (ps ss ts fs grid : List Float) (seed room : ℕ) → Seed seed
    → seeded_outcome centre alpha ps ss ts fs grid seed room ≡ generate_outcome centre alpha ps ss ts fs grid (draws_of (length grid) seed) room
unfolding seeded_outcome generate_outcome
seeded_is_listed centre alpha ps ss ts fs grid seed room s =
    let draws = draws_of (length grid) seed in
    let path = following (path_from centre alpha ps ss ts fs start_state grid draws) finishing_list in
    let schedule = pillar_faults ps ss in
    let curve = curve_faults ts fs in
    let none = eqb (length ps) 0 in
    let several = several_for centre (length ps) in
    let below = starts_below grid in
    let short = ltb room (length grid) in
    ap (λ (b : Bool). unless (seeded_rules schedule curve (seeded_grid_faults grid) b none several below short alpha) path) (ne_eqb seed 0 s.nonzero)
    ∙ ap (λ (points : Faults). unless (seeded_rules schedule curve points false none several below short alpha) path) (sym (same_faults grid seed s.word))
    ∙ ap (λ (a : Answer). after a path) (same_rules schedule curve (grid_faults grid draws) none several below short alpha)

-- ---- "A zero seed is refused as 14, directly after rule 6."
module _ (centre : Centre) (alpha : Float) (ps ss ts fs grid : List Float) (room : ℕ) where
  -- rules 1 to 6 of a path on the draws of a seed
  abbrev pub six_rules : List Rule
  six_rules =
      rule R.Size ((pillar_faults ps ss).size || (curve_faults ts fs).size || ltb 1024 (length grid) || ltb room (length grid))
      ∷ rule R.NotFinite ((pillar_faults ps ss).not_finite || (curve_faults ts fs).not_finite || not (all_of Finite grid) || not (finite alpha))
      ∷ rule R.MeanReversion (le alpha Numbers.zero)
      ∷ rule R.Order ((pillar_faults ps ss).order || (curve_faults ts fs).order || not (in_order false grid))
      ∷ rule R.Times (starts_below grid)
      ∷ rule R.Domain ((pillar_faults ps ss).domain || (curve_faults ts fs).domain)
      ∷ []

  -- with a zero seed what rules 1 to 6 let through is refused by 14, whatever else there is: no pillars, several, an empty grid
  pub zero_seed_lem : seeded_outcome centre alpha ps ss ts fs grid 0 room ≡ unless six_rules (Err R.ZeroSeed)
  unfolding seeded_outcome first_of
  zero_seed_lem =
      asked_behind six_rules R.ZeroSeed (rule R.Empty (eqb (length ps) 0) ∷ rule R.SeveralPillars (several_for centre (length ps)) ∷ []) [] (following (path_from centre alpha ps ss ts fs start_state grid (draws_of (length grid) 0)) finishing_list) refl
      ∙ ap (λ (a : Answer). after a (Err R.ZeroSeed)) (silent_last six_rules R.ZeroSeed)

  -- and with any other seed never
  pub seed_let_through : (seed : ℕ) → (seed ≡ 0 → ⊥) → seeded_outcome centre alpha ps ss ts fs grid seed room ≡ Err R.ZeroSeed → ⊥
  seed_let_through seed s e =
      let rules : Bool → List Rule = λ zero_seed. seeded_rules (pillar_faults ps ss) (curve_faults ts fs) (seeded_grid_faults grid) zero_seed (eqb (length ps) 0) (several_for centre (length ps)) (starts_below grid) (ltb room (length grid)) alpha in
      never_asked (rules false) R.ZeroSeed tt (ap (λ (b : Bool). first_of (rules b)) (sym (ne_eqb seed 0 s)) ∙ ((seeded_met centre alpha ps ss ts fs grid seed room).refused_at R.ZeroSeed).0 e)

  -- "run files keep theirs": a path on listed draws is never refused so
  pub listed_never : (draws : List Float) → generate_outcome centre alpha ps ss ts fs grid draws room ≡ Err R.ZeroSeed → ⊥
  listed_never draws e = never_asked (path_rules_on centre alpha ps ss ts fs grid draws room) R.ZeroSeed tt (((path_met centre alpha ps ss ts fs grid draws room).refused_at R.ZeroSeed).0 e)

-- "as 14, directly after rule 6": nothing stands between 6 and 14, and 7 is behind it
pub fourteen_behind_six : (number_of R.ZeroSeed ≡ 14) × (place_of R.ZeroSeed ≡ suc (place_of R.Domain)) × (place_of R.ZeroSeed < place_of R.Empty)
fourteen_behind_six = (refl, refl, omega arith)

-- ---- draws alone: more than 1,024 are over the limit, from any seed, then 14
pub too_many : (seed n : ℕ) → 1024 < n → draws_outcome seed n ≡ Err R.Size
unfolding draws_outcome first_of
too_many seed n h = rw (lt-ltb 1024 n h) refl

pub drawn_alone : (seed n : ℕ) → n ≤ 1024 → Seed seed → draws_outcome seed n ≡ Ok (draws_of n seed)
unfolding draws_outcome first_of
drawn_alone seed n h s = rw (le-ltb 1024 n h, ne_eqb seed 0 s.nonzero) refl

pub no_draws : (n : ℕ) → n ≤ 1024 → draws_outcome 0 n ≡ Err R.ZeroSeed
unfolding draws_outcome first_of
no_draws n h = rw (le-ltb 1024 n h) refl

-- ---- worked: Marsaglia's own seed, three steps, and the first draw of seed 1
pub steps_worked : (step_of 88172645463325252 ≡ 8748534153485358512) × (steps_of 2 88172645463325252 ≡ 3040900993826735515) × (steps_of 3 88172645463325252 ≡ 3453997556048239312)
unfolding step_of steps_of left_of right_of
steps_worked = (refl, refl, refl)

pub draws_worked : draws_of 1 1 ≡ of_bits binary64 0x3fe0_5f91_efa0_0000 ∷ []
unfolding draws_of draw_of sum_of step_of left_of right_of quotient_of round size of_bits
draws_worked = refl
