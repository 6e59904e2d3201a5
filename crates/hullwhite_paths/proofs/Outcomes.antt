-- What a path that its rules let through knows: its lengths, and that the times of its pillars and of its curve rise. Assumes nothing.
use Rattle.std.specs.Prelude.{Ok, Err}
use mathlib.Core.Path.{◌≡◌, refl, sym, ◌∙◌}
use mathlib.Core.Bool.{Bool, true, false, not, ◌||◌}
use mathlib.Core.List.{List}
use Prim.Native.Nat.{ℕ, ◌≤◌}
use native.Mathlib.Omega.{arith}
use borrow.Author.Tests.{ltb-false, eqb-true, not-false}
use lib.Dec.{ltb, eqb}
use lib.ListN.{length}
use lib.Ieee.{Float}
use Rattle.refusals.specs.declared.curves.Faults.{Faults}
use Rattle.refusals.specs.declared.refusals.Refusal.{Refusal}
use Rattle.refusals.specs.Refusals.{Outcome, answer_of, first_of, Answer}
use Rattle.refusals.specs.Order.{none_applies}
use Rattle.refusals.specs.Checks.{in_order}
use Rattle.refusals.specs.Faults.{curve_faults, pillar_faults, grid_faults, seeded_grid_faults}
use Rattle.refusals.proofs.Outcomes.{neither}
use Rattle.refusals.proofs.CurveLaws.{curve_rises}
use Rattle.draws.specs.Draws.{reaching}
use Rattle.hullwhite_paths.specs.Generate.{path_rules}
use Rattle.hullwhite_paths.specs.Seeded.{seeded_rules}

-- ---- a path's rules on the faults as they were worked
pub seeded_rules_of : {schedule schedule' curve curve' points points' : Faults} (zero_seed empty several below short : Bool) (alpha : Float) {answer : Answer}
    → schedule ≡ schedule' → curve ≡ curve' → points ≡ points'
    → answer ≡ first_of (seeded_rules schedule curve points zero_seed empty several below short alpha) → answer ≡ first_of (seeded_rules schedule' curve' points' zero_seed empty several below short alpha)
seeded_rules_of zero_seed empty several below short alpha p q r h = rw (← p, ← q, ← r) h

-- ---- rules 1 and 4 did not apply, whatever gives the draws
pub behind : (ps ss ts fs grid : List Float) (points : Faults) (empty several below : Bool) (room : ℕ) (alpha : Float)
    → first_of (path_rules (pillar_faults ps ss) (curve_faults ts fs) points empty several below (ltb room (length grid)) alpha) ≡ Ok tt
    → (points.size ≡ false) × (in_order true ts ≡ true) × (in_order true ps ≡ true) × (length grid ≤ room)
behind ps ss ts fs grid points empty several below room alpha e =
    let schedule = pillar_faults ps ss in
    let curve = curve_faults ts fs in
    let none = (none_applies (path_rules schedule curve points empty several below (ltb room (length grid)) alpha)).0 e in
    let sizes = neither (schedule.size || curve.size || points.size) (ltb room (length grid)) none.0 in
    let orders = neither (schedule.order || curve.order) points.order none.1.1.1.0 in
    let listed = neither schedule.order curve.order orders.0 in
    ((neither (schedule.size || curve.size) points.size sizes.0).1, curve_rises ts fs listed.1, not-false (in_order true ps) listed.0, ltb-false room (length grid) sizes.1)

-- a grid that rule 1 let through, with a draw a point or without draws
pub grid_sized : (grid draws : List Float) → (grid_faults grid draws).size ≡ false → (length grid ≤ 1024) × (length draws ≡ length grid)
grid_sized grid draws e =
    let both = neither (ltb 1024 (length grid)) (not (eqb (length grid) (length draws))) e in
    (ltb-false 1024 (length grid) both.0, sym (eqb-true (length grid) (length draws) (not-false (eqb (length grid) (length draws)) both.1)))

pub seeded_sized : (grid : List Float) → (seeded_grid_faults grid).size ≡ false → length grid ≤ 1024
seeded_sized grid e = ltb-false 1024 (length grid) e

pub grid_fits : (ps ss ts fs grid draws : List Float) (empty several below : Bool) (room : ℕ) (alpha : Float) {answer : Answer}
    → answer ≡ Ok tt → answer ≡ first_of (path_rules (pillar_faults ps ss) (curve_faults ts fs) (grid_faults grid draws) empty several below (ltb room (length grid)) alpha)
    → (length grid ≤ 1024) × (length draws ≡ length grid) × (in_order true ts ≡ true) × (in_order true ps ≡ true) × (length grid ≤ room)
grid_fits ps ss ts fs grid draws empty several below room alpha e h =
    let b = behind ps ss ts fs grid (grid_faults grid draws) empty several below room alpha (sym h ∙ e) in
    let sized = grid_sized grid draws b.0 in
    (sized.0, sized.1, b.1, b.2, b.3)

-- ---- the rules on the draws of a seed: a seed that is not 0 leaves those on listed draws, and so does one that is let through
pub same_rules : (schedule curve points : Faults) (empty several below short : Bool) (alpha : Float)
    → first_of (seeded_rules schedule curve points false empty several below short alpha) ≡ first_of (path_rules schedule curve points empty several below short alpha)
unfolding first_of
same_rules schedule curve points empty several below short alpha = refl

-- what the code asks of listed draws, on the faults as they were worked
pub listed_rules_of : {schedule schedule' curve curve' points points' : Faults} (empty several below short : Bool) (alpha : Float) {answer : Answer}
    → schedule ≡ schedule' → curve ≡ curve' → points ≡ points'
    → answer ≡ first_of (seeded_rules schedule curve points false empty several below short alpha) → answer ≡ first_of (path_rules schedule' curve' points' empty several below short alpha)
unfolding first_of
listed_rules_of empty several below short alpha p q r h = rw (← p, ← q, ← r) h

pub unseeded : (schedule curve points : Faults) (zero_seed empty several below short : Bool) (alpha : Float)
    → first_of (seeded_rules schedule curve points zero_seed empty several below short alpha) ≡ Ok tt → first_of (path_rules schedule curve points empty several below short alpha) ≡ Ok tt
unseeded schedule curve points zero_seed empty several below short alpha e =
    let n = (none_applies (seeded_rules schedule curve points zero_seed empty several below short alpha)).0 e in
    (none_applies (path_rules schedule curve points empty several below short alpha)).1 (n.0, (n.1.0, (n.1.1.0, (n.1.1.1.0, (n.1.1.1.1.0, (n.1.1.1.1.1.0, n.1.1.1.1.1.1.1))))))

pub seeded_fits : (ps ss ts fs grid : List Float) {schedule curve points : Faults} (zero_seed empty several below : Bool) (room : ℕ) (alpha : Float) {answer : Answer}
    → schedule ≡ pillar_faults ps ss → curve ≡ curve_faults ts fs → points ≡ seeded_grid_faults grid
    → answer ≡ Ok tt → answer ≡ first_of (seeded_rules schedule curve points zero_seed empty several below (ltb room (length grid)) alpha)
    → (length grid ≤ 1024) × (in_order true ts ≡ true) × (in_order true ps ≡ true) × (length grid ≤ room)
seeded_fits ps ss ts fs grid zero_seed empty several below room alpha p q r e h =
    let rules = seeded_rules_of zero_seed empty several below (ltb room (length grid)) alpha p q r h in
    let b = behind ps ss ts fs grid (seeded_grid_faults grid) empty several below room alpha (unseeded (pillar_faults ps ss) (curve_faults ts fs) (seeded_grid_faults grid) zero_seed empty several below (ltb room (length grid)) alpha (sym rules ∙ e)) in
    (seeded_sized grid b.0, b.1, b.2, b.3)

-- ---- the state that is told beside what a path came to
pub not_reached : (o : Outcome (List Float)) (state : ℕ) {answer : Answer} {r : Refusal} → answer ≡ Err r → answer ≡ answer_of o → Err r ≡ reaching o state
not_reached (Ok xs) state e h = absurd (let z : ◌≡◌ {A = ℕ} 0 1 = cc in omega arith)
not_reached (Err q) state e h = cc

pub reached : (o : Outcome (List Float)) (state : ℕ) {answer : Answer} → answer ≡ Ok tt → answer ≡ answer_of o → Ok state ≡ reaching o state
reached (Ok xs) state e h = refl
reached (Err q) state e h = absurd (let z : ◌≡◌ {A = ℕ} 0 1 = cc in omega arith)
