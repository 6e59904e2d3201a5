-- What a call meets and in what order: its rules 1 to 7, with 14 before 7 and 15 behind it; then the times that it needs, rule 8; then what it evaluates, rules 9 to 12, among themselves "in the order of its evaluations"; and last the floats of its answer, rule 13.
use Rattle.std.specs.Prelude.{◌≡◌, ◌↔◌, Bool, true, cond, ◌&&◌, List, [], ◌∷◌, ℕ, ltb, eqb, Float, Ok, Err}
use Rattle.refusals.specs.declared.refusals.Refusal.{Refusal}
use Rattle.refusals.specs.declared.refusals.Refusal.TheVariants as R
use Rattle.refusals.specs.declared.refusals.Rule.{Rule}
use Rattle.refusals.specs.Refusals.{Outcome, place_of, first_of, unless, following}

-- ---- the stages of a call, and the stage of a refusal, which its place decides
pub data Stage : Type 0 where
  -- rules 1 to 7, 14 and 15
  by_rule : Stage
  -- 8
  off_curve : Stage
  -- 9 to 12
  evaluated : Stage
  -- 13
  finished : Stage

abbrev pub stage_at : ℕ → Stage
stage_at place = cond (ltb place (place_of R.OffCurve)) by_rule (cond (eqb place (place_of R.OffCurve)) off_curve (cond (ltb place (place_of R.Overflow)) evaluated finished))

abbrev pub stage_of : Refusal → Stage
stage_of r = stage_at (place_of r)

-- the stages' own order
abbrev pub order_of : Stage → ℕ
order_of by_rule = 1
order_of off_curve = 2
order_of evaluated = 3
order_of finished = 4

-- refused, if at all, by what belongs to the stage
abbrev pub Only : {B : Type 0} → Stage → Outcome B → Type 0
Only s o = (r : Refusal) → o ≡ Err r → stage_of r ≡ s

-- ---- a call in its stages: its rules, the factors found at the times that it needs, what it evaluates on them, and what it answers of that
module _ {W B : Type 0} (rules : List Rule) (found : Outcome (List Float)) (worked : List Float → Outcome W) (answered : W → Outcome B) where
  abbrev pub staged : Outcome B
  staged = unless rules (following found (λ ps. following (worked ps) answered))

  -- a stage refuses by r, all stages before it being served
  abbrev pub RefusedAt : Stage → Refusal → Type 0
  RefusedAt by_rule r = first_of rules ≡ Err r
  RefusedAt off_curve r = (first_of rules ≡ Ok tt) × (found ≡ Err r)
  RefusedAt evaluated r = (first_of rules ≡ Ok tt) × ((ps : List Float) × (found ≡ Ok ps) × (worked ps ≡ Err r))
  RefusedAt finished r = (first_of rules ≡ Ok tt) × ((ps : List Float) × (v : W) × (found ≡ Ok ps) × (worked ps ≡ Ok v) × (answered v ≡ Err r))

  -- what a call meets: it is refused by r exactly where r's own stage refuses so and no stage before it refuses
  pub record Met (o : Outcome B) : Type 0 where
    pub is : o ≡ staged
    pub refused_at : (r : Refusal) → (o ≡ Err r) ↔ RefusedAt (stage_of r) r

-- the rules are those that stand before rule 8
abbrev pub all_rules : List Rule → Bool
all_rules [] = true
all_rules (x ∷ xs) = ltb (place_of x.refusal) (place_of R.OffCurve) && all_rules xs
