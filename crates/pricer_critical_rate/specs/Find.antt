-- `find_critical_rate` as a call, on terms given by their coefficients, A and B: rules 1 and 2, the search of the priced coupon sum, rule 13.
use Rattle.std.specs.Prelude.{◌≡◌, refl, Bool, true, false, not, ◌&&◌, ◌||◌, cond, List, [], ◌∷◌, ℕ, ltb, eqb, length, Float, Ok, Err}
use Rattle.std.proofs.Common.{arith}
use Rattle.std.specs.Float.Ieee.{le, is_nan, of_bits}
use Rattle.refusals.specs.declared.checks.Test.TheVariants.{Finite}
use Rattle.refusals.specs.declared.refusals.Refusal.{Refusal}
use Rattle.refusals.specs.declared.refusals.Refusal.TheVariants as R
use Rattle.refusals.specs.declared.refusals.Rule.{Rule}
use Rattle.refusals.specs.Refusals.{Outcome, rule, first_of, after, unless, following, Answer}
use Rattle.refusals.specs.Checks.{all_of}
use Rattle.search_sum.specs.Sum.{coupons_onto, coupon_sum}
use Rattle.search.specs.Rate.{rung_of, or_rung, ladder_of, from_ladders, critical_of}
use Rattle.search.specs.declared.Root.{Root}
use Rattle.search.specs.Values.{critical_outcome, root_finite}

-- the rules that a call on terms meets, a line a rule. 1: "A list is over its limit, paired lists differ in length"; there are at most 64 terms, as there are coupons. 2: "An input number is NaN or infinite."
abbrev pub search_rules : List Float → List Float → List Float → List Rule
search_rules cs affs bs =
    rule R.Size (ltb 64 (length cs) || not (eqb (length cs) (length affs)) || not (eqb (length cs) (length bs)))
    ∷ rule R.NotFinite (not (all_of Finite cs && all_of Finite affs && all_of Finite bs))
    ∷ []

-- rule 13
abbrev pub finishing_rate : Root → Outcome Root
finishing_rate v = cond (root_finite v.rate v.bracket) (Ok v) (Err R.Overflow)

-- 1 and 2, the search with 9 and 10 "in the order of its evaluations", then 13
unfoldable pub find_outcome : List Float → List Float → List Float → Outcome Root
find_outcome cs affs bs = unless (search_rules cs affs bs) (following (critical_outcome (critical_of (coupon_sum cs affs bs))) finishing_rate)

-- No terms: rule 7 is asked of coupons in other calls, not of terms here, and the sum is 0 at every rate. The lower ladder has no good rate, so the search is refused by 10.
pub no_terms : find_outcome [] [] [] ≡ Err R.NoBracket
unfolding find_outcome first_of all_of critical_of from_ladders ladder_of or_rung rung_of coupon_sum coupons_onto le is_nan of_bits
no_terms = refl

-- What is served is what the search found.
not_served : {B : Type 0} {v : B} {r : Refusal} → ◌≡◌ {A = Outcome B} (Err r) (Ok v) → ⊥
not_served e = let z : ◌≡◌ {A = ℕ} 0 1 = cc in omega arith

let_through : {B : Type 0} (a : Answer) (rest : Outcome B) {v : B} → after a rest ≡ Ok v → rest ≡ Ok v
let_through (Ok tt) rest e = e
let_through (Err r) rest e = absurd (not_served e)

all_finite_lem : (b : Bool) (w : Root) {v : Root} → cond b (Ok w) (Err R.Overflow) ≡ Ok v → ◌≡◌ {A = Outcome Root} (Ok w) (Ok v)
all_finite_lem true w e = e
all_finite_lem false w e = absurd (not_served e)

finished : (o : Outcome Root) {v : Root} → following o finishing_rate ≡ Ok v → o ≡ Ok v
finished (Ok w) e = all_finite_lem (root_finite w.rate w.bracket) w e
finished (Err r) e = absurd (not_served e)

pub found : (cs affs bs : List Float) {v : Root} → find_outcome cs affs bs ≡ Ok v → critical_outcome (critical_of (coupon_sum cs affs bs)) ≡ Ok v
unfolding find_outcome
found cs affs bs e =
    let o = critical_outcome (critical_of (coupon_sum cs affs bs)) in
    finished o (let_through (first_of (search_rules cs affs bs)) (following o finishing_rate) e)
