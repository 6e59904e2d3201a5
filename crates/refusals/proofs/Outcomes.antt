-- What callers may use of answers: a rule that let the call through did not apply, and what a call promises follows from its rules.
use Rattle.std.specs.Prelude.{Ok, Err}
use mathlib.Core.Path.{◌≡◌, refl, sym, ◌∙◌, ap}
use mathlib.Core.Bool.{Bool, true, false, ◌||◌}
use mathlib.Core.List.{List}
use Prim.Native.Nat.{ℕ}
use native.Mathlib.Omega.{arith}
use lib.Ieee.{Float}
use Rattle.std.specs.Result.{IsErrAnd}
use Rattle.std.proofs.lemmas.Result.{err_from_is_err_and}
use Rattle.refusals.specs.declared.refusals.Refusal.{Refusal}
use Rattle.refusals.specs.declared.refusals.Rule.{Rule}
use Rattle.refusals.specs.Refusals.{Outcome, first_of, after, unless, reported_price, Priced, Answer}

-- ---- neither of two rules applies
pub neither : (a b : Bool) → (a || b) ≡ false → (a ≡ false) × (b ≡ false)
neither true b h = let z : ◌≡◌ {A = ℕ} 0 1 = cc in absurd (let y : ⊥ = omega arith in y)
neither false b h = (refl, h)

-- ---- an answer: `a` is what it is by specs/
pub turned_down : {B : Type 0} (answer : Answer) {a : Answer} {q : Refusal} (rest : Outcome B) → answer ≡ Err q → answer ≡ a → after a rest ≡ Err q
turned_down answer rest e h = rw (← h, e) refl

pub let_through : {B : Type 0} (answer : Answer) {a : Answer} (rest : Outcome B) → answer ≡ Ok tt → answer ≡ a → after a rest ≡ rest
let_through answer rest e h = rw (← h, e) refl

-- two calls with the same rules, where what follows the rules is the same
pub same_unless : {B : Type 0} (rules : List Rule) (x y : Outcome B) → (first_of rules ≡ Ok tt → x ≡ y) → unless rules x ≡ unless rules y
same_unless rules x y e = go (first_of rules) refl
  where
    go : (a : Answer) → first_of rules ≡ a → after (first_of rules) x ≡ after (first_of rules) y
    go (Ok tt) k = rw k (e k)
    go (Err q) k = rw k

-- ---- a call with one value, turned down by its rules or let through
pub priced : (p : Outcome Float) {o : Outcome Float} → p ≡ o → Priced p o
priced p h = record { outcome = h; report = ap reported_price h }

pub priced_refused : (answer : Answer) {a : Answer} {q : Refusal} (rest : Outcome Float) → answer ≡ Err q → answer ≡ a → Priced (Err q) (after a rest)
priced_refused answer rest e h = priced _ (sym (turned_down answer rest e h))

pub priced_served : (answer : Answer) {a : Answer} {p : (Outcome Float)} (rest : Outcome Float) → answer ≡ Ok tt → answer ≡ a → p ≡ rest → Priced p (after a rest)
priced_served answer rest e h is = priced _ (is ∙ sym (let_through answer rest e h))

-- ---- an outcome is served or refused, and not both
pub not_both : {B : Type 0} {v : B} {q : Refusal} → ◌≡◌ {A = Outcome B} (Err q) (Ok v) → ⊥
not_both h = let z : ◌≡◌ {A = ℕ} 0 1 = cc in omega arith

pub served_is : {B : Type 0} {v w : B} → ◌≡◌ {A = Outcome B} (Ok v) (Ok w) → v ≡ w
served_is h = cc

pub refused_is : {B : Type 0} {q r : Refusal} → ◌≡◌ {A = Outcome B} (Err q) (Err r) → q ≡ r
refused_is h = cc

-- ---- a `?` on the rules: it hands their refusal on, or it lets the call through
pub handed_on : {B : Type 0} {q : Refusal} {gave : Outcome B} → IsErrAnd gave (λ r. r ≡ q) → gave ≡ Err q
handed_on {gave = gave} h = let e = err_from_is_err_and gave h in e.1 ∙ ap Err e.2

pub after_refusal : {B : Type 0} {a : Answer} {q : Refusal} {gave : Outcome B} (rest : Outcome B) → ◌≡◌ {A = Answer} (Err q) a → IsErrAnd gave (λ r. r ≡ q) → gave ≡ after a rest
after_refusal rest e h = handed_on h ∙ rw (← e)

pub after_served : {B : Type 0} {a : Answer} {o : Outcome B} (rest : Outcome B) → ◌≡◌ {A = Answer} (Ok tt) a → o ≡ rest → o ≡ after a rest
after_served rest e h = rw (← e) h
