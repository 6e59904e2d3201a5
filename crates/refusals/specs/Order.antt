-- The order of the rules: a call is turned down by a rule exactly where that rule applies and none before it does, and let through exactly where none applies.
use Rattle.std.specs.Prelude.{◌≡◌, refl, ◌⊎◌, ◌↔◌, Bool, true, false, cond, List, [], ◌∷◌, ℕ, Ok, Err}
use Rattle.std.proofs.Common.{ap, ◌∙◌, inl, inr, ⊎_elim, arith}
use Rattle.refusals.specs.declared.refusals.Refusal.{Refusal}
use Rattle.refusals.specs.declared.refusals.Rule.{Rule}
use Rattle.refusals.specs.Refusals.{first_of, and_rule, Answer}

-- the first of the rules that applies is the one of the refusal r
abbrev pub First : Refusal → List Rule → Type 0
First r [] = ⊥
First r (x ∷ xs) = ((x.applies ≡ true) × (x.refusal ≡ r)) ⊎ ((x.applies ≡ false) × First r xs)

-- none of the rules applies
abbrev pub NoneApplies : List Rule → Type 0
NoneApplies [] = Unit
NoneApplies (x ∷ xs) = (x.applies ≡ false) × NoneApplies xs

-- ---- the two theorems
chosen : (b : Bool) (q r : Refusal) (rest : Answer) → cond b (Err q) rest ≡ Err r → ((b ≡ true) × (q ≡ r)) ⊎ ((b ≡ false) × (rest ≡ Err r))
chosen true q r rest h = inl (refl, cc)
chosen false q r rest h = inr (refl, h)

passed : (b : Bool) (q : Refusal) (rest : Answer) → cond b (Err q) rest ≡ Ok tt → (b ≡ false) × (rest ≡ Ok tt)
passed true q rest h = absurd (let z : ◌≡◌ {A = ℕ} 0 1 = cc in let y : ⊥ = omega arith in y)
passed false q rest h = (refl, h)

first_there : (r : Refusal) (xs : List Rule) → first_of xs ≡ Err r → First r xs
unfolding first_of
first_there r [] h = absurd (let z : ◌≡◌ {A = ℕ} 0 1 = cc in let y : ⊥ = omega arith in y)
first_there r (x ∷ xs) h = ⊎_elim (λ e. inl e) (λ e. inr (e.0, first_there r xs e.1)) (chosen x.applies x.refusal r (first_of xs) h)

first_back : (r : Refusal) (xs : List Rule) → First r xs → first_of xs ≡ Err r
unfolding first_of
first_back r [] h = absurd h
first_back r (x ∷ xs) (inl e) = rw (e.0, e.1)
first_back r (x ∷ xs) (inr e) = rw e.0 (first_back r xs e.1)

-- "the first number below that applies"
pub first_applies : (r : Refusal) (xs : List Rule) → (first_of xs ≡ Err r) ↔ First r xs
first_applies r xs = (first_there r xs, first_back r xs)

none_there : (xs : List Rule) → first_of xs ≡ Ok tt → NoneApplies xs
unfolding first_of
none_there [] h = tt
none_there (x ∷ xs) h = let e = passed x.applies x.refusal (first_of xs) h in (e.0, none_there xs e.1)

none_back : (xs : List Rule) → NoneApplies xs → first_of xs ≡ Ok tt
unfolding first_of
none_back [] h = refl
none_back (x ∷ xs) h = rw h.0 (none_back xs h.1)

pub none_applies : (xs : List Rule) → (first_of xs ≡ Ok tt) ↔ NoneApplies xs
none_applies xs = (none_there xs, none_back xs)

-- ---- the rules one after the other, as the code asks them, come to the first that applies
unfoldable pub in_turn : Answer → List Rule → Answer
in_turn before [] = before
in_turn before (x ∷ xs) = in_turn (and_rule before x) xs

settled : (r : Refusal) (xs : List Rule) → in_turn (Err r) xs ≡ Err r
unfolding in_turn and_rule
settled r [] = refl
settled r (x ∷ xs) = settled r xs

turn : (b : Bool) (q : Refusal) (xs : List Rule) → in_turn (Ok tt) xs ≡ first_of xs → in_turn (cond b (Err q) (Ok tt)) xs ≡ cond b (Err q) (first_of xs)
turn true q xs h = settled q xs
turn false q xs h = h

pub in_turn_lem : (xs : List Rule) → in_turn (Ok tt) xs ≡ first_of xs
unfolding in_turn and_rule first_of
in_turn_lem [] = refl
in_turn_lem (x ∷ xs) = turn x.applies x.refusal xs (in_turn_lem xs)

-- rules asked one after the other, each on the answer of those before it
pub data Asked : Answer → List Rule → Answer → Type 0 where
  end : {a : Answer} → Asked a [] a
  ask : {a b c : Answer} {x : Rule} {xs : List Rule} → b ≡ and_rule a x → Asked b xs c → Asked a (x ∷ xs) c

asked_turn : (a : Answer) (xs : List Rule) (c : Answer) → Asked a xs c → c ≡ in_turn a xs
unfolding in_turn
asked_turn a [] c end = refl
asked_turn a (x ∷ xs) c (ask {b = b} e k) = asked_turn b xs c k ∙ ap (λ (y : Answer). in_turn y xs) e

pub asked : (xs : List Rule) (c : Answer) → Asked (Ok tt) xs c → c ≡ first_of xs
asked xs c k = asked_turn (Ok tt) xs c k ∙ in_turn_lem xs
