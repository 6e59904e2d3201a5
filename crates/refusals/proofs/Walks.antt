-- One turn and the end of a walk along a list: what each definition of specs/ says of the list from place i on.
use mathlib.Core.Path.{◌≡◌, refl}
use mathlib.Core.Bool.{Bool, true, false}
use mathlib.Core.List.{List, [], ◌∷◌, ◌++◌}
use Prim.Native.Nat.{ℕ, zero, suc, ◌+◌, ◌≤◌, ◌<◌}
use native.Mathlib.Omega.{arith}
use native.Mathlib.Nat.{not-suc-le-zero, le_of_suc-le-suc}
use native.Mathlib.Numerals.{add-one}
use lib.ListN.{length, get_or, drop, take, set}
use lib.Seq.{drop-cons, append_snoc, take-suc-set}
use lib.Ieee.{Float, nan}
use Rattle.std.proofs.lemmas.List.{drop_more}
use Rattle.std.proofs.Math.ListN.{drop_of_length-le}
use Rattle.refusals.specs.declared.refusals.Refusal.TheVariants as R
use Rattle.refusals.specs.declared.refusals.Rule.{Rule}
use Rattle.refusals.specs.Refusals.{and_rule, Answer}
use Rattle.refusals.specs.Order.{in_turn}
use Rattle.refusals.specs.declared.checks.Test.{Test}
use Rattle.refusals.specs.Checks.{passes_of, all_of, follows_of, in_order_from, in_order}

-- ---- the list from place i on, and the list up to place i once there is a value at i
pub next : (xs : List Float) (i : ℕ) → i < length xs → drop i xs ≡ get_or xs i nan ∷ drop (i + 1) xs
next xs i h = rw (add-one, drop-cons xs i nan)

pub longer : (out : List Float) (i : ℕ) (v : Float) (rest : List Float) → i < length out → take i out ++ v ∷ rest ≡ take (i + 1) (set out i v) ++ rest
longer out i v rest h = rw (add-one, take-suc-set, append_snoc)

pub done : (xs : List Float) (i : ℕ) → length xs ≤ i → drop i xs ≡ []
done [] zero h = refl
done [] (suc i) h = refl
done (x ∷ xs) zero h = absurd (not-suc-le-zero h)
done (x ∷ xs) (suc i) h = done xs i (le_of_suc-le-suc h)

-- ---- every number passes, whatever the test
module _ (test : Test) (xs : List Float) (i : ℕ) where
  pub all_turn : i < length xs → passes_of test (get_or xs i nan) ≡ true → all_of test (drop i xs) ≡ all_of test (drop (i + 1) xs)
  unfolding all_of
  all_turn h q = rw (next xs i h, q)

  pub all_stop : i < length xs → passes_of test (get_or xs i nan) ≡ false → all_of test (drop i xs) ≡ false
  unfolding all_of
  all_stop h q = rw (next xs i h, q)

  pub all_end : length xs ≤ i → all_of test (drop i xs) ≡ true
  unfolding all_of
  all_end h = rw (done xs i h)

-- ---- every step passes, in either order
module _ (strictly : Bool) (before : Float) (xs : List Float) (i : ℕ) where
  pub order_turn : i < length xs → follows_of strictly before (get_or xs i nan) ≡ true → in_order_from strictly before (drop i xs) ≡ in_order_from strictly (get_or xs i nan) (drop (i + 1) xs)
  unfolding in_order_from
  order_turn h q = rw (next xs i h, q)

  pub order_stop : i < length xs → follows_of strictly before (get_or xs i nan) ≡ false → in_order_from strictly before (drop i xs) ≡ false
  unfolding in_order_from
  order_stop h q = rw (next xs i h, q)

  pub order_end : length xs ≤ i → in_order_from strictly before (drop i xs) ≡ true
  unfolding in_order_from
  order_end h = rw (done xs i h)

pub order_none : (strictly : Bool) (xs : List Float) → length xs ≡ 0 → in_order strictly xs ≡ true
unfolding in_order
order_none strictly [] h = refl
order_none strictly (x ∷ xs) h = absurd (let z : ⊥ = omega arith in z)

pub order_first : (strictly : Bool) (xs : List Float) → (length xs ≡ 0 → ⊥) → in_order_from strictly (get_or xs 0 nan) (drop 1 xs) ≡ in_order strictly xs
unfolding in_order
order_first strictly [] h = absurd (h refl)
order_first strictly (x ∷ xs) h = refl

-- ---- the rules asked in turn, each on the answer of those before it; past the end of them stands one that applies to nothing
abbrev none : Rule
none = record { refusal = R.Size; applies = false }

module _ (rules : List Rule) (i : ℕ) (before : Answer) where
  pub rule_turn : {answer : Answer} → i < length rules → answer ≡ and_rule before (get_or rules i none) → in_turn answer (drop (i + 1) rules) ≡ in_turn before (drop i rules)
  unfolding in_turn
  rule_turn h q = rw (drop_more rules i none h, q)

  pub rules_end : length rules ≤ i → in_turn before (drop i rules) ≡ before
  unfolding in_turn
  rules_end h = rw (drop_of_length-le rules h)
