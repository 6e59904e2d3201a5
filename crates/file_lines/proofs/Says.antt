-- A line's text has one answer: no space stands in a number, and a number has one spelling. Assumes nothing.
use mathlib.Core.Path.{◌≡◌, refl, sym, ap, ◌∙◌}
use mathlib.Core.Bool.{Bool, true, false, cond}
use mathlib.Core.List.{List, [], ◌∷◌, ◌++◌, append_assoc, head-eq_of_cons-eq, tail-eq_of_cons-eq}
use Prim.Native.Nat.{ℕ, zero, suc, ◌+◌, ◌-◌, ◌*◌, ◌/◌, ◌%◌, ◌^◌, ◌<◌}
use native.Mathlib.Nat.{pow-suc, div-lt_iff_lt-mul}
use native.Mathlib.Omega.{arith}
use borrow.Author.Tests.{ltb-true}
use lib.Dec.{ltb}
use Rattle.file_fields.specs.Fields.{decimal_in, decimal_of, hex_of, ending}
use Rattle.file_lines.specs.Lines.{line_of}
use Rattle.file_lines.specs.Says.{Says}

-- ---- a text in which no space stands
data Spaceless : List ℕ → Type 0 where
  none : Spaceless []
  one : {x : ℕ} {xs : List ℕ} → (x ≡ 32 → ⊥) → Spaceless xs → Spaceless (x ∷ xs)

both : {xs ys : List ℕ} → Spaceless xs → Spaceless ys → Spaceless (xs ++ ys)
both none t = t
both (one h s) t = one h (both s t)

-- two such texts with a space behind each are cut alike
cut : (xs ys r s : List ℕ) → Spaceless xs → Spaceless ys → xs ++ 32 ∷ r ≡ ys ++ 32 ∷ s → (xs ≡ ys) × (r ≡ s)
cut [] [] r s none none e = (refl, tail-eq_of_cons-eq e)
cut [] (y ∷ ys) r s none (one h t) e = absurd (h (sym (head-eq_of_cons-eq e)))
cut (x ∷ xs) [] r s (one h t) none e = absurd (h (head-eq_of_cons-eq e))
cut (x ∷ xs) (y ∷ ys) r s (one h t) (one k u) e =
    let w = cut xs ys r s t u (tail-eq_of_cons-eq e) in
    (λ i. head-eq_of_cons-eq e i ∷ w.0 i, w.1)

-- ---- a number in decimal
choose : (b : Bool) {xs : List ℕ} → Spaceless xs → Spaceless (cond b [] xs)
choose true s = none
choose false s = s

spaceless : (k n : ℕ) → Spaceless (decimal_in k n)
unfolding decimal_in
spaceless zero n = none
spaceless (suc k) n = both (choose (ltb n 10) (spaceless k (n / 10))) (one (λ e. omega arith) none)

-- it is read back from its digits
read : ℕ → List ℕ → ℕ
read n [] = n
read n (x ∷ xs) = read (n * 10 + (x - 48)) xs

read_on : (n : ℕ) (xs ys : List ℕ) → read n (xs ++ ys) ≡ read (read n xs) ys
unfolding read
read_on n [] ys = refl
read_on n (x ∷ xs) ys = read_on (n * 10 + (x - 48)) xs ys

read_back : (k n : ℕ) → n < 10 ^ k → read 0 (decimal_in k n) ≡ n
unfolding read decimal_in
read_back zero n h = let e : 10 ^ 0 ≡ 1 = refl in omega (arith, h, e)
read_back (suc k) n h = read_on 0 (cond (ltb n 10) [] (decimal_in k (n / 10))) ((48 + n % 10) ∷ []) ∙ go (read_back k (n / 10)) (ltb n 10) refl
  where
    less : n / 10 < 10 ^ k
    less = (div-lt_iff_lt-mul {k = 10} {x = n} {y = 10 ^ k} (omega arith)).1 (rw (pow-suc 10 k) at h)

    go : (n / 10 < 10 ^ k → read 0 (decimal_in k (n / 10)) ≡ n / 10) → (t : Bool) → ltb n 10 ≡ t → read (read 0 (cond t [] (decimal_in k (n / 10)))) ((48 + n % 10) ∷ []) ≡ n
    go ih true e = let l : n < 10 = ltb-true n 10 e in omega arith
    go ih false e = rw (ih less) (omega arith)

-- ---- the line
behind : (job kind answer bits note : ℕ) → line_of job kind answer bits note ≡ decimal_of job ++ 32 ∷ (decimal_of kind ++ 32 ∷ (decimal_of answer ++ 32 ∷ (hex_of bits ++ 32 ∷ ending 10 (decimal_of note))))
unfolding line_of
behind job kind answer bits note = simp append_assoc

pub says_one : (job kind answer bits note other : ℕ) → answer < 10 ^ 20 → other < 10 ^ 20 → Says (line_of job kind answer bits note) other → answer ≡ other
says_one job kind answer bits note other h l s =
    let e = sym (behind job kind answer bits note) ∙ s.is ∙ behind s.job s.kind other s.bits s.note in
    let x = cut _ _ _ _ (spaceless 20 job) (spaceless 20 s.job) e in
    let y = cut _ _ _ _ (spaceless 20 kind) (spaceless 20 s.kind) x.1 in
    let z = cut _ _ _ _ (spaceless 20 answer) (spaceless 20 other) y.1 in
    sym (read_back 20 answer h) ∙ ap (read 0) z.0 ∙ read_back 20 other l
