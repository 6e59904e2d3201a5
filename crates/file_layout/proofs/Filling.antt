-- What reads put into a list, one behind the other. Assumes nothing.
use mathlib.Core.Path.{◌≡◌, sym, ◌∙◌, ap, subst}
use mathlib.Core.List.{List, ◌++◌}
use Prim.Native.Nat.{ℕ, ◌+◌, ◌≤◌}
use lib.ListN.{length, take}
use lib.Seq.{length-take-le, take-append-le, take-append-add}
use Rattle.std.specs.Prelude.{Option}
use Rattle.std.specs.Io.KnownBytes.{Consumes}
use Rattle.std.proofs.KnownBytes.{Consumes-trans}

-- what was lent from place `done` on begins with the first k of ys
take_more : (done k : ℕ) (xs ys : List ℕ) → done ≤ length xs → k ≤ length ys → (zs : List ℕ) → take done xs ++ take k ys ≡ take (done + k) (take done xs ++ (ys ++ zs))
take_more done k xs ys h q zs =
    let e : length (take done xs) ≡ done = length-take-le done xs h in
    let m = take-append-add (take done xs) (ys ++ zs) k in
    let r = take-append-le k ys zs q in
    ap (λ l. take done xs ++ l) (sym r) ∙ sym m ∙ ap (λ n. take (n + k) (take done xs ++ (ys ++ zs))) e

pub filled : (a b c : Option (List ℕ)) (done k : ℕ) (xs ys zs : List ℕ) → done ≤ length xs → k ≤ length ys → Consumes a b (take done xs) → Consumes b c (take k ys) → Consumes a c (take (done + k) (take done xs ++ (ys ++ zs)))
filled a b c done k xs ys zs h q f s = subst (Consumes a c) (take_more done k xs ys h q zs) (Consumes-trans a b c _ _ f s)
