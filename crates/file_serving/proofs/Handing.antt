-- What writes take of a text, one behind the other, and the pieces of an output as they are handed on. Assumes nothing.
use mathlib.Core.Path.{◌≡◌, refl, sym, ◌∙◌, ap, subst}
use mathlib.Core.Bool.{Bool, true, false}
use mathlib.Core.List.{List, [], ◌∷◌, ◌++◌, append_assoc, append-nil}
use Prim.Native.Nat.{ℕ, zero, suc, ◌+◌, ◌-◌, ◌≤◌, ◌<◌}
use native.Mathlib.Omega.{arith}
use lib.ListN.{length, take, drop, get_or, length-append}
use lib.Seq.{take-append-le, take-append-add, take-add}
use Rattle.std.specs.Prelude.{Option}
use Rattle.std.specs.Io.KnownBytes.{Appends}
use Rattle.std.proofs.lemmas.List.{take_rest}
use Rattle.std.proofs.KnownBytes.{Appends-trans, Appends-nil}
use Rattle.file_output.specs.Output.{output_of}
use Rattle.file_output.specs.Pieces.{joined, pieces_of, piece_of, output_is}
use Rattle.file_serving.specs.Sending.{Handed}

-- ---- writes: of a text, `done` bytes are taken, and then k of the rest
pub taken : (a b c : Option (List ℕ)) (done k : ℕ) (text : List ℕ) → Appends a b (take done text) → Appends b c (take k (take (length text - done) (drop done text))) → Appends a c (take (done + k) text)
taken a b c done k text f s =
    let rest : Appends b c (take k (drop done text)) = subst (λ l. Appends b c (take k l)) (take_rest text done) s in
    subst (Appends a c) (sym (take-add done k text)) (Appends-trans a b c _ _ f rest)

-- ---- one text behind the other: the first is handed on whole, and of the second what `Handed` says
pub handed_behind : (a b c : Option (List ℕ)) (xs ys : List ℕ) (failed : Bool) → Appends a b xs → Handed b c ys failed → Handed a c (xs ++ ys) failed
handed_behind a b c xs ys false f h = Appends-trans a b c xs ys f h
handed_behind a b c xs ys true f (n, fits, h) =
    let l = length-append xs ys in
    (length xs + n, omega (arith, l, fits), subst (Appends a c) (sym (take-append-add xs ys n)) (Appends-trans a b c xs (take n ys) f h))

-- a text that is not whole is a front of a longer one too
pub handed_front : (a b : Option (List ℕ)) (xs ys : List ℕ) (failed : Bool) → failed ≡ true → Handed a b xs failed → Handed a b (xs ++ ys) failed
handed_front a b xs ys false e h = absurd (let z : ◌≡◌ {A = ℕ} 0 1 = cc in let y : ⊥ = omega arith in y)
handed_front a b xs ys true e (n, fits, h) =
    (n, omega (arith, fits, length-append xs ys), subst (Appends a b) (sym (take-append-le n xs ys fits)) h)

pub handed_whole : (a b : Option (List ℕ)) (text : List ℕ) (failed : Bool) → failed ≡ false → Handed a b text failed → Appends a b text
handed_whole a b text false e h = h
handed_whole a b text true e h = absurd (let z : ◌≡◌ {A = ℕ} 0 1 = cc in let y : ⊥ = omega arith in y)

-- ---- the pieces from number k on
pub next_piece : (ps : List (List ℕ)) (k : ℕ) → k < length ps → joined (drop k ps) ≡ get_or ps k [] ++ joined (drop (k + 1) ps)
unfolding joined
next_piece [] k h = absurd (let z : ⊥ = omega arith in z)
next_piece (p ∷ ps) zero h = refl
next_piece (p ∷ ps) (suc k) h = let z : suc k + 1 ≡ suc (k + 1) = omega arith in rw z (next_piece ps k (omega arith))

pub no_piece : (ps : List (List ℕ)) (k : ℕ) → length ps ≤ k → joined (drop k ps) ≡ []
unfolding joined
no_piece [] zero h = refl
no_piece [] (suc k) h = refl
no_piece (p ∷ ps) zero h = absurd (let z : ⊥ = omega arith in z)
no_piece (p ∷ ps) (suc k) h = no_piece ps k (omega arith)

-- what a writer was handed behind the first piece, up to piece k
pub record Behind (old new : Option (List ℕ)) (ps : List (List ℕ)) (k : ℕ) : Type 0 where
  pub text : List ℕ
  pub appended : Appends old new text
  pub split : text ++ joined (drop k ps) ≡ joined (drop 1 ps)

pub begun : (a : Option (List ℕ)) (ps : List (List ℕ)) → Behind a a ps 1
begun a ps = record { text = []; appended = Appends-nil a; split = refl }

module _ (a b c : Option (List ℕ)) (ps : List (List ℕ)) (k : ℕ) (text : List ℕ) (failed : Bool) (f : Behind a b ps k) (h : k < length ps) (e : text ≡ get_or ps k []) (n : Handed b c text failed) where
  more : (f.text ++ text) ++ joined (drop (k + 1) ps) ≡ joined (drop 1 ps)
  more = append_assoc f.text text (joined (drop (k + 1) ps)) ∙ ap (λ l. f.text ++ (l ++ joined (drop (k + 1) ps))) e ∙ ap (λ l. f.text ++ l) (sym (next_piece ps k h)) ∙ f.split

  pub handed_next : failed ≡ false → Behind a c ps (k + 1)
  handed_next z = record { text = f.text ++ text; appended = Appends-trans a b c f.text text f.appended (handed_whole b c text failed z n); split = more }

  pub handed_stopped : failed ≡ true → Handed a c (joined (drop 1 ps)) failed
  handed_stopped z = subst (λ l. Handed a c l failed) more (handed_front a c (f.text ++ text) (joined (drop (k + 1) ps)) failed z (handed_behind a b c f.text text failed f.appended n))

pub handed_all : (a b : Option (List ℕ)) (ps : List (List ℕ)) (k : ℕ) (failed : Bool) → Behind a b ps k → length ps ≤ k → failed ≡ false → Handed a b (joined (drop 1 ps)) failed
handed_all a b ps k failed f h z =
    let e : f.text ≡ joined (drop 1 ps) = sym (append-nil f.text) ∙ ap (λ l. f.text ++ l) (sym (no_piece ps k h)) ∙ f.split in
    rw z (subst (Appends a b) e f.appended)

-- ---- the whole output, from its first piece
module _ (file : List ℕ) (due : ℕ) (text : List ℕ) (z : due ≡ 0) (h : due < length (pieces_of file)) (e : text ≡ piece_of file due) where
  pub whole_output : text ++ joined (drop 1 (pieces_of file)) ≡ output_of file
  whole_output =
      let first : text ≡ piece_of file 0 = rw z at e in
      let some : 0 < length (pieces_of file) = omega arith in
      ap (λ l. l ++ joined (drop 1 (pieces_of file))) first ∙ sym (next_piece (pieces_of file) 0 some) ∙ output_is file

  -- there is no other piece
  pub only_output : length (pieces_of file) ≤ 1 → (a b : Option (List ℕ)) (failed : Bool) → Handed a b text failed → Handed a b (output_of file) failed
  only_output n a b failed m =
      let one : text ≡ output_of file = sym (append-nil text) ∙ ap (λ l. text ++ l) (sym (no_piece (pieces_of file) 1 n)) ∙ whole_output in
      subst (λ l. Handed a b l failed) one m

  pub failed_output : (a b : Option (List ℕ)) (failed : Bool) → failed ≡ true → Handed a b text failed → Handed a b (output_of file) failed
  failed_output a b failed t n = subst (λ l. Handed a b l failed) whole_output (handed_front a b text (joined (drop 1 (pieces_of file))) failed t n)

  pub sent_output : (a b c : Option (List ℕ)) (first failed : Bool) → first ≡ false → Handed a b text first → Handed b c (joined (drop 1 (pieces_of file))) failed → Handed a c (output_of file) failed
  sent_output a b c first failed t n m = subst (λ l. Handed a c l failed) whole_output (handed_behind a b c text (joined (drop 1 (pieces_of file))) failed (handed_whole a b text first t n) m)
