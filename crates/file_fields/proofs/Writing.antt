-- Texts that are written one behind the other from a place of a buffer.
use mathlib.Core.Path.{◌≡◌, refl, sym, ◌∙◌, ap, ap₂}
use mathlib.Core.List.{List, [], ◌++◌, append_assoc, append-nil}
use Prim.Native.Nat.{ℕ, ◌+◌, ◌-◌, ◌≤◌}
use native.Mathlib.Omega.{arith}
use lib.ListN.{length, take, drop, length-append, length-drop, take-append-drop}
use borrow.Rule.Slice.PartMut.{put_mid}
use lib.Seq.{take_at, drop_at, drop-drop, length-take-le}
use Rattle.std.proofs.lemmas.List.{take_rest, drop_all}
use Rattle.file_fields.specs.Text.{pasted, Begins}
use Rattle.file_fields.specs.Fields.{ending}

-- ---- one text behind the other: what was d begins with t, n bytes
pub record Begun (n : ℕ) (t d out : List ℕ) : Type 0 where
  pub counted : n ≡ length t
  pub within : n ≤ length d
  pub whole : out ≡ t ++ drop n d

pub start : (d : List ℕ) → Begun 0 [] d d
start d = record { counted = refl; within = omega arith; whole = refl }

-- from place `at` on: what stands in front of it stays
pub start_at : (d : List ℕ) (at : ℕ) → at ≤ length d → Begun at (take at d) d d
start_at d at h = record { counted = sym (length-take-le at d h); within = h; whole = sym (take-append-drop at d) }

from_there : (n at : ℕ) (s d out : List ℕ) → at ≤ length d → Begun n (take at d ++ s) d out → (n ≡ at + length s) × (out ≡ pasted d at s)
from_there n at s d out h b =
    let e : n ≡ at + length s = b.counted ∙ length-append (take at d) s ∙ ap (λ (k : ℕ). k + length s) (length-take-le at d h) in
    (e, b.whole ∙ ap (λ (k : ℕ). take at d ++ s ++ drop k d) e)

-- the five fields of a line
pub five_from_there : (n at : ℕ) (a b c e f d out : List ℕ) → at ≤ length d → Begun n (take at d ++ a ++ b ++ c ++ e ++ f) d out → (n ≡ at + length (a ++ b ++ c ++ e ++ f)) × (out ≡ pasted d at (a ++ b ++ c ++ e ++ f))
five_from_there n at a b c e f d out h w =
    from_there n at (a ++ b ++ c ++ e ++ f) d out h (simp append_assoc (simp append_assoc at w))

module _ (n : ℕ) (t d out : List ℕ) where
  pub next : Begun n t d out → (res : ℕ) (s last : List ℕ) → n + length s ≤ length d → res ≡ n + length s → last ≡ pasted out n s → Begun res (t ++ s) d last
  next b res s last h e w = record {
    counted = e ∙ ap (λ (k : ℕ). k + length s) b.counted ∙ sym (length-append t s);
    within = omega (arith, e);
    whole = w ∙ rw (b.whole, e) joined;
  }
    where
      joined : take n (t ++ drop n d) ++ s ++ drop (n + length s) (t ++ drop n d) ≡ t ++ s ++ drop (n + length s) d
      joined =
          let f : take n (t ++ drop n d) ≡ t = take_at t (drop n d) n (sym b.counted) in
          let g : drop n (t ++ drop n d) ≡ drop n d = drop_at t (drop n d) n (sym b.counted) in
          rw (f, ← drop-drop (length s) n (t ++ drop n d), g, drop-drop)

  same_size : Begun n t d out → length out ≡ length d
  same_size b = ap length b.whole ∙ length-append t (drop n d) ∙ rw (length-drop n d) (omega (arith, b.counted, b.within))

  -- a text at the front of the part that stands from place n on
  pub next_part : Begun n t d out → (res : ℕ) (s new : List ℕ) → Begins res s (take (length out - n) (drop n out)) new → length new ≡ length (take (length out - n) (drop n out)) → Begun (n + res) (t ++ s) d (put_mid n (length out - n) out new)
  next_part b res s new w e =
      let same : length out ≡ length d = same_size b in
      let part : take (length out - n) (drop n out) ≡ drop n out = take_rest out n in
      let room : length new ≡ length out - n = e ∙ ap length part ∙ length-drop n out in
      let text : new ≡ s ++ drop res (drop n out) = sym (take-append-drop res new) ∙ ap₂ (λ (x y : List ℕ). x ++ y) w.front (w.rest ∙ ap (drop res) part) in
      let all : drop (length out - n) (drop n out) ≡ [] = drop_all (length out - n) (drop n out) (rw length-drop (omega arith)) in
      let counted : res ≡ length s = w.counted in
      next b (n + res) s _ (omega (arith, w.within, b.within)) (omega arith) (rw (all, append-nil, text, drop-drop, ← counted, append_assoc))

  pub begins : Begun n t d out → Begins n t d out
  begins b = record {
    counted = b.counted;
    within = omega (arith, b.within, same_size b);
    front = rw b.whole (take_at t (drop n d) n (sym b.counted));
    rest = rw b.whole (drop_at t (drop n d) n (sym b.counted));
    part = sym (length-take-le n out (omega (arith, b.within, same_size b)));
  }

-- a text whose first n bytes are put, and then the others with the byte that ends them
pub two_texts : (n res end : ℕ) (u v s d new : List ℕ) → n ≡ length u → n ≤ length d → u ++ v ≡ s
    → Begins res (ending end v) (take (length (u ++ drop n d) - n) (drop n (u ++ drop n d))) new → length new ≡ length (take (length (u ++ drop n d) - n) (drop n (u ++ drop n d)))
    → Begins (n + res) (ending end s) d (put_mid n (length (u ++ drop n d) - n) (u ++ drop n d) new)
two_texts n res end u v s d new c h e w l =
    rw (← e, append_assoc) (begins (n + res) _ d _ (next_part n u d (u ++ drop n d) (record { counted = c; within = h; whole = refl }) res (ending end v) new w l))

-- a text in other words
pub same_text : (n end : ℕ) (text s d out : List ℕ) → text ≡ s → Begins n (ending end text) d out → Begins n (ending end s) d out
same_text n end text s d out e b = rw (← e) b
