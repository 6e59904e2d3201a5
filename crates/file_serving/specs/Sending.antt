-- When the output of a file is sent: every piece of it has been handed to the call that writes, or one of these calls has failed; and what a writer was handed.
use Rattle.std.specs.Prelude.{◌≡◌, refl, Bool, true, false, not, ◌⊎◌, List, ℕ, ◌≤◌, ◌<◌, T, leb, length, take, Option, None}
use Rattle.std.specs.Io.KnownBytes.{Appends}
use Rattle.std.proofs.Common.{sym, ◌∙◌, ap, subst, arith, leb→le, take_all, length-take-le}
use Rattle.std.proofs.Math.Dec.{nleb→lt}
use Rattle.file_layout.specs.Layout.{layout_of, keeps}
use Rattle.file_output.specs.Output.{output_of}
use Rattle.file_output.specs.Pieces.{pieces_of, broken_is}
use Rattle.file_serving.specs.declared.sent.Sent.{Sent}

-- the bytes that were read
abbrev pub file_of : Sent → List ℕ
file_of s = take s.length s.bytes

-- the state is of this file, no more of it was read than there is room for, the piece that is due is the next one, and no write has failed
abbrev pub Due : List ℕ → Sent → ℕ → Type 0
Due file s due = (file_of s ≡ file) × (s.length ≤ 65537) × (s.next ≡ due) × (s.failed ≡ false)

abbrev pub SameFile : Sent → Sent → Type 0
SameFile s t = (t.bytes ≡ s.bytes) × (t.length ≡ s.length)

-- the state is of this file, and all its pieces are sent, or a write has failed
abbrev pub Done : List ℕ → Sent → Type 0
Done file s = (file_of s ≡ file) × ((s.failed ≡ true) ⊎ (s.next ≡ length (pieces_of file)))

-- what a writer holds, where that is known, has grown by the text, or, where a write failed, by a front of it
abbrev pub Handed : Option (List ℕ) → Option (List ℕ) → List ℕ → Bool → Type 0
Handed old new text false = Appends old new text
Handed old new text true = (n : ℕ) × (n ≤ length text) × Appends old new (take n text)

-- ---- "At most 65,536 bytes": the bytes behind the 65,537th change nothing
too_long : (file : List ℕ) → leb (length file) 65536 ≡ false → layout_of file ≡ None
unfolding layout_of keeps
too_long file e = rw e refl

as_read_by : (file : List ℕ) (b : Bool) → leb (length file) 65536 ≡ b → output_of (take 65537 file) ≡ output_of file
as_read_by file true e = let h : length file ≤ 65536 = leb→le (length file) 65536 (subst (λ x. T x) (sym e) tt) in ap output_of (take_all 65537 file (omega (arith, h)))
as_read_by file false e =
    let h : 65536 < length file = nleb→lt (length file) 65536 (subst (λ x. T (not x)) (sym e) tt) in
    let n : length (take 65537 file) ≡ 65537 = length-take-le 65537 file (omega (arith, h)) in
    broken_is (take 65537 file) (too_long (take 65537 file) (rw n refl)) ∙ sym (broken_is file (too_long file e))

pub as_read : (file : List ℕ) → output_of (take 65537 file) ≡ output_of file
as_read file = as_read_by file (leb (length file) 65536) refl
