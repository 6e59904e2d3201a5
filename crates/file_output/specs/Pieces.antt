-- The output of every file as the pieces that the program sends one by one: the header or `refused 1`, and then the lines of each job.
use Rattle.std.specs.Prelude.{◌≡◌, Bool, true, false, cond, List, [], ◌∷◌, ◌++◌, eqb, length, get_or, Float, Ok, Err, Option, Some, None}
use Rattle.std.proofs.Math.Path.{refl}
use Rattle.std.proofs.Common.{ap, append-nil}
use Prim.Native.Nat.{ℕ, zero, suc, ◌+◌, ◌*◌, ◌/◌, ◌<◌}
use native.Mathlib.Omega.{arith}
use Rattle.ieee.specs.Numbers as Numbers
use Rattle.refusals.specs.Refusals.{Outcome, number_of}
use Rattle.hullwhite_points.specs.declared.walk.Centre.TheVariants as C
use Rattle.file_layout.specs.declared.parts.Layout.{Layout}
use Rattle.file_layout.specs.declared.records.Job.{Job}
use Rattle.file_layout.specs.Layout.{layout_of}
use Rattle.file_layout.specs.Request.{Request, request_of, job_at, jobs_from}
use Rattle.file_fields.specs.Fields.{bits_of, decimal_of, hex_of, ending}
use Rattle.file_lines.specs.Lines.{header, refused_line, line_of}
use Rattle.file_jobs.specs.Results.{job_result_of}
use Rattle.file_output.specs.Output.{result_line, point_lines, path_lines, path_of, job_lines, lines_from, printed, output_of}

-- the lines of the jobs from job k on, a piece a job
unfoldable pub job_pieces : Request → ℕ → List Job → List (List ℕ)
job_pieces q k [] = []
job_pieces q k (j ∷ js) = job_lines q k j ∷ job_pieces q (suc k) js

abbrev pub pieces_in : List ℕ → Option Layout → List (List ℕ)
pieces_in file None = refused_line ∷ []
pieces_in file (Some l) = let q = request_of file l in header ∷ job_pieces q 0 q.jobs

unfoldable pub pieces_of : List ℕ → List (List ℕ)
pieces_of file = pieces_in file (layout_of file)

-- the piece with the number k, from 0; no bytes behind the last
abbrev pub piece_of : List ℕ → ℕ → List ℕ
piece_of file k = get_or (pieces_of file) k []

-- the pieces one behind the other
unfoldable pub joined : List (List ℕ) → List ℕ
joined [] = []
joined (p ∷ ps) = p ++ joined ps

-- ---- "prints `job kind answer value note`, then a line a job": the pieces in order are the whole output, of every file
lines_are : (q : Request) (k : ℕ) (js : List Job) → joined (job_pieces q k js) ≡ lines_from q k js
unfolding joined job_pieces lines_from
lines_are q k [] = refl
lines_are q k (j ∷ js) = ap (λ rest. job_lines q k j ++ rest) (lines_are q (suc k) js)

laid_is : (file : List ℕ) (laid : Option Layout) → joined (pieces_in file laid) ≡ printed file laid
unfolding joined
laid_is file None = rw append-nil refl
laid_is file (Some l) = ap (λ rest. header ++ rest) (lines_are (request_of file l) 0 (request_of file l).jobs)

pub output_is : (file : List ℕ) → joined (pieces_of file) ≡ output_of file
unfolding pieces_of output_of
output_is file = laid_is file (layout_of file)

-- "then the program prints only `refused 1`"
pub broken_is : (file : List ℕ) → layout_of file ≡ None → output_of file ≡ refused_line
unfolding output_of
broken_is file e = rw e

-- ---- one by one
nth_piece : (q : Request) (file : List ℕ) (n at k i : ℕ) → i < n → get_or (job_pieces q k (jobs_from file at n)) i [] ≡ job_lines q (k + i) (job_at file (at + 40 * i))
unfolding job_pieces jobs_from
nth_piece q file zero at k i h = absurd (let z : ⊥ = omega arith in z)
nth_piece q file (suc n) at k zero h = let y : k + 0 ≡ k = omega arith in let z : at + 40 * 0 ≡ at = omega arith in rw (y, z) refl
nth_piece q file (suc n) at k (suc i) h =
    let y : suc k + i ≡ k + suc i = omega arith in
    let z : at + 40 + 40 * i ≡ at + 40 * suc i = omega arith in
    rw (← y, ← z) (nth_piece q file n (at + 40) (suc k) i (omega arith))

pieces_length : (q : Request) (file : List ℕ) (n at k : ℕ) → length (job_pieces q k (jobs_from file at n)) ≡ n
unfolding job_pieces jobs_from
pieces_length q file zero at k = refl
pieces_length q file (suc n) at k = ap suc (pieces_length q file n (at + 40) (suc k))

module _ (file : List ℕ) (l : Layout) (e : layout_of file ≡ Some l) where
  -- the lines of job k are piece k + 1
  pub job_is : (k : ℕ) → k < l.jobs.length / 40 → piece_of file (suc k) ≡ job_lines (request_of file l) k (job_at file (l.jobs.offset + 40 * k))
  unfolding pieces_of request_of
  job_is k h = let z : 0 + k ≡ k = omega arith in rw e (rw z at (nth_piece (request_of file l) file (l.jobs.length / 40) l.jobs.offset 0 k h))

  pub count_is : length (pieces_of file) ≡ suc (l.jobs.length / 40)
  unfolding pieces_of request_of
  count_is = rw e (ap suc (pieces_length (request_of file l) file (l.jobs.length / 40) l.jobs.offset 0))

  pub header_is : piece_of file 0 ≡ header
  unfolding pieces_of
  header_is = rw e refl

module _ (file : List ℕ) (e : layout_of file ≡ None) where
  pub refused_is : pieces_of file ≡ refused_line ∷ []
  unfolding pieces_of
  refused_is = rw e refl

-- ---- no piece is empty: who asks for one piece after the other knows by the first that has no bytes that all have come
behind : (xs ys : List ℕ) → 0 < length ys → 0 < length (xs ++ ys)
behind [] ys h = h
behind (x ∷ xs) ys h = omega arith

before : (xs ys : List ℕ) → 0 < length xs → 0 < length (xs ++ ys)
before [] ys h = absurd (let z : ⊥ = omega arith in z)
before (x ∷ xs) ys h = omega arith

line_full : (job kind answer bits note : ℕ) → 0 < length (line_of job kind answer bits note)
unfolding line_of
line_full job kind answer bits note = behind (ending 32 (decimal_of job) ++ ending 32 (decimal_of kind) ++ ending 32 (decimal_of answer) ++ ending 32 (hex_of bits)) (ending 10 (decimal_of note)) (behind (decimal_of note) (10 ∷ []) (omega arith))

path_full : (k kind : ℕ) (o : Outcome (List Float)) → 0 < length (path_lines k kind o)
unfolding point_lines
path_full k kind (Ok []) = line_full k kind 0 (bits_of Numbers.zero) 0
path_full k kind (Ok (x ∷ xs)) = before (line_of k kind 0 (bits_of x) 0) (point_lines k kind 1 xs) (line_full k kind 0 (bits_of x) 0)
path_full k kind (Err r) = line_full k kind (number_of r) (bits_of Numbers.zero) 0

either_full : (b : Bool) (xs ys : List ℕ) → 0 < length xs → 0 < length ys → 0 < length (cond b xs ys)
either_full true xs ys h k = h
either_full false xs ys h k = k

job_full : (q : Request) (k : ℕ) (j : Job) → 0 < length (job_lines q k j)
unfolding job_lines
job_full q k j =
    let told = job_result_of q j in
    either_full (eqb j.kind 12) (path_lines k 12 (path_of C.StateVariance q)) _ (path_full k 12 (path_of C.StateVariance q))
    (either_full (eqb j.kind 13) (path_lines k 13 (path_of C.Published q)) (result_line k j.kind told) (path_full k 13 (path_of C.Published q))
    (line_full k j.kind told.answer (bits_of told.value) told.note))

jobs_full : (q : Request) (k i : ℕ) (js : List Job) → i < length (job_pieces q k js) → 0 < length (get_or (job_pieces q k js) i [])
unfolding job_pieces
jobs_full q k i [] h = absurd (let z : ⊥ = omega arith in z)
jobs_full q k zero (j ∷ js) h = job_full q k j
jobs_full q k (suc i) (j ∷ js) h = jobs_full q (suc k) i js (omega arith)

laid_full : (file : List ℕ) (laid : Option Layout) (k : ℕ) → k < length (pieces_in file laid) → 0 < length (get_or (pieces_in file laid) k [])
laid_full file None zero h = omega arith
laid_full file None (suc k) h = absurd (let z : ⊥ = omega arith in z)
laid_full file (Some l) zero h = omega arith
laid_full file (Some l) (suc k) h = let q = request_of file l in jobs_full q 0 k q.jobs (omega arith)

pub never_empty : (file : List ℕ) (k : ℕ) → k < length (pieces_of file) → 0 < length (piece_of file k)
unfolding pieces_of
never_empty file k h = laid_full file (layout_of file) k h
