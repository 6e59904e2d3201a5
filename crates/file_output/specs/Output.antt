-- The bytes that the program must print, for every file. Document 01: "The program reads standard input and prints `job kind answer value note`, then a line a job".
use Rattle.std.specs.Prelude.{ℕ, suc, cond, List, [], ◌∷◌, ◌++◌, eqb, length, Float, Ok, Err, Option, Some, None}
use Rattle.ieee.specs.Numbers as Numbers
use Rattle.refusals.specs.Refusals.{Outcome, number_of}
use Rattle.hullwhite_points.specs.declared.walk.Centre.{Centre}
use Rattle.hullwhite_points.specs.declared.walk.Centre.TheVariants as C
use Rattle.hullwhite_paths.specs.Generate.{generate_outcome}
use Rattle.file_layout.specs.declared.parts.Layout.{Layout}
use Rattle.file_layout.specs.declared.records.Job.{Job}
use Rattle.file_layout.specs.Layout.{layout_of}
use Rattle.file_layout.specs.Request.{Request, request_of}
use Rattle.file_fields.specs.Fields.{bits_of}
use Rattle.file_lines.specs.Lines.{header, refused_line, line_of}
use Rattle.file_jobs.specs.declared.results.JobResult.{JobResult}
use Rattle.file_jobs.specs.Results.{job_result_of}

-- kinds 1 to 11: one line
abbrev pub result_line : ℕ → ℕ → JobResult → List ℕ
result_line k kind t = line_of k kind t.answer (bits_of t.value) t.note

-- "A served path prints a line a grid point, the note being the point from 0"
unfoldable pub point_lines : ℕ → ℕ → ℕ → List Float → List ℕ
point_lines k kind i [] = []
point_lines k kind i (x ∷ xs) = line_of k kind 0 (bits_of x) i ++ point_lines k kind (suc i) xs

-- "an empty grid is served with one line of zeros"; so is a refusal, beside its number
abbrev pub path_lines : ℕ → ℕ → Outcome (List Float) → List ℕ
path_lines k kind (Ok []) = line_of k kind 0 (bits_of Numbers.zero) 0
path_lines k kind (Ok (x ∷ xs)) = point_lines k kind 0 (x ∷ xs)
path_lines k kind (Err r) = line_of k kind (number_of r) (bits_of Numbers.zero) 0

-- the path of a request; its output has a place for each grid point
abbrev pub path_of : Centre → Request → Outcome (List Float)
path_of centre q = generate_outcome centre q.alpha q.pillar_times q.pillar_sigmas q.curve_times q.curve_factors q.grid_times q.draws (length q.grid_times)

-- the lines of job k, which is j: "12 path"; document 02, A.6: "Kind 13 is a path whose shift is f + 0.5 × (g × g)"
unfoldable pub job_lines : Request → ℕ → Job → List ℕ
job_lines q k j =
    cond (eqb j.kind 12) (path_lines k 12 (path_of C.StateVariance q))
    (cond (eqb j.kind 13) (path_lines k 13 (path_of C.Published q))
    (result_line k j.kind (job_result_of q j)))

-- the lines of the jobs from job k on
unfoldable pub lines_from : Request → ℕ → List Job → List ℕ
lines_from q k [] = []
lines_from q k (j ∷ js) = job_lines q k j ++ lines_from q (suc k) js

-- "then the program prints only `refused 1`"
abbrev pub printed : List ℕ → Option Layout → List ℕ
printed file None = refused_line
printed file (Some l) = let q = request_of file l in header ++ lines_from q 0 q.jobs

-- what the program prints for a file
unfoldable pub output_of : List ℕ → List ℕ
output_of file = printed file (layout_of file)
