-- From what the path's call answered and left in its list to the lines of the path, and from a job's answer to the lines of the job. Assumes nothing.
use Rattle.std.specs.Prelude.{Ok, Err, Some}
use mathlib.Core.Path.{◌≡◌, refl, sym, ◌∙◌}
use mathlib.Core.List.{List, [], ◌∷◌, append-nil}
use Prim.Native.Nat.{ℕ, ◌≤◌, ◌<◌}
use native.Mathlib.Omega.{arith}
use borrow.Author.Tests.{eq-eqb, ne_eqb, lt-ltb, le-ltb}
use lib.ListN.{length, take, drop_of_length-le}
use lib.Ieee.{Float}
use Rattle.ieee.specs.Numbers as Numbers
use Rattle.refusals.specs.declared.refusals.Refusal.{Refusal}
use Rattle.refusals.specs.Refusals.{Outcome, answer_of, number_of, Answer}
use Rattle.hullwhite_points.specs.declared.walk.Centre.TheVariants as C
use Rattle.hullwhite_transitions.specs.Written.{stored_of}
use Rattle.refusals.proofs.Lending.{lent_is}
use Rattle.file_layout.specs.declared.parts.Layout.{Layout}
use Rattle.file_layout.specs.declared.records.Job.{Job}
use Rattle.file_layout.specs.Layout.{layout_of}
use Rattle.file_layout.specs.Request.{Request, request_of}
use Rattle.file_layout.proofs.Kept.{kept}
use Rattle.file_layout.proofs.Lists.{column_length}
use Rattle.file_fields.specs.Text.{Begins}
use Rattle.file_fields.specs.Fields.{bits_of}
use Rattle.file_lines.specs.Lines.{line_of}
use Rattle.file_jobs.specs.declared.results.JobResult.{JobResult}
use Rattle.file_jobs.specs.Results.{request_of_lists, option_result, job_result_of}
use Rattle.file_jobs.specs.declared.results.Worked.{Worked}
use Rattle.file_jobs.specs.Worked.{result_from, swaption_whole, fit_whole, work_of, result_is}
use Rattle.file_output.specs.Output.{result_line, point_lines, path_lines, path_of, job_lines}

-- ---- an outcome, from the answer without its values
module _ {B : Type 0} (o : Outcome B) (answer : Answer) where
  pub was_refused : (r : Refusal) → answer ≡ Err r → answer ≡ answer_of o → o ≡ Err r
  was_refused r e h = refused_case o (sym e ∙ h)
    where
      refused_case : (p : Outcome B) → Err r ≡ answer_of p → p ≡ Err r
      refused_case (Ok v) q = absurd (let z : ◌≡◌ {A = ℕ} 0 1 = cc in let y : ⊥ = omega arith in y)
      refused_case (Err s) q = cc

  pub was_served : answer ≡ Ok tt → answer ≡ answer_of o → (v : B) × (o ≡ Ok v)
  was_served e h = served_case o (sym e ∙ h)
    where
      served_case : (p : Outcome B) → (Ok tt) ≡ answer_of p → (v : B) × (p ≡ Ok v)
      served_case (Ok v) q = (v, refl)
      served_case (Err s) q = absurd (let z : ◌≡◌ {A = ℕ} 0 1 = cc in let y : ⊥ = omega arith in y)

-- ---- the path's list was lent as the first n places of `work`, one for each grid point
module _ (f : ℕ → Outcome (List Float)) (work : List Float) (n : ℕ) (fits : n ≤ length work) where
  pub same_room : (answer : Answer) → answer ≡ answer_of (f (length (take n work))) → answer ≡ answer_of (f n)
  same_room answer e = rw (← lent_is work n fits) at e

  pub left_is : (xs back : List Float) → f n ≡ Ok xs → length xs ≡ n → back ≡ stored_of (f (length (take n work))) (take n work) → back ≡ xs
  left_is xs back e same h =
      let z : back ≡ stored_of (f n) (take n work) = rw (← lent_is work n fits) at h in
      let y : length (take n work) ≤ length xs = omega (arith, lent_is work n fits, same) in
      z ∙ rw (e, drop_of_length-le (take n work) y, append-nil)

-- ---- the lines of a path
module _ (k kind : ℕ) (o : Outcome (List Float)) (res : ℕ) (d out : List ℕ) where
  pub refused_line_lem : (r : Refusal) (n : ℕ) → o ≡ Err r → n ≡ number_of r → Begins res (line_of k kind n (bits_of Numbers.zero) 0) d out → Begins res (path_lines k kind o) d out
  refused_line_lem r n e q b = rw e (rw q at b)

  pub empty_line : (xs : List Float) → o ≡ Ok xs → length xs ≡ 0 → Begins res (line_of k kind 0 (bits_of Numbers.zero) 0) d out → Begins res (path_lines k kind o) d out
  empty_line [] e h b = rw e b
  empty_line (x ∷ xs) e h b = absurd (let z : ⊥ = omega arith in z)

  pub point_by_point : (xs vs : List Float) → o ≡ Ok xs → (length xs ≡ 0 → ⊥) → vs ≡ xs → Begins res (point_lines k kind 0 vs) d out → Begins res (path_lines k kind o) d out
  point_by_point [] vs e h q b = absurd (h refl)
  point_by_point (x ∷ xs) vs e h q b = rw e (rw q at b)

-- ---- the lines of a job
pub same_told : (k kind res : ℕ) (d out : List ℕ) (t t' : JobResult) → t ≡ t' → Begins res (result_line k kind t) d out → Begins res (result_line k kind t') d out
same_told k kind res d out t t' e b = rw (← e) b

module _ (q q' : Request) (j j' : Job) (k res : ℕ) (d out : List ℕ) (e : q ≡ q') (f : j ≡ j') where
  pub path_job : j.kind ≡ 12 → Begins res (path_lines k 12 (path_of C.StateVariance q)) d out → Begins res (job_lines q' k j') d out
  unfolding job_lines
  path_job h b = rw (← e, ← f, eq-eqb j.kind 12 h) b

  pub published_job : j.kind ≡ 13 → Begins res (path_lines k 13 (path_of C.Published q)) d out → Begins res (job_lines q' k j') d out
  unfolding job_lines
  published_job h b = rw (← e, ← f, ne_eqb j.kind 12 (λ z. let y : ⊥ = omega arith in y), eq-eqb j.kind 13 h) b

  pub option_job : (t : JobResult) → j.kind < 5 → t ≡ option_result q j → Begins res (result_line k j.kind t) d out → Begins res (job_lines q' k j') d out
  unfolding job_lines job_result_of
  option_job t h p b = rw (← e, ← f, ne_eqb j.kind 12 (λ z. let y : ⊥ = omega arith in y), ne_eqb j.kind 13 (λ z. let y : ⊥ = omega arith in y), lt-ltb j.kind 5 h, ← p) b

  pub worked_job : (w : Worked) → (j.kind ≡ 12 → ⊥) → (j.kind ≡ 13 → ⊥) → 5 ≤ j.kind → w ≡ work_of q j → Begins res (result_line k j.kind (result_from w)) d out → Begins res (job_lines q' k j') d out
  unfolding job_lines
  worked_job w h g i p b = rw (← e, ← f, ne_eqb j.kind 12 h, ne_eqb j.kind 13 g, ← result_is q j (le-ltb j.kind 5 i), ← p) b

-- kinds 1 to 4 look at alpha and the curve alone, kinds 5 to 11 at no grid and at no other job
module _ (alpha : Float) (pillars sigmas times factors payments accruals owns grid draws : List Float) (jobs : List Job) (j : Job) where
  pub option_lists : option_result (request_of_lists alpha [] [] times factors [] [] [] [] [] []) j ≡ option_result (request_of_lists alpha pillars sigmas times factors payments accruals owns grid draws jobs) j
  unfolding option_result
  option_lists = refl

  pub work_lists : work_of (request_of_lists alpha pillars sigmas times factors payments accruals owns [] [] []) j ≡ work_of (request_of_lists alpha pillars sigmas times factors payments accruals owns grid draws jobs) j
  unfolding work_of swaption_whole fit_whole
  work_lists = refl

pub grid_short : (file : List ℕ) (l : Layout) → layout_of file ≡ Some l → (grid : List Float) → grid ≡ (request_of file l).grid_times → length grid ≤ 1024
unfolding request_of
grid_short file l e grid q = rw (q, column_length file l.grid 16 0) (kept file l e).grid.few
