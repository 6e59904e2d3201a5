-- Demand 3 of every file: what specs/Demand3.antt says holds of each, from what is told of each job (proofs/Results.antt).
use Rattle.std.specs.Prelude.{◌≡◌, refl, ◌⊎◌, Bool, true, false, ℕ, suc, ◌+◌, ◌*◌, ◌^◌, ◌≤◌, ◌<◌, eqb, length, Float, Ok, Err}
use Rattle.std.proofs.Common.{sym, ap, ◌∙◌, subst, inl, inr, arith, lit<}
use mathlib.Core.List.Memᴰ
use mathlib.Core.List.{List, [], ◌∷◌, ◌++◌, append-nil, Memᴰ}
use borrow.Author.Tests.{eq-eqb, ne_eqb, eqb-true, eqb-false}
use Rattle.ieee.specs.Numbers as Numbers
use Rattle.refusals.specs.declared.refusals.Refusal.TheVariants as R
use Rattle.refusals.specs.Refusals.{Outcome, number_of}
use Rattle.refusals.proofs.Numbered.{numbered, one_number}
use Rattle.hullwhite_points.specs.declared.walk.Centre.{Centre}
use Rattle.hullwhite_points.specs.declared.walk.Centre.TheVariants as C
use Rattle.demand_order.specs.Grounds.{NeverNoBracket}
use Rattle.demand_order.proofs.Grounds.{path_never}
use Rattle.file_layout.specs.declared.records.Job.{Job}
use Rattle.file_layout.specs.Request.{Request, request_of, job_at}
use Rattle.file_layout.proofs.Kept.{kind_known}
use Rattle.file_fields.specs.Fields.{bits_of}
use Rattle.file_lines.specs.Lines.{line_of}
use Rattle.file_lines.specs.Says.{Says}
use Rattle.file_lines.proofs.Says.{says_one}
use Rattle.file_jobs.specs.declared.results.JobResult.{JobResult}
use Rattle.file_jobs.specs.Results.{job_result_of}
use Rattle.demand_roots.specs.Owed.{Owed, owed_of, ResultHolds}
use Rattle.demand_roots.specs.Demand3.{AcceptedLine, LineHolds, PathLine, PathHolds, JobHolds, FileDemand3}
use Rattle.demand_roots.proofs.Results.{result_holds, result_small}
use Rattle.file_output.specs.Output.{result_line, point_lines, path_lines, path_of, job_lines}
use Rattle.file_output.specs.Pieces.{joined, output_is, broken_is, job_is, count_is, header_is}

-- ---- kinds 1 to 11
line_held : (owed : Owed) (k kind : ℕ) (told : JobResult) → told.answer < 10 ^ 20 → ResultHolds owed told → LineHolds owed k kind (result_line k kind told)
line_held owed k kind told b h = record { accepted = λ s. accepted (reads 0 (lit< tt) s); no_bracket = (λ s. h.no_bracket.0 (reads 10 (lit< tt) s), says) }
  where
    reads : (n : ℕ) → n < 10 ^ 20 → Says (result_line k kind told) n → told.answer ≡ n
    reads n l s = says_one k kind told.answer (bits_of told.value) told.note n b l s

    accepted : told.answer ≡ 0 → AcceptedLine owed k kind (result_line k kind told)
    accepted e =
        let a = h.accepted e in
        record {
          given = a.given;
          is = a.is;
          own = ap (λ (n : ℕ). line_of k kind n (bits_of told.value) told.note) e
              ∙ ap (λ (x : Float). line_of k kind 0 (bits_of x) told.note) a.value_is
              ∙ ap (λ (n : ℕ). line_of k kind 0 (bits_of (owed.value a.given)) n) a.note_is;
          facts = a.facts;
        }

    says : owed.Wants → Says (result_line k kind told) 10
    says w = record { job = k; kind = kind; bits = bits_of told.value; note = told.note; is = ap (λ (n : ℕ). line_of k kind n (bits_of told.value) told.note) (h.no_bracket.1 w) }

-- ---- kinds 12 and 13
path_line : (k kind answer bits note : ℕ) → answer < 10 ^ 20 → (answer ≡ 10 → ⊥) → PathLine k kind (line_of k kind answer bits note)
path_line k kind answer bits note b h = record { answer = answer; bits = bits; note = note; is = refl; never = λ s. h (says_one k kind answer bits note 10 b (lit< tt) s) }

more_lines : (k kind answer bits note : ℕ) (rest : List ℕ) → answer < 10 ^ 20 → (answer ≡ 10 → ⊥) → PathHolds k kind rest → PathHolds k kind (line_of k kind answer bits note ++ rest)
unfolding joined
more_lines k kind answer bits note rest b h p = record {
  lines = line_of k kind answer bits note ∷ p.lines;
  whole = ap (λ (text : List ℕ). line_of k kind answer bits note ++ text) p.whole;
  each = λ line m. go line (Memᴰ.cases_cons m);
}
  where
    go : (line : List ℕ) → (line ≡ line_of k kind answer bits note) ⊎ Memᴰ line p.lines → PathLine k kind line
    go line (inl e) = subst (PathLine k kind) (sym e) (path_line k kind answer bits note b h)
    go line (inr m) = p.each line m

no_lines : (k kind : ℕ) → PathHolds k kind []
unfolding joined
no_lines k kind = record { lines = []; whole = refl; each = λ line m. absurd (Memᴰ.not-nil m) }

one_line : (k kind answer bits note : ℕ) → answer < 10 ^ 20 → (answer ≡ 10 → ⊥) → PathHolds k kind (line_of k kind answer bits note)
one_line k kind answer bits note b h = subst (PathHolds k kind) (append-nil (line_of k kind answer bits note)) (more_lines k kind answer bits note [] b h (no_lines k kind))

points : (k kind i : ℕ) (xs : List Float) → PathHolds k kind (point_lines k kind i xs)
unfolding point_lines
points k kind i [] = no_lines k kind
points k kind i (x ∷ xs) = more_lines k kind 0 (bits_of x) i (point_lines k kind (suc i) xs) (lit< tt) (λ e. omega arith) (points k kind (suc i) xs)

path_held : (k kind : ℕ) (o : Outcome (List Float)) → NeverNoBracket o → PathHolds k kind (path_lines k kind o)
path_held k kind (Ok []) h = one_line k kind 0 (bits_of Numbers.zero) 0 (lit< tt) (λ e. omega arith)
path_held k kind (Ok (x ∷ xs)) h = points k kind 0 (x ∷ xs)
path_held k kind (Err r) h = one_line k kind (number_of r) (bits_of Numbers.zero) 0 (numbered r).within (λ e. h (ap Err (one_number r R.NoBracket e)))

-- ---- the job
which : (kind : ℕ) → 12 ≤ kind → kind ≤ 13 → (kind ≡ 12) ⊎ (kind ≡ 13)
which kind l h = go (eqb kind 12) refl
  where
    go : (b : Bool) → eqb kind 12 ≡ b → (kind ≡ 12) ⊎ (kind ≡ 13)
    go true e = inl (eqb-true kind 12 e)
    go false e = let other = eqb-false kind 12 e in inr (omega (arith, other, l, h))

module _ (q : Request) (k : ℕ) (j : Job) where
  one : j.kind ≤ 11 → job_lines q k j ≡ result_line k j.kind (job_result_of q j)
  unfolding job_lines
  one h = rw (ne_eqb j.kind 12 (λ e. omega arith), ne_eqb j.kind 13 (λ e. omega arith))

  generated : j.kind ≡ 12 → job_lines q k j ≡ path_lines k j.kind (path_of C.StateVariance q)
  unfolding job_lines
  generated e = rw (eq-eqb j.kind 12 e, e)

  published : j.kind ≡ 13 → job_lines q k j ≡ path_lines k j.kind (path_of C.Published q)
  unfolding job_lines
  published e = rw (ne_eqb j.kind 12 (λ z. omega arith), eq-eqb j.kind 13 e, e)

  centred : (centre : Centre) → job_lines q k j ≡ path_lines k j.kind (path_of centre q) → PathHolds k j.kind (job_lines q k j)
  centred centre e = subst (PathHolds k j.kind) (sym e) (path_held k j.kind (path_of centre q) (path_never centre q.alpha q.pillar_times q.pillar_sigmas q.curve_times q.curve_factors q.grid_times q.draws (length q.grid_times)))

  paths : (j.kind ≡ 12) ⊎ (j.kind ≡ 13) → PathHolds k j.kind (job_lines q k j)
  paths (inl e) = centred C.StateVariance (generated e)
  paths (inr e) = centred C.Published (published e)

  job_held : (1 ≤ j.kind) × (j.kind ≤ 13) → JobHolds q k j (job_lines q k j)
  job_held kinds = record {
    kinds = kinds;
    line = λ h. subst (LineHolds (owed_of q j) k j.kind) (sym (one h)) (line_held (owed_of q j) k j.kind (job_result_of q j) (result_small q j) (result_holds q j));
    path = λ h. paths (which j.kind h kinds.1);
  }

-- ---- every file
pub demand3 : (file : List ℕ) → FileDemand3 file
demand3 file = record {
  whole = output_is file;
  broken = broken_is file;
  first = header_is file;
  count = count_is file;
  jobs = λ l e k h. subst (JobHolds (request_of file l) k (job_at file (l.jobs.offset + 40 * k))) (sym (job_is file l e k h))
      (job_held (request_of file l) k (job_at file (l.jobs.offset + 40 * k)) (kind_known file l e k h));
}
