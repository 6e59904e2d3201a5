-- For the callers of `job_lines`: the lists of a file, read one by one, are those of its request. Assumes nothing.
use mathlib.Core.Path.{◌≡◌}
use mathlib.Core.List.{List}
use Prim.Native.Nat.{ℕ}
use lib.Ieee.{Float}
use Rattle.file_layout.specs.declared.parts.Layout.{Layout}
use Rattle.file_layout.specs.Bytes.{float_at}
use Rattle.file_layout.specs.Request.{request_of, jobs_of}
use Rattle.file_layout.specs.Lists.{list_of}
use Rattle.file_jobs.specs.Results.{request_of_lists}

pub lists_are : (file : List ℕ) (l : Layout) (alpha : Float) (pillars sigmas times factors payments accruals owns grid draws : List Float) → let q = request_of file l in
    alpha ≡ float_at file l.model.offset
    → pillars ≡ list_of q 0
    → sigmas ≡ list_of q 1
    → times ≡ list_of q 2
    → factors ≡ list_of q 3
    → payments ≡ list_of q 4
    → accruals ≡ list_of q 5
    → owns ≡ list_of q 6
    → grid ≡ list_of q 7
    → draws ≡ list_of q 8
    → request_of_lists alpha pillars sigmas times factors payments accruals owns grid draws (jobs_of file l.jobs) ≡ q
unfolding request_of
lists_are file l alpha pillars sigmas times factors payments accruals owns grid draws a e0 e1 e2 e3 e4 e5 e6 e7 e8 = rw (a, e0, e1, e2, e3, e4, e5, e6, e7, e8)
