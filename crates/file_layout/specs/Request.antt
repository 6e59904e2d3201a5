-- What a run file that keeps its layout asks: the model's alpha, the lists, a column of floats each, and the jobs.
use Rattle.std.specs.Prelude.{ℕ, zero, suc, ◌+◌, ◌*◌, ◌/◌, List, [], ◌∷◌, Float}
use Rattle.file_layout.specs.declared.parts.Part.{Part}
use Rattle.file_layout.specs.declared.parts.Layout.{Layout}
use Rattle.file_layout.specs.declared.records.Job.{Job}
use Rattle.file_layout.specs.Bytes.{eight_bytes, float_at}
use Rattle.file_layout.specs.Layout.{coupon_width}

-- of n records from place `at` on, `width` bytes each, the float number `field`, counted from 0
unfoldable pub floats_from : List ℕ → ℕ → ℕ → ℕ → ℕ → List Float
floats_from file width field at zero = []
floats_from file width field at (suc n) = float_at file (at + 8 * field) ∷ floats_from file width field (at + width) n

-- the same of every record of a part
abbrev pub column_of : List ℕ → Part → ℕ → ℕ → List Float
column_of file p width field = floats_from file width field p.offset (p.length / width)

-- "jobs: kind (u64), a, b, c, d": the job at place `at`
abbrev pub job_at : List ℕ → ℕ → Job
job_at file at = record {
  kind = eight_bytes file at;
  a = float_at file (at + 8);
  b = float_at file (at + 16);
  c = float_at file (at + 24);
  d = float_at file (at + 32);
}

-- the n jobs from place `at` on
unfoldable pub jobs_from : List ℕ → ℕ → ℕ → List Job
jobs_from file at zero = []
jobs_from file at (suc n) = job_at file at ∷ jobs_from file (at + 40) n

abbrev pub jobs_of : List ℕ → Part → List Job
jobs_of file p = jobs_from file p.offset (p.length / 40)

pub record Request : Type 0 where
  pub alpha : Float
  pub pillar_times : List Float
  pub pillar_sigmas : List Float
  pub curve_times : List Float
  pub curve_factors : List Float
  pub payments : List Float
  pub accruals : List Float
  pub owns : List Float
  pub grid_times : List Float
  pub draws : List Float
  pub jobs : List Job

-- "model: alpha"; "pillars: time, sigma"; "curve: time, factor"; "coupons: payment time, accrual, own discount factor"; "grid: time, draw"; jobs
unfoldable pub request_of : List ℕ → Layout → Request
request_of file l = record {
  alpha = float_at file l.model.offset;
  pillar_times = column_of file l.pillars 16 0;
  pillar_sigmas = column_of file l.pillars 16 1;
  curve_times = column_of file l.curve 16 0;
  curve_factors = column_of file l.curve 16 1;
  payments = column_of file l.coupons (coupon_width l) 0;
  accruals = column_of file l.coupons (coupon_width l) 1;
  owns = column_of file l.coupons (coupon_width l) 2;
  grid_times = column_of file l.grid 16 0;
  draws = column_of file l.grid 16 1;
  jobs = jobs_of file l.jobs;
}
