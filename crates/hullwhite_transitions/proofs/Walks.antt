-- One turn and the end of each walk along a list: the values stored, and the variances. Assumes nothing.
use mathlib.Core.Path.{◌≡◌}
use mathlib.Core.List.{List, ◌++◌, append-nil}
use Prim.Native.Nat.{ℕ, suc, ◌+◌, ◌-◌, ◌≤◌, ◌<◌}
use native.Mathlib.Numerals.{add-one}
use native.Mathlib.Omega.{arith}
use lib.ListN.{length, take, set}
use lib.Seq.{take_all}
use lib.Ieee.{Float}
use Rattle.refusals.proofs.Walks.{longer}
use Rattle.hullwhite_transitions.specs.Transition.{step_variance, variances_of}

-- ---- the variances of the steps from i on, behind those worked
module _ (alpha : Float) (ts ss : List Float) (time_step : Float) (out : List Float) (n i : ℕ) (same : length out ≡ n) where
  pub variances_turn : i < n
      → take i out ++ variances_of alpha ts ss time_step i (n - i) ≡ take (i + 1) (set out i (step_variance alpha ts ss time_step i)) ++ variances_of alpha ts ss time_step (i + 1) (n - (i + 1))
  unfolding variances_of
  variances_turn h =
      let e : n - i ≡ suc (n - (i + 1)) = omega arith in
      let k : i < length out = omega arith in
      rw (e, ← add-one i, longer out i (step_variance alpha ts ss time_step i) (variances_of alpha ts ss time_step (i + 1) (n - (i + 1))) k)

  pub variances_end : n ≤ i → take i out ++ variances_of alpha ts ss time_step i (n - i) ≡ out
  unfolding variances_of
  variances_end h =
      let e : n - i ≡ 0 = omega arith in
      let k : length out ≤ i = omega arith in
      rw (e, append-nil, take_all i out k)
