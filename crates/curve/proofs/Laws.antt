-- What callers may use of the lookups: a volatility that is found passes every test that its list passes.
use Rattle.std.specs.Prelude.{Some, None}
use mathlib.Core.Path.{◌≡◌}
use mathlib.Core.Bool.{Bool, true, false, cond}
use mathlib.Core.List.{List, [], ◌∷◌}
use Prim.Native.Nat.{ℕ}
use native.Mathlib.Omega.{arith}
use lib.Ieee.{Float, le}
use Rattle.refusals.specs.declared.checks.Test.{Test}
use Rattle.refusals.specs.Checks.{passes_of, all_of}
use Rattle.curve.specs.Lookups.{last_at, volatility_at}
use Rattle.refusals.proofs.Order.{both}

-- ---- taking answers apart
pub none_found : {p : Float} → None ≡ Some p → ⊥
none_found h = let z : ◌≡◌ {A = ℕ} 0 1 = cc in omega arith

-- ---- where every sigma passes a test, so does the volatility
chosen : (test : Test) (b : Bool) (s best : Float) → passes_of test s ≡ true → passes_of test best ≡ true → passes_of test (cond b s best) ≡ true
chosen test true s best h k = h
chosen test false s best h k = k

last_passes : (test : Test) (best : Float) (ts ss : List Float) (t : Float) → passes_of test best ≡ true → all_of test ss ≡ true → passes_of test (last_at best ts ss t) ≡ true
unfolding all_of last_at
last_passes test best [] ss t k h = k
last_passes test best (x ∷ ts) [] t k h = k
last_passes test best (x ∷ ts) (s ∷ ss) t k h =
    let r = both (passes_of test s) (all_of test ss) h in
    last_passes test (cond (le x t) s best) ts ss t (chosen test (le x t) s best r.0 k) r.1

pub volatility_passes : (test : Test) (ts ss : List Float) (t : Float) {p : Float} → all_of test ss ≡ true → volatility_at ts ss t ≡ Some p → passes_of test p ≡ true
unfolding all_of volatility_at
volatility_passes test [] ss t h q = absurd (none_found q)
volatility_passes test (x ∷ ts) [] t h q = absurd (none_found q)
volatility_passes test (x ∷ ts) (s ∷ ss) t {p} h q =
    let e : last_at s (x ∷ ts) (s ∷ ss) t ≡ p = cc in
    rw e at (last_passes test s (x ∷ ts) (s ∷ ss) t (both (passes_of test s) (all_of test ss) h).0 h)
