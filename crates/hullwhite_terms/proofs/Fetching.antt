-- A fetch of factors, one after another: after i turns the first i factors are in the lent list, and what is left to say is what the other payments come to.
use Rattle.std.specs.Prelude.{Some, None, Ok, Err}
use mathlib.Core.Path.{◌≡◌, refl, ◌∙◌}
use mathlib.Core.List.{List, [], ◌∷◌, ◌++◌, append-nil, append_assoc}
use Prim.Native.Nat.{ℕ, ◌+◌, ◌≤◌, ◌<◌}
use native.Mathlib.Omega.{arith}
use native.Mathlib.Numerals.{add-one}
use lib.ListN.{length, get_or, set, take, drop, length-set}
use lib.Seq.{take-suc-set, take_all}
use lib.Ieee.{Float, nan}
use Rattle.refusals.specs.declared.refusals.Refusal.TheVariants as R
use Rattle.refusals.specs.Refusals.{Outcome, prepend}
use Rattle.curve.specs.Lookups.{factor_at}
use Rattle.refusals.proofs.Walks.{next, done}
use Rattle.hullwhite_terms.specs.Terms.{factors_at}

-- an outcome with some factors before its own
abbrev pub behind : List Float → Outcome (List Float) → Outcome (List Float)
behind ps (Ok qs) = Ok (ps ++ qs)
behind ps (Err r) = Err r

behind_none : (o : Outcome (List Float)) → o ≡ behind [] o
behind_none (Ok qs) = refl
behind_none (Err r) = refl

behind_prepend : (ps : List Float) (p : Float) (o : Outcome (List Float)) → behind ps (prepend p o) ≡ behind (ps ++ (p ∷ [])) o
behind_prepend ps p (Ok qs) = rw append_assoc
behind_prepend ps p (Err r) = refl

-- i of the factors are in `out`
pub record Fetching (ts fs payments : List Float) (i : ℕ) (out : List Float) : Type 0 where
  pub within : i ≤ length payments
  pub sized : length out ≡ length payments
  pub fetched : factors_at ts fs payments ≡ behind (take i out) (factors_at ts fs (drop i payments))

pub start : {ts fs payments out : List Float} → length out ≡ length payments → Fetching ts fs payments 0 out
start {ts} {fs} {payments} e = record { within = omega arith; sized = e; fetched = behind_none (factors_at ts fs payments) }

module _ {ts fs payments out : List Float} {i : ℕ} where
  pub turn : {p : Float} → i < length payments → factor_at ts fs (get_or payments i nan) ≡ Some p → Fetching ts fs payments i out → Fetching ts fs payments (i + 1) (set out i p)
  unfolding factors_at
  turn {p} h q f =
      let l : i < length out = omega arith in
      record {
        within = omega arith;
        sized = length-set out i p ∙ f.sized;
        fetched = f.fetched ∙ rw (next payments i h, q, behind_prepend, add-one, take-suc-set out i p l);
      }

  pub stop : i < length payments → factor_at ts fs (get_or payments i nan) ≡ None → Fetching ts fs payments i out → factors_at ts fs payments ≡ Err R.OffCurve
  unfolding factors_at
  stop h q f = f.fetched ∙ rw (next payments i h, q)

  pub end : length payments ≤ i → Fetching ts fs payments i out → factors_at ts fs payments ≡ Ok out
  unfolding factors_at
  end h f =
      let l : length out ≤ i = omega arith in
      f.fetched ∙ rw (done payments i h, append-nil, take_all i out l)
