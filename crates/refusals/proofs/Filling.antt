-- A loop that writes a list whole into a lent one, whatever the list: after i turns the first i entries are the list's, and the others are as they were.
use mathlib.Core.Path.{◌≡◌, refl, sym, ◌∙◌}
use mathlib.Core.List.{List, [], ◌++◌, append-nil, append_assoc}
use Prim.Native.Nat.{ℕ, suc, ◌+◌, ◌≤◌, ◌<◌}
use native.Mathlib.Omega.{arith}
use native.Mathlib.Numerals.{add-one}
use lib.ListN.{length, get_or, set, take, drop, length-set}
use lib.Seq.{take-suc, drop-cons, take_all, length-take-le, set_at}
use lib.Ieee.{Float, nan}
use Rattle.refusals.proofs.Walks.{done}

-- of a target of length n: i of it are written into `out`, which was `entry`
pub record Filling (target entry : List Float) (n i : ℕ) (out : List Float) : Type 0 where
  pub within : i ≤ n
  pub sized : length out ≡ n
  pub filled : out ≡ take i target ++ drop i entry

-- the store of a turn
stored : (target entry : List Float) (i : ℕ) → i < length target → i < length entry → set (take i target ++ drop i entry) i (get_or target i nan) ≡ take (i + 1) target ++ drop (i + 1) entry
stored target entry i h k =
    let l : length (take i target) ≡ i = length-take-le i target (omega arith) in
    rw (drop-cons entry i nan k, set_at (take i target) (get_or entry i nan) (drop (suc i) entry) (get_or target i nan) i l, add-one, take-suc target i nan h, append_assoc)

pub start : {target entry : List Float} {n : ℕ} → length entry ≡ n → Filling target entry n 0 entry
start e = record { within = omega arith; sized = e; filled = refl }

module _ {target entry out : List Float} {n i : ℕ} where
  -- a turn writes x, and both x and the target's entry at place i are y
  pub turn : {x y : Float} → length target ≡ n → length entry ≡ n → i < n → get_or target i nan ≡ y → x ≡ y → Filling target entry n i out → Filling target entry n (i + 1) (set out i x)
  turn {x} t e h q r f = record {
    within = omega arith;
    sized = length-set out i x ∙ f.sized;
    filled = rw (f.filled, r, sym q) (stored target entry i (omega arith) (omega arith));
  }

  pub end : length target ≡ n → length entry ≡ n → n ≤ i → Filling target entry n i out → out ≡ target
  end t e h f =
      let w : take i target ≡ target = take_all i target (omega arith) in
      let d : drop i entry ≡ [] = done entry i (omega arith) in
      f.filled ∙ rw (w, d, append-nil)
