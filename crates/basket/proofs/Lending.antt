-- An array of 64 places whose front was lent and handed back as the values vs: it is then those values, and 0 behind them. Assumes nothing.
use mathlib.Core.Path.{◌≡◌, refl, ap, ◌∙◌}
use mathlib.Core.List.{List, ◌++◌}
use Prim.Native.Nat.{ℕ, zero, suc, ◌-◌, ◌≤◌}
use native.Mathlib.Omega.{arith}
use lib.ListN.{length, take, drop, replicate}
use lib.Seq.{length-take-le}
use lib.Ieee.{Float}
use Rattle.ieee.specs.Numbers as Numbers
use Rattle.refusals.proofs.Lending.{work}
use Rattle.basket.specs.Basket.{padded}

drop_zeros : (k n : ℕ) (x : Float) → drop n (replicate k x) ≡ replicate (k - n) x
drop_zeros zero zero x = refl
drop_zeros zero (suc n) x = ap (λ (m : ℕ). replicate m x) (let e : 0 ≡ 0 - suc n = omega arith in e)
drop_zeros (suc k) zero x = ap (λ (m : ℕ). replicate m x) (let e : suc k ≡ suc k - 0 = omega arith in e)
drop_zeros (suc k) (suc n) x = drop_zeros k n x ∙ ap (λ (m : ℕ). replicate m x) (let e : k - n ≡ suc k - suc n = omega arith in e)

padded_so : (vs : List Float) (n : ℕ) → length vs ≡ n → vs ++ drop n work ≡ padded vs
padded_so vs n e = rw (e, drop_zeros 64 n Numbers.zero)

pub padded_is : (n : ℕ) (fits : n ≤ 64) (vs : List Float) (same : length vs ≡ length (take n work)) → vs ++ drop n work ≡ padded vs
padded_is n fits vs same = padded_so vs n (same ∙ length-take-le n work fits)
