-- The annuity, a coupon at a time, and the last of the factors. Assumes nothing.
use mathlib.Core.Path.{◌≡◌, refl}
use mathlib.Core.Logic.{◌⊎◌, inl, inr}
use mathlib.Core.List.{List, [], ◌∷◌}
use Prim.Native.Nat.{ℕ, zero, suc, ◌-◌, ◌<◌}
use native.Mathlib.Omega.{arith}
use lib.ListN.{length, get_or}
use lib.Ieee.{Float, nan}
use Rattle.ieee.specs.Rounded.{◌⊖◌, ◌⊗◌, ◌⊘◌}
use Rattle.ieee.specs.Numbers as Numbers
use Rattle.quotes.specs.Formulas.{annuity_step}
use Rattle.fit_objective.specs.declared.market.VolatilityType.{VolatilityType}
use Rattle.fit_objective.specs.Market.{vanilla_call_of, annuity_onto, annuity_of, last_of, swaption_market_price_of}

pub annuity_begins : {accruals ps xs ys : List Float} → xs ≡ accruals → ys ≡ ps → annuity_onto Numbers.zero xs ys ≡ annuity_of accruals ps
unfolding annuity_of
annuity_begins p q = rw (p, q)

pub annuity_on : (sum : Float) {next x y : Float} {xs xs' ys ys' : List Float} → xs ≡ x ∷ xs' → ys ≡ y ∷ ys' → next ≡ annuity_step sum x y → annuity_onto next xs' ys' ≡ annuity_onto sum xs ys
unfolding annuity_onto
annuity_on sum p q n = rw (p, q, n)

no_factors : (sum : Float) (accruals : List Float) → sum ≡ annuity_onto sum accruals []
unfolding annuity_onto
no_factors sum [] = refl
no_factors sum (x ∷ accruals) = refl

pub annuity_done : (sum : Float) (xs ys : List Float) → (xs ≡ []) ⊎ (ys ≡ []) → sum ≡ annuity_onto sum xs ys
unfolding annuity_onto
annuity_done sum xs ys (inl e) = rw e
annuity_done sum xs ys (inr e) = rw e (no_factors sum xs)

last_at : (ps : List Float) (k : ℕ) → length ps ≡ suc k → get_or ps k nan ≡ last_of ps
unfolding last_of
last_at [] k h = absurd (omega arith)
last_at (p ∷ []) zero h = refl
last_at (p ∷ []) (suc k) h = absurd (omega arith)
last_at (p ∷ q ∷ ps) zero h = absurd (omega arith)
last_at (p ∷ q ∷ ps) (suc k) h = last_at (q ∷ ps) k (omega arith)

pub last_is : (ps : List Float) → 0 < length ps → get_or ps (length ps - 1) nan ≡ last_of ps
last_is ps h = last_at ps (length ps - 1) (omega arith)

-- ---- a swaption's market price, on an annuity and a last factor that the code has worked
module _ (quote : VolatilityType) (strike t vol : Float) (accruals : List Float) (pt : Float) (ps : List Float) where
  pub market_is : {sum last call : Float} → sum ≡ annuity_of accruals ps → last ≡ last_of ps → call ≡ vanilla_call_of quote ((pt ⊖ last) ⊘ sum) strike vol t → sum ⊗ call ≡ swaption_market_price_of quote strike t vol accruals pt ps
  unfolding swaption_market_price_of
  market_is a l v = rw (← a, ← l, v)
