-- `market_price`: a caplet's and a swaption's price at the quoted volatility, in the Rust's order. "Black or normal".
use Rattle.std.specs.Prelude.{List, [], ◌∷◌, Float}
use Rattle.ieee.specs.Rounded.{◌⊖◌, ◌⊗◌, ◌⊘◌}
use Rattle.ieee.specs.Numbers.{zero, one}
use Rattle.quotes.specs.Formulas.{black_call_of, bachelier_call_of, annuity_step}
use Rattle.fit_objective.specs.declared.market.VolatilityType.{VolatilityType}
use Rattle.fit_objective.specs.declared.market.VolatilityType.TheVariants as Q

-- the undiscounted call of the quote's own formula
abbrev pub vanilla_call_of : VolatilityType → Float → Float → Float → Float → Float
vanilla_call_of Q.Black fwd strike vol tau = black_call_of fwd strike vol tau
vanilla_call_of Q.Normal fwd strike vol tau = bachelier_call_of fwd strike vol tau

-- a caplet from t to S: P(S) × tau × call, on the forward (P(t)/P(S) - 1)/tau, tau being S - t
unfoldable pub caplet_market_price_of : VolatilityType → Float → Float → Float → Float → Float → Float → Float
caplet_market_price_of quote strike t S vol pt p_s =
    let tau = S ⊖ t in
    p_s ⊗ tau ⊗ vanilla_call_of quote ((pt ⊘ p_s ⊖ one) ⊘ tau) strike vol t

-- the annuity over the coupons listed, "Sums start at 0 .. and run left to right". The call's `annuity_from` meets a lookup at each coupon; `annuity_looked` shows that it is this sum on the factors looked up
unfoldable pub annuity_onto : Float → List Float → List Float → Float
annuity_onto sum [] ps = sum
annuity_onto sum (accrual ∷ accruals) [] = sum
annuity_onto sum (accrual ∷ accruals) (p ∷ ps) = annuity_onto (annuity_step sum accrual p) accruals ps

unfoldable pub annuity_of : List Float → List Float → Float
unfolding annuity_onto
annuity_of accruals ps = annuity_onto zero accruals ps

-- "A fitted swap ends at its last listed payment": the factor there
unfoldable pub last_of : List Float → Float
last_of [] = zero
last_of (p ∷ []) = p
last_of (p ∷ q ∷ ps) = last_of (q ∷ ps)

-- a swaption: annuity × call, on the forward (P(t) - P(end))/annuity
unfoldable pub swaption_market_price_of : VolatilityType → Float → Float → Float → List Float → Float → List Float → Float
swaption_market_price_of quote strike t vol accruals pt ps =
    let annuity = annuity_of accruals ps in
    annuity ⊗ vanilla_call_of quote ((pt ⊖ last_of ps) ⊘ annuity) strike vol t
