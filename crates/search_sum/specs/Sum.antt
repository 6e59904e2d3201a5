-- Document 01: "The priced coupon sum at a rate adds coefficient × A × exp(-B × rate) over the terms, rounded as in `find_critical_rate`."
-- "Sums start at 0 .. and run left to right." Lists of unlike length count as far as the shortest goes.
use Rattle.std.specs.Prelude.{◌≡◌, refl, List, [], ◌∷◌, Float}
use Rattle.std.proofs.Math.Path.{fun_ext}
use Rattle.std.specs.Float.Ieee.{neg}
use Rattle.ieee.specs.Rounded.{◌⊕◌, ◌⊗◌}
use Rattle.ieee.specs.Numbers.{zero}
use Rattle.math_exponential.specs.Exp.{exp_of}

-- the terms left are added to a sum: `term.coefficient * term.affine_a * (-term.b * rate).exp()`, the product of the first two first
unfoldable pub coupons_onto : Float → List Float → List Float → List Float → Float → Float
coupons_onto sum [] affines bs rate = sum
coupons_onto sum (c ∷ cs) [] bs rate = sum
coupons_onto sum (c ∷ cs) (a ∷ affines) [] rate = sum
coupons_onto sum (c ∷ cs) (a ∷ affines) (b ∷ bs) rate = coupons_onto (sum ⊕ c ⊗ a ⊗ exp_of (neg b ⊗ rate)) cs affines bs rate

unfoldable pub coupon_sum : List Float → List Float → List Float → Float → Float
coupon_sum coefficients affines bs rate = coupons_onto zero coefficients affines bs rate

-- The search is given each term's weight, coefficient × A, which no rate changes.
unfoldable pub weights_of : List Float → List Float → List Float
weights_of [] affines = []
weights_of (c ∷ cs) [] = []
weights_of (c ∷ cs) (a ∷ affines) = c ⊗ a ∷ weights_of cs affines

unfoldable pub weighted_onto : Float → List Float → List Float → Float → Float
weighted_onto sum [] bs rate = sum
weighted_onto sum (w ∷ ws) [] rate = sum
weighted_onto sum (w ∷ ws) (b ∷ bs) rate = weighted_onto (sum ⊕ w ⊗ exp_of (neg b ⊗ rate)) ws bs rate

unfoldable pub weighted_sum : List Float → List Float → Float → Float
weighted_sum weights bs rate = weighted_onto zero weights bs rate

weighted_onto_lem : (sum : Float) (cs affines bs : List Float) (rate : Float) → coupons_onto sum cs affines bs rate ≡ weighted_onto sum (weights_of cs affines) bs rate
unfolding coupons_onto weighted_onto weights_of
weighted_onto_lem sum [] affines bs rate = refl
weighted_onto_lem sum (c ∷ cs) [] bs rate = refl
weighted_onto_lem sum (c ∷ cs) (a ∷ affines) [] rate = refl
weighted_onto_lem sum (c ∷ cs) (a ∷ affines) (b ∷ bs) rate = weighted_onto_lem (sum ⊕ c ⊗ a ⊗ exp_of (neg b ⊗ rate)) cs affines bs rate

-- The priced coupon sum is the weighted one, bit for bit at every rate: to work the weights out ahead of the search changes nothing.
pub weights_ahead_lem : (coefficients affines bs : List Float) → coupon_sum coefficients affines bs ≡ weighted_sum (weights_of coefficients affines) bs
unfolding coupon_sum weighted_sum
weights_ahead_lem coefficients affines bs = fun_ext (λ rate. weighted_onto_lem zero coefficients affines bs rate)
