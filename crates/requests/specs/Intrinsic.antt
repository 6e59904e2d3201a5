-- Intrinsic values, for document 02, A.2.
use Rattle.std.specs.Prelude.{Bool, cond}
use mathlib.Core.List.{List, [], ◌∷◌}
use Rattle.std.specs.Float.Ieee.{Float, lt}
use Rattle.ieee.specs.Rounded.{◌⊕◌, ◌⊖◌, ◌⊗◌}
use Rattle.ieee.specs.Numbers.{zero, half}
use Rattle.pricer_formulas.specs.declared.bond_option.SwaptionType.{SwaptionType}
use Rattle.pricer_formulas.specs.declared.bond_option.SwaptionType.TheVariants.{Payer, Receiver}
use Rattle.pricer_formulas.specs.Newton.{bond_at}
use Rattle.pricer_formulas.specs.Components.{discounted_of}

-- a coupon's bond option at its intrinsic value, struck at K, the coupon's bond at the rate. A payer's is K × P(t) - P(T) where that is above 0, a receiver's P(T) - K × P(t); else it is 0
unfoldable pub intrinsic_component_of : SwaptionType → Float → Float → Float → Float → Float → Float
intrinsic_component_of Payer pt rate a b p = let x = bond_at rate a b ⊗ pt ⊖ p in cond (lt zero x) x zero
intrinsic_component_of Receiver pt rate a b p = let x = p ⊖ bond_at rate a b ⊗ pt in cond (lt zero x) x zero

-- their sum, as `components_of` adds them
unfoldable pub intrinsics_onto : Float → SwaptionType → Bool → Float → Float → List Float → List Float → List Float → List Float → List Float → Float
intrinsics_onto value option own pt rate [] affs bs ps owns = value
intrinsics_onto value option own pt rate (c ∷ cs) [] bs ps owns = value
intrinsics_onto value option own pt rate (c ∷ cs) (a ∷ affs) [] ps owns = value
intrinsics_onto value option own pt rate (c ∷ cs) (a ∷ affs) (b ∷ bs) [] owns = value
intrinsics_onto value option own pt rate (c ∷ cs) (a ∷ affs) (b ∷ bs) (p ∷ ps) [] = value
intrinsics_onto value option own pt rate (c ∷ cs) (a ∷ affs) (b ∷ bs) (p ∷ ps) (o ∷ owns) =
    intrinsics_onto (value ⊕ discounted_of own (intrinsic_component_of option pt rate a b p) o p ⊗ c) option own pt rate cs affs bs ps owns

unfoldable pub intrinsics_of : SwaptionType → Bool → Float → Float → List Float → List Float → List Float → List Float → List Float → Float
unfolding intrinsics_onto
intrinsics_of option own pt rate cs affs bs ps owns = intrinsics_onto zero option own pt rate cs affs bs ps owns

-- 0.5 × B × B of each coupon, which A has times the variance
unfoldable pub half_squares_of : List Float → List Float
half_squares_of [] = []
half_squares_of (b ∷ bs) = half ⊗ b ⊗ b ∷ half_squares_of bs
