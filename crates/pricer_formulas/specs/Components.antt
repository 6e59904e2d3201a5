-- `swaption_value`'s sum: a bond option a coupon, struck at its bond at the stepped rate. Where the coupons have own factors, each component is times own / forward factor, in the Rust's order.
use Rattle.std.specs.Prelude.{Bool, cond, List, [], ◌∷◌, Float}
use Rattle.ieee.specs.Rounded.{◌⊕◌, ◌⊗◌, ◌⊘◌}
use Rattle.ieee.specs.Numbers.{zero}
use Rattle.pricer_formulas.specs.declared.bond_option.SwaptionType.{SwaptionType}
use Rattle.pricer_formulas.specs.BondOption.{pricer_bond_option_of}
use Rattle.pricer_formulas.specs.Newton.{bond_at}

-- the bond's volatility is deviation × b
unfoldable pub component_of : SwaptionType → Float → Float → Float → Float → Float → Float → Float
component_of option deviation pt rate a b p = pricer_bond_option_of option (deviation ⊗ b) (bond_at rate a b) pt p

-- component × own / forward, where the coupons have factors of their own
abbrev pub discounted_of : Bool → Float → Float → Float → Float
discounted_of own component ownDf forwardDf = cond own (component ⊗ ownDf ⊘ forwardDf) component

-- the components that are left, added to a value: value + component × coefficient
unfoldable pub components_onto : Float → SwaptionType → Bool → Float → Float → Float → List Float → List Float → List Float → List Float → List Float → Float
components_onto value option own deviation pt rate [] affs bs ps owns = value
components_onto value option own deviation pt rate (c ∷ cs) [] bs ps owns = value
components_onto value option own deviation pt rate (c ∷ cs) (a ∷ affs) [] ps owns = value
components_onto value option own deviation pt rate (c ∷ cs) (a ∷ affs) (b ∷ bs) [] owns = value
components_onto value option own deviation pt rate (c ∷ cs) (a ∷ affs) (b ∷ bs) (p ∷ ps) [] = value
components_onto value option own deviation pt rate (c ∷ cs) (a ∷ affs) (b ∷ bs) (p ∷ ps) (o ∷ owns) =
    components_onto (value ⊕ discounted_of own (component_of option deviation pt rate a b p) o p ⊗ c) option own deviation pt rate cs affs bs ps owns

unfoldable pub components_of : SwaptionType → Bool → Float → Float → Float → List Float → List Float → List Float → List Float → List Float → Float
unfolding components_onto
components_of option own deviation pt rate cs affs bs ps owns = components_onto zero option own deviation pt rate cs affs bs ps owns
