-- One turn and the end of a walk along the terms: what `sums_from` and `components_onto` say of the lists from place i on. Assumes nothing.
use mathlib.Core.Path.{◌≡◌}
use mathlib.Core.Bool.{Bool}
use mathlib.Core.List.{List}
use Prim.Native.Nat.{ℕ, ◌+◌, ◌≤◌, ◌<◌}
use native.Mathlib.Omega.{arith}
use lib.ListN.{length, get_or, drop}
use lib.Ieee.{Float, nan}
use Rattle.ieee.specs.Rounded.{◌⊕◌, ◌⊗◌}
use Rattle.refusals.proofs.Walks.{next, done}
use Rattle.pricer_formulas.specs.declared.bond_option.SwaptionType.{SwaptionType}
use Rattle.pricer_formulas.specs.declared.newton.Sums.{Sums}
use Rattle.pricer_formulas.specs.Newton.{sums_after, sums_from}
use Rattle.pricer_formulas.specs.Components.{component_of, discounted_of, components_onto}

-- ---- the Newton step's two sums: `after` is what a turn makes of them
module _ (rate : Float) (cs affs bs : List Float) (sums : Sums) (i : ℕ) where
  pub sums_turn : (after : Sums) → i < length cs → length affs ≡ length cs → length bs ≡ length cs → after ≡ sums_after rate (get_or cs i nan) (get_or affs i nan) (get_or bs i nan) sums
      → sums_from rate after (drop (i + 1) cs) (drop (i + 1) affs) (drop (i + 1) bs) ≡ sums_from rate sums (drop i cs) (drop i affs) (drop i bs)
  unfolding sums_from
  sums_turn after h k l e =
      let k' : i < length affs = omega arith in
      let l' : i < length bs = omega arith in
      rw (next cs i h, next affs i k', next bs i l', e)

  pub sums_end : length cs ≤ i → sums ≡ sums_from rate sums (drop i cs) (drop i affs) (drop i bs)
  unfolding sums_from
  sums_end h = rw (done cs i h)

-- ---- the components: `plain` is a component, `due` the same under its own factor
module _ (option : SwaptionType) (own : Bool) (deviation pt rate : Float) (cs affs bs ps owns : List Float) (value : Float) (i : ℕ) where
  pub components_turn : (plain due : Float) → i < length cs → length affs ≡ length cs → length bs ≡ length cs → length ps ≡ length cs → length owns ≡ length cs
      → plain ≡ component_of option deviation pt rate (get_or affs i nan) (get_or bs i nan) (get_or ps i nan)
      → due ≡ discounted_of own plain (get_or owns i nan) (get_or ps i nan)
      → components_onto (value ⊕ due ⊗ get_or cs i nan) option own deviation pt rate (drop (i + 1) cs) (drop (i + 1) affs) (drop (i + 1) bs) (drop (i + 1) ps) (drop (i + 1) owns)
      ≡ components_onto value option own deviation pt rate (drop i cs) (drop i affs) (drop i bs) (drop i ps) (drop i owns)
  unfolding components_onto
  components_turn plain due h k l m o e f =
      let k' : i < length affs = omega arith in
      let l' : i < length bs = omega arith in
      let m' : i < length ps = omega arith in
      let o' : i < length owns = omega arith in
      rw (next cs i h, next affs i k', next bs i l', next ps i m', next owns i o', f, e)

  pub components_end : length cs ≤ i → value ≡ components_onto value option own deviation pt rate (drop i cs) (drop i affs) (drop i bs) (drop i ps) (drop i owns)
  unfolding components_onto
  components_end h = rw (done cs i h)
