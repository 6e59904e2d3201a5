-- A swaption's components are intrinsic values (specs/Intrinsic.antt) where the state does not move: for document 02, A.2.
use Rattle.std.specs.Prelude.{◌≡◌, Bool, not, ◌&&◌, ℕ, ◌*◌, ℤ, length}
use Rattle.std.proofs.Math.Path.{refl}
use Rattle.std.proofs.Common.{sym, ap, ◌∙◌, subst, zero-mul, mul-pos, zero-lt-suc, arith}
use Rattle.std.proofs.Math.Bool.{true, false}
use Rattle.std.proofs.lemmas.Bool.{false≢true}
use mathlib.Core.List.{List, [], ◌∷◌}
use Rattle.std.proofs.Math.Dec.{T}
use Rattle.std.specs.Float.Ieee.{Float, round, up, down, is_nan, neg, lt, eq, le, add, sub, mul, of_bits}
use Rattle.std.specs.Float.{nan, inf, fin, binary64}
use Rattle.std.specs.Float.Ieee.Fits.{down_pos}
use Rattle.std.specs.Float.Ieee.Scale.{finite, round_same}
use Rattle.ieee.specs.Rounded.{◌⊕◌, ◌⊖◌, ◌⊗◌, ◌⊘◌}
use Rattle.ieee.specs.Decimal.{decimal}
use Rattle.ieee.specs.Numbers.{zero, one, half}
use Rattle.math_elementary.specs.Ln.{ln_of}
use Rattle.math_exponential.specs.Exp.{exp_of}
use Rattle.refusals.specs.declared.checks.Test.TheVariants.{Finite}
use Rattle.refusals.specs.Checks.{all_of}
use Rattle.search_sum.specs.Sum.{coupons_onto, coupon_sum}
use Rattle.pricer_formulas.specs.declared.bond_option.SwaptionType.{SwaptionType}
use Rattle.pricer_formulas.specs.declared.bond_option.SwaptionType.TheVariants.{Payer, Receiver}
use Rattle.pricer_formulas.specs.Affine.{pricer_deviation_of, affine_aOf, affine_aList_of}
use Rattle.pricer_formulas.specs.BondOption.{still, pricer_bond_option_of}
use Rattle.pricer_formulas.specs.Components.{component_of, discounted_of, components_onto, components_of}
use Rattle.requests.specs.Intrinsic.{intrinsic_component_of, intrinsics_onto, intrinsics_of, half_squares_of}

-- zero times a number is a zero, which is at most 1e-12
zero_times : (s : Bool) (m : ℕ) (e : ℤ) → zero ⊗ fin s m e ≡ round binary64 s 0 1
unfolding mul of_bits
zero_times true m e = round_same binary64 true (0 * 1 * (m * up e)) (1 * down e) 0 1 (mul-pos (zero-lt-suc 0) (down_pos e)) (zero-lt-suc 0) (ap (λ (x : ℕ). x * 1) (zero-mul (m * up e)) ∙ sym (zero-mul (1 * down e)))
zero_times false m e = round_same binary64 false (0 * 1 * (m * up e)) (1 * down e) 0 1 (mul-pos (zero-lt-suc 0) (down_pos e)) (zero-lt-suc 0) (ap (λ (x : ℕ). x * 1) (zero-mul (m * up e)) ∙ sym (zero-mul (1 * down e)))

zero_still : (s : Bool) → le (round binary64 s 0 1) still ≡ true
unfolding le lt eq round decimal
zero_still true = refl
zero_still false = refl

bond_still : (b : Float) → T (finite b) → le (zero ⊗ b) still ≡ true
bond_still nan h = absurd h
bond_still (inf s) h = absurd h
bond_still (fin s m e) h = rw (zero_times s m e) (zero_still s)

no_deviation : pricer_deviation_of zero ≡ zero
unfolding pricer_deviation_of lt of_bits
no_deviation = refl

-- a coupon whose B is finite, where nothing moves
pub at_intrinsic_value : (option : SwaptionType) (pt rate a b p : Float) → T (finite b) → component_of option (pricer_deviation_of zero) pt rate a b p ≡ intrinsic_component_of option pt rate a b p
unfolding component_of pricer_bond_option_of intrinsic_component_of
at_intrinsic_value Payer pt rate a b p h = rw (no_deviation, bond_still b h)
at_intrinsic_value Receiver pt rate a b p h = rw (no_deviation, bond_still b h)

-- where one half square is not finite, A is NaN, and with it the coupon sum at every rate
less_nan : (x : Float) → x ⊖ nan ≡ nan
unfolding sub add neg
less_nan nan = refl
less_nan (inf s) = refl
less_nan (fin s m e) = refl

plus_nan : (x : Float) → x ⊕ nan ≡ nan
unfolding add
plus_nan nan = refl
plus_nan (inf s) = refl
plus_nan (fin s m e) = refl

times_nan : (x : Float) → x ⊗ nan ≡ nan
unfolding mul
times_nan nan = refl
times_nan (inf s) = refl
times_nan (fin s m e) = refl

zero_times_none : (x : Float) → T (not (finite x)) → zero ⊗ x ≡ nan
unfolding mul of_bits
zero_times_none nan h = refl
zero_times_none (inf s) h = refl
zero_times_none (fin s m e) h = absurd h

-- it is not where B itself is not
square_none : (b : Float) → T (not (finite b)) → T (not (finite (half ⊗ b ⊗ b)))
unfolding mul of_bits
square_none nan h = tt
square_none (inf true) h = tt
square_none (inf false) h = tt
square_none (fin s m e) h = absurd h

exp_nan : exp_of nan ≡ nan
unfolding exp_of is_nan
exp_nan = refl

pub affine_nan : (forward pt b p : Float) → T (not (finite (half ⊗ b ⊗ b))) → affine_aOf zero forward pt b p ≡ nan
unfolding affine_aOf
affine_nan forward pt b p h = rw (zero_times_none (half ⊗ b ⊗ b) h, less_nan (ln_of (p ⊘ pt) ⊕ forward ⊗ b), exp_nan)

nan_onto : (cs affs bs : List Float) (rate : Float) → coupons_onto nan cs affs bs rate ≡ nan
unfolding coupons_onto add
nan_onto [] affs bs rate = refl
nan_onto (c ∷ cs) [] bs rate = refl
nan_onto (c ∷ cs) (a ∷ affs) [] rate = refl
nan_onto (c ∷ cs) (a ∷ affs) (b ∷ bs) rate = nan_onto cs affs bs rate

-- a sum whose next A is NaN
nan_sum : (sum c a x : Float) (cs affs bs : List Float) (rate : Float) → a ≡ nan → is_nan (coupons_onto (sum ⊕ c ⊗ a ⊗ x) cs affs bs rate) ≡ true
unfolding mul is_nan
nan_sum sum c a x cs affs bs rate e = rw (e, times_nan c, plus_nan sum, nan_onto cs affs bs rate)

a_number : (x : Float) → T (le one x) → is_nan x ≡ false
unfolding le lt eq is_nan of_bits
a_number nan h = absurd h
a_number (inf s) h = refl
a_number (fin s m e) h = refl

module _ (option : SwaptionType) (own : Bool) (forward pt rate at : Float) where
  -- where the coupon sum at some rate is a number, the components are the intrinsic values
  intrinsic_onto : (value sum : Float) (cs bs ps owns : List Float) → let affs = affine_aList_of zero forward pt bs ps in
      is_nan (coupons_onto sum cs affs bs at) ≡ false → components_onto value option own (pricer_deviation_of zero) pt rate cs affs bs ps owns ≡ intrinsics_onto value option own pt rate cs affs bs ps owns
  unfolding affine_aList_of coupons_onto components_onto intrinsics_onto
  intrinsic_onto value sum [] bs ps owns h = refl
  intrinsic_onto value sum (c ∷ cs) [] ps owns h = refl
  intrinsic_onto value sum (c ∷ cs) (b ∷ bs) [] owns h = refl
  intrinsic_onto value sum (c ∷ cs) (b ∷ bs) (p ∷ ps) [] h = refl
  intrinsic_onto value sum (c ∷ cs) (b ∷ bs) (p ∷ ps) (o ∷ owns) h =
      go (finite b) refl (λ (x : Float). intrinsic_onto x (sum ⊕ c ⊗ affine_aOf zero forward pt b p ⊗ exp_of (neg b ⊗ at)) cs bs ps owns h)
    where
      affs : List Float
      affs = affine_aList_of zero forward pt bs ps

      go : (f : Bool) → finite b ≡ f → ((x : Float) → components_onto x option own (pricer_deviation_of zero) pt rate cs affs bs ps owns ≡ intrinsics_onto x option own pt rate cs affs bs ps owns)
          → components_onto (value ⊕ discounted_of own (component_of option (pricer_deviation_of zero) pt rate (affine_aOf zero forward pt b p) b p) o p ⊗ c) option own (pricer_deviation_of zero) pt rate cs affs bs ps owns
          ≡ intrinsics_onto (value ⊕ discounted_of own (intrinsic_component_of option pt rate (affine_aOf zero forward pt b p) b p) o p ⊗ c) option own pt rate cs affs bs ps owns
      go true f next = rw (at_intrinsic_value option pt rate (affine_aOf zero forward pt b p) b p (subst T (sym f) tt)) (next (value ⊕ discounted_of own (intrinsic_component_of option pt rate (affine_aOf zero forward pt b p) b p) o p ⊗ c))
      go false f next = absurd (false≢true (sym h ∙ nan_sum sum c (affine_aOf zero forward pt b p) (exp_of (neg b ⊗ at)) cs affs bs at (affine_nan forward pt b p (square_none b (subst (λ (x : Bool). T (not x)) (sym f) tt)))))

  pub intrinsic_sum : (cs bs ps owns : List Float) → let affs = affine_aList_of zero forward pt bs ps in
      T (le one (coupon_sum cs affs bs at)) → components_of option own (pricer_deviation_of zero) pt rate cs affs bs ps owns ≡ intrinsics_of option own pt rate cs affs bs ps owns
  unfolding coupon_sum components_of intrinsics_of
  intrinsic_sum cs bs ps owns h = intrinsic_onto zero zero cs bs ps owns (a_number (coupons_onto zero cs (affine_aList_of zero forward pt bs ps) bs at) h)

module _ (forward pt at : Float) where
  -- and every half square is finite
  finite_onto : (sum : Float) (cs bs ps : List Float) → length cs ≡ length bs → length ps ≡ length bs → is_nan (coupons_onto sum cs (affine_aList_of zero forward pt bs ps) bs at) ≡ false → all_of Finite (half_squares_of bs) ≡ true
  unfolding affine_aList_of coupons_onto half_squares_of all_of
  finite_onto sum cs [] ps k l h = refl
  finite_onto sum [] (b ∷ bs) ps k l h = absurd (omega arith)
  finite_onto sum (c ∷ cs) (b ∷ bs) [] k l h = absurd (omega arith)
  finite_onto sum (c ∷ cs) (b ∷ bs) (p ∷ ps) k l h =
      go (finite (half ⊗ b ⊗ b)) refl (finite_onto (sum ⊕ c ⊗ affine_aOf zero forward pt b p ⊗ exp_of (neg b ⊗ at)) cs bs ps (omega arith) (omega arith) h)
    where
      go : (f : Bool) → finite (half ⊗ b ⊗ b) ≡ f → all_of Finite (half_squares_of bs) ≡ true → (finite (half ⊗ b ⊗ b) && all_of Finite (half_squares_of bs)) ≡ true
      go true f e = rw (f, e)
      go false f e = absurd (false≢true (sym h ∙ nan_sum sum c (affine_aOf zero forward pt b p) (exp_of (neg b ⊗ at)) cs (affine_aList_of zero forward pt bs ps) bs at (affine_nan forward pt b p (subst (λ (x : Bool). T (not x)) (sym f) tt))))

  module _ (cs bs ps : List Float) (k : length cs ≡ length bs) (l : length ps ≡ length bs) where
    pub squares_finite : T (le one (coupon_sum cs (affine_aList_of zero forward pt bs ps) bs at)) → all_of Finite (half_squares_of bs) ≡ true
    unfolding coupon_sum
    squares_finite h = finite_onto zero cs bs ps k l (a_number (coupons_onto zero cs (affine_aList_of zero forward pt bs ps) bs at) h)

    pub sum_nan : all_of Finite (half_squares_of bs) ≡ false → is_nan (coupon_sum cs (affine_aList_of zero forward pt bs ps) bs at) ≡ true
    unfolding coupon_sum
    sum_nan h = go (is_nan (coupons_onto zero cs (affine_aList_of zero forward pt bs ps) bs at)) refl
      where
        go : (b : Bool) → is_nan (coupons_onto zero cs (affine_aList_of zero forward pt bs ps) bs at) ≡ b → b ≡ true
        go true e = refl
        go false e = absurd (false≢true (sym h ∙ finite_onto zero cs bs ps k l e))
