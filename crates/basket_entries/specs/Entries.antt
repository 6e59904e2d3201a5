-- The entries of a basket: "up to 64 caplets (Black or normal, strike, start, end, quoted volatility) in the order given", and document 01's rules 1 to 7 over all of them.
use Rattle.std.specs.Prelude.{Bool, true, false, not, ◌&&◌, ◌||◌, List, [], ◌∷◌, ltb, eqb, length, Float}
use Rattle.std.specs.Float.Ieee.{le}
use Rattle.std.specs.Float.Ieee.Scale.{finite}
use Rattle.ieee.specs.Numbers.{zero}
use Rattle.refusals.specs.declared.curves.Faults.{Faults}
use Rattle.refusals.specs.declared.checks.Test.TheVariants.{Finite}
use Rattle.refusals.specs.declared.refusals.Refusal.TheVariants as R
use Rattle.refusals.specs.declared.refusals.Rule.{Rule}
use Rattle.refusals.specs.Refusals.{rule}
use Rattle.refusals.specs.Checks.{all_of}
use Rattle.refusals.specs.Faults.{curve_faults}
use Rattle.fit_objective.specs.declared.market.VolatilityType.{VolatilityType}
use Rattle.fit_objective.specs.declared.market.VolatilityType.TheVariants as Q
use Rattle.fit.specs.Fits.{strike_wrong}

pub record Entry : Type 0 where
  pub quote : VolatilityType
  pub strike : Float
  pub start : Float
  pub end : Float
  pub vol : Float

-- how the type of a quote is lent: true is a normal one
abbrev pub volatility_type_of : Bool → VolatilityType
volatility_type_of false = Q.Black
volatility_type_of true = Q.Normal

-- the lent lists as entries, as far as the shortest goes
unfoldable pub entries_of : List Bool → List Float → List Float → List Float → List Float → List Entry
entries_of [] ks ts ends vs = []
entries_of (n ∷ ns) [] ts ends vs = []
entries_of (n ∷ ns) (k ∷ ks) [] ends vs = []
entries_of (n ∷ ns) (k ∷ ks) (t ∷ ts) [] vs = []
entries_of (n ∷ ns) (k ∷ ks) (t ∷ ts) (e ∷ ends) [] = []
entries_of (n ∷ ns) (k ∷ ks) (t ∷ ts) (e ∷ ends) (v ∷ vs) = record { quote = volatility_type_of n; strike = k; start = t; end = e; vol = v } ∷ entries_of ns ks ts ends vs

-- ---- rules 1 to 7

-- 1: "A list is over its limit, paired lists differ in length"
abbrev pub size_wrong : List Bool → List Float → List Float → List Float → List Float → Bool
size_wrong ns ks ts ends vs = ltb 64 (length ns) || not (eqb (length ns) (length ks)) || not (eqb (length ns) (length ts)) || not (eqb (length ns) (length ends)) || not (eqb (length ns) (length vs))

-- 2
abbrev pub numbers_wrong : List Float → List Float → List Float → List Float → Bool
numbers_wrong ks ts ends vs = not (all_of Finite ks && all_of Finite ts && all_of Finite ends && all_of Finite vs)

-- 5: an "end .. time is not above the option time, or a fit's option time is 0", or below it, in some entry
unfoldable pub times_wrong : List Float → List Float → Bool
times_wrong [] ends = false
times_wrong (t ∷ ts) [] = false
times_wrong (t ∷ ts) (e ∷ ends) = (le t zero || le e t) || times_wrong ts ends

-- 6: "a quoted volatility is not above 0, a Black strike is not above 0" in some entry
unfoldable pub domain_wrong : List Bool → List Float → List Float → Bool
domain_wrong [] ks vs = false
domain_wrong (n ∷ ns) [] vs = false
domain_wrong (n ∷ ns) (k ∷ ks) [] = false
domain_wrong (n ∷ ns) (k ∷ ks) (v ∷ vs) = (le v zero || strike_wrong (volatility_type_of n) k) || domain_wrong ns ks vs

-- a line a rule, each over all entries
abbrev pub basket_rules : Faults → Float → Bool → Bool → Bool → Bool → List Rule
basket_rules curve alpha size numbers times domain =
    rule R.Size (curve.size || size)
    ∷ rule R.NotFinite (curve.not_finite || not (finite alpha) || numbers)
    ∷ rule R.MeanReversion (le alpha zero)
    ∷ rule R.Order curve.order
    ∷ rule R.Times times
    ∷ rule R.Domain (curve.domain || domain)
    ∷ []

abbrev pub basket_rules_on : Float → List Float → List Float → List Bool → List Float → List Float → List Float → List Float → List Rule
basket_rules_on alpha xs fs ns ks ts ends vs = basket_rules (curve_faults xs fs) alpha (size_wrong ns ks ts ends vs) (numbers_wrong ks ts ends vs) (times_wrong ts ends) (domain_wrong ns ks vs)
