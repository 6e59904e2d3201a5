-- The whole search, by what its ladders and its halvings came to. Assumes nothing.
use Rattle.std.specs.Prelude.{Result, Option, Some, None, Ok, Err}
use mathlib.Core.Path.{◌≡◌, refl, sym, ap, ap₂, ◌∙◌}
use mathlib.Core.Bool.{true, false}
use lib.Ieee.{Float}
use Rattle.math_elementary.specs.Simple.{midpoint_of}
use Rattle.search.specs.declared.Bracket.{Bracket}
use Rattle.search.specs.declared.Root.{Root}
use Rattle.search.specs.declared.Unfound.{Unfound}
use Rattle.search.specs.declared.Unfound.TheVariants as U
use Rattle.search.specs.declared.ladder.NanSum.{NanSum}
use Rattle.search.specs.declared.ladder.Rung.{Rung}
use Rattle.search.specs.Rate.{Climbed, ladder_of, halvings_of, finish, from_ladders, critical_of}
use Rattle.search.proofs.HalvingSteps.{Halving}

abbrev Found : Type 0
Found = Result Root Unfound

module _ (sum : Float → Float) where
  -- what a ladder of 61 rungs came to
  abbrev Low : Climbed → Type 0
  Low l = l ≡ ladder_of sum true 61

  abbrev High : Climbed → Type 0
  High h = h ≡ ladder_of sum false 61

  joined : (l h : Climbed) → Low l → High h → from_ladders sum l h ≡ critical_of sum
  unfolding critical_of
  joined l h e g = ap₂ (from_ladders sum) e g

  pub low_nan : (q : NanSum) → Low (Err q) → ◌≡◌ {A = Found} (Err U.NotANumber) (critical_of sum)
  unfolding from_ladders
  low_nan q e = joined (Err q) (ladder_of sum false 61) e refl

  pub high_nan : (l : Option Rung) (q : NanSum) → Low (Ok l) → High (Err q) → ◌≡◌ {A = Found} (Err U.NotANumber) (critical_of sum)
  unfolding from_ladders
  high_nan None q e g = joined (Ok None) (Err q) e g
  high_nan (Some x) q e g = joined (Ok (Some x)) (Err q) e g

  -- neither ladder met one
  module _ (l h : Option Rung) (e : Low (Ok l)) (g : High (Ok h)) where
    answered : (l' h' : Option Rung) → l ≡ l' → h ≡ h' → from_ladders sum (Ok l') (Ok h') ≡ critical_of sum
    answered l' h' p q = ap₂ (λ (x y : Option Rung). from_ladders sum (Ok x) (Ok y)) (sym p) (sym q) ∙ joined (Ok l) (Ok h) e g

    pub low_none : l ≡ None → ◌≡◌ {A = Found} (Err U.NoBracket) (critical_of sum)
    unfolding from_ladders
    low_none p = answered None h p refl

    pub high_none : (x : Rung) → l ≡ Some x → h ≡ None → ◌≡◌ {A = Found} (Err U.NoBracket) (critical_of sum)
    unfolding from_ladders
    high_none x p q = answered (Some x) None p q

    module _ (x y : Rung) (p : l ≡ Some x) (q : h ≡ Some y) where
      abbrev Halved : Halving → Type 0
      Halved o = o ≡ halvings_of sum 200 (record { lower = x.rate; upper = y.rate; lower_sum = x.sum; upper_sum = y.sum })

      finished : (o : Halving) → Halved o → finish x.number y.number o ≡ critical_of sum
      unfolding from_ladders
      finished o k = ap (finish x.number y.number) k ∙ answered (Some x) (Some y) p q

      pub stopped : (n : NanSum) → Halved (Err n) → ◌≡◌ {A = Found} (Err U.NotANumber) (critical_of sum)
      unfolding finish
      stopped n k = finished (Err n) k

      pub found : (b : Bracket) (m : Float) → Halved (Ok b) → m ≡ midpoint_of b.lower b.upper
          → ◌≡◌ {A = Found} (Ok (record { rate = m; bracket = b; low_rung = x.number; high_rung = y.number })) (critical_of sum)
      unfolding finish
      found b m k u = ap at u ∙ finished (Ok b) k
        where
          at : Float → Found
          at m = Ok (record { rate = m; bracket = b; low_rung = x.number; high_rung = y.number })
