-- The puts added to a total, a coupon at a time: what is left of four lists is added to it. Assumes nothing.
use mathlib.Core.Path.{◌≡◌}
use mathlib.Core.List.{List}
use Prim.Native.Nat.{ℕ, ◌+◌, ◌≤◌, ◌<◌}
use native.Mathlib.Numerals.{add-one}
use lib.ListN.{length, drop, get_or, drop_of_length-le}
use lib.Seq.{drop-cons}
use lib.Ieee.{Float, nan}
use Rattle.ieee.specs.Fused.{fused_of}
use Rattle.hullwhite_jamshidian.specs.declared.price.SwaptionAhead.{SwaptionAhead}
use Rattle.hullwhite_jamshidian.specs.Ahead.{put_ahead, puts_ahead_onto}

module _ (ahead : SwaptionAhead) (sigma rate : Float) (cs affs bs ps : List Float) (total : Float) (i : ℕ) where
  pub puts_on : (put next : Float) → i < length cs → i < length affs → i < length bs → i < length ps
      → put ≡ put_ahead ahead sigma rate (get_or affs i nan) (get_or bs i nan) (get_or ps i nan) → next ≡ fused_of (get_or cs i nan) put total
      → puts_ahead_onto next ahead sigma rate (drop (i + 1) cs) (drop (i + 1) affs) (drop (i + 1) bs) (drop (i + 1) ps) ≡ puts_ahead_onto total ahead sigma rate (drop i cs) (drop i affs) (drop i bs) (drop i ps)
  unfolding puts_ahead_onto
  puts_on put next h k l m p q = rw (add-one, drop-cons cs i nan h, drop-cons affs i nan k, drop-cons bs i nan l, drop-cons ps i nan m, q, p)

  pub puts_done : length cs ≤ i → total ≡ puts_ahead_onto total ahead sigma rate (drop i cs) (drop i affs) (drop i bs) (drop i ps)
  unfolding puts_ahead_onto
  puts_done h = rw (drop_of_length-le cs h)
