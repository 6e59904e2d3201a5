-- What the front of a working list holds that was lent to be written, and handed back. Assumes nothing.
use mathlib.Core.Path.{◌≡◌, sym, ◌∙◌}
use mathlib.Core.List.{List, ◌++◌}
use Prim.Native.Nat.{ℕ, ◌≤◌}
use native.Mathlib.Omega.{arith}
use lib.ListN.{length, take, drop, replicate, length-append}
use lib.Seq.{length-take-le, take_at}
use lib.Ieee.{Float}
use Rattle.ieee.specs.Numbers.{zero}

-- a working list of 64 places, as the code makes it
abbrev pub work : List Float
work = replicate 64 zero

-- the front of the list, lent as n places and handed back as the values vs
module _ (work : List Float) (n : ℕ) (fits : n ≤ length work) where
  pub lent_is : n ≡ length (take n work)
  lent_is = sym (length-take-le n work fits)

  module _ (vs : List Float) (same : length vs ≡ length (take n work)) where
    pub back_fits : n ≤ length (vs ++ drop n work)
    back_fits = rw (length-append, same, length-take-le n work fits) (omega arith)

    pub back_is : n ≡ length (take n (vs ++ drop n work))
    back_is = sym (length-take-le n (vs ++ drop n work) back_fits)

    pub values_are : take n (vs ++ drop n work) ≡ vs
    values_are = take_at vs (drop n work) n (same ∙ length-take-le n work fits)
