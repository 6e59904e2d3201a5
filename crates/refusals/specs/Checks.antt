-- A test of every number of a list, and of every step from one number to the next.
use Rattle.std.specs.Prelude.{Bool, true, false, ◌&&◌, List, [], ◌∷◌, Float}
use Rattle.std.specs.Float.Ieee.{lt, le, eq}
use Rattle.std.specs.Float.Ieee.Scale.{finite}
use Rattle.ieee.specs.Numbers.{zero}
use Rattle.refusals.specs.declared.checks.Test.{Test}
use Rattle.refusals.specs.declared.checks.Test.TheVariants.{Finite, Zero, Above, AtLeast}

-- what a test asks of a number
abbrev pub passes_of : Test → Float → Bool
passes_of Finite x = finite x
passes_of Zero x = eq x zero
passes_of (Above t) x = lt t x
passes_of (AtLeast t) x = le t x

-- every number passes
unfoldable pub all_of : Test → List Float → Bool
all_of test [] = true
all_of test (x ∷ xs) = passes_of test x && all_of test xs

-- what a step asks: "strictly rise", or do not "fall"
abbrev pub follows_of : Bool → Float → Float → Bool
follows_of true before x = lt before x
follows_of false before x = le before x

-- every step passes, the first one from `before`
unfoldable pub in_order_from : Bool → Float → List Float → Bool
in_order_from strictly before [] = true
in_order_from strictly before (x ∷ xs) = follows_of strictly before x && in_order_from strictly x xs

unfoldable pub in_order : Bool → List Float → Bool
unfolding in_order_from
in_order strictly [] = true
in_order strictly (x ∷ xs) = in_order_from strictly x xs
