-- A table of a function's values under one computed check, and the law that turns the check into each row.
use Rattle.std.specs.Prelude.{◌≡◌, Bool, true, ◌&&◌, List, [], ◌∷◌, T, Float}
use Rattle.std.proofs.Common.{ap, ◌∙◌}
use Rattle.std.specs.Float.Ieee.Fits.{and_l, and_r}
use Rattle.ieee.specs.Same.{same, same_is}

-- at `at` the function gives `gives`
pub record Row : Type 0 where
  pub at : Float
  pub gives : Float

-- the check: every row of the table is right of f
abbrev pub right : (Float → Float) → List Row → Bool
right f [] = true
right f (row ∷ rows) = same (f row.at) row.gives && right f rows

-- what a table says of an argument x and its value r
abbrev pub Gives : List Row → Float → Float → Type 0
Gives [] x r = Unit
Gives (row ∷ rows) x r = (x ≡ row.at → r ≡ row.gives) × Gives rows x r

pub by_rows : (f : Float → Float) (rows : List Row) → T (right f rows) → (x r : Float) → r ≡ f x → Gives rows x r
by_rows f [] h x r e = tt
by_rows f (row ∷ rows) h x r e =
    (λ p. e ∙ ap f p ∙ same_is (f row.at) row.gives (and_l (same (f row.at) row.gives) (right f rows) h), by_rows f rows (and_r (same (f row.at) row.gives) (right f rows) h) x r e)
