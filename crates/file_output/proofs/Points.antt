-- The lines of a path, point by point behind one another. Assumes nothing.
use mathlib.Core.Path.{◌≡◌, ap}
use mathlib.Core.List.{List, [], ◌∷◌, ◌++◌, append_assoc, append-nil}
use Prim.Native.Nat.{ℕ, suc, ◌+◌, ◌<◌}
use native.Mathlib.Numerals.{add-one}
use native.Mathlib.Omega.{arith}
use lib.ListN.{length, get_or, take}
use lib.Seq.{take-suc, length-take-le}
use lib.Ieee.{Float, nan}
use Rattle.file_fields.specs.Fields.{bits_of}
use Rattle.file_lines.specs.Lines.{line_of}
use Rattle.file_output.specs.Output.{point_lines}

-- one point more
pub points_snoc : (k kind i : ℕ) (xs : List Float) (x : Float) → point_lines k kind i (xs ++ x ∷ []) ≡ point_lines k kind i xs ++ line_of k kind 0 (bits_of x) (i + length xs)
unfolding point_lines
points_snoc k kind i [] x = rw append-nil (ap (line_of k kind 0 (bits_of x)) (let z : i ≡ i + 0 = omega arith in z))
points_snoc k kind i (y ∷ ys) x =
    let z : suc i + length ys ≡ i + suc (length ys) = omega arith in
    rw (points_snoc k kind (suc i) ys x, z, append_assoc)

-- the lines of the first i points, and then of one more
pub points_turn : (k kind : ℕ) (xs : List Float) (i : ℕ) → i < length xs → point_lines k kind 0 (take (i + 1) xs) ≡ point_lines k kind 0 (take i xs) ++ line_of k kind 0 (bits_of (get_or xs i nan)) i
points_turn k kind xs i h =
    let z : 0 + length (take i xs) ≡ i = rw (length-take-le i xs (omega arith)) (omega arith) in
    rw (add-one, take-suc xs i nan, points_snoc k kind 0 (take i xs) (get_or xs i nan), z)
