-- The columns as lists: their lengths.
use mathlib.Core.Path.{◌≡◌, refl, ap}
use mathlib.Core.List.{List}
use Prim.Native.Nat.{ℕ, zero, suc, ◌+◌, ◌/◌}
use lib.ListN.{length}
use Rattle.file_layout.specs.declared.parts.Part.{Part}
use Rattle.file_layout.specs.Request.{floats_from, column_of}

module _ (file : List ℕ) where
  floats_length : (width field n at : ℕ) → length (floats_from file width field at n) ≡ n
  unfolding floats_from
  floats_length width field zero at = refl
  floats_length width field (suc n) at = ap suc (floats_length width field n (at + width))

  pub column_length : (p : Part) (width field : ℕ) → length (column_of file p width field) ≡ p.length / width
  column_length p width field = floats_length width field (p.length / width) p.offset
