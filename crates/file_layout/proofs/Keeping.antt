-- Each condition of the layout that fails breaks it, and all together make it.
use mathlib.Core.Path.{◌≡◌}
use mathlib.Core.Bool.{true, false, cond, ◌&&◌}
use mathlib.Core.List.{List}
use Prim.Native.Nat.{ℕ, ◌/◌, ◌<◌, ◌≤◌}
use borrow.Author.Tests.{le-leb, lt-leb}
use lib.ListN.{length}
use Rattle.std.specs.Prelude.{Some, None}
use Rattle.file_layout.specs.declared.parts.Layout.{Layout}
use Rattle.file_layout.specs.Layout.{parts_of, placed, sized, all_known, keeps, layout_of}

module _ (file : List ℕ) where
  pub too_long : 65536 < length file → None ≡ layout_of file
  unfolding layout_of keeps
  too_long h = rw (lt-leb (length file) 65536 h)

  pub too_short : length file ≤ 65536 → length file < 48 → None ≡ layout_of file
  unfolding layout_of keeps
  too_short h k = rw (le-leb (length file) 65536 h, lt-leb 48 (length file) k)

  -- the parts of a file of such a length
  module _ (l : Layout) (long : length file ≤ 65536) (short : 48 ≤ length file) (e : l ≡ parts_of file) where
    decides : cond (placed (length file) l && sized l && all_known file l.jobs.offset (l.jobs.length / 40)) (Some l) None ≡ layout_of file
    unfolding layout_of keeps
    decides = rw (e, le-leb (length file) 65536 long, le-leb 48 (length file) short)

    pub misplaced : false ≡ placed (length file) l → None ≡ layout_of file
    misplaced p = rw (← p) at decides

    pub missized : true ≡ placed (length file) l → false ≡ sized l → None ≡ layout_of file
    missized p s = rw (← p, ← s) at decides

    pub unknown : true ≡ placed (length file) l → true ≡ sized l → false ≡ all_known file l.jobs.offset (l.jobs.length / 40) → None ≡ layout_of file
    unknown p s k = rw (← p, ← s, ← k) at decides

    pub keeping : true ≡ placed (length file) l → true ≡ sized l → true ≡ all_known file l.jobs.offset (l.jobs.length / 40) → Some l ≡ layout_of file
    keeping p s k = rw (← p, ← s, ← k) at decides
