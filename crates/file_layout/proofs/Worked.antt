-- Document 01's whole case, worked by the checker: its file keeps the layout, and asks what document 01 says.
use mathlib.Core.Path.{◌≡◌, refl}
use Prim.Native.Nat.{ℕ}
use mathlib.Core.List.{List, [], ◌∷◌, ◌++◌}
use lib.Ieee.{Float, binary64, of_bits}
use Rattle.std.specs.Prelude.{Some}
use Rattle.file_layout.specs.declared.parts.Layout.{Layout}
use Rattle.file_layout.specs.Layout.{parts_of, placed, sized, all_known, keeps, layout_of}
use Rattle.file_layout.specs.Request.{floats_from, jobs_from, request_of}

-- the six pairs
pairs : List ℕ
pairs = 48 ∷ 0 ∷ 0 ∷ 0 ∷ 8 ∷ 0 ∷ 0 ∷ 0 ∷ 56 ∷ 0 ∷ 0 ∷ 0 ∷ 0 ∷ 0 ∷ 0 ∷ 0 ∷ 56 ∷ 0 ∷ 0 ∷ 0 ∷ 32 ∷ 0 ∷ 0 ∷ 0 ∷ 88 ∷ 0 ∷ 0 ∷ 0 ∷ 0 ∷ 0 ∷ 0 ∷ 0 ∷ 88 ∷ 0 ∷ 0 ∷ 0 ∷ 0 ∷ 0 ∷ 0 ∷ 0 ∷ 88 ∷ 0 ∷ 0 ∷ 0 ∷ 80 ∷ 0 ∷ 0 ∷ 0 ∷ []

-- alpha 0.5
alpha : List ℕ
alpha = 0 ∷ 0 ∷ 0 ∷ 0 ∷ 0 ∷ 0 ∷ 224 ∷ 63 ∷ []

-- the curve (1, 1) (2, 1)
curve : List ℕ
curve = 0 ∷ 0 ∷ 0 ∷ 0 ∷ 0 ∷ 0 ∷ 240 ∷ 63 ∷ 0 ∷ 0 ∷ 0 ∷ 0 ∷ 0 ∷ 0 ∷ 240 ∷ 63 ∷ 0 ∷ 0 ∷ 0 ∷ 0 ∷ 0 ∷ 0 ∷ 0 ∷ 64 ∷ 0 ∷ 0 ∷ 0 ∷ 0 ∷ 0 ∷ 0 ∷ 240 ∷ 63 ∷ []

-- job 3
put : List ℕ
put = 3 ∷ 0 ∷ 0 ∷ 0 ∷ 0 ∷ 0 ∷ 0 ∷ 0 ∷ 0 ∷ 0 ∷ 0 ∷ 0 ∷ 0 ∷ 0 ∷ 240 ∷ 63 ∷ 0 ∷ 0 ∷ 0 ∷ 0 ∷ 0 ∷ 0 ∷ 0 ∷ 64 ∷ 0 ∷ 0 ∷ 0 ∷ 0 ∷ 0 ∷ 0 ∷ 224 ∷ 63 ∷ 0 ∷ 0 ∷ 0 ∷ 0 ∷ 0 ∷ 0 ∷ 0 ∷ 0 ∷ []

-- job 4
call : List ℕ
call = 4 ∷ 0 ∷ 0 ∷ 0 ∷ 0 ∷ 0 ∷ 0 ∷ 0 ∷ 0 ∷ 0 ∷ 0 ∷ 0 ∷ 0 ∷ 0 ∷ 240 ∷ 63 ∷ 0 ∷ 0 ∷ 0 ∷ 0 ∷ 0 ∷ 0 ∷ 0 ∷ 64 ∷ 0 ∷ 0 ∷ 0 ∷ 0 ∷ 0 ∷ 0 ∷ 224 ∷ 63 ∷ 0 ∷ 0 ∷ 0 ∷ 0 ∷ 0 ∷ 0 ∷ 0 ∷ 0 ∷ []

file : List ℕ
unfolding pairs alpha curve put call
file = pairs ++ alpha ++ curve ++ put ++ call

-- pairs (48,8) (56,0) (56,32) (88,0) (88,0) (88,80)
abbrev laid : Layout
laid = record {
  model = record { offset = 48; length = 8 };
  pillars = record { offset = 56; length = 0 };
  curve = record { offset = 56; length = 32 };
  coupons = record { offset = 88; length = 0 };
  grid = record { offset = 88; length = 0 };
  jobs = record { offset = 88; length = 80 };
}

keeps_it : layout_of file ≡ Some laid
unfolding file pairs alpha curve put call layout_of keeps placed sized all_known parts_of
keeps_it = refl

half : Float
half = of_bits binary64 0x3fe0_0000_0000_0000

one : Float
one = of_bits binary64 0x3ff0_0000_0000_0000

two : Float
two = of_bits binary64 0x4000_0000_0000_0000

nought : Float
nought = of_bits binary64 0

-- alpha 0.5; curve (1,1) (2,1); jobs 3 and 4, each with 1, 2, 0.5, 0
asks_it : request_of file laid ≡ record {
  alpha = half;
  pillar_times = [];
  pillar_sigmas = [];
  curve_times = one ∷ two ∷ [];
  curve_factors = one ∷ one ∷ [];
  payments = [];
  accruals = [];
  owns = [];
  grid_times = [];
  draws = [];
  jobs = record { kind = 3; a = one; b = two; c = half; d = nought } ∷ record { kind = 4; a = one; b = two; c = half; d = nought } ∷ [];
}
unfolding file pairs alpha curve put call half one two nought request_of floats_from jobs_from
asks_it = refl
