-- The nine lists of a request under numbers, and where each stands in an array of floats that is lent for all of them.
use Rattle.std.specs.Prelude.{ℕ, ◌<◌, ◌≡◌, List, [], ◌∷◌, length, take, drop, get_or, Float}
use Rattle.file_layout.specs.declared.parts.Part.{Part}
use Rattle.file_layout.specs.declared.parts.Layout.{Layout}
use Rattle.file_layout.specs.declared.reading.Column.{Column}
use Rattle.file_layout.specs.declared.reading.Which.{Which}
use Rattle.file_layout.specs.declared.reading.Which.TheVariants.{PillarTimes, PillarSigmas, CurveTimes, CurveFactors, Payments, Accruals, Owns, GridTimes, Draws}
use Rattle.file_layout.specs.Layout.{coupon_width}
use Rattle.file_layout.specs.Request.{Request, request_of}

-- "pillars: time, sigma"; "curve: time, factor"; "coupons: payment time, accrual, own discount factor"; "grid: time, draw"
abbrev pub lists_in : Request → List (List Float)
lists_in q = q.pillar_times ∷ q.pillar_sigmas ∷ q.curve_times ∷ q.curve_factors ∷ q.payments ∷ q.accruals ∷ q.owns ∷ q.grid_times ∷ q.draws ∷ []

-- list `which`, from 0
abbrev pub list_of : Request → ℕ → List Float
list_of q which = get_or (lists_in q) which []

-- the number of a list
abbrev pub number : Which → ℕ
number PillarTimes = 0
number PillarSigmas = 1
number CurveTimes = 2
number CurveFactors = 3
number Payments = 4
number Accruals = 5
number Owns = 6
number GridTimes = 7
number Draws = 8

-- the column that list `which` is, with `request_of`, and the place where it is put: the lists before it have room for as many floats as they may have
abbrev pub column_on : Part → ℕ → ℕ → ℕ → Column
column_on part width field place = record { part = part; width = width; field = field; place = place }

abbrev pub columns_in : Layout → List Column
columns_in l =
    column_on l.pillars 16 0 0
    ∷ column_on l.pillars 16 1 64
    ∷ column_on l.curve 16 0 128
    ∷ column_on l.curve 16 1 2176
    ∷ column_on l.coupons (coupon_width l) 0 4224
    ∷ column_on l.coupons (coupon_width l) 1 4288
    ∷ column_on l.coupons (coupon_width l) 2 4352
    ∷ column_on l.grid 16 0 4416
    ∷ column_on l.grid 16 1 5440
    ∷ []

abbrev pub column_at : Layout → ℕ → Column
column_at l which = get_or (columns_in l) which (column_on l.model 8 0 6464)

-- list `which` stands at its place
abbrev pub Stands : List ℕ → Layout → List Float → ℕ → Type 0
Stands file l floats which = let list = list_of (request_of file l) which in take (length list) (drop (column_at l which).place floats) ≡ list

-- each of the nine at its own
pub record HoldsLists (file : List ℕ) (l : Layout) (floats : List Float) : Type 0 where
  pub room : length floats ≡ 6464
  pub lists : (which : ℕ) → which < 9 → Stands file l floats which
