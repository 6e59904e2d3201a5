-- Document 01, "The run file", sentence by sentence: the six parts that a file names, and when they keep the layout.
use Rattle.std.specs.Prelude.{ℕ, zero, suc, ◌+◌, ◌*◌, ◌/◌, ◌%◌, Bool, true, cond, ◌&&◌, List, leb, eqb, length, Option, Some, None}
use Rattle.file_layout.specs.declared.parts.Part.{Part}
use Rattle.file_layout.specs.declared.parts.Layout.{Layout}
use Rattle.file_layout.specs.Bytes.{four_bytes, eight_bytes}

-- "It begins with six pairs of offset and length (u32 each, bytes, from the file's start)": pair k
abbrev pub pair_at : List ℕ → ℕ → Part
pair_at file k = record { offset = four_bytes file (8 * k); length = four_bytes file (8 * k + 4) }

-- "In order": model, pillars, curve, coupons, grid, jobs
unfoldable pub parts_of : List ℕ → Layout
parts_of file = record {
  model = pair_at file 0;
  pillars = pair_at file 1;
  curve = pair_at file 2;
  coupons = pair_at file 3;
  grid = pair_at file 4;
  jobs = pair_at file 5;
}

-- "offset plus length", which never wraps
abbrev pub end_of : Part → ℕ
end_of p = p.offset + p.length

-- "At most 65,536 bytes", and room for the six pairs
abbrev pub bounded : ℕ → Bool
bounded size = leb size 65536 && leb 48 size

-- "sorted by offset. Each offset is at least the previous offset plus length, the first at least 48, the last end within the file"
unfoldable pub placed : ℕ → Layout → Bool
placed size l =
    leb 48 l.model.offset
    && leb (end_of l.model) l.pillars.offset
    && leb (end_of l.pillars) l.curve.offset
    && leb (end_of l.curve) l.coupons.offset
    && leb (end_of l.coupons) l.grid.offset
    && leb (end_of l.grid) l.jobs.offset
    && leb (end_of l.jobs) size

-- whole records of that many bytes, and at most so many of them
abbrev pub records : ℕ → ℕ → Part → Bool
records width limit p = eqb (p.length % width) 0 && leb (p.length / width) limit

-- the bytes of a coupon: "payment time, accrual, own discount factor". The layout is named so that another model may have longer ones
abbrev pub coupon_width : Layout → ℕ
coupon_width l = 24

-- "with record and limit": a float or a u64 of a record is 8 bytes
unfoldable pub sized : Layout → Bool
sized l =
    eqb l.model.length 8
    && records 16 64 l.pillars
    && records 16 2048 l.curve
    && records (coupon_width l) 64 l.coupons
    && records 16 1024 l.grid
    && records 40 128 l.jobs

-- "Kinds: 1 caplet, .. 12 path .. another kind breaks the layout"; document 02, A.6: "Kind 13 is a path"
abbrev pub known : ℕ → Bool
known kind = leb 1 kind && leb kind 13

-- the n jobs from place `at` on have such kinds
unfoldable pub all_known : List ℕ → ℕ → ℕ → Bool
all_known file at zero = true
all_known file at (suc n) = known (eight_bytes file at) && all_known file (at + 40) n

-- the file keeps the layout with these parts
unfoldable pub keeps : List ℕ → Layout → Bool
keeps file l =
    bounded (length file)
    && placed (length file) l
    && sized l
    && all_known file l.jobs.offset (l.jobs.length / 40)

-- the parts of a file that keeps it; none, of one that breaks it
unfoldable pub layout_of : List ℕ → Option Layout
layout_of file = cond (keeps file (parts_of file)) (Some (parts_of file)) None
