-- What a caller knows of the parts of a file that keeps the layout: `kept`, and of each job its kind: `kind_known`.
use mathlib.Core.Path.{◌≡◌, refl, sym, ◌∙◌, ap}
use mathlib.Core.Bool.{Bool, true, false, cond, ◌&&◌}
use mathlib.Core.List.{List}
use Prim.Native.Nat.{ℕ, zero, suc, ◌+◌, ◌*◌, ◌/◌, ◌%◌, ◌<◌, ◌≤◌}
use native.Mathlib.Omega.{arith}
use borrow.Author.Tests.{leb-true}
use lib.Dec.{leb}
use lib.ListN.{length}
use Rattle.std.specs.Prelude.{Some, None}
use Rattle.file_layout.specs.declared.parts.Part.{Part}
use Rattle.file_layout.specs.declared.parts.Layout.{Layout}
use Rattle.file_layout.specs.Bytes.{eight_bytes}
use Rattle.file_layout.specs.Layout.{parts_of, end_of, bounded, placed, coupon_width, sized, known, all_known, keeps, layout_of}
use Rattle.file_layout.proofs.Conditions.{both, ends, Counted, sizes}

-- a part lies within the file, and is whole records, not too many
pub record Whole (file : List ℕ) (p : Part) (width limit : ℕ) : Type 0 where
  pub inside : end_of p ≤ length file
  pub whole : p.length % width ≡ 0
  pub few : p.length / width ≤ limit

pub record Kept (file : List ℕ) (l : Layout) : Type 0 where
  pub bytes : length file ≤ 65536
  pub model : l.model.offset + 8 ≤ length file
  pub pillars : Whole file l.pillars 16 64
  pub curve : Whole file l.curve 16 2048
  pub coupons : Whole file l.coupons (coupon_width l) 64
  pub grid : Whole file l.grid 16 1024
  pub jobs : Whole file l.jobs 40 128
  pub kinds : all_known file l.jobs.offset (l.jobs.length / 40) ≡ true

whole_of : (file : List ℕ) (p : Part) (width limit : ℕ) → Counted width limit p → end_of p ≤ length file → Whole file p width limit
whole_of file p width limit c h = record { inside = h; whole = c.whole; few = c.few }

kept_parts : (file : List ℕ) (l : Layout) → keeps file l ≡ true → Kept file l
unfolding keeps
kept_parts file l e =
    let k = both (bounded (length file) && placed (length file) l && sized l) (all_known file l.jobs.offset (l.jobs.length / 40)) e in
    let s = both (bounded (length file) && placed (length file) l) (sized l) k.0 in
    let p = both (bounded (length file)) (placed (length file) l) s.0 in
    let b = both (leb (length file) 65536) (leb 48 (length file)) p.0 in
    let n = ends (length file) l p.1 in
    let z = sizes l s.1 in
    record {
      bytes = leb-true _ _ b.0;
      model = omega (arith, z.model, n.pillars, n.curve, n.coupons, n.grid, n.jobs, n.last);
      pillars = whole_of file l.pillars 16 64 z.pillars (omega (arith, n.curve, n.coupons, n.grid, n.jobs, n.last));
      curve = whole_of file l.curve 16 2048 z.curve (omega (arith, n.coupons, n.grid, n.jobs, n.last));
      coupons = whole_of file l.coupons (coupon_width l) 64 z.coupons (omega (arith, n.grid, n.jobs, n.last));
      grid = whole_of file l.grid 16 1024 z.grid (omega (arith, n.jobs, n.last));
      jobs = whole_of file l.jobs 40 128 z.jobs n.last;
      kinds = k.1;
    }

pick : (b : Bool) (p l : Layout) → cond b (Some p) None ≡ Some l → (b ≡ true) × (p ≡ l)
pick true p l e = (refl, cc)
pick false p l e = absurd (let z : ◌≡◌ {A = ℕ} 0 1 = cc in let y : ⊥ = omega arith in y)

module _ (file : List ℕ) (l : Layout) (e : layout_of file ≡ Some l) where
  picked : (keeps file (parts_of file) ≡ true) × (parts_of file ≡ l)
  unfolding layout_of
  picked = pick (keeps file (parts_of file)) (parts_of file) l e

  pub parts_are : parts_of file ≡ l
  parts_are = picked.1

  pub kept : Kept file l
  kept = kept_parts file l (ap (keeps file) (sym parts_are) ∙ picked.0)

-- ---- each job's kind
job_known : (file : List ℕ) (at n k : ℕ) → all_known file at n ≡ true → k < n → known (eight_bytes file (at + 40 * k)) ≡ true
unfolding all_known
job_known file at zero k t h = absurd (let z : ⊥ = omega arith in z)
job_known file at (suc n) zero t h = let z : at + 40 * 0 ≡ at = omega arith in rw z (both (known (eight_bytes file at)) (all_known file (at + 40) n) t).0
job_known file at (suc n) (suc k) t h =
    let z : at + 40 * suc k ≡ at + 40 + 40 * k = omega arith in
    rw z (job_known file (at + 40) n k (both (known (eight_bytes file at)) (all_known file (at + 40) n) t).1 (omega arith))

-- "another kind breaks the layout"
pub kind_known : (file : List ℕ) (l : Layout) → layout_of file ≡ Some l → (k : ℕ) → k < l.jobs.length / 40 → (1 ≤ eight_bytes file (l.jobs.offset + 40 * k)) × (eight_bytes file (l.jobs.offset + 40 * k) ≤ 13)
kind_known file l e k h =
    let kind = eight_bytes file (l.jobs.offset + 40 * k) in
    let b = both (leb 1 kind) (leb kind 13) (job_known file l.jobs.offset (l.jobs.length / 40) k (kept file l e).kinds h) in
    (leb-true 1 kind b.0, leb-true kind 13 b.1)
