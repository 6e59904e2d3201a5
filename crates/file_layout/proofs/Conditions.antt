-- The conditions of the layout, from the one Bool that they make together to a fact each.
use mathlib.Core.Path.{◌≡◌, refl, sym}
use mathlib.Core.Bool.{Bool, true, false, ◌&&◌, true≢false}
use Prim.Native.Nat.{ℕ, ◌/◌, ◌%◌, ◌≤◌}
use borrow.Author.Tests.{leb-true, eqb-true}
use lib.Dec.{leb, eqb}
use Rattle.file_layout.specs.declared.parts.Part.{Part}
use Rattle.file_layout.specs.declared.parts.Layout.{Layout}
use Rattle.file_layout.specs.Layout.{end_of, placed, records, coupon_width, sized}

pub both : (a b : Bool) → a && b ≡ true → (a ≡ true) × (b ≡ true)
both true b e = (refl, e)
both false b e = absurd (true≢false (sym e))

-- six tests that are all true
six : (a b c d e f : Bool) → a && b && c && d && e && f ≡ true → (a ≡ true) × (b ≡ true) × (c ≡ true) × (d ≡ true) × (e ≡ true) × (f ≡ true)
six a b c d e f h =
    let p = both (a && b && c && d && e) f h in
    let q = both (a && b && c && d) e p.0 in
    let r = both (a && b && c) d q.0 in
    let s = both (a && b) c r.0 in
    let t = both a b s.0 in
    (t.0, t.1, s.1, r.1, q.1, p.1)

-- the places of the parts
pub record Ends (size : ℕ) (l : Layout) : Type 0 where
  pub pillars : end_of l.model ≤ l.pillars.offset
  pub curve : end_of l.pillars ≤ l.curve.offset
  pub coupons : end_of l.curve ≤ l.coupons.offset
  pub grid : end_of l.coupons ≤ l.grid.offset
  pub jobs : end_of l.grid ≤ l.jobs.offset
  pub last : end_of l.jobs ≤ size

pub ends : (size : ℕ) (l : Layout) → placed size l ≡ true → Ends size l
unfolding placed
ends size l e =
    let first = leb 48 l.model.offset && leb (end_of l.model) l.pillars.offset in
    let t = six first (leb (end_of l.pillars) l.curve.offset) (leb (end_of l.curve) l.coupons.offset) (leb (end_of l.coupons) l.grid.offset) (leb (end_of l.grid) l.jobs.offset) (leb (end_of l.jobs) size) e in
    record {
      pillars = leb-true _ _ (both (leb 48 l.model.offset) (leb (end_of l.model) l.pillars.offset) t.0).1;
      curve = leb-true _ _ t.1;
      coupons = leb-true _ _ t.2;
      grid = leb-true _ _ t.3;
      jobs = leb-true _ _ t.4;
      last = leb-true _ _ t.5;
    }

-- whole records, and not too many of them
pub record Counted (width limit : ℕ) (p : Part) : Type 0 where
  pub whole : p.length % width ≡ 0
  pub few : p.length / width ≤ limit

counted : (width limit : ℕ) (p : Part) → records width limit p ≡ true → Counted width limit p
counted width limit p e =
    let t = both (eqb (p.length % width) 0) (leb (p.length / width) limit) e in
    record { whole = eqb-true _ _ t.0; few = leb-true _ _ t.1 }

pub record Sizes (l : Layout) : Type 0 where
  pub model : l.model.length ≡ 8
  pub pillars : Counted 16 64 l.pillars
  pub curve : Counted 16 2048 l.curve
  pub coupons : Counted (coupon_width l) 64 l.coupons
  pub grid : Counted 16 1024 l.grid
  pub jobs : Counted 40 128 l.jobs

pub sizes : (l : Layout) → sized l ≡ true → Sizes l
unfolding sized
sizes l e =
    let t = six (eqb l.model.length 8) (records 16 64 l.pillars) (records 16 2048 l.curve) (records (coupon_width l) 64 l.coupons) (records 16 1024 l.grid) (records 40 128 l.jobs) e in
    record {
      model = eqb-true _ _ t.0;
      pillars = counted 16 64 l.pillars t.1;
      curve = counted 16 2048 l.curve t.2;
      coupons = counted (coupon_width l) 64 l.coupons t.3;
      grid = counted 16 1024 l.grid t.4;
      jobs = counted 40 128 l.jobs t.5;
    }
