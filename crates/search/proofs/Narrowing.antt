-- Brackets on a line of whole numbers, in which the points are the numbers of at most p binary digits and some zeros, counted either way from an origin 2 ^ t.
-- A halving puts the nearest point to the middle for one of the two ends. Natural numbers only. Assumes nothing.
use mathlib.Core.Path.{◌≡◌, refl, sym, ap, ◌∙◌, subst}
use mathlib.Core.Logic.{◌⊎◌, inl, inr, ⊎_elim}
use Prim.Native.Nat.{ℕ, zero, suc, ◌+◌, ◌-◌, ◌*◌, ◌^◌, ◌≤◌, ◌<◌}
use native.Mathlib.Nat.{le_refl, le_trans, le_of_eq, le_antisymm, mul_comm, mul_assoc, mul-one, mul-le-mul_right, le_of_mul-le-mul_right, lt_of_mul-lt-mul_right, mul-sub, pow-suc, add-suc}
use native.Mathlib.Decide.{dec_le, dec_lt}
use native.Mathlib.Omega.{arith}
use lib.Pow.{pow-add, pow_pos, pow_mono}
use lib.Ieee.{size}
use lib.Ieee.Digits.{size-lt, size-le, size_reaches, back}
use lib.Ieee.Nearest.{closest}
use Rattle.search.proofs.Near.{Near, Short, Half, closest_half, middle, middle_near, rounded_short}

pub data Point (p o x : ℕ) : Type 0 where
  right : (z : ℕ) → Short p z → x ≡ o + z → Point p o x
  left : (z : ℕ) → Short p z → x + z ≡ o → Point p o x

-- m is a point, and none is nearer to the middle of lo and hi
pub record Mid (p o lo hi m : ℕ) : Type 0 where
  pub point : Point p o m
  pub nearest : (x r : ℕ) → Point p o x → Near (lo + hi) r (x * 2) → Near (lo + hi) r (m * 2)

zero_short : (p : ℕ) → Short p 0
zero_short p = record { digits = 0; zeros = 0; small = omega arith; is = refl }

pub mid_right : (p o l lo hi m a : ℕ) → 0 < p → 0 < l → lo + hi ≡ o * 2 + a → m ≡ o + middle p l a → Mid p o lo hi m
mid_right p o l lo hi m a P L e f = record { point = right (middle p l a) (rounded_short p _ _) f; nearest = near }
  where
    near : (x r : ℕ) → Point p o x → Near (lo + hi) r (x * 2) → Near (lo + hi) r (m * 2)
    near x r (right z s g) h =
        let k : Near a r (middle p l a * 2) = middle_near p l a z r P L s (omega arith) in
        omega arith
    near x r (left z s g) h =
        let k : Near a r (middle p l a * 2) = middle_near p l a 0 r P L (zero_short p) (omega arith) in
        omega arith

pub mid_left : (p o l lo hi m a : ℕ) → 0 < p → 0 < l → lo + hi + a ≡ o * 2 → m + middle p l a ≡ o → Mid p o lo hi m
mid_left p o l lo hi m a P L e f = record { point = left (middle p l a) (rounded_short p _ _) f; nearest = near }
  where
    near : (x r : ℕ) → Point p o x → Near (lo + hi) r (x * 2) → Near (lo + hi) r (m * 2)
    near x r (right z s g) h =
        let k : Near a r (middle p l a * 2) = middle_near p l a 0 r P L (zero_short p) (omega arith) in
        omega arith
    near x r (left z s g) h =
        let k : Near a r (middle p l a * 2) = middle_near p l a z r P L s (omega arith) in
        omega arith

-- ---- a bracket, and a halving of it
pub record Bracket (p o lo hi : ℕ) : Type 0 where
  pub ordered : lo ≤ hi
  pub low : Point p o lo
  pub high : Point p o hi

pub data Halved (p o lo hi lo' hi' : ℕ) : Type 0 where
  raise : Mid p o lo hi lo' → hi' ≡ hi → Halved p o lo hi lo' hi'
  lower : lo' ≡ lo → Mid p o lo hi hi' → Halved p o lo hi lo' hi'

-- no point lies strictly between
abbrev pub None : ℕ → ℕ → ℕ → ℕ → Type 0
None p o lo hi = (x : ℕ) → Point p o x → lo < x → x < hi → ⊥

module _ {p o lo hi : ℕ} (b : Bracket p o lo hi) where
  -- the middle point lies between the ends, ends included
  pub mid_between : (m : ℕ) → Mid p o lo hi m → (lo ≤ m) × (m ≤ hi)
  mid_between m k =
      let h : lo ≤ hi = b.ordered in
      let n : Near (lo + hi) (hi - lo) (m * 2) = k.nearest lo (hi - lo) b.low (omega arith) in
      omega arith

  -- strictly, where any point does
  pub mid_inside : (m x : ℕ) → Mid p o lo hi m → Point p o x → lo < x → x < hi → (lo < m) × (m < hi)
  mid_inside m x k q g h =
      let n : Near (lo + hi) (hi - lo - 2) (m * 2) = k.nearest x (hi - lo - 2) q (omega arith) in
      omega arith

  pub halved_within : {lo' hi' : ℕ} → Halved p o lo hi lo' hi' → (lo ≤ lo') × (hi' ≤ hi)
  halved_within (raise m e) = ((mid_between _ m).0, le_of_eq e)
  halved_within (lower e m) = (le_of_eq (sym e), (mid_between _ m).1)

pub none_within : (p o lo hi lo' hi' : ℕ) → lo ≤ lo' → hi' ≤ hi → None p o lo hi → None p o lo' hi'
none_within p o lo hi lo' hi' a b n x q g h = n x q (omega arith) (omega arith)

-- ---- how dense the points are: up to 2 ^ p * 2 ^ k from the origin each multiple of 2 ^ k is one
few : (q u n a : ℕ) → 0 < u → Half a (2 * u) q → a ≤ n * u * 2 → q ≤ n
few q u n a U h l = elim (dec_lt n q) [ yes g ↦ absurd (let k = mul-le-mul_right u g in omega arith) | no g ↦ omega arith ]

dense : (p o k h : ℕ) → 2 ^ p * 2 ^ k ≤ o → Near (o * 2) (2 ^ p * 2 ^ k * 2) h → (x : ℕ) × Point p o x × Near h (2 ^ k) (x * 2)
dense p o k h room d =
    let u = 2 ^ k in
    elim (dec_le (o * 2) h) [
      | yes l ↦
          let a = h - o * 2 in
          let q = closest a (2 * u) in
          let c : Half a (2 * u) q = closest_half a (2 * u) (omega (arith, pow_pos k)) in
          (o + q * u, right (q * u) (record { digits = q; zeros = k; small = few q u (2 ^ p) a (pow_pos k) c (omega arith); is = refl }) refl, omega arith)
      | no l ↦
          let a = o * 2 - h in
          let q = closest a (2 * u) in
          let c : Half a (2 * u) q = closest_half a (2 * u) (omega (arith, pow_pos k)) in
          let s : q ≤ 2 ^ p = few q u (2 ^ p) a (pow_pos k) c (omega arith) in
          let f : q * u ≤ o = le_trans (mul-le-mul_right u s) room in
          (o - q * u, left (q * u) (record { digits = q; zeros = k; small = s; is = refl }) (omega arith), omega arith)
    ]

-- ---- how sparse they are: from 2 ^ (p - 1) * 2 ^ k on each is a multiple of 2 ^ k
pub record Multiple (v x : ℕ) : Type 0 where
  pub times : ℕ
  pub is : x ≡ times * v

sparse_short : (p k z : ℕ) → 0 < p → Short p z → 2 ^ (p - 1 + k) ≤ z → Multiple (2 ^ k) z
sparse_short p k z P s h =
    let q = s.digits in
    let j = s.zeros in
    elim (dec_lt j k) [
      | yes l ↦
          let g : z ≤ 2 ^ (p - 1 + k) = le_trans (le_of_eq s.is) (le_trans (mul-le-mul_right (2 ^ j) s.small) (le_trans (le_of_eq (sym (pow-add 2 p j))) (pow_mono (omega arith)))) in
          record { times = 2 ^ (p - 1); is = le_antisymm g h ∙ pow-add 2 (p - 1) k }
      | no l ↦
          record { times = q * 2 ^ (j - k); is = s.is ∙ ap (λ (x : ℕ). q * x) (sym (sym (pow-add 2 (j - k) k) ∙ ap (λ (x : ℕ). 2 ^ x) (back j k (omega arith)))) ∙ sym (mul_assoc q (2 ^ (j - k)) (2 ^ k)) }
    ]

-- far x: at least f from the origin o
abbrev pub Far : ℕ → ℕ → ℕ → Type 0
Far f o x = (x + f ≤ o) ⊎ (o + f ≤ x)

diff : (x a b v : ℕ) → x + b * v ≡ a * v → x ≡ (a - b) * v
diff x a b v h = lemma (mul_comm a v) (mul_comm b v) ∙ sym (mul-sub v a b) ∙ mul_comm v (a - b)
  where
    lemma : a * v ≡ v * a → b * v ≡ v * b → x ≡ v * a - v * b
    lemma e f = omega arith

pub sparse : (p t k x : ℕ) → 0 < p → k ≤ t → Point p (2 ^ t) x → 0 < 2 ^ (p - 1 + k) → Far (2 ^ (p - 1 + k)) (2 ^ t) x → Multiple (2 ^ k) x
sparse p t k x P K q Z f = go q f
  where
    o : ℕ
    o = 2 ^ t

    e : 2 ^ t ≡ 2 ^ (t - k) * 2 ^ k
    e = sym (sym (pow-add 2 (t - k) k) ∙ ap (λ (x : ℕ). 2 ^ x) (back t k K))

    go : Point p (2 ^ t) x → Far (2 ^ (p - 1 + k)) (2 ^ t) x → Multiple (2 ^ k) x
    go (right z s g) (inl h) = absurd (omega arith)
    go (right z s g) (inr h) =
        let m = sparse_short p k z P s (omega arith) in
        record { times = 2 ^ (t - k) + m.times; is = omega (arith, e, m.is) }
    go (left z s g) (inl h) =
        let m = sparse_short p k z P s (omega arith) in
        record { times = 2 ^ (t - k) - m.times; is = diff x (2 ^ (t - k)) m.times (2 ^ k) (sym (ap (λ (y : ℕ). x + y) m.is) ∙ g ∙ e) }
    go (left z s g) (inr h) = absurd (omega arith)

-- ---- the scale of a bracket: 2 ^ k is a spacing of points that reach past both ends, and it is 1, or the smallest such
pub record Scale (p o k lo hi : ℕ) : Type 0 where
  pub low_reach : Near o (2 ^ p * 2 ^ k) lo
  pub high_reach : Near o (2 ^ p * 2 ^ k) hi
  pub room : 2 ^ p * 2 ^ k ≤ o
  pub smallest : (k ≡ 0) ⊎ ((lo + 2 ^ (p - 1 + k) ≤ o) ⊎ (o + 2 ^ (p - 1 + k) ≤ hi))

scale_go : (p t lo hi a z : ℕ) → 0 < p → p ≤ t → lo ≤ hi → Near (2 ^ t) a lo → Near (2 ^ t) a hi → (lo + a ≤ 2 ^ t) ⊎ (2 ^ t + a ≤ hi)
    → a < 2 ^ z → z ≤ t → ((j : ℕ) → j < z → 2 ^ j ≤ a) → Scale p (2 ^ t) (z - p) lo hi
scale_go p t lo hi a z P T l u v f s zt r =
    let k = z - p in
    let e : 2 ^ p * 2 ^ k ≡ 2 ^ (p + k) = sym (pow-add 2 p k) in
    let g : 2 ^ z ≤ 2 ^ (p + k) = pow_mono (omega arith) in
    let m : 2 ^ (p + k) ≤ 2 ^ t = pow_mono (omega arith) in
    record {
      low_reach = omega arith;
      high_reach = omega arith;
      room = le_trans (le_of_eq e) m;
      smallest = elim (dec_lt p z) [
        | yes h ↦ let b : 2 ^ (p - 1 + k) ≤ a = r (p - 1 + k) (omega arith) in inr (⊎_elim (λ (x : lo + a ≤ 2 ^ t). inl (omega arith)) (λ (x : 2 ^ t + a ≤ hi). inr (omega arith)) f)
        | no h ↦ inl (omega arith)
      ];
    }

pub scale_of : (p t lo hi : ℕ) → 0 < p → p ≤ t → lo ≤ hi → 0 < lo → hi < 2 ^ t * 2 → (k : ℕ) × Scale p (2 ^ t) k lo hi
scale_of p t lo hi P T l L H =
    elim (dec_le (2 ^ t - lo) (hi - 2 ^ t)) [
      | yes h ↦
          let a = hi - 2 ^ t in
          (size a - p, scale_go p t lo hi a (size a) P T l (omega arith) (omega arith) (elim (dec_le (2 ^ t) hi) [ yes g ↦ inr (omega arith) | no g ↦ inl (omega arith) ]) (size-lt a) (size-le a t (omega arith)) (size_reaches a))
      | no h ↦
          let a = 2 ^ t - lo in
          (size a - p, scale_go p t lo hi a (size a) P T l (omega arith) (omega arith) (inl (omega arith)) (size-lt a) (size-le a t (omega (arith, pow_pos t))) (size_reaches a))
    ]

-- ---- a halving at that scale: the new width is at most half of the old and half of the spacing
pub mid_close : (p o k lo hi m : ℕ) → Scale p o k lo hi → Mid p o lo hi m → Near (lo + hi) (2 ^ k) (m * 2)
mid_close p o k lo hi m s n =
    let d = dense p o k (lo + hi) s.room (let a = s.low_reach in let b = s.high_reach in omega arith) in
    n.nearest d.0 (2 ^ k) d.1 d.2

halved_width : (p o k lo hi lo' hi' : ℕ) → Scale p o k lo hi → Halved p o lo hi lo' hi' → hi' * 2 + lo ≤ lo' * 2 + hi + 2 ^ k
halved_width p o k lo hi lo' hi' s (raise m e) = let n = mid_close p o k lo hi lo' s m in omega arith
halved_width p o k lo hi lo' hi' s (lower e m) = let n = mid_close p o k lo hi hi' s m in omega arith

-- a wide bracket: 257 parts of 512 are left
pub wide_width : (p o k lo hi lo' hi' w w' : ℕ) → Scale p o k lo hi → Halved p o lo hi lo' hi' → lo + 256 * 2 ^ k ≤ hi → hi ≡ lo + w → hi' ≡ lo' + w' → w' * 512 ≤ w * 257
wide_width p o k lo hi lo' hi' w w' s h l e e' = let n = halved_width p o k lo hi lo' hi' s h in omega arith

-- ---- a narrow bracket: all points in it are multiples of a v, and the spacing is at most v * 2. The ends are at most 2 ^ j + 1 such multiples apart
pub record Narrow (p o v j lo hi : ℕ) : Type 0 where
  pub positive : 0 < v
  pub multiples : (x : ℕ) → Point p o x → lo ≤ x → x ≤ hi → Multiple v x
  pub close : (h : ℕ) → lo * 2 ≤ h → h ≤ hi * 2 → (x : ℕ) × Point p o x × Near h (v * 2) (x * 2)
  pub apart : hi ≤ lo + (2 ^ j + 1) * v

close_at : (p o k v lo hi : ℕ) → Scale p o k lo hi → 2 ^ k ≤ v * 2 → (h : ℕ) → lo * 2 ≤ h → h ≤ hi * 2 → (x : ℕ) × Point p o x × Near h (v * 2) (x * 2)
close_at p o k v lo hi s l h a b =
    let d = dense p o k h s.room (let c = s.low_reach in let e = s.high_reach in omega arith) in
    (d.0, d.1, let n = d.2 in omega arith)

-- 2 ^ (p - 1) is at least 512
module _ (p t lo hi : ℕ) (P : 10 ≤ p) where
  at_one : Scale p (2 ^ t) 0 lo hi → hi < lo + 256 * 1 → Narrow p (2 ^ t) 1 9 lo hi
  at_one s w = record {
    positive = omega arith;
    multiples = λ x q a b. record { times = x; is = sym (mul-one x) };
    close = close_at p (2 ^ t) 0 1 lo hi s (omega arith);
    apart = omega arith;
  }

  far : (i x : ℕ) → (lo + 2 ^ (p - 1 + suc i) ≤ 2 ^ t) ⊎ (2 ^ t + 2 ^ (p - 1 + suc i) ≤ hi) → hi < lo + 256 * 2 ^ suc i → lo ≤ x → x ≤ hi → Far (2 ^ (p - 1 + i)) (2 ^ t) x
  far i x f w a b =
      let e : 2 ^ (p - 1 + suc i) ≡ 2 ^ (p - 1 + i) * 2 = ap (λ (y : ℕ). 2 ^ y) (add-suc (p - 1) i) ∙ pow-suc 2 (p - 1 + i) in
      let g : 2 ^ suc i ≡ 2 ^ i * 2 = pow-suc 2 i in
      let h : 512 * 2 ^ i ≤ 2 ^ (p - 1 + i) = le_trans (le_of_eq (sym (pow-add 2 9 i))) (pow_mono (omega arith)) in
      ⊎_elim (λ (y : lo + 2 ^ (p - 1 + suc i) ≤ 2 ^ t). inl (omega arith)) (λ (y : 2 ^ t + 2 ^ (p - 1 + suc i) ≤ hi). inr (omega arith)) f

  pub narrow : (k : ℕ) → k ≤ t → Scale p (2 ^ t) k lo hi → hi < lo + 256 * 2 ^ k → (v : ℕ) × Narrow p (2 ^ t) v 9 lo hi
  narrow zero K s w = (1, at_one s w)
  narrow (suc i) K s w = (
    2 ^ i,
    record {
      positive = pow_pos i;
      multiples = λ x q a b. sparse p t i x (omega arith) (omega arith) q (pow_pos (p - 1 + i)) (far i x (⊎_elim (λ (z : suc i ≡ 0). absurd (omega arith)) (λ f. f) s.smallest) w a b);
      close = close_at p (2 ^ t) (suc i) (2 ^ i) lo hi s (le_of_eq (pow-suc 2 i));
      apart = let g : 2 ^ suc i ≡ 2 ^ i * 2 = pow-suc 2 i in omega arith;
    },
  )

-- numbers of v's
cancel : (x y v : ℕ) → 0 < v → x * v ≤ y * v → x ≤ y
cancel x y v pv h = le_of_mul-le-mul_right h pv

high_part : (a b c n v : ℕ) → 0 < v → b * v ≤ a * v + (n * 2 + 1) * v → a * v + b * v ≤ c * v * 2 + v * 2 → b * v ≤ c * v + (n + 1) * v
high_part a b c n v pv h k =
    let x : b ≤ a + n * 2 + 1 = cancel b (a + n * 2 + 1) v pv (omega arith) in
    let y : a + b ≤ c * 2 + 2 = cancel (a + b) (c * 2 + 2) v pv (omega arith) in
    let z : b ≤ c + n + 1 = omega arith in
    omega (arith, mul-le-mul_right v z)

low_part : (a b c n v : ℕ) → 0 < v → b * v ≤ a * v + (n * 2 + 1) * v → c * v * 2 ≤ a * v + b * v + v * 2 → c * v ≤ a * v + (n + 1) * v
low_part a b c n v pv h k =
    let x : b ≤ a + n * 2 + 1 = cancel b (a + n * 2 + 1) v pv (omega arith) in
    let y : c * 2 ≤ a + b + 2 = cancel (c * 2) (a + b + 2) v pv (omega arith) in
    let z : c ≤ a + n + 1 = omega arith in
    omega (arith, mul-le-mul_right v z)

-- four multiples in order do not fit in two v's
six : (a b c d v : ℕ) → 0 < v → d * v ≤ a * v + 2 * v → a * v < b * v → b * v < c * v → c * v < d * v → ⊥
six a b c d v pv h f g k =
    let x = lt_of_mul-lt-mul_right v f in
    let y = lt_of_mul-lt-mul_right v g in
    let z = lt_of_mul-lt-mul_right v k in
    let u : d ≤ a + 2 = cancel d (a + 2) v pv (omega arith) in
    omega arith

module _ {p o v lo hi : ℕ} (b : Bracket p o lo hi) where
  mid_at : (j m : ℕ) → Narrow p o v j lo hi → Mid p o lo hi m → Multiple v m × Near (lo + hi) (v * 2) (m * 2)
  mid_at j m n k =
      let w = mid_between b m k in
      let l : lo ≤ hi = b.ordered in
      let d = n.close (lo + hi) (omega arith) (omega arith) in
      (n.multiples m k.point w.0 w.1, k.nearest d.0 (v * 2) d.1 d.2)

  apart_less : (j lo' hi' : ℕ) → Narrow p o v (suc j) lo hi → Halved p o lo hi lo' hi' → hi' ≤ lo' + (2 ^ j + 1) * v
  apart_less j lo' hi' n (raise m e) =
      let x = n.multiples lo b.low (le_refl lo) b.ordered in
      let y = n.multiples hi b.high b.ordered (le_refl hi) in
      let (z, r) = mid_at (suc j) lo' n m in
      let f = n.apart in
      let g : 2 ^ suc j ≡ 2 ^ j * 2 = pow-suc 2 j in
      let f' : y.times * v ≤ x.times * v + (2 ^ j * 2 + 1) * v = subst (λ (q : ℕ). y.times * v ≤ x.times * v + (q + 1) * v) g (omega (arith, f, x.is, y.is)) in
      let h = high_part x.times y.times z.times (2 ^ j) v n.positive f' (omega (arith, r, x.is, y.is, z.is)) in
      omega (arith, h, y.is, z.is)
  apart_less j lo' hi' n (lower e m) =
      let x = n.multiples lo b.low (le_refl lo) b.ordered in
      let y = n.multiples hi b.high b.ordered (le_refl hi) in
      let (z, r) = mid_at (suc j) hi' n m in
      let f = n.apart in
      let g : 2 ^ suc j ≡ 2 ^ j * 2 = pow-suc 2 j in
      let f' : y.times * v ≤ x.times * v + (2 ^ j * 2 + 1) * v = subst (λ (q : ℕ). y.times * v ≤ x.times * v + (q + 1) * v) g (omega (arith, f, x.is, y.is)) in
      let h = low_part x.times y.times z.times (2 ^ j) v n.positive f' (omega (arith, r, x.is, y.is, z.is)) in
      omega (arith, h, x.is, z.is)

  pub narrower : (j lo' hi' : ℕ) → Narrow p o v (suc j) lo hi → Halved p o lo hi lo' hi' → Narrow p o v j lo' hi'
  narrower j lo' hi' n h =
      let w = halved_within b h in
      record {
        positive = n.positive;
        multiples = λ x q c d. n.multiples x q (omega arith) (omega arith);
        close = λ x c d. n.close x (omega arith) (omega arith);
        apart = apart_less j lo' hi' n h;
      }

  -- two v's wide, and a point inside: the middle is that point, and each half is one v wide
  pub narrowest : (lo' hi' : ℕ) → Narrow p o v 0 lo hi → Halved p o lo hi lo' hi' → None p o lo' hi'
  narrowest lo' hi' n h x q c d =
      let w = halved_within b h in
      let y = n.multiples x q (omega arith) (omega arith) in
      let i = n.multiples lo b.low (le_refl lo) b.ordered in
      let k = n.multiples hi b.high b.ordered (le_refl hi) in
      go h y i k n.apart (omega arith) (omega arith)
    where
      inside : (m : ℕ) → Mid p o lo hi m → lo < x → x < hi → (lo < m) × (m < hi) × Multiple v m
      inside m k f g = let r = mid_inside b m x k q f g in (r.0, r.1, (mid_at 0 m n k).0)

      go : Halved p o lo hi lo' hi' → Multiple v x → Multiple v lo → Multiple v hi → hi ≤ lo + (2 ^ 0 + 1) * v → lo < x → x < hi → ⊥
      go (raise m e) y i k f g g' =
          let (r, t, z) = inside lo' m g g' in
          six i.times z.times y.times k.times v n.positive (omega (arith, f, i.is, k.is)) (omega (arith, r, i.is, z.is)) (omega (arith, c, y.is, z.is)) (omega (arith, g', y.is, k.is))
      go (lower e m) y i k f g g' =
          let (r, t, z) = inside hi' m g g' in
          six i.times y.times z.times k.times v n.positive (omega (arith, f, i.is, k.is)) (omega (arith, g, i.is, y.is)) (omega (arith, d, y.is, z.is)) (omega (arith, t, z.is, k.is))
