-- Between -746 and 710 the product with log2e is of moderate size: the rounding keeps the order.
use Rattle.std.proofs.Common.{◌≡◌, ℕ, zero, suc, ◌+◌, ◌*◌, ◌^◌, ◌<◌, ◌≤◌, Bool, true, false, cond, T, ltb, ℤ, pos, sym, refl, ap, ◌∙◌, subst, true≢false, le_trans, le_of_eq, mul-pos, mul-one, arith, lit<, le→leb, ltb-false}
use lib.Ieee.{Float, nan, inf, fin, Format, binary64, prec, emax, low, up, down, odd, units, round, mul, neg, lt, le, ne, of_bits}
use lib.Ieee.Fits.{round_is, down_pos}
use lib.Ieee.Order.{round_mono, drop, kept}
use Rattle.ieee.specs.Decimal.{decimal}
use Rattle.math_elementary.specs.Constants.{log2e}
use Rattle.math_exponential.specs.Exp.{moderate}
use Rattle.math_elementary.proofs.AtMost.{or_le}
use Rattle.math_exponential.proofs.Nearest.{sgn}

-- ---- the sign of what is rounded
odd_neg : (d q k l : ℕ) → odd d true q k l ≡ neg (odd d false q k l)
unfolding odd neg
odd_neg d zero k l = refl
odd_neg d (suc q) k l = refl

units_neg : (f : Format) (q k : ℕ) → units f true q k ≡ neg (units f false q k)
unfolding units neg
units_neg f q k = go (ltb (q * 2 ^ k) (2 ^ (low f + suc (emax f))))
  where
    go : (b : Bool) → cond b (odd (suc (prec f)) true q k (low f)) (inf true) ≡ neg (cond b (odd (suc (prec f)) false q k (low f)) (inf false))
    go true = odd_neg (suc (prec f)) q k (low f)
    go false = refl

pub round_neg : (f : Format) (a c : ℕ) → round f true a c ≡ neg (round f false a c)
round_neg f a c = round_is f true a c ∙ units_neg f (kept (prec f) (a * 2 ^ low f) c) (drop (prec f) (a * 2 ^ low f) c) ∙ ap neg (sym (round_is f false a c))

odd_sgn : (d q k l : ℕ) → sgn (odd d false q k l) ≡ false
unfolding odd
odd_sgn d zero k l = refl
odd_sgn d (suc q) k l = refl

units_sgn : (f : Format) (q k : ℕ) → sgn (units f false q k) ≡ false
unfolding units
units_sgn f q k = go (ltb (q * 2 ^ k) (2 ^ (low f + suc (emax f))))
  where
    go : (b : Bool) → sgn (cond b (odd (suc (prec f)) false q k (low f)) (inf false)) ≡ false
    go true = odd_sgn (suc (prec f)) q k (low f)
    go false = refl

pub round_sgn : (f : Format) (a c : ℕ) → sgn (round f false a c) ≡ false
round_sgn f a c = ap sgn (round_is f false a c) ∙ units_sgn f (kept (prec f) (a * 2 ^ low f) c) (drop (prec f) (a * 2 ^ low f) c)

-- ---- what is not above 1077
below_moderate : (y : Float) → sgn y ≡ false → T (le y (fin false 1077 (pos 0))) → T (moderate y)
unfolding le
below_moderate nan s h = absurd h
below_moderate (inf true) s h = absurd (true≢false s)
below_moderate (inf false) s h = absurd h
below_moderate (fin true m e) s h = absurd (true≢false s)
below_moderate (fin false m e) s h =
    let l : m * up e * 1 ≤ 1077 * down e = or_le (m * up e * 1) (1077 * down e) true h in
    le→leb (m * up e) (1200 * down e) (omega arith)

moderate_neg : (y : Float) → T (moderate y) → T (moderate (neg y))
unfolding neg
moderate_neg nan h = h
moderate_neg (inf s) h = h
moderate_neg (fin s m e) h = h

at_1077 : round binary64 false 1077 1 ≡ fin false 1077 (pos 0)
unfolding round
at_1077 = refl

rounded_moderate : (a c : ℕ) → 0 < c → a ≤ 1077 * c → T (moderate (round binary64 false a c))
rounded_moderate a c C h =
    below_moderate (round binary64 false a c) (round_sgn binary64 a c)
    (subst (λ (z : Float). T (le (round binary64 false a c) z)) at_1077
    (round_mono binary64 a c 1077 1 C (lit< tt) (le_trans (le_of_eq (mul-one a)) h)))

signed_moderate : (s : Bool) (a c : ℕ) → 0 < c → a ≤ 1077 * c → T (moderate (round binary64 s a c))
signed_moderate false a c C h = rounded_moderate a c C h
signed_moderate true a c C h = rw (round_neg binary64 a c) (moderate_neg (round binary64 false a c) (rounded_moderate a c C h))

-- ---- the product: log2e is 3248660424278399 / 2 ^ 51, and 746 times that is below 1077
scaled : (a d : ℕ) → a ≤ 746 * d → a * 3248660424278399 ≤ 1077 * (d * 2251799813685248)
scaled a d h = omega arith

product : (s : Bool) (m : ℕ) (e : ℤ) → m * up e ≤ 746 * down e → T (moderate (mul binary64 (fin s m e) log2e))
unfolding mul decimal
product true m e h = signed_moderate true (m * up e * 3248660424278399) (down e * 2251799813685248) (mul-pos (down_pos e) (lit< tt)) (scaled (m * up e) (down e) h)
product false m e h = signed_moderate false (m * up e * 3248660424278399) (down e * 2251799813685248) (mul-pos (down_pos e) (lit< tt)) (scaled (m * up e) (down e) h)

pub exp_moderate : (x : Float) → ne x x ≡ false → lt (of_bits binary64 0x4086_3000_0000_0000) x ≡ false → lt x (of_bits binary64 0xc087_5000_0000_0000) ≡ false → T (moderate (mul binary64 x log2e))
unfolding ne lt of_bits
exp_moderate nan n h k = absurd (true≢false n)
exp_moderate (inf true) n h k = absurd (true≢false k)
exp_moderate (inf false) n h k = absurd (true≢false h)
exp_moderate (fin false m e) n h k = product false m e (let l : m * up e * 1 ≤ 710 * down e = ltb-false (710 * down e) (m * up e * 1) h in omega arith)
exp_moderate (fin true m e) n h k = product true m e (let l : m * up e * 1 ≤ 746 * down e = ltb-false (746 * down e) (m * up e * 1) k in omega arith)
