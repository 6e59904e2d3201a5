-- hullwhitemodel.rs: the analytic formulas, on factors that are already fetched. t is an option time, T a bond time; p is a factor. Every operation rounds once, in the Rust's order. Behind the formulas stand their parts that are worked ahead, each joined to its formula by a law.
use Rattle.std.specs.Prelude.{◌≡◌, refl, Float}
use Rattle.std.specs.Float.Ieee.{neg}
use Rattle.ieee.specs.Rounded.{◌⊖◌, ◌⊗◌, ◌⊘◌}
use Rattle.ieee.specs.Decimal.{decimal}
use Rattle.ieee.specs.Numbers.{half, one, two, four}
use Rattle.ieee.specs.Fused.{fused_of}
use Rattle.ieee.specs.Sqrt.{sqrt_of}
use Rattle.math_exponential.specs.Exp.{exp_of}
use Rattle.math_elementary.specs.Ln.{ln_of}
use Rattle.math_normal.specs.NormCdf.{norm_cdf_of}

-- "h is 1.0/365.0"
unfoldable pub h : Float
h = one ⊘ decimal 365 0

-- B(t, T) = (1 - exp(-alpha × (T - t)))/alpha
unfoldable pub b_of : Float → Float → Float → Float
b_of alpha t T = (one ⊖ exp_of (neg alpha ⊗ (T ⊖ t))) ⊘ alpha

-- the forward rate at a time: -ln(P(t + h)/P(t))/h
unfoldable pub forward_of : Float → Float → Float
forward_of p p_plus = neg (ln_of (p_plus ⊘ p)) ⊘ h

-- A(t, T), b being B(t, T) and f the forward rate at t: the exponential of b × f + ln(P(T)/P(t)) less sigma²/(4 × alpha) × (1 - exp(-2 × alpha × t)) × b × b, both sums fused
unfoldable pub a_of : Float → Float → Float → Float → Float → Float → Float → Float
a_of alpha t sigma b f pt p_t = exp_of (fused_of (sigma ⊗ sigma ⊘ (four ⊗ alpha) ⊗ (one ⊖ exp_of (neg two ⊗ alpha ⊗ t)) ⊗ b) (neg b) (fused_of b f (ln_of (p_t ⊘ pt))))

-- A × exp(-B × r)
unfoldable pub zcb_price_of : Float → Float → Float → Float
zcb_price_of a b rate = a ⊗ exp_of (neg b ⊗ rate)

-- `zcb_price_volatility`: sigma × B(t, T) × √((1 - exp(-2 × alpha × t))/(2 × alpha))
unfoldable pub zcb_price_volatility_of : Float → Float → Float → Float → Float
zcb_price_volatility_of alpha sigma t T = sigma ⊗ b_of alpha t T ⊗ sqrt_of ((one ⊖ exp_of (neg two ⊗ alpha ⊗ t)) ⊘ (two ⊗ alpha))

-- the forward rate's slope, from its values a day apart
unfoldable pub slope_of : Float → Float → Float
slope_of later earlier = (later ⊖ earlier) ⊘ h

-- theta(t): sigma²/(2 × alpha) × (1 - exp(-2 × alpha × t)) + (alpha × f + slope), both sums fused
unfoldable pub theta_of : Float → Float → Float → Float → Float → Float
theta_of alpha t sigma f slope = fused_of (sigma ⊗ sigma ⊘ (two ⊗ alpha)) (one ⊖ exp_of (neg two ⊗ alpha ⊗ t)) (fused_of alpha f slope)

-- sigma² × (1 - exp(-2 × alpha × (T - t)))/(2 × alpha)
unfoldable pub short_rate_variance_of : Float → Float → Float → Float → Float
short_rate_variance_of alpha t T sigma = sigma ⊗ sigma ⊗ (one ⊖ exp_of (neg two ⊗ alpha ⊗ (T ⊖ t))) ⊘ (two ⊗ alpha)

-- a bond option's d1 = (0.5 × σp × σp + ln(P(T)/(X × P(t))))/σp, the sum fused; d2 = d1 - σp
unfoldable pub bond_d1_of : Float → Float → Float → Float → Float
bond_d1_of sigma_p strike pt p_t = fused_of (half ⊗ sigma_p) sigma_p (ln_of (p_t ⊘ (strike ⊗ pt))) ⊘ sigma_p

-- a bond put: X × P(t) × N(-d2) - P(T) × N(-d1), fused
unfoldable pub bond_put_of : Float → Float → Float → Float → Float
bond_put_of sigma_p strike pt p_t =
    let d1 = bond_d1_of sigma_p strike pt p_t in
    let d2 = d1 ⊖ sigma_p in
    fused_of (strike ⊗ pt) (norm_cdf_of (neg d2)) (neg (p_t ⊗ norm_cdf_of (neg d1)))

-- a bond call: P(T) × N(d1) - X × P(t) × N(d2), fused
unfoldable pub bond_call_of : Float → Float → Float → Float → Float
bond_call_of sigma_p strike pt p_t =
    let d1 = bond_d1_of sigma_p strike pt p_t in
    let d2 = d1 ⊖ sigma_p in
    fused_of p_t (norm_cdf_of d1) (neg (strike ⊗ pt ⊗ norm_cdf_of d2))

-- 1 + tau × K, fused
unfoldable pub growth_of : Float → Float → Float
growth_of tau strike = fused_of tau strike one

-- a caplet is (1 + tau × K) times a put on a bond with the strike 1/(1 + tau × K), tau being S - t; a floorlet is that many calls
unfoldable pub optionlet_strike_of : Float → Float → Float → Float
optionlet_strike_of strike t S = one ⊘ growth_of (S ⊖ t) strike

unfoldable pub optionlet_of : Float → Float → Float → Float → Float
optionlet_of strike t S option = growth_of (S ⊖ t) strike ⊗ option

-- ---- worked ahead: a part that several sigmas, bonds or formulas share is worked once. Each law says that the formula on its parts is the one above

-- 1 - exp(-2 × alpha × t): of the stationary variance, sigma²/(2 × alpha), the share that is reached by t
unfoldable pub stationary_share_of : Float → Float → Float
stationary_share_of alpha t = one ⊖ exp_of (neg two ⊗ alpha ⊗ t)

-- the curve's part of ln A, which no sigma changes
unfoldable pub curve_part_of : Float → Float → Float → Float → Float
curve_part_of b f pt p_t = fused_of b f (ln_of (p_t ⊘ pt))

-- half the variance of the state at t, which no bond changes: sigma²/(4 × alpha) times the share at t
unfoldable pub half_variance_of : Float → Float → Float → Float
half_variance_of alpha sigma share = sigma ⊗ sigma ⊘ (four ⊗ alpha) ⊗ share

-- A from half the variance at t, B(t, T) and the curve's part
unfoldable pub a_at : Float → Float → Float → Float
a_at halfVariance b curvePart = exp_of (fused_of (halfVariance ⊗ b) (neg b) curvePart)

pub a_ahead : (alpha t sigma b f pt p_t : Float) → a_at (half_variance_of alpha sigma (stationary_share_of alpha t)) b (curve_part_of b f pt p_t) ≡ a_of alpha t sigma b f pt p_t
unfolding a_at half_variance_of stationary_share_of curve_part_of a_of
a_ahead alpha t sigma b f pt p_t = refl

-- the variance of the state at the option time, for a sigma of 1, and its root
abbrev pub state_variance_of : Float → Float → Float
state_variance_of alpha t = stationary_share_of alpha t ⊘ (two ⊗ alpha)

unfoldable pub state_deviation_of : Float → Float → Float
state_deviation_of alpha t = sqrt_of (state_variance_of alpha t)

-- the same from the share at t
unfoldable pub state_deviation_at : Float → Float → Float
state_deviation_at alpha share = sqrt_of (share ⊘ (two ⊗ alpha))

pub state_deviation_ahead : (alpha t : Float) → state_deviation_at alpha (stationary_share_of alpha t) ≡ state_deviation_of alpha t
unfolding state_deviation_at state_deviation_of
state_deviation_ahead alpha t = refl

-- a bond's volatility from B(t, T) and the state's deviation
abbrev pub zcb_price_volatility_at : Float → Float → Float → Float
zcb_price_volatility_at sigma b deviation = sigma ⊗ b ⊗ deviation

pub zcb_price_volatility_ahead : (alpha sigma t T : Float) → zcb_price_volatility_at sigma (b_of alpha t T) (state_deviation_of alpha t) ≡ zcb_price_volatility_of alpha sigma t T
unfolding state_deviation_of stationary_share_of zcb_price_volatility_of
zcb_price_volatility_ahead alpha sigma t T = refl

-- ln(P(T)/(X × P(t))): the logarithm of a bond's factor over X × P(t), what its strike is worth today
unfoldable pub moneyness_of : Float → Float → Float
moneyness_of p_t strike_value = ln_of (p_t ⊘ strike_value)

unfoldable pub bond_d1_at : Float → Float → Float
bond_d1_at sigma_p moneyness = fused_of (half ⊗ sigma_p) sigma_p moneyness ⊘ sigma_p

-- a bond put and a bond call from these
unfoldable pub bond_put_at : Float → Float → Float → Float → Float
bond_put_at sigma_p moneyness strike_value p_t =
    let d1 = bond_d1_at sigma_p moneyness in
    fused_of strike_value (norm_cdf_of (neg (d1 ⊖ sigma_p))) (neg (p_t ⊗ norm_cdf_of (neg d1)))

unfoldable pub bond_call_at : Float → Float → Float → Float → Float
bond_call_at sigma_p moneyness strike_value p_t =
    let d1 = bond_d1_at sigma_p moneyness in
    fused_of p_t (norm_cdf_of d1) (neg (strike_value ⊗ norm_cdf_of (d1 ⊖ sigma_p)))

pub bond_put_ahead : (sigma_p strike pt p_t : Float) → bond_put_at sigma_p (moneyness_of p_t (strike ⊗ pt)) (strike ⊗ pt) p_t ≡ bond_put_of sigma_p strike pt p_t
unfolding bond_put_at bond_d1_at moneyness_of bond_put_of bond_d1_of
bond_put_ahead sigma_p strike pt p_t = refl

pub bond_call_ahead : (sigma_p strike pt p_t : Float) → bond_call_at sigma_p (moneyness_of p_t (strike ⊗ pt)) (strike ⊗ pt) p_t ≡ bond_call_of sigma_p strike pt p_t
unfolding bond_call_at bond_d1_at moneyness_of bond_call_of bond_d1_of
bond_call_ahead sigma_p strike pt p_t = refl
