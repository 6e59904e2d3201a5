-- Demand 3, of refusal 10: "no call is refused so on any other ground". The calls of quotes, schedules, options, models, transitions, paths and draws begin no search, and none of them is refused so, whatever it is given. (The other calls say it in their own contracts, the clause `bracket`: of a search, when it is refused so; of a caplet's fit and a basket, which begin none, that they never are.)
use Rattle.std.specs.Prelude.{◌≡◌, refl, List, ℕ, Float, Ok, Err}
use Rattle.std.proofs.Common.{sym}
use Rattle.refusals.specs.declared.refusals.Refusal.{Refusal}
use Rattle.refusals.specs.declared.refusals.Refusal.TheVariants as R
use Rattle.refusals.specs.declared.refusals.Rule.{Rule}
use Rattle.refusals.specs.Refusals.{Outcome}
use Rattle.refusals.proofs.Outcomes.{not_both}
use Rattle.hullwhite_options.specs.declared.options.OptionType.{OptionType}
use Rattle.quotes.specs.Utils.{d1d2_outcome, black_call_outcome, black_put_outcome, bachelier_call_outcome, annuity_outcome}
use Rattle.hullwhite_options.specs.Options.{bond_option_outcome, optionlet_outcome}
use Rattle.hullwhite_model.specs.Curves as Curves
use Rattle.hullwhite_parameters.specs.Parameters as Schedules
use Rattle.hullwhite_points.specs.declared.walk.Centre.{Centre}
use Rattle.draws.specs.Draws.{draws_outcome}
use Rattle.hullwhite_paths.specs.Generate.{generate_outcome}
use Rattle.hullwhite_paths.specs.Seeded.{seeded_outcome}
use Rattle.hullwhite_transitions.specs.Transition.{transition_outcome}
use Rattle.demand_order.specs.Stages.{evaluated, stage_of, Met}
use Rattle.demand_order.specs.Grounds.{NeverNoBracket}
use Rattle.demand_order.proofs.Calls.{optionlet_met, bond_option_met, b_met, zcb_volatility_met, short_rate_variance_met, a_met, zcb_met, forward_met, theta_met, d1_d2_met, black_call_met, black_put_met, bachelier_call_met, annuity_met, volatility_met, reached_met, variance_met, transition_met, path_met, seeded_met, draws_met}

-- the law: what evaluates nothing is refused by nothing that is met in an evaluation, 9 to 12
pub nothing_evaluated : {W B : Type 0} {rules : List Rule} {found : Outcome (List Float)} {value : List Float → W} {answered : W → Outcome B} {o : Outcome B}
    → Met rules found (λ ps. Ok (value ps)) answered o → (r : Refusal) → stage_of r ≡ evaluated → o ≡ Err r → ⊥
nothing_evaluated m r s e = let at = rw s at ((m.refused_at r).0 e) in not_both (sym at.1.2)

unsought : {W B : Type 0} {rules : List Rule} {found : Outcome (List Float)} {value : List Float → W} {answered : W → Outcome B} {o : Outcome B} → Met rules found (λ ps. Ok (value ps)) answered o → NeverNoBracket o
unsought m = nothing_evaluated m R.NoBracket refl

-- ---- kinds 1 to 4
pub optionlet_never : (option : OptionType) (alpha : Float) (ts fs : List Float) (strike t S sigma : Float) → NeverNoBracket (optionlet_outcome option alpha ts fs strike t S sigma)
optionlet_never option alpha ts fs strike t S sigma = unsought (optionlet_met option alpha ts fs strike t S sigma)

pub bond_option_never : (option : OptionType) (alpha : Float) (ts fs : List Float) (t T strike sigma : Float) → NeverNoBracket (bond_option_outcome option alpha ts fs t T strike sigma)
bond_option_never option alpha ts fs t T strike sigma = unsought (bond_option_met option alpha ts fs t T strike sigma)

-- ---- the other formulas of hullwhitemodel.rs
pub b_never : (alpha t T : Float) → NeverNoBracket (Curves.b_outcome alpha t T)
b_never alpha t T = unsought (b_met alpha t T)

pub zcb_volatility_never : (alpha sigma t T : Float) → NeverNoBracket (Curves.zcb_price_volatility_outcome alpha sigma t T)
zcb_volatility_never alpha sigma t T = unsought (zcb_volatility_met alpha sigma t T)

pub short_rate_variance_never : (alpha t T sigma : Float) → NeverNoBracket (Curves.short_rate_variance_outcome alpha t T sigma)
short_rate_variance_never alpha t T sigma = unsought (short_rate_variance_met alpha t T sigma)

pub a_never : (alpha : Float) (ts fs : List Float) (t T sigma : Float) → NeverNoBracket (Curves.a_outcome alpha ts fs t T sigma)
a_never alpha ts fs t T sigma = unsought (a_met alpha ts fs t T sigma)

pub zcb_never : (alpha : Float) (ts fs : List Float) (r t T sigma : Float) → NeverNoBracket (Curves.zcb_outcome alpha ts fs r t T sigma)
zcb_never alpha ts fs r t T sigma = unsought (zcb_met alpha ts fs r t T sigma)

pub forward_never : (ts fs : List Float) (t : Float) → NeverNoBracket (Curves.forward_outcome ts fs t)
forward_never ts fs t = unsought (forward_met ts fs t)

pub theta_never : (alpha : Float) (ts fs : List Float) (t sigma : Float) → NeverNoBracket (Curves.theta_outcome alpha ts fs t sigma)
theta_never alpha ts fs t sigma = unsought (theta_met alpha ts fs t sigma)

-- ---- utils.rs
pub d1_d2_never : (fwd strike vol tau : Float) → NeverNoBracket (d1d2_outcome fwd strike vol tau)
d1_d2_never fwd strike vol tau = unsought (d1_d2_met fwd strike vol tau)

pub black_call_never : (fwd strike vol tau : Float) → NeverNoBracket (black_call_outcome fwd strike vol tau)
black_call_never fwd strike vol tau = unsought (black_call_met fwd strike vol tau)

pub black_put_never : (fwd strike vol tau : Float) → NeverNoBracket (black_put_outcome fwd strike vol tau)
black_put_never fwd strike vol tau = unsought (black_put_met fwd strike vol tau)

pub bachelier_call_never : (fwd strike vol tau : Float) → NeverNoBracket (bachelier_call_outcome fwd strike vol tau)
bachelier_call_never fwd strike vol tau = unsought (bachelier_call_met fwd strike vol tau)

pub annuity_never : (ts fs payments accruals : List Float) → NeverNoBracket (annuity_outcome ts fs payments accruals)
annuity_never ts fs payments accruals = unsought (annuity_met ts fs payments accruals)

-- ---- schedules of pillars
pub volatility_never : (ts ss : List Float) (t : Float) → NeverNoBracket (Schedules.volatility_outcome ts ss t)
volatility_never ts ss t = unsought (volatility_met ts ss t)

pub reached_never : (ts ss : List Float) (t : Float) → NeverNoBracket (Schedules.reached_outcome ts ss t)
reached_never ts ss t = unsought (reached_met ts ss t)

pub variance_never : (alpha : Float) (ts ss : List Float) (start end : Float) → NeverNoBracket (Schedules.piecewise_variance_outcome alpha ts ss start end)
variance_never alpha ts ss start end = unsought (variance_met alpha ts ss start end)

pub transition_never : (alpha : Float) (ts ss : List Float) (steps : ℕ) (time_step : Float) (room : ℕ) → NeverNoBracket (transition_outcome alpha ts ss steps time_step room)
transition_never alpha ts ss steps time_step room = unsought (transition_met alpha ts ss steps time_step room)

-- ---- kinds 12 and 13
pub path_never : (centre : Centre) (alpha : Float) (ps ss ts fs grid draws : List Float) (room : ℕ) → NeverNoBracket (generate_outcome centre alpha ps ss ts fs grid draws room)
path_never centre alpha ps ss ts fs grid draws room = unsought (path_met centre alpha ps ss ts fs grid draws room)

-- and on the draws of a seed, and such draws alone
pub seeded_never : (centre : Centre) (alpha : Float) (ps ss ts fs grid : List Float) (seed room : ℕ) → NeverNoBracket (seeded_outcome centre alpha ps ss ts fs grid seed room)
seeded_never centre alpha ps ss ts fs grid seed room = unsought (seeded_met centre alpha ps ss ts fs grid seed room)

pub draws_never : (seed n : ℕ) → NeverNoBracket (draws_outcome seed n)
draws_never seed n = unsought (draws_met seed n)
