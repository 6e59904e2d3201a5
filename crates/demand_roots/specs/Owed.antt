-- Demand 3 of a job of kinds 1 to 11, as it is told: what an accepted call gives has the facts that its kind owes, its value and its note are the ones told, and 10 is told exactly where a search that was begun wants a bracket. "In demand 3, accepted means answer 0".
use Rattle.std.specs.Prelude.{◌≡◌, ◌↔◌, cond, ℕ, ◌<◌, ltb, eqb, length, Float, Ok}
use Rattle.refusals.specs.Refusals.{Outcome}
use Rattle.hullwhite_terms.specs.Begun.{RootFound, WantsBracket}
use Rattle.hullwhite_options.specs.declared.options.OptionType.TheVariants.{Put, Call}
use Rattle.hullwhite_options.specs.Options.{optionlet_outcome, bond_option_outcome}
use Rattle.hullwhite_jamshidian.specs.Price as Model
use Rattle.hullwhite_jamshidian.specs.PricedSum as ModelSum
use Rattle.hullwhite_swaptions.specs.Model as Swaptions
use Rattle.pricer_value.specs.Value as Pricer
use Rattle.pricer.specs.Pricer as Pricers
use Rattle.pricer.specs.Demand3 as PricerSum
use Rattle.pricer_formulas.specs.declared.bond_option.SwaptionType.{SwaptionType}
use Rattle.pricer_formulas.specs.declared.bond_option.SwaptionType.TheVariants.{Payer, Receiver}
use Rattle.fit_objective.specs.declared.market.VolatilityType.{VolatilityType}
use Rattle.fit_objective.specs.declared.market.VolatilityType.TheVariants.{Black, Normal}
use Rattle.math_bisection.specs.declared.result.Fit.{Fit}
use Rattle.fit.specs.Fits.{caplet_fit_outcome, swaption_fit_outcome}
use Rattle.fit.specs.Demand3 as Fits
use Rattle.file_layout.specs.declared.records.Job.{Job}
use Rattle.file_layout.specs.Request.{Request}
use Rattle.file_jobs.specs.declared.results.JobResult.{JobResult}
use Rattle.file_jobs.specs.Results.{note_of}
use Rattle.hullwhite_jamshidian.specs.declared.price.Swaption.{Swaption}
use Rattle.pricer_value.specs.declared.value.Valuation.{Valuation}

-- a job's call: its outcome; what is told as value and as note of what it gives; the facts that demand 3 owes of that; and when a search that the call began wants a bracket
pub record Owed : Type 1 where
  pub Given : Type 0
  pub outcome : Outcome Given
  pub value : Given → Float
  pub note : Given → ℕ
  pub Facts : Given → Type 0
  pub Wants : Type 0

-- ---- what is owed, sort by sort. "A fit's value is its sigma; its note is the halving that converged, 1 to 200, or 0."; "Other notes are 0."

-- kinds 1 to 4: no root, and no search
abbrev pub option_owed : Outcome Float → Owed
option_owed o = record { Given = Float; outcome = o; value = λ v. v; note = λ v. 0; Facts = λ v. Unit {0}; Wants = ⊥ }

module _ (q : Request) (j : Job) where
  -- kind 5: with coupons, the price rests on a root that is located. "Kind 5 with no coupons is 0 and needs no time"
  abbrev pub model_owed : Owed
  model_owed =
      let rules = Swaptions.model_rules_on q.alpha q.curve_times q.curve_factors q.payments q.accruals j.a j.b j.c in
      let sum = ModelSum.model_sum_of q.alpha j.b q.payments q.accruals j.a j.c in
      record {
        Given = Swaption;
        outcome = Swaptions.model_outcome q.alpha q.curve_times q.curve_factors q.payments q.accruals j.a j.b j.c;
        value = λ v. v.value;
        note = λ v. 0;
        Facts = λ v. 0 < length q.payments → RootFound rules q.curve_times q.curve_factors q.payments j.b sum v.root;
        Wants = (0 < length q.payments) × WantsBracket rules q.curve_times q.curve_factors q.payments j.b sum;
      }

  -- kinds 6 and 7: the root is that before the Newton step
  abbrev pub pricer_owed : SwaptionType → Owed
  pricer_owed option =
      let rules = Pricers.pricer_rules_on q.alpha q.pillar_times q.pillar_sigmas q.curve_times q.curve_factors q.payments q.accruals q.owns j.a j.b j.c j.d in
      let sum = PricerSum.pricer_sum_of q.alpha q.pillar_times q.pillar_sigmas j.b q.payments q.accruals j.a in
      record {
        Given = Valuation;
        outcome = Pricers.pricer_outcome option q.alpha q.pillar_times q.pillar_sigmas q.curve_times q.curve_factors q.payments q.accruals q.owns j.a j.b j.c j.d;
        value = λ v. v.value;
        note = λ v. 0;
        Facts = λ v. RootFound rules q.curve_times q.curve_factors q.payments j.b sum v.root;
        Wants = WantsBracket rules q.curve_times q.curve_factors q.payments j.b sum;
      }

  -- kinds 8 and 9: a fit without a search
  abbrev pub caplet_owed : VolatilityType → Owed
  caplet_owed quote = record {
    Given = Fit;
    outcome = caplet_fit_outcome quote q.alpha q.curve_times q.curve_factors j.a j.b j.c j.d;
    value = λ fit. fit.sigma;
    note = note_of;
    Facts = Fits.CapletFitAssured quote q.alpha q.curve_times q.curve_factors j.a j.b j.c j.d;
    Wants = ⊥;
  }

  -- kinds 10 and 11: a fit with a search at every sigma that it tries; 10 where one of those wants a bracket
  abbrev pub swaption_owed : VolatilityType → Owed
  swaption_owed quote = record {
    Given = Fit;
    outcome = swaption_fit_outcome quote q.alpha q.curve_times q.curve_factors q.payments q.accruals j.a j.b j.c;
    value = λ fit. fit.sigma;
    note = note_of;
    Facts = Fits.SwaptionFitAssured quote q.alpha q.curve_times q.curve_factors q.payments q.accruals j.a j.b j.c;
    Wants = Fits.FitWantsBracket quote q.alpha q.curve_times q.curve_factors q.payments q.accruals j.a j.b j.c;
  }

  -- ---- and kind by kind
  -- "1 caplet, 2 floorlet (strike, start, end, sigma); 3 bond put, 4 bond call (option time, bond time, strike, sigma)"
  unfoldable pub options_owed : Owed
  options_owed =
      cond (eqb j.kind 1) (option_owed (optionlet_outcome Put q.alpha q.curve_times q.curve_factors j.a j.b j.c j.d))
      (cond (eqb j.kind 2) (option_owed (optionlet_outcome Call q.alpha q.curve_times q.curve_factors j.a j.b j.c j.d))
      (cond (eqb j.kind 3) (option_owed (bond_option_outcome Put q.alpha q.curve_times q.curve_factors j.a j.b j.c j.d))
      (option_owed (bond_option_outcome Call q.alpha q.curve_times q.curve_factors j.a j.b j.c j.d))))

  -- "5 model swaption (strike, option time, sigma); 6 payer, 7 receiver by the pricer (strike, option time, notional, side)"
  unfoldable pub swaptions_owed : Owed
  swaptions_owed = cond (eqb j.kind 5) model_owed (cond (eqb j.kind 6) (pricer_owed Payer) (pricer_owed Receiver))

  -- "8 Black, 9 normal caplet fit (strike, start, end, quoted volatility); 10 Black, 11 normal swaption fit (strike, option time, quoted volatility)"
  unfoldable pub fits_owed : Owed
  fits_owed =
      cond (eqb j.kind 8) (caplet_owed Black)
      (cond (eqb j.kind 9) (caplet_owed Normal)
      (cond (eqb j.kind 10) (swaption_owed Black)
      (swaption_owed Normal)))

  unfoldable pub owed_of : Owed
  owed_of = cond (ltb j.kind 5) options_owed (cond (ltb j.kind 8) swaptions_owed fits_owed)

-- ---- and that it is told

-- what an accepted call gives: the value and the note told are its own, and its facts hold
pub record Accepted (owed : Owed) (told : JobResult) : Type 0 where
  pub given : owed.Given
  pub is : owed.outcome ≡ Ok given
  pub value_is : told.value ≡ owed.value given
  pub note_is : told.note ≡ owed.note given
  pub facts : owed.Facts given

pub record ResultHolds (owed : Owed) (told : JobResult) : Type 0 where
  -- no answer 0 without what is owed
  pub accepted : told.answer ≡ 0 → Accepted owed told
  -- no answer 10 on any other ground
  pub no_bracket : (told.answer ≡ 10) ↔ owed.Wants
