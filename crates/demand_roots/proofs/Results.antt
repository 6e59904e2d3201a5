-- Demand 3 of a job as it is told: one law over the calls, whatever the kind. Assumes nothing.
use Rattle.std.specs.Prelude.{◌≡◌, refl, ◌↔◌, Bool, true, false, cond, ℕ, ◌^◌, ◌<◌, ltb, eqb, Float, Ok, Err}
use Rattle.std.proofs.Common.{sym, ap, ◌∙◌, subst, arith, lit<}
use Rattle.ieee.specs.Numbers.{zero}
use Rattle.refusals.specs.declared.refusals.Refusal.TheVariants as R
use Rattle.refusals.specs.Refusals.{Outcome, number_of, answer_of, answer_number, following}
use Rattle.refusals.proofs.Outcomes.{not_both}
use Rattle.refusals.proofs.Numbered.{numbered, one_number}
use Rattle.demand_order.specs.Grounds.{NeverNoBracket}
use Rattle.demand_order.proofs.Grounds.{optionlet_never, bond_option_never}
use Rattle.hullwhite_swaptions.proofs.Demand3 as Swaptions
use Rattle.pricer.proofs.Demand3 as Pricers
use Rattle.pricer_formulas.specs.declared.bond_option.SwaptionType.{SwaptionType}
use Rattle.pricer_formulas.specs.declared.bond_option.SwaptionType.TheVariants.{Payer, Receiver}
use Rattle.fit_objective.specs.declared.market.VolatilityType.{VolatilityType}
use Rattle.fit_objective.specs.declared.market.VolatilityType.TheVariants.{Black, Normal}
use Rattle.math_bisection.specs.declared.result.Fit.{Fit}
use Rattle.fit.proofs.Demand3.{caplet_held, caplet_never_so, swaption_held, swaption_refused_so}
use Rattle.file_layout.specs.declared.records.Job.{Job}
use Rattle.file_layout.specs.Request.{Request}
use Rattle.file_jobs.specs.declared.results.JobResult.{JobResult}
use Rattle.file_jobs.specs.Results.{result_of_price, result_of_fit, note_of, option_result, swaption_result, fit_result, job_result_of}
use Rattle.demand_roots.specs.Owed.{Owed, option_owed, model_owed, pricer_owed, caplet_owed, swaption_owed, options_owed, swaptions_owed, fits_owed, owed_of, ResultHolds}

-- ---- the law: what is told of a call whose outcome has what is owed, holds
abbrev result_by : {A : Type 0} → (A → Float) → (A → ℕ) → Outcome A → JobResult
result_by value note (Ok v) = record { answer = 0; value = value v; note = note v }
result_by value note (Err r) = record { answer = number_of r; value = zero; note = 0 }

abbrev result_owed : Owed → JobResult
result_owed owed = result_by owed.value owed.note owed.outcome

record Kept (owed : Owed) : Type 0 where
  facts : (v : owed.Given) → owed.outcome ≡ Ok v → owed.Facts v
  so : (owed.outcome ≡ Err R.NoBracket) ↔ owed.Wants

held : (owed : Owed) → Kept owed → ResultHolds owed (result_owed owed)
held owed k = go owed.outcome refl
  where
    go : (o : Outcome owed.Given) → owed.outcome ≡ o → ResultHolds owed (result_by owed.value owed.note o)
    go (Ok v) e = record {
      accepted = λ z. record { given = v; is = e; value_is = refl; note_is = refl; facts = k.facts v e };
      no_bracket = (λ z. absurd (omega arith), λ w. absurd (not_both (sym (k.so.1 w) ∙ e)));
    }
    go (Err r) e = record {
      accepted = λ z. absurd (let a = (numbered r).above in let y : ⊥ = omega arith in y);
      no_bracket = (λ z. k.so.0 (e ∙ ap Err (one_number r R.NoBracket z)), λ w. ap (λ (o : Outcome owed.Given). answer_number (answer_of o)) (sym e ∙ k.so.1 w));
    }

-- ---- sort by sort
priced : {A : Type 0} (value : A → Float) (o : Outcome A) → result_of_price (following o (λ v. Ok (value v))) ≡ result_by value (λ v. 0) o
priced value (Ok v) = refl
priced value (Err r) = refl

plain : (o : Outcome Float) → result_of_price o ≡ result_owed (option_owed o)
plain (Ok v) = refl
plain (Err r) = refl

fitted : (o : Outcome Fit) → result_of_fit o ≡ result_by (λ (fit : Fit). fit.sigma) note_of o
fitted (Ok fit) = refl
fitted (Err r) = refl

option_kept : (o : Outcome Float) → NeverNoBracket o → Kept (option_owed o)
option_kept o never = record { facts = λ v e. tt; so = (never, λ w. absurd w) }

module _ (q : Request) (j : Job) where
  model_kept : Kept (model_owed q j)
  model_kept = record {
    facts = λ v e. Swaptions.rooted q.alpha q.curve_times q.curve_factors q.payments q.accruals j.a j.b j.c refl v e;
    so = Swaptions.refused_so q.alpha q.curve_times q.curve_factors q.payments q.accruals j.a j.b j.c refl;
  }

  pricer_kept : (option : SwaptionType) → Kept (pricer_owed q j option)
  pricer_kept option = record {
    facts = λ v e. Pricers.rooted option q.alpha q.pillar_times q.pillar_sigmas q.curve_times q.curve_factors q.payments q.accruals q.owns j.a j.b j.c j.d refl v e;
    so = Pricers.refused_so option q.alpha q.pillar_times q.pillar_sigmas q.curve_times q.curve_factors q.payments q.accruals q.owns j.a j.b j.c j.d refl;
  }

  caplet_kept : (quote : VolatilityType) → Kept (caplet_owed q j quote)
  caplet_kept quote = record {
    facts = λ v e. caplet_held quote q.alpha q.curve_times q.curve_factors j.a j.b j.c j.d refl v e;
    so = (caplet_never_so quote q.alpha q.curve_times q.curve_factors j.a j.b j.c j.d refl, λ w. absurd w);
  }

  swaption_kept : (quote : VolatilityType) → Kept (swaption_owed q j quote)
  swaption_kept quote = record {
    facts = λ v e. swaption_held quote q.alpha q.curve_times q.curve_factors q.payments q.accruals j.a j.b j.c refl v e;
    so = swaption_refused_so quote q.alpha q.curve_times q.curve_factors q.payments q.accruals j.a j.b j.c refl;
  }

-- ---- kind by kind, as Results.antt of kinds chooses
record Tells (owed : Owed) (told : JobResult) : Type 0 where
  is : told ≡ result_owed owed
  kept : Kept owed

either : (b : Bool) {x y : Owed} {s t : JobResult} → Tells x s → Tells y t → Tells (cond b x y) (cond b s t)
either true k l = k
either false k l = l

option_tells : (o : Outcome Float) → NeverNoBracket o → Tells (option_owed o) (result_of_price o)
option_tells o never = record { is = plain o; kept = option_kept o never }

module _ (q : Request) (j : Job) where
  options : Tells (options_owed q j) (option_result q j)
  unfolding options_owed option_result
  options =
      either (eqb j.kind 1) (option_tells _ (optionlet_never _ _ _ _ _ _ _ _))
      (either (eqb j.kind 2) (option_tells _ (optionlet_never _ _ _ _ _ _ _ _))
      (either (eqb j.kind 3) (option_tells _ (bond_option_never _ _ _ _ _ _ _ _))
      (option_tells _ (bond_option_never _ _ _ _ _ _ _ _))))

  pricer : (option : SwaptionType) → Tells (pricer_owed q j option) (result_of_price (following (pricer_owed q j option).outcome (λ v. Ok v.value)))
  pricer option = record { is = priced (pricer_owed q j option).value (pricer_owed q j option).outcome; kept = pricer_kept q j option }

  swaptions : Tells (swaptions_owed q j) (swaption_result q j)
  unfolding swaptions_owed swaption_result
  swaptions =
      either (eqb j.kind 5) (record { is = priced (model_owed q j).value (model_owed q j).outcome; kept = model_kept q j })
      (either (eqb j.kind 6) (pricer Payer) (pricer Receiver))

  caplet : (quote : VolatilityType) → Tells (caplet_owed q j quote) (result_of_fit (caplet_owed q j quote).outcome)
  caplet quote = record { is = fitted (caplet_owed q j quote).outcome; kept = caplet_kept q j quote }

  swaption : (quote : VolatilityType) → Tells (swaption_owed q j quote) (result_of_fit (swaption_owed q j quote).outcome)
  swaption quote = record { is = fitted (swaption_owed q j quote).outcome; kept = swaption_kept q j quote }

  fits : Tells (fits_owed q j) (fit_result q j)
  unfolding fits_owed fit_result
  fits = either (eqb j.kind 8) (caplet Black) (either (eqb j.kind 9) (caplet Normal) (either (eqb j.kind 10) (swaption Black) (swaption Normal)))

  tells : Tells (owed_of q j) (job_result_of q j)
  unfolding owed_of job_result_of
  tells = either (ltb j.kind 5) options (either (ltb j.kind 8) swaptions fits)

  pub result_holds : ResultHolds (owed_of q j) (job_result_of q j)
  result_holds = let t = tells in subst (ResultHolds (owed_of q j)) (sym t.is) (held (owed_of q j) t.kept)

  -- what is told is 0 or a refusal's number, which has at most 20 digits
  pub result_small : (job_result_of q j).answer < 10 ^ 20
  result_small = let t = tells in subst (λ (told : JobResult). told.answer < 10 ^ 20) (sym t.is) (go (owed_of q j).outcome)
    where
      go : (o : Outcome (owed_of q j).Given) → (result_by (owed_of q j).value (owed_of q j).note o).answer < 10 ^ 20
      go (Ok v) = lit< tt
      go (Err r) = (numbered r).within
