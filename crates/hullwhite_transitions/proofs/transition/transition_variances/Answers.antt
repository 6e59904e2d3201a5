-- `hullwhite_transitions::transition::transition_variances` meets its contract: the rules turn the call down, or the variances of all steps are worked and handed to `finish`. Assumes nothing.
use mathlib.Core.Path.{◌≡◌, refl, sym, ap, ◌∙◌}
use mathlib.Core.Bool.{Bool}
use mathlib.Core.List.{List}
use Prim.Native.Nat.{ℕ}
use lib.Dec.{eqb}
use lib.ListN.{length, replicate}
use lib.Ieee.{Float}
use Rattle.ieee.specs.Numbers.{zero}
use Rattle.refusals.specs.declared.curves.Faults.{Faults}
use Rattle.refusals.specs.Refusals.{answer_number, first_of, Answer}
use Rattle.refusals.proofs.Outcomes.{handed_on, let_through}
use Rattle.hullwhite_transitions.specs.Written.{finishing_list}
use Rattle.hullwhite_transitions.specs.Transition.{transition_rules, variances_of, transition_outcome}
use Rattle.hullwhite_transitions.proofs.Outcomes.{steps_fit}
use Rattle.refusals.proofs.Lending.{lent_is, back_fits, back_is, values_are}
use Rattle.hullwhite_transitions.proofs.transition.transition_variances.Goals as goal

-- the working list
abbrev work : List Float
work = replicate 1024 zero

-- ---- the rules on the faults of the very lists, and what a call that is let through knows of its steps
rules_of : {pillars pillars' : Faults} (empty : Bool) (alpha : Float) (steps room : ℕ) (time_step : Float) {answer : Answer}
    → pillars ≡ pillars' → answer ≡ first_of (transition_rules pillars empty alpha steps room time_step) → answer ≡ first_of (transition_rules pillars' empty alpha steps room time_step)
rules_of empty alpha steps room time_step p h = rw (← p) h

pub returns-in_err-transition_rules : goal.returns-in_err-transition_rules
unfolding transition_outcome
returns-in_err-transition_rules c =
    let e = rw c.pillar_faults-pillars.ensures at c.in_err-transition_rules.ensures in
    rw (handed_on c.from_residual.ensures.1, ← e) record { answer = refl; output = refl; number = refl }

pub slice_bounds-work-end : goal.slice_bounds-work-end
slice_bounds-work-end c = (steps_fit _ _ _ _ _ _ c.in_ok-transition_rules.was c.transition_rules.ensures).0

pub slice_bounds-variances-end : goal.slice_bounds-variances-end
slice_bounds-variances-end c = lent_is work _ (steps_fit _ _ _ _ _ _ c.in_ok-transition_rules.was c.transition_rules.ensures).0

pub variances-requires : goal.variances-requires
variances-requires c =
    let fit = steps_fit _ _ _ _ _ _ c.in_ok-transition_rules.was c.transition_rules.ensures in
    rw (← lent_is work c.args.steps fit.0) fit.0

pub slice_bounds-work-end-2 : goal.slice_bounds-work-end-2
slice_bounds-work-end-2 c = back_fits work _ (steps_fit _ _ _ _ _ _ c.in_ok-transition_rules.was c.transition_rules.ensures).0 c.variances.new.out c.variances.auto.out

pub slice_bounds-finish-end : goal.slice_bounds-finish-end
slice_bounds-finish-end c = back_is work _ (steps_fit _ _ _ _ _ _ c.in_ok-transition_rules.was c.transition_rules.ensures).0 c.variances.new.out c.variances.auto.out

pub finish-requires : goal.finish-requires
finish-requires c =
    let fit = steps_fit _ _ _ _ _ _ c.in_ok-transition_rules.was c.transition_rules.ensures in
    rw (← back_is work _ fit.0 c.variances.new.out c.variances.auto.out) fit.1

pub returns : goal.returns
unfolding transition_outcome
returns c =
    let a = c.args in
    let rules = rules_of (eqb (length a.times.now) 0) a.alpha a.steps (length a.out.now) a.time_step c.pillar_faults-pillars.ensures c.transition_rules.ensures in
    let fit = steps_fit _ _ _ _ _ _ c.in_ok-transition_rules.was rules in
    let all = variances_of a.alpha a.times.now a.sigmas.now a.time_step 0 in
    let w = values_are work _ fit.0 c.variances.new.out c.variances.auto.out ∙ c.variances.ensures ∙ ap all (sym (lent_is work _ fit.0)) in
    let f = c.finish.ensures in
    rw (let_through _ (finishing_list (all a.steps)) c.in_ok-transition_rules.was rules, ← w) record { answer = f.answer; output = f.output; number = ap answer_number f.answer }
