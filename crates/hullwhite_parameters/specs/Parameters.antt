-- parameters.rs as calls: the pillar times up to a time and the piecewise variance, and with them the volatility at a time (`vol` of hullwhitecalibration.rs), on pillars of times ts and volatilities ss.
use Rattle.std.specs.Prelude.{◌≡◌, List, [], eqb, length, Float, Result, Ok, Err}
use Rattle.std.specs.Borrow.{Bor}
use Rattle.refusals.specs.declared.refusals.Refusal.{Refusal}
use Rattle.refusals.specs.declared.refusals.Refusal.TheVariants as R
use Rattle.refusals.specs.declared.refusals.Rule.{Rule}
use Rattle.refusals.specs.Refusals.{Outcome, answer_of, answer_number, reported, unless, finishing, Answer}
use Rattle.curve.specs.Lookups.{required, volatility_at, up_to}
use Rattle.refusals.specs.Faults.{pillar_faults}
use Rattle.hullwhite_parameters.specs.Variance.{piecewise_variance_of}
use Rattle.hullwhite_parameters.specs.Rules.{volatility_rules, variance_rules}

-- the rules on a volatility at t
abbrev pub rules_at : List Float → List Float → Float → List Rule
rules_at ts ss t = volatility_rules (pillar_faults ts ss) (eqb (length ts) 0) t

unfoldable pub volatility_found : List Float → List Float → Float → Outcome Float
volatility_found ts ss t = required R.Empty (volatility_at ts ss t) finishing

unfoldable pub volatility_outcome : List Float → List Float → Float → Outcome Float
volatility_outcome ts ss t = unless (rules_at ts ss t) (volatility_found ts ss t)

-- "The pillar times at or before t"
unfoldable pub reached_outcome : List Float → List Float → Float → Outcome (List Float)
reached_outcome ts ss t = unless (rules_at ts ss t) (Ok (up_to t ts))

-- a part that is lent, as the list that it is
abbrev pub lent : Result (Bor (List Float)) Refusal → Outcome (List Float)
lent (Ok part) = Ok part.now
lent (Err r) = Err r

-- the answer and the part that are handed back, against the outcome: the answer's number is document 01's, and is that of the volatility at t (proved in proofs/ReachedLaws.antt); "any returned part empty" beside a refusal
pub record ReachedIs (answer : Answer) (part : List Float) (ts ss : List Float) (t : Float) : Type 0 where
  pub answered : answer ≡ answer_of (reached_outcome ts ss t)
  pub number : answer_number answer ≡ (reported [] (reached_outcome ts ss t)).answer
  pub as_volatility : answer ≡ answer_of (volatility_outcome ts ss t)
  pub handed : part ≡ (reported [] (reached_outcome ts ss t)).values

unfoldable pub piecewise_variance_outcome : Float → List Float → List Float → Float → Float → Outcome Float
piecewise_variance_outcome alpha ts ss start end = unless (variance_rules (pillar_faults ts ss) alpha start end) (finishing (piecewise_variance_of alpha ts ss start end))
