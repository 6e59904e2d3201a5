-- `basket_entries::rules::domain_wrong` meets its contract. The loop's invariant: the entries that are left break rule 6 where some entry does. Assumes nothing.
use mathlib.Core.Path.{◌∙◌}
use mathlib.Core.Logic.{⊎_elim, inl, inr}
use Rattle.std.proofs.lemmas.List.{nil_from_length}
use Rattle.basket_entries.proofs.Walks.{domain_turn, domain_stop, domain_end}
use Rattle.basket_entries.proofs.rules.domain_wrong.Goals as goal

pub returns-then-vol-strike_wrong : goal.returns-then-vol-strike_wrong
returns-then-vol-strike_wrong c = let s = c.in-Some.ensures.steps in domain_stop s.0.0 s.0.1 s.1 c.volatility_type_of-vol_type.ensures c.strike_wrong.ensures c.if-vol-strike_wrong.true ∙ c.loop-normal.invariant

pub loop-normal-preserved : goal.loop-normal-preserved
loop-normal-preserved c = let s = c.in-Some.ensures.steps in domain_turn s.0.0 s.0.1 s.1 c.volatility_type_of-vol_type.ensures c.strike_wrong.ensures c.if-vol-strike_wrong.false ∙ c.loop-normal.invariant

-- one of the three lists has no more
pub returns : goal.returns
returns c =
    domain_end _ _ _ (⊎_elim (λ q. inl (⊎_elim (λ n. inl (nil_from_length _ n.1.0)) (λ k. inr (nil_from_length _ k.1.0)) q.1)) (λ v. inr (nil_from_length _ v.1.0)) c.in-None.ensures.steps) ∙ c.loop-normal.invariant
