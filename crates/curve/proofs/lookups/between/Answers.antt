-- `between` meets its contract: the formula, and then whether it is finite.
use Rattle.std.specs.Prelude.{Some, None}
use mathlib.Core.Path.{◌≡◌}
use mathlib.Core.Bool.{Bool, true, false}
use lib.Ieee.{Float}
use lib.Ieee.Scale.{finite}
use Rattle.ieee.specs.Rounded.{◌⊕◌, ◌⊖◌, ◌⊗◌, ◌⊘◌}
use Rattle.math_elementary.specs.Ln.{ln_of}
use Rattle.math_exponential.specs.Exp.{exp_of}
use Rattle.curve.specs.Lookups.{if_finite, between_of}
use Rattle.curve.proofs.lookups.between.Goals as goal

worked : (t0 f0 t1 f1 t l l' v : Float) → l ≡ ln_of f0 → l' ≡ ln_of f1 → v ≡ exp_of (l ⊕ ((t ⊖ t0) ⊘ (t1 ⊖ t0)) ⊗ (l' ⊖ l)) → v ≡ between_of t0 f0 t1 f1 t
unfolding between_of
worked t0 f0 t1 f1 t l l' v p q e = rw (← p, ← q) e

yes : (v w : Float) (b : Bool) → v ≡ w → b ≡ finite v → b ≡ true → Some v ≡ if_finite w
yes v w b e f h = rw (← e, ← f, h)

no : (v w : Float) (b : Bool) → v ≡ w → b ≡ finite v → b ≡ false → None ≡ if_finite w
no v w b e f h = rw (← e, ← f, h)

pub returns-then-is_finite : goal.returns-then-is_finite
returns-then-is_finite c =
    yes _ _ _ (worked _ _ _ _ _ _ _ _ c.ln-ln_f0.ensures.value c.ln.ensures.value c.exp-factor.ensures.value) c.is_finite.ensures c.if-is_finite.true

pub returns-else-is_finite : goal.returns-else-is_finite
returns-else-is_finite c =
    no _ _ _ (worked _ _ _ _ _ _ _ _ c.ln-ln_f0.ensures.value c.ln.ensures.value c.exp-factor.ensures.value) c.is_finite.ensures c.if-is_finite.false
