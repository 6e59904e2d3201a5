-- `math_elementary::ln` meets its contract: by the four tests, and above zero by what `split` and `joined` give; `split_exact` is the promise of the split. Assumes nothing.
use mathlib.Core.Path.{◌≡◌, sym, ap, ◌∙◌}
use mathlib.Core.Bool.{Bool, true, false}
use lib.Ieee.{Float, binary64, inf, eq, is_nan, of_bits}
use Rattle.math_elementary.specs.Ln.{ln_of, exponent_of, joined_of}
use Rattle.math_elementary.proofs.Floats.{is_nan_lem}
use Rattle.math_elementary.proofs.Exactness.{split_exact, above_zero, is_inf}
use Rattle.math_elementary.proofs.logarithm.ln.Goals as goal

pub returns-then-is_nan : goal.returns-then-is_nan
unfolding ln_of
returns-then-is_nan c =
    let n : is_nan c.args.x ≡ true = sym c.is_nan.ensures.value ∙ c.if-is_nan.true in
    record { value = rw n (is_nan_lem c.args.x n); split = split_exact _ }

pub returns-then-x : goal.returns-then-x
unfolding ln_of of_bits
returns-then-x c =
    let n : is_nan c.args.x ≡ false = sym c.is_nan.ensures.value ∙ c.if-is_nan.false in
    record { value = rw (n, c.if-x.true); split = split_exact _ }

pub returns-then-x-2 : goal.returns-then-x-2
unfolding ln_of of_bits
returns-then-x-2 c =
    let n : is_nan c.args.x ≡ false = sym c.is_nan.ensures.value ∙ c.if-is_nan.false in
    record { value = rw (n, c.if-x.false, c.if-x-2.true); split = split_exact _ }

-- the test is against the infinity
tested : (x : Float) (b : Bool) → eq x (of_bits binary64 0x7ff0_0000_0000_0000) ≡ b → eq x (inf false) ≡ b
unfolding of_bits
tested x b h = h

pub returns-then-x-3 : goal.returns-then-x-3
unfolding ln_of
returns-then-x-3 c =
    let n : is_nan c.args.x ≡ false = sym c.is_nan.ensures.value ∙ c.if-is_nan.false in
    let t = tested _ true c.if-x-3.true in
    record { value = rw (n, c.if-x.false, c.if-x-2.false, t) (is_inf _ t); split = split_exact _ }

pub split-requires : goal.split-requires
split-requires c =
    let n : is_nan c.args.x ≡ false = sym c.is_nan.ensures.value ∙ c.if-is_nan.false in
    above_zero _ n c.if-x.false c.if-x-2.false (tested _ false c.if-x-3.false)

pub returns-else-x-3 : goal.returns-else-x-3
unfolding ln_of
returns-else-x-3 c =
    let n : is_nan c.args.x ≡ false = sym c.is_nan.ensures.value ∙ c.if-is_nan.false in
    let s = c.split in
    record {
      value =
          rw (n, c.if-x.false, c.if-x-2.false, tested _ false c.if-x-3.false)
          (c.joined.ensures ∙ ap (joined_of s.result.m) s.ensures.1 ∙ ap (λ (z : Float). joined_of z (exponent_of c.args.x)) s.ensures.0);
      split = split_exact _;
    }
