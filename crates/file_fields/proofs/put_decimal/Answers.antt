-- `file_fields::put_decimal` meets its contract: a short number's digits one by one, and those of the kit. Assumes nothing.
use mathlib.Core.Path.{◌∙◌}
use Prim.Native.Nat.{◌≤◌}
use native.Mathlib.Omega.{arith}
use Rattle.file_fields.proofs.Digits.{one_digit, two_digits, three_digits, few, decimal_is}
use Rattle.file_fields.proofs.Writing.{same_text}
use Rattle.file_fields.proofs.put_decimal.Goals as goal

pub returns-in-0-to-9-clause-written : goal.returns-in-0-to-9-clause-written
returns-in-0-to-9-clause-written c =
    same_text _ c.args.end _ _ _ _ (one_digit c.args.n _ (omega arith) c.digit.ensures) c.put.ensures

pub returns-in-10-to-99-clause-written : goal.returns-in-10-to-99-clause-written
returns-in-10-to-99-clause-written c =
    same_text _ c.args.end _ _ _ _ (two_digits c.args.n _ _ (omega arith) (omega arith) c.digit-in-10-to-99.ensures c.digit-in-10-to-99-2.ensures) c.put-in-10-to-99.ensures

pub returns-in-100-to-999-clause-written : goal.returns-in-100-to-999-clause-written
returns-in-100-to-999-clause-written c =
    same_text _ c.args.end _ _ _ _ (three_digits c.args.n _ _ _ (omega arith) (omega arith) c.digit-in-100-to-999.ensures c.digit-in-100-to-999-2.ensures c.digit-in-100-to-999-3.ensures) c.put-in-100-to-999.ensures

pub returns-in_default-clause-written : goal.returns-in_default-clause-written
returns-in_default-clause-written c =
    let d = c.decimal-k in
    let m : d.result ≤ 20 = few 10 1 20 c.args.n d.result (omega arith) (omega arith) (omega (arith, c.ranges.n.fits)) d.ensures.len in
    same_text _ c.args.end _ _ _ _ (d.ensures.digits ∙ decimal_is d.result c.args.n m d.ensures.len) c.put-in_default.ensures
