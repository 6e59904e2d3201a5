-- `file_fields::put_hex` meets its contract: the first eight digits, the last eight, and the byte behind them. Assumes nothing.
use mathlib.Core.Path.{sym, ◌∙◌, ap, ap₂}
use mathlib.Core.List.{List, ◌++◌}
use Prim.Native.Nat.{ℕ}
use native.Mathlib.Omega.{arith}
use lib.ListN.{length}
use Rattle.file_fields.proofs.Digits.{hex_split}
use Rattle.file_fields.proofs.Lanes.{bytes_length, le_bytes}
use Rattle.file_fields.proofs.Writing.{two_texts}
use Rattle.file_fields.proofs.put_hex.Goals as goal

pub returns-clause-written : goal.returns-clause-written
returns-clause-written c =
    let u = c.copy_from_slice.ensures.after ∙ c.to_le_bytes.ensures ∙ le_bytes c.spelled.result in
    let v = c.to_le_bytes-2.ensures ∙ le_bytes c.spelled-2.result in
    let both = ap₂ (λ (x y : List ℕ). x ++ y) (u ∙ c.spelled.ensures) (v ∙ c.spelled-2.ensures) ∙ hex_split 8 8 c.args.n in
    two_texts 8 _ c.args.end _ _ _ c.args.out.now _ (sym (ap length u ∙ bytes_length 8 c.spelled.result)) (omega (arith, c.requires)) both c.put.ensures c.put.auto.out
