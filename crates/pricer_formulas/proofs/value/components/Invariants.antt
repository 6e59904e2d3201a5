-- `pricer_formulas::components` meets its contract. The loop's invariant: the components left, added to the value so far, give the whole value. Assumes nothing.
use mathlib.Core.Path.{◌≡◌}
use lib.ListN.{drop}
use Rattle.pricer_formulas.specs.Components.{components_onto, components_of}
use Rattle.pricer_formulas.proofs.value.components.Given as goal

abbrev pub invariant-loop-i : goal.invariant-loop-i
invariant-loop-i l = components_onto l.value l.common.option l.own l.common.deviation l.common.p_t l.common.rate (drop l.i l.c) (drop l.i l.a) (drop l.i l.b) (drop l.i l.p) (drop l.i l.own_dfs) ≡ components_of l.common.option l.own l.common.deviation l.common.p_t l.common.rate l.c l.a l.b l.p l.own_dfs
