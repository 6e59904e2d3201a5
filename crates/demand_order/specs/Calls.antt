-- What each call of document 01 needs and works on: the times of `theta`, and the rules of a path (the calls themselves: proofs/Calls.antt).
use Rattle.std.specs.Prelude.{Bool, cond, ℕ, ltb, eqb, length, Float}
use mathlib.Core.List.{List, [], ◌∷◌}
use Rattle.ieee.specs.Rounded.{◌⊕◌, ◌⊖◌}
use Rattle.ieee.specs.Numbers.{two}
use Rattle.ieee.specs.Fused.{fused_of}
use Rattle.refusals.specs.declared.refusals.Rule.{Rule}
use Rattle.refusals.specs.Faults.{curve_faults, pillar_faults, grid_faults}
use Rattle.hullwhite_formulas.specs.HullWhite.{h, forward_of, slope_of, theta_of}
use Rattle.hullwhite_points.specs.declared.walk.Centre.{Centre}
use Rattle.hullwhite_paths.specs.Generate.{starts_below, several_for, path_rules}

-- where t is above h the third time is t - h, else t + 2 × h
module _ (alpha : Float) (ts fs : List Float) (t sigma : Float) where
  abbrev pub theta_times : Bool → List Float
  theta_times back = t ∷ (t ⊕ h) ∷ cond back (t ⊖ h) (fused_of two h t) ∷ []

  abbrev pub theta_on : Bool → Float → Float → Float → Float
  theta_on back p q r = let forward = forward_of p q in theta_of alpha t sigma forward (cond back (slope_of forward (forward_of r p)) (slope_of (forward_of q r) forward))

-- ---- kinds 12 and 13
module _ (centre : Centre) (alpha : Float) (ps ss ts fs grid draws : List Float) (room : ℕ) where
  abbrev pub path_rules_on : List Rule
  path_rules_on = path_rules (pillar_faults ps ss) (curve_faults ts fs) (grid_faults grid draws) (eqb (length ps) 0) (several_for centre (length ps)) (starts_below grid) (ltb room (length grid)) alpha
