-- The zeros beside a refused basket are those of `Default`. Assumes nothing.
use Rattle.std.specs.Array.{AllOfLen}
use Rattle.std.proofs.lemmas.List.{ext_get_or, length-replicate}
use mathlib.Core.Path.{◌≡◌, sym, ◌∙◌}
use mathlib.Core.List.{List}
use native.Mathlib.Omega.{arith}
use lib.ListN.{length, replicate}
use lib.Ieee.{Float, nan}
use Rattle.std.proofs.lemmas.List.{get_or-replicate}
use Prim.Native.Nat.{ℕ, ◌<◌}
use Rattle.ieee.specs.Numbers.{zero}
use Rattle.basket.specs.declared.call.Basket.{Basket}
use Rattle.basket.specs.Basket.{no_basket}

pub zeros : (xs : List Float) → AllOfLen (λ x. x ≡ zero) xs 64 → xs ≡ replicate 64 zero
zeros xs a =
    ext_get_or nan xs (replicate 64 zero) (a.long ∙ sym (length-replicate 64 zero)) (λ i l. let k : i < 64 = omega (arith, a.long) in a.at i nan k ∙ sym (get_or-replicate 64 i zero nan k))

abbrev places : List Float → Type 0
places xs = AllOfLen (λ x. x ≡ zero) xs 64

abbrev basket : ℕ → List Float → List Float → List Float → List Float → List Float → List Float → Basket
basket n s t h r d u = record { count = n; sigmas = s; statuses = t; halvings = h; residuals = r; diagonal = d; bumped_statuses = u }

pub all_zeros : (b : Basket) → b.count ≡ 0 → places b.sigmas → places b.statuses → places b.halvings → places b.residuals → places b.diagonal → places b.bumped_statuses → b ≡ no_basket
all_zeros b n s t h r d u =
    let e : basket b.count b.sigmas b.statuses b.halvings b.residuals b.diagonal b.bumped_statuses ≡ no_basket = rw (n, zeros _ s, zeros _ t, zeros _ h, zeros _ r, zeros _ d, zeros _ u) in e
