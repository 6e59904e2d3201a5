-- One turn and the end of a walk along a basket's lists: what the rules say of the entries that are left, and the entry at place i. Assumes nothing.
use mathlib.Core.Path.{◌≡◌, refl}
use mathlib.Core.Logic.{◌⊎◌, inl, inr}
use mathlib.Core.Bool.{Bool, true, false, ◌||◌}
use mathlib.Core.List.{List, [], ◌∷◌}
use Prim.Native.Nat.{ℕ, ◌+◌, ◌≤◌, ◌<◌}
use native.Mathlib.Numerals.{add-one}
use native.Mathlib.Omega.{arith}
use lib.ListN.{length, get_or, drop, drop_of_length-le}
use lib.Seq.{drop-cons}
use lib.Ieee.{Float, nan, le}
use Rattle.ieee.specs.Numbers as Numbers
use Rattle.refusals.proofs.Walks.{next}
use Rattle.fit_objective.specs.declared.market.VolatilityType.{VolatilityType}
use Rattle.fit.specs.Fits.{strike_wrong}
use Rattle.basket_entries.specs.Entries.{Entry, volatility_type_of, entries_of, times_wrong, domain_wrong}

-- ---- the list of quotes from place i on
next_quote : (ns : List Bool) (i : ℕ) → i < length ns → drop i ns ≡ get_or ns i false ∷ drop (i + 1) ns
next_quote ns i h = rw (add-one, drop-cons ns i false)

no_quotes : (ns : List Bool) (i : ℕ) → length ns ≤ i → drop i ns ≡ []
no_quotes ns i h = drop_of_length-le ns h

-- ---- rule 5: of the entries that are left, the first breaks it or those behind it are asked
module _ {t e : Float} {ts ts' ends ends' : List Float} (p : ts ≡ t ∷ ts') (q : ends ≡ e ∷ ends') where
  pub times_turn : (le t Numbers.zero || le e t) ≡ false → times_wrong ts' ends' ≡ times_wrong ts ends
  unfolding times_wrong
  times_turn h = rw (p, q, h)

  pub times_stop : (le t Numbers.zero || le e t) ≡ true → true ≡ times_wrong ts ends
  unfolding times_wrong
  times_stop h = rw (p, q, h)

times_short : (ts : List Float) → false ≡ times_wrong ts []
unfolding times_wrong
times_short [] = refl
times_short (t ∷ ts) = refl

pub times_end : (ts ends : List Float) → (ts ≡ []) ⊎ (ends ≡ []) → false ≡ times_wrong ts ends
unfolding times_wrong
times_end ts ends (inl h) = rw h
times_end ts ends (inr h) = rw h (times_short ts)

-- ---- rule 6, likewise
module _ {n : Bool} {k v : Float} {ns ns' : List Bool} {ks ks' vs vs' : List Float} (p : ns ≡ n ∷ ns') (q : ks ≡ k ∷ ks') (r : vs ≡ v ∷ vs')
    {quote : VolatilityType} {wrong : Bool} (m : quote ≡ volatility_type_of n) (w : wrong ≡ strike_wrong quote k) where
  pub domain_turn : (le v Numbers.zero || wrong) ≡ false → domain_wrong ns' ks' vs' ≡ domain_wrong ns ks vs
  unfolding domain_wrong
  domain_turn h = rw (p, q, r, ← m, ← w, h)

  pub domain_stop : (le v Numbers.zero || wrong) ≡ true → true ≡ domain_wrong ns ks vs
  unfolding domain_wrong
  domain_stop h = rw (p, q, r, ← m, ← w, h)

domain_short : (ns : List Bool) (vs : List Float) → false ≡ domain_wrong ns [] vs
unfolding domain_wrong
domain_short [] vs = refl
domain_short (n ∷ ns) vs = refl

domain_shorter : (ns : List Bool) (ks : List Float) → false ≡ domain_wrong ns ks []
unfolding domain_wrong
domain_shorter [] ks = refl
domain_shorter (n ∷ ns) [] = refl
domain_shorter (n ∷ ns) (k ∷ ks) = refl

pub domain_end : (ns : List Bool) (ks vs : List Float) → ((ns ≡ []) ⊎ (ks ≡ [])) ⊎ (vs ≡ []) → false ≡ domain_wrong ns ks vs
unfolding domain_wrong
domain_end ns ks vs (inl (inl h)) = rw h
domain_end ns ks vs (inl (inr h)) = rw h (domain_short ns vs)
domain_end ns ks vs (inr h) = rw h (domain_shorter ns ks)

-- ---- the entries from place i on
module _ (ns : List Bool) (ks ts ends vs : List Float) where
  abbrev pub from : ℕ → List Entry
  from i = entries_of (drop i ns) (drop i ks) (drop i ts) (drop i ends) (drop i vs)

  abbrev pub entry_at : ℕ → Entry
  entry_at i = record { quote = volatility_type_of (get_or ns i false); strike = get_or ks i nan; start = get_or ts i nan; end = get_or ends i nan; vol = get_or vs i nan }

  -- of lists of one length
  pub next_entry : (i : ℕ) → length ks ≡ length ns → length ts ≡ length ns → length ends ≡ length ns → length vs ≡ length ns → i < length ns → from i ≡ entry_at i ∷ from (i + 1)
  unfolding entries_of
  next_entry i k t e v h = rw (next_quote ns i h, next ks i (omega arith), next ts i (omega arith), next ends i (omega arith), next vs i (omega arith))

  pub no_entries : (i : ℕ) → length ns ≤ i → from i ≡ []
  unfolding entries_of
  no_entries i h = rw (no_quotes ns i h)
