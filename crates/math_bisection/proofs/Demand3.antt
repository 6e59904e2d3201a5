-- The facts of specs/Demand3.antt hold of every fit, whatever its objective. Assumes nothing.
use Rattle.std.specs.Prelude.{Ok, Err}
use mathlib.Core.Path.{◌≡◌, refl, sym, ap, ◌∙◌, subst}
use mathlib.Core.Logic.{◌⊎◌, inl, inr, ◌↔◌}
use mathlib.Core.Bool.{Bool, true, false, not, cond}
use mathlib.Core.List.Memᴰ
use mathlib.Core.List.{List, [], ◌∷◌, Memᴰ}
use Prim.Native.Nat.{ℕ, zero, suc, ◌+◌, ◌≤◌}
use native.Mathlib.Nat.{zero-add}
use native.Mathlib.Omega.{arith}
use lib.Dec.{T}
use lib.ListN.{length, get_or}
use lib.Ieee.{Float, nan}
use Rattle.refusals.specs.declared.refusals.Refusal.{Refusal}
use Rattle.refusals.specs.declared.refusals.Refusal.TheVariants as R
use Rattle.refusals.specs.Refusals.{Outcome}
use Rattle.refusals.proofs.Outcomes.{not_both, served_is}
use Rattle.search.specs.Halving.{Halvings, none, one_more, raised, lowered}
use Rattle.search.proofs.HalvingLaw.{halving_law}
use Rattle.math_bisection.specs.declared.halving.Ends.{Ends}
use Rattle.math_bisection.specs.declared.result.Fit.{Fit}
use Rattle.math_bisection.specs.Solve.{lowest, highest, same_sign, close_enough, residual_at, ends_moved_to, halvings_from, ends_of, solve_of}
use Rattle.math_bisection.specs.Tried.{tried_from, tried_of}
use Rattle.math_bisection.specs.Demand3.{Converged, Unconverged, entry_of, Served, Assured, TriedUnbracketed, FitDemand3}
use Rattle.math_bisection.proofs.Agree.{same}
use Rattle.math_bisection.proofs.Signs.{differ_turn, differ_from}
use Rattle.math_bisection.proofs.Steps.{mid, Number, residual_served, residual_unbracketed, unbracketed_residual, sign_is_no_want, found, unfound, Met, stopped, close, away, met, last_stopped, last_served, halving_stopped, halving_close, halving_away, tried_last, tried_stopped, tried_close, tried_away, Begun, low_stopped, high_stopped, alike, apart, begun, solve_low, solve_high, solve_alike, solve_apart, tried_low, tried_high, tried_alike, tried_apart}

yes : (b : Bool) → b ≡ true → T b
yes b e = subst T (sym e) tt

no : (b : Bool) → b ≡ false → T (not b)
no b e = subst (λ (x : Bool). T (not x)) (sym e) tt

served_not : {A B : Type 0} {v : B} {r : Refusal} → Ok v ≡ Err r → A
served_not h = absurd (not_both (sym h))

module _ (f : Float → Outcome Float) where
  -- ---- what every halving keeps
  record Kept (made : ℕ) (e : Ends) : Type 0 where
    halved : Halvings made lowest highest e.low e.high
    at_low : Number (f e.low) e.low_residual
    at_high : Number (f e.high) e.high_residual
    signs : T (not (same_sign e.low_residual e.high_residual))

  moved : (made : ℕ) (e : Ends) (v : Float) → Kept made e → Number (f (mid e)) v → Kept (suc made) (ends_moved_to e (mid e) v)
  unfolding ends_moved_to
  moved made e v k n = go (same_sign v e.low_residual) refl
    where
      go : (t : Bool) → same_sign v e.low_residual ≡ t
          → Kept (suc made) (cond t (record { low = mid e; high = e.high; low_residual = v; high_residual = e.high_residual }) (record { low = e.low; high = mid e; low_residual = e.low_residual; high_residual = v }))
      go true h = record {
        halved = one_more k.halved (raised refl refl);
        at_low = n;
        at_high = k.at_high;
        signs = differ_from v e.low_residual e.high_residual n.number k.at_low.number k.at_high.number (yes (same_sign v e.low_residual) h) k.signs;
      }
      go false h = record {
        halved = one_more k.halved (lowered refl refl);
        at_low = k.at_low;
        at_high = n;
        signs = differ_turn v e.low_residual n.number k.at_low.number (no (same_sign v e.low_residual) h);
      }

  -- ---- the fit that the halvings end in
  record Ended (fit : Fit) : Type 0 where
    made : ℕ
    kept : Kept made fit.ends
    at_sigma : f fit.sigma ≡ Ok fit.residual
    middle : fit.sigma ≡ mid fit.ends
    root : Converged fit ⊎ Unconverged fit

  ended_found : (made : ℕ) (e : Ends) (v : Float) → suc made ≤ 200 → Kept made e → Number (f (mid e)) v → close_enough v ≡ true → Ended (found made e v)
  ended_found made e v l k n q = record {
    made = made;
    kept = k;
    at_sigma = n.there;
    middle = refl;
    root = inl (record { status = refl; close = yes (close_enough v) q; before = made; number = refl; within = l; halved = k.halved });
  }

  ended_unfound : (made : ℕ) (e : Ends) (v : Float) → made ≡ 200 → Kept made e → Number (f (mid e)) v → Ended (unfound e v)
  ended_unfound made e v l k n =
      let h : Halvings 200 lowest highest e.low e.high = subst (λ (n : ℕ). Halvings n lowest highest e.low e.high) l k.halved in
      record { made = made; kept = k; at_sigma = n.there; middle = refl; root = inr (record { status = refl; number = refl; halved = h; neighbours = halving_law.volatility h }) }

  ended : (left made : ℕ) (e : Ends) (fit : Fit) → left + made ≡ 200 → Kept made e → halvings_from f left made e ≡ Ok fit → Ended fit
  ended zero made e fit l k h = go (met f e)
    where
      last : (v : Float) → residual_at f (mid e) ≡ Ok v → Ended fit
      last v p = subst Ended (served_is (sym (last_served f made e p) ∙ h)) (ended_unfound made e v (sym (zero-add made) ∙ l) k (residual_served f (mid e) p))

      go : Met f e → Ended fit
      go (stopped r p) = absurd (not_both (sym (last_stopped f made e p) ∙ h))
      go (close v p q) = last v p
      go (away v p q) = last v p
  ended (suc left) made e fit l k h = go (ended left (suc made)) (met f e)
    where
      room : suc left + made ≡ 200 → suc made ≤ 200
      room l = omega arith

      less : suc left + made ≡ 200 → left + suc made ≡ 200
      less l = omega arith

      go : ((e : Ends) (fit : Fit) → left + suc made ≡ 200 → Kept (suc made) e → halvings_from f left (suc made) e ≡ Ok fit → Ended fit) → Met f e → Ended fit
      go ih (stopped r p) = absurd (not_both (sym (halving_stopped f made e left p) ∙ h))
      go ih (close v p q) = subst Ended (served_is (sym (halving_close f made e left p q) ∙ h)) (ended_found made e v (room l) k (residual_served f (mid e) p) q)
      go ih (away v p q) = ih (ends_moved_to e (mid e) v) fit (less l) (moved made e v k (residual_served f (mid e) p)) (sym (halving_away f made e left p q) ∙ h)

  -- ---- every sigma tried by a fit that is served was served
  served_at : {s sigma v : Float} → s ≡ sigma → residual_at f sigma ≡ Ok v → Served f s
  served_at {s} {sigma} {v} p q = let n = residual_served f sigma q in record { residual = v; there = ap f p ∙ n.there; number = n.number }

  member : {s : Float} {xs ys : List Float} → xs ≡ ys → Memᴰ s xs → Memᴰ s ys
  member {s} p m = subst (λ (l : List Float). Memᴰ s l) p m

  every : (left made : ℕ) (e : Ends) (fit : Fit) → halvings_from f left made e ≡ Ok fit → (s : Float) → Memᴰ s (tried_from f left e) → Served f s
  every zero made e fit h s m = go (met f e)
    where
      here : s ≡ mid e
      here = Memᴰ.eq_of_singleton (member (tried_last f e) m)

      go : Met f e → Served f s
      go (stopped r p) = absurd (not_both (sym (last_stopped f made e p) ∙ h))
      go (close v p q) = served_at here p
      go (away v p q) = served_at here p
  every (suc left) made e fit h s m = go (every left (suc made)) (met f e)
    where
      go : ((e : Ends) (fit : Fit) → halvings_from f left (suc made) e ≡ Ok fit → (s : Float) → Memᴰ s (tried_from f left e) → Served f s) → Met f e → Served f s
      go ih (stopped r p) = absurd (not_both (sym (halving_stopped f made e left p) ∙ h))
      go ih (close v p q) = served_at (Memᴰ.eq_of_singleton (member (tried_close f e left p q) m)) p
      go ih (away v p q) = one (Memᴰ.cases_cons (member (tried_away f e left p q) m))
        where
          one : (s ≡ mid e) ⊎ Memᴰ s (tried_from f left (ends_moved_to e (mid e) v)) → Served f s
          one (inl z) = served_at z p
          one (inr t) = ih (ends_moved_to e (mid e) v) fit (sym (halving_away f made e left p q) ∙ h) s t

  -- ---- the sigma returned was tried
  last_tried : (left made : ℕ) (e : Ends) (fit : Fit) → halvings_from f left made e ≡ Ok fit → Memᴰ fit.sigma (tried_from f left e)
  last_tried zero made e fit h = go (met f e)
    where
      here : (v : Float) → residual_at f (mid e) ≡ Ok v → Memᴰ fit.sigma (tried_from f zero e)
      here v p = member (sym (tried_last f e)) (Memᴰ.head (ap (λ (x : Fit). x.sigma) (served_is (sym h ∙ last_served f made e p))))

      go : Met f e → Memᴰ fit.sigma (tried_from f zero e)
      go (stopped r p) = absurd (not_both (sym (last_stopped f made e p) ∙ h))
      go (close v p q) = here v p
      go (away v p q) = here v p
  last_tried (suc left) made e fit h = go (last_tried left (suc made)) (met f e)
    where
      go : ((e : Ends) (fit : Fit) → halvings_from f left (suc made) e ≡ Ok fit → Memᴰ fit.sigma (tried_from f left e)) → Met f e → Memᴰ fit.sigma (tried_from f (suc left) e)
      go ih (stopped r p) = absurd (not_both (sym (halving_stopped f made e left p) ∙ h))
      go ih (close v p q) = member (sym (tried_close f e left p q)) (Memᴰ.head (ap (λ (x : Fit). x.sigma) (served_is (sym h ∙ halving_close f made e left p q))))
      go ih (away v p q) = member (sym (tried_away f e left p q)) (Memᴰ.tail (ih (ends_moved_to e (mid e) v) fit (sym (halving_away f made e left p q) ∙ h)))

  -- ---- and it is the last entry of the sigmas tried from the ends e, `made` halvings having been made
  record Placed (made : ℕ) (xs : List Float) (fit : Fit) : Type 0 where
    place : ℕ
    counted : length xs ≡ suc place
    there : get_or xs place nan ≡ fit.sigma
    number : entry_of fit ≡ 2 + (made + place)

  entry_found : (made : ℕ) (e : Ends) (v : Float) → entry_of (found made e v) ≡ 2 + made
  entry_found made e v = omega arith

  entry_unfound : (made : ℕ) (e : Ends) (v : Float) → made ≡ 200 → entry_of (unfound e v) ≡ 2 + made
  entry_unfound made e v l = omega arith

  placed_only : (made : ℕ) (e : Ends) {xs : List Float} {fit : Fit} → xs ≡ mid e ∷ [] → mid e ≡ fit.sigma → entry_of fit ≡ 2 + made → Placed made xs fit
  placed_only made e t s n = record { place = 0; counted = ap length t; there = ap (λ (xs : List Float). get_or xs 0 nan) t ∙ s; number = omega arith }

  placed_later : (made : ℕ) {x : Float} {xs ys : List Float} {fit : Fit} → xs ≡ x ∷ ys → Placed (suc made) ys fit → Placed made xs fit
  placed_later made t p =
      let n : made + suc p.place ≡ suc made + p.place = omega arith in
      record {
        place = suc p.place;
        counted = ap length t ∙ ap suc p.counted;
        there = ap (λ (xs : List Float). get_or xs (suc p.place) nan) t ∙ p.there;
        number = p.number ∙ ap (λ (k : ℕ). 2 + k) (sym n);
      }

  placed : (left made : ℕ) (e : Ends) (fit : Fit) → left + made ≡ 200 → halvings_from f left made e ≡ Ok fit → Placed made (tried_from f left e) fit
  placed zero made e fit l h = go (met f e)
    where
      here : (v : Float) → residual_at f (mid e) ≡ Ok v → Placed made (tried_from f zero e) fit
      here v p = subst (λ (x : Fit). Placed made (tried_from f zero e) x) (served_is (sym (last_served f made e p) ∙ h)) (placed_only made e (tried_last f e) refl (entry_unfound made e v (sym (zero-add made) ∙ l)))

      go : Met f e → Placed made (tried_from f zero e) fit
      go (stopped r p) = absurd (not_both (sym (last_stopped f made e p) ∙ h))
      go (close v p q) = here v p
      go (away v p q) = here v p
  placed (suc left) made e fit l h = go (placed left (suc made)) (met f e)
    where
      less : suc left + made ≡ 200 → left + suc made ≡ 200
      less l = omega arith

      go : ((e : Ends) (fit : Fit) → left + suc made ≡ 200 → halvings_from f left (suc made) e ≡ Ok fit → Placed (suc made) (tried_from f left e) fit) → Met f e → Placed made (tried_from f (suc left) e) fit
      go ih (stopped r p) = absurd (not_both (sym (halving_stopped f made e left p) ∙ h))
      go ih (close v p q) = subst (λ (x : Fit). Placed made (tried_from f (suc left) e) x) (served_is (sym (halving_close f made e left p q) ∙ h)) (placed_only made e (tried_close f e left p q) refl (entry_found made e v))
      go ih (away v p q) = placed_later made (tried_away f e left p q) (ih (ends_moved_to e (mid e) v) fit (less l) (sym (halving_away f made e left p q) ∙ h))

  -- ---- refused for want of a bracket: so was the last sigma tried
  record Wanting (xs : List Float) : Type 0 where
    sigma : Float
    tried : Memᴰ sigma xs
    there : f sigma ≡ Err R.NoBracket

  wanting_here : {sigma : Float} {r : Refusal} {A : Type 0} {o : Outcome A} {xs ys : List Float} → ys ≡ sigma ∷ xs → residual_at f sigma ≡ Err r → o ≡ Err r → o ≡ Err R.NoBracket → Wanting ys
  wanting_here {sigma} e p q h = record { sigma = sigma; tried = member (sym e) (Memᴰ.head refl); there = residual_unbracketed f sigma (same p q h) }
    where
      same : {A : Type 0} {o : Outcome A} {r : Refusal} {x : Outcome Float} → x ≡ Err r → o ≡ Err r → o ≡ Err R.NoBracket → x ≡ Err R.NoBracket
      same p q h = cc

  later : {x : Float} {xs ys : List Float} → ys ≡ x ∷ xs → Wanting xs → Wanting ys
  later e w = record { sigma = w.sigma; tried = member (sym e) (Memᴰ.tail w.tried); there = w.there }

  wanting : (left made : ℕ) (e : Ends) → halvings_from f left made e ≡ Err R.NoBracket → Wanting (tried_from f left e)
  wanting zero made e h = go (met f e)
    where
      go : Met f e → Wanting (tried_from f zero e)
      go (stopped r p) = wanting_here (tried_last f e) p (last_stopped f made e p) h
      go (close v p q) = served_not (sym (last_served f made e p) ∙ h)
      go (away v p q) = served_not (sym (last_served f made e p) ∙ h)
  wanting (suc left) made e h = go (wanting left (suc made)) (met f e)
    where
      go : ((e : Ends) → halvings_from f left (suc made) e ≡ Err R.NoBracket → Wanting (tried_from f left e)) → Met f e → Wanting (tried_from f (suc left) e)
      go ih (stopped r p) = wanting_here (tried_stopped f e left p) p (halving_stopped f made e left p) h
      go ih (close v p q) = served_not (sym (halving_close f made e left p q) ∙ h)
      go ih (away v p q) = later (tried_away f e left p q) (ih (ends_moved_to e (mid e) v) (sym (halving_away f made e left p q) ∙ h))

  -- ---- and a sigma refused for want of a bracket is the last one tried, and the call's refusal
  want_at : {s sigma : Float} → s ≡ sigma → f s ≡ Err R.NoBracket → residual_at f sigma ≡ Err R.NoBracket
  want_at {s} {sigma} p h = unbracketed_residual f sigma (sym (ap f p) ∙ h)

  no_want : {A : Type 0} {s sigma v : Float} → s ≡ sigma → f s ≡ Err R.NoBracket → residual_at f sigma ≡ Ok v → A
  no_want p h q = absurd (not_both (sym (want_at p h) ∙ q))

  wanted : (left made : ℕ) (e : Ends) (s : Float) → Memᴰ s (tried_from f left e) → f s ≡ Err R.NoBracket → halvings_from f left made e ≡ Err R.NoBracket
  wanted zero made e s m h = last_stopped f made e (want_at (Memᴰ.eq_of_singleton (member (tried_last f e) m)) h)
  wanted (suc left) made e s m h = go (wanted left (suc made)) (met f e)
    where
      go : ((e : Ends) (s : Float) → Memᴰ s (tried_from f left e) → f s ≡ Err R.NoBracket → halvings_from f left (suc made) e ≡ Err R.NoBracket) → Met f e → halvings_from f (suc left) made e ≡ Err R.NoBracket
      go ih (stopped r p) = halving_stopped f made e left (want_at (Memᴰ.eq_of_singleton (member (tried_stopped f e left p) m)) h)
      go ih (close v p q) = no_want (Memᴰ.eq_of_singleton (member (tried_close f e left p q) m)) h p
      go ih (away v p q) = one (Memᴰ.cases_cons (member (tried_away f e left p q) m))
        where
          one : (s ≡ mid e) ⊎ Memᴰ s (tried_from f left (ends_moved_to e (mid e) v)) → halvings_from f (suc left) made e ≡ Err R.NoBracket
          one (inl z) = no_want z h p
          one (inr t) = halving_away f made e left p q ∙ ih (ends_moved_to e (mid e) v) s t h

  -- ---- the whole fit
  started : (a b : Float) → residual_at f lowest ≡ Ok a → residual_at f highest ≡ Ok b → same_sign a b ≡ false → Kept 0 (ends_of a b)
  started a b p q s = record { halved = none; at_low = residual_served f lowest p; at_high = residual_served f highest q; signs = no (same_sign a b) s }

  -- the entry in the whole list, behind 1e-8 and 2.0
  module _ {a b : Float} {fit : Fit} (p : residual_at f lowest ≡ Ok a) (q : residual_at f highest ≡ Ok b) (s : same_sign a b ≡ false) (w : Placed 0 (tried_from f 200 (ends_of a b)) fit) where
    from_zero : entry_of fit ≡ suc (suc w.place)
    from_zero = w.number ∙ ap (λ (k : ℕ). 2 + k) (zero-add w.place) ∙ omega arith

    whole_entry : get_or (tried_of f) (entry_of fit) nan ≡ fit.sigma
    whole_entry = ap (λ (n : ℕ). get_or (tried_of f) n nan) from_zero ∙ ap (λ (xs : List Float). get_or xs (suc (suc w.place)) nan) (tried_apart f p q s) ∙ w.there

    whole_length : length (tried_of f) ≡ suc (entry_of fit)
    whole_length = ap length (tried_apart f p q s) ∙ ap (λ (n : ℕ). suc (suc n)) w.counted ∙ ap suc (sym from_zero)

  assured : (fit : Fit) → solve_of f ≡ Ok fit → Assured f fit
  assured fit h = go (begun f)
    where
      go : Begun f → Assured f fit
      go (low_stopped r p) = absurd (not_both (sym (solve_low f p) ∙ h))
      go (high_stopped a r p q) = absurd (not_both (sym (solve_high f p q) ∙ h))
      go (alike a b p q s) = absurd (not_both (sym (solve_alike f p q s) ∙ h))
      go (apart a b p q s) =
          let x = ended 200 0 (ends_of a b) fit refl (started a b p q s) (sym (solve_apart f p q s) ∙ h) in
          record {
            at_sigma = x.at_sigma;
            at_low = x.kept.at_low.there;
            at_high = x.kept.at_high.there;
            low_number = x.kept.at_low.number;
            high_number = x.kept.at_high.number;
            signs = x.kept.signs;
            order = (halving_law.between halving_law.volatility_start x.kept.halved).order;
            middle = x.middle;
            tried = member (sym (tried_apart f p q s)) (Memᴰ.tail (Memᴰ.tail (last_tried 200 0 (ends_of a b) fit (sym (solve_apart f p q s) ∙ h))));
            entry = whole_entry p q s (placed 200 0 (ends_of a b) fit refl (sym (solve_apart f p q s) ∙ h));
            last = whole_length p q s (placed 200 0 (ends_of a b) fit refl (sym (solve_apart f p q s) ∙ h));
            root = x.root;
            every = λ sigma m. first sigma (Memᴰ.cases_cons (member (tried_apart f p q s) m));
          }
        where
          second : (sigma : Float) → (sigma ≡ highest) ⊎ Memᴰ sigma (tried_from f 200 (ends_of a b)) → Served f sigma
          second sigma (inl z) = served_at z q
          second sigma (inr m) = every 200 0 (ends_of a b) fit (sym (solve_apart f p q s) ∙ h) sigma m

          first : (sigma : Float) → (sigma ≡ lowest) ⊎ Memᴰ sigma (highest ∷ tried_from f 200 (ends_of a b)) → Served f sigma
          first sigma (inl z) = served_at z p
          first sigma (inr m) = second sigma (Memᴰ.cases_cons m)

  solve_wanting : solve_of f ≡ Err R.NoBracket → Wanting (tried_of f)
  solve_wanting h = go (begun f)
    where
      go : Begun f → Wanting (tried_of f)
      go (low_stopped r p) = wanting_here (tried_low f p) p (solve_low f p) h
      go (high_stopped a r p q) = later (tried_high f p q) (wanting_here refl q (solve_high f p q) h)
      go (alike a b p q s) = sign_is_no_want (sym (solve_alike f p q s) ∙ h)
      go (apart a b p q s) = later (tried_apart f p q s) (later refl (wanting 200 0 (ends_of a b) (sym (solve_apart f p q s) ∙ h)))

  solve_wanted : (sigma : Float) → Memᴰ sigma (tried_of f) → f sigma ≡ Err R.NoBracket → solve_of f ≡ Err R.NoBracket
  solve_wanted sigma m h = go (begun f)
    where
      go : Begun f → solve_of f ≡ Err R.NoBracket
      go (low_stopped r p) = solve_low f (want_at (Memᴰ.eq_of_singleton (member (tried_low f p) m)) h)
      go (high_stopped a r p q) = one (Memᴰ.cases_cons (member (tried_high f p q) m))
        where
          one : (sigma ≡ lowest) ⊎ Memᴰ sigma (highest ∷ []) → solve_of f ≡ Err R.NoBracket
          one (inl z) = no_want z h p
          one (inr t) = solve_high f p (want_at (Memᴰ.eq_of_singleton t) h)
      go (alike a b p q s) = one (Memᴰ.cases_cons (member (tried_alike f p q s) m))
        where
          one : (sigma ≡ lowest) ⊎ Memᴰ sigma (highest ∷ []) → solve_of f ≡ Err R.NoBracket
          one (inl z) = no_want z h p
          one (inr t) = no_want (Memᴰ.eq_of_singleton t) h q
      go (apart a b p q s) = one (Memᴰ.cases_cons (member (tried_apart f p q s) m))
        where
          two : (sigma ≡ highest) ⊎ Memᴰ sigma (tried_from f 200 (ends_of a b)) → solve_of f ≡ Err R.NoBracket
          two (inl z) = no_want z h q
          two (inr t) = solve_apart f p q s ∙ wanted 200 0 (ends_of a b) sigma t h

          one : (sigma ≡ lowest) ⊎ Memᴰ sigma (highest ∷ tried_from f 200 (ends_of a b)) → solve_of f ≡ Err R.NoBracket
          one (inl z) = no_want z h p
          one (inr t) = two (Memᴰ.cases_cons t)

  no_bracket : (solve_of f ≡ Err R.NoBracket) ↔ TriedUnbracketed f
  no_bracket = (λ h. let w = solve_wanting h in record { sigma = w.sigma; tried = w.tried; there = w.there }, λ t. solve_wanted t.sigma t.tried t.there)

pub demand3 : FitDemand3
demand3 = record { assured = λ f fit h. assured f fit h; no_bracket = λ f. no_bracket f; same = λ f g h. same f g h }
