-- `flagged` and `thinned` agree with the Rust's loop and with the whole of its `thin`. Assumes nothing.
use Rattle.std.specs.Prelude.{Option, Some, None, Err, Ok}
use mathlib.Core.Path.{◌≡◌, refl, sym, ap, subst, ◌∙◌}
use mathlib.Core.Bool.{Bool, true, false, cond, not, ◌||◌}
use mathlib.Core.Logic.{◌⊎◌, inl, inr, ⊎_elim}
use mathlib.Core.List.{List, [], ◌∷◌, ◌++◌}
use Prim.Native.Nat.{ℕ, zero, suc, ◌-◌, ◌<◌, ◌≤◌}
use native.Mathlib.Omega.{arith}
use lib.Dec.{ltb}
use lib.Ieee.{Float, lt}
use lib.ListN.{length, set}
use borrow.Author.Tests.{ltb-true, ltb-false}
use Rattle.arith.specs.Notation.{plus_zero}
use Rattle.math.specs.declared.Vec3.{Vec3}
use Rattle.edge_record.specs.declared.Sample.{Sample}
use Rattle.edge_record.specs.Chain.{sample_point}
use Rattle.edge_thin_span.specs.Span.{decision}
use Rattle.edge_thin_span.proofs.Laws.{narrow, inside, nine}
use Rattle.edge_thin_mark.specs.Spans.{by_split, kept_in, marks, flagged}
use Rattle.edge_thin.specs.Thin.{with_floor, retained_by, thinned}
use Rattle.edge_thin_loop.specs.Loop.{State, state, begun, Reaches, here, LoopEnds, Returns, early, late}
use Rattle.edge_thin_loop.specs.Endless.{ReachesEndless, ThinEndless}
use Rattle.edge_thin_loop.specs.Claims.{Loops, Thins}
use Rattle.edge_thin_loop.proofs.Span.{refused_endless, endless_refused}
use Rattle.edge_thin_loop.proofs.Marks.{marks_both}
use Rattle.edge_thin_loop.proofs.Turns.{one_turn, then, either, over, for_ever}
use Rattle.edge_thin_loop.proofs.Agree.{Account, ends, stuck, agree}
use Rattle.edge_thin_loop.proofs.Within.{within}
use Rattle.refusal.specs.Answer.{Answer, each, both}
use Rattle.refusal.specs.declared.Refusal.{Refusal}
use Rattle.refusal.specs.declared.Refusal.TheVariants.{Endless}

module _ (points : ℕ → Vec3) (tolerance angle : Float) where
  abbrev decide : ℕ → ℕ → Answer (Option ℕ)
  decide = decision points tolerance angle

  abbrev Goes : State → State → Type 0
  Goes = Reaches points tolerance angle

  abbrev Sticks : State → Type 0
  Sticks = ReachesEndless points tolerance angle

  -- ---- it ends in one way, and not once it has come to an endless span
  one_end : {s : State} (j k : List Bool) → Goes s (state [] j) → Goes s (state [] k) → j ≡ k
  one_end j k p q =
      ap (λ (s : State). s.keep) (⊎_elim (λ r. over points tolerance angle r refl) (λ r. sym (over points tolerance angle r refl)) (either points tolerance angle p q))

  no_end : {s : State} → Sticks s → (k : List Bool) → Goes s (state [] k) → ⊥
  no_end c k p = ⊎_elim after before (either points tolerance angle c.reached p)
    where
      after : Goes (state ((c.a, c.b) ∷ c.stack) c.keep) (state [] k) → ⊥
      after q =
          let d = endless_refused points tolerance angle c.a c.b c.endless in
          let o = (for_ever points tolerance angle c.a c.b d q (record { rest = c.stack; is = refl })).is in
          cc

      before : Goes (state [] k) (state ((c.a, c.b) ∷ c.stack) c.keep) → ⊥
      before q = let o = ap (λ (s : State). s.stack) (over points tolerance angle q refl) in cc

  -- ---- what comes of a span, whatever lies under it
  abbrev Comes : ℕ → ℕ → Answer (List ℕ) → Type 0
  Comes a b =
      Account (λ (l : List ℕ). (stack : List (ℕ × ℕ)) (keep : List Bool) → Goes (state ((a, b) ∷ stack) keep) (state stack (marks keep l)))
      ((stack : List (ℕ × ℕ)) (keep : List Bool) → Sticks (state ((a, b) ∷ stack) keep))

  later : {s t : State} → Goes s t → Sticks t → Sticks s
  later p c = record { a = c.a; b = c.b; stack = c.stack; keep = c.keep; reached = then points tolerance angle p c.reached; endless = c.endless }

  left : (a b : ℕ) → decide a b ≡ Ok None → Comes a b (Ok [])
  left a b d = ends (λ stack keep. one_turn points tolerance angle a b stack keep d)

  parts : (a b w : ℕ) → decide a b ≡ Ok (Some w) → {x y : Answer (List ℕ)} → Comes a w x → Comes w b y → Comes a b (both (λ l r. w ∷ l ++ r) x y)
  parts a b w d = go
    where
      -- the span is taken, and the second part lies over the first
      taken : (stack : List (ℕ × ℕ)) (keep : List Bool) → Goes (state ((a, b) ∷ stack) keep) (state ((w, b) ∷ (a, w) ∷ stack) (set keep w true))
      taken stack keep = one_turn points tolerance angle a b stack keep d

      -- the second part comes to an endless span
      second : ((stack : List (ℕ × ℕ)) (keep : List Bool) → Sticks (state ((w, b) ∷ stack) keep)) → Comes a b (Err Endless)
      second g = stuck (λ stack keep. later (taken stack keep) (g ((a, w) ∷ stack) (set keep w true)))

      go : {x y : Answer (List ℕ)} → Comes a w x → Comes w b y → Comes a b (both (λ l r. w ∷ l ++ r) x y)
      go (ends {x = l} f) (ends {x = r} g) =
          ends (λ stack keep. subst (λ (k : List Bool). Goes (state ((a, b) ∷ stack) keep) (state stack k)) (marks_both l r (set keep w true))
          (then points tolerance angle (taken stack keep)
          (then points tolerance angle (g ((a, w) ∷ stack) (set keep w true)) (f stack (marks (set keep w true) r)))))
      go (ends f) (stuck g) = second g
      go (stuck f) (stuck g) = second g
      go (stuck f) (ends {x = r} g) =
          stuck (λ stack keep. later (taken stack keep) (later (g ((a, w) ∷ stack) (set keep w true)) (f stack (marks (set keep w true) r))))

  comes : (n a b : ℕ) → b - a ≤ n → Comes a b (kept_in decide n a b)
  unfolding kept_in
  comes zero a b h = left a b (narrow points tolerance angle a b (omega arith))
  comes (suc n) a b h =
      go (decide a b) refl
      (λ w d. let i = inside points tolerance angle a b w d in comes n a w (omega arith))
      (λ w d. let i = inside points tolerance angle a b w d in comes n w b (omega arith))
    where
      go : (v : Answer (Option ℕ)) → decide a b ≡ v → ((w : ℕ) → decide a b ≡ Ok (Some w) → Comes a w (kept_in decide n a w)) → ((w : ℕ) → decide a b ≡ Ok (Some w) → Comes w b (kept_in decide n w b))
          → Comes a b (by_split v (λ w. both (λ l r. w ∷ l ++ r) (kept_in decide n a w) (kept_in decide n w b)))
      go (Ok None) d f g = left a b d
      go (Err n) d f g =
          let q = nine points tolerance angle a b n d in
          subst (λ (k : Refusal). Comes a b (Err k)) (sym q)
          (stuck (λ stack keep. record { a = a; b = b; stack = stack; keep = keep; reached = here; endless = refused_endless points tolerance angle a b (d ∙ ap Err q) }))
      go (Ok (Some w)) d f g = parts a b w d (f w d) (g w d)

  -- ---- the whole loop
  abbrev Runs : ℕ → Answer (List Bool) → Type 0
  Runs n = Account (LoopEnds points tolerance angle n) (Sticks (begun n))

  runs : (n : ℕ) → Runs n (flagged points tolerance angle n)
  unfolding flagged
  runs n = go (comes (n - 1 - 0) 0 (n - 1) (omega arith))
    where
      go : {x : Answer (List ℕ)} → Comes 0 (n - 1) x → Runs n (each (marks (begun n).keep) x)
      go (ends f) = ends (f [] (begun n).keep)
      go (stuck f) = stuck (f [] (begun n).keep)

  pub loops : (n : ℕ) → Loops points tolerance angle n
  loops n = record {
    spans = λ a b. (refused_endless points tolerance angle a b, endless_refused points tolerance angle a b);
    flags = agree one_end no_end (runs n);
    within = within points tolerance angle n;
  }

-- ---- the whole of `thin`
module _ (tolerance angle : Float) (floor : ℕ) (chain : List Sample) where
  -- it does not both return at once and go on to the loop
  apart : {A : Type 0} → (length chain < 3) ⊎ (lt plus_zero tolerance ≡ false) → 3 ≤ length chain → lt plus_zero tolerance ≡ true → A
  apart (inl h) three above = absurd (omega arith)
  apart (inr h) three above = cc

  one_return : (l m : List Sample) → Returns tolerance angle floor chain l → Returns tolerance angle floor chain m → l ≡ m
  one_return l m (early h) (early k) = refl
  one_return l m (early h) (late three above p) = apart h three above
  one_return l m (late three above p) (early h) = apart h three above
  one_return l m (late {keep = j} three above p) (late {keep = k} three' above' q) =
      ap (λ (keep : List Bool). retained_by (with_floor floor keep) chain) (one_end (sample_point chain) tolerance angle j k p q)

  no_return : ThinEndless tolerance angle chain → (l : List Sample) → Returns tolerance angle floor chain l → ⊥
  no_return c l (early h) = apart h c.three c.above
  no_return c l (late {keep = k} three above p) = no_end (sample_point chain) tolerance angle c.reaches k p

  abbrev Thinning : Answer (List Sample) → Type 0
  Thinning = Account (Returns tolerance angle floor chain) (ThinEndless tolerance angle chain)

  thinning : Thinning (thinned tolerance angle floor chain)
  unfolding thinned
  thinning = go (ltb (length chain) 3) (lt plus_zero tolerance) refl refl
    where
      by_flags : 3 ≤ length chain → lt plus_zero tolerance ≡ true → {r : Answer (List Bool)} → Runs (sample_point chain) tolerance angle (length chain) r
          → Thinning (each (λ keep. retained_by (with_floor floor keep) chain) r)
      by_flags three above (ends p) = ends (late three above p)
      by_flags three above (stuck c) = stuck (record { three = three; above = above; reaches = c })

      go : (x y : Bool) → ltb (length chain) 3 ≡ x → lt plus_zero tolerance ≡ y
          → Thinning (cond (x || not y) (Ok chain) (each (λ keep. retained_by (with_floor floor keep) chain) (flagged (sample_point chain) tolerance angle (length chain))))
      go true y p q = ends (early (inl (ltb-true (length chain) 3 p)))
      go false false p q = ends (early (inr q))
      go false true p q = by_flags (ltb-false (length chain) 3 p) q (runs (sample_point chain) tolerance angle (length chain))

  pub thins : Thins tolerance angle floor chain
  thins = agree one_return no_return thinning
