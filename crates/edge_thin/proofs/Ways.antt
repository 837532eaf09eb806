-- The ways out of `thin`. Assumes nothing.
use Rattle.std.specs.Prelude.{ℕ, Err, Ok}
use mathlib.Core.Path.{◌≡◌, refl, sym, ap, ◌∙◌}
use mathlib.Core.Bool.{Bool, true, false, cond, ◌||◌}
use mathlib.Core.Logic.{◌⊎◌, inl, inr, ⊎_elim}
use mathlib.Core.List.{List}
use Prim.Native.Nat.{ℕ, ◌<◌, ◌≤◌}
use native.Mathlib.Omega.{arith}
use lib.ListN.{length, take, replicate}
use lib.Seq.{sets}
use Rattle.std.proofs.lemmas.List.{length-replicate, take-replicate}
use lib.Dec.{ltb}
use lib.Ieee.{Float, lt}
use borrow.Author.Tests.{lt-ltb, le-ltb}
use Rattle.arith.specs.Notation.{plus_zero}
use Rattle.edge_record.specs.declared.Sample.{Sample}
use Rattle.edge_record.specs.Own.Stored.{record_point, counted_of, after, ChainStored}
use Rattle.edge_record.specs.Chain.{flat, samples, sample_point}
use Rattle.edge_record.proofs.Laws.{samples_from-length, samples_own, point_of-samples}
use Rattle.edge_thin_mark.specs.Spans.{flagged}
use Rattle.edge_thin_mark.proofs.Same.{flagged_same}
use Rattle.edge_thin.specs.Thin.{with_floor, retained_by, thinned}
use Rattle.refusal.specs.Answer.{Answer, each}
use Rattle.refusal.specs.declared.Refusal.{Refusal}

-- the first n of m flags that are not set
pub lent_length : (n m : ℕ) → n ≤ m → length (take n (replicate m false)) ≡ n
lent_length n m h = ap length (take-replicate n m false h) ∙ length-replicate n false

pub lent : (n m : ℕ) → n ≤ m → take n (replicate m false) ≡ replicate (length (take n (replicate m false))) false
lent n m h = take-replicate n m false h ∙ ap (λ (k : ℕ). replicate k false) (sym (lent_length n m h))

module _ (tolerance angle : Float) (floor n : ℕ) (c : List Float) where
  abbrev thinning : Answer (List Sample)
  thinning = thinned tolerance angle floor (samples n c)

  -- what the contract says
  abbrev Said : Answer ℕ → List Float → Type 0
  Said r d = (r ≡ counted_of thinning) × (d ≡ after c thinning)

  said : (r : Answer ℕ) (d : List Float) (x : Answer (List Sample)) → r ≡ counted_of x → d ≡ after c x → x ≡ thinning → Said r d
  said r d x a b e = (a ∙ ap counted_of e, b ∙ ap (after c) e)

  few : (l : List Sample) → (length l < 3) ⊎ (lt plus_zero tolerance ≡ false) → Ok l ≡ thinned tolerance angle floor l
  unfolding thinned
  few l h = ⊎_elim (λ s. sym (rw (lt-ltb (length l) 3 s))) (λ s. sym (rw s (either (ltb (length l) 3)))) h
    where
      either : (v : Bool) → cond (v || true) (Ok l) (each (λ keep. retained_by (with_floor floor keep) l) (flagged (sample_point l) tolerance angle (length l))) ≡ Ok l
      either true = refl
      either false = refl

  pub said_as_it_was : (n < 3) ⊎ (lt plus_zero tolerance ≡ false) → Said (Ok n) c
  said_as_it_was h =
      let q = samples_from-length c 0 n in
      said (Ok n) c (Ok (samples n c)) (ap Ok (sym q)) (sym (samples_own c 0 n)) (few (samples n c) (⊎_elim (λ s. inl (omega arith)) inr h))

  module _ (above : lt plus_zero tolerance ≡ true) (enough : 3 ≤ n) where
    -- the flags of the buffer's points are those of the chain's
    by_flags : each (λ k. retained_by (with_floor floor k) (samples n c)) (flagged (record_point c) tolerance angle n) ≡ thinning
    unfolding thinned
    by_flags =
        let q = samples_from-length c 0 n in
        let s : flagged (record_point c) tolerance angle n ≡ flagged (sample_point (samples n c)) tolerance angle n =
        flagged_same (record_point c) (sample_point (samples n c)) tolerance angle n (λ j h. sym (point_of-samples c n j h)) (omega arith) in
        ap (each (λ k. retained_by (with_floor floor k) (samples n c))) s ∙ sym (rw (le-ltb (length (samples n c)) 3 (omega arith), above, q))

    pub said_refused : (e : Refusal) → Err e ≡ flagged (record_point c) tolerance angle n → Said (Err e) c
    said_refused e m = said (Err e) c (Err e) refl refl (ap (each (λ k. retained_by (with_floor floor k) (samples n c))) m ∙ by_flags)

    -- n flags were marked, then put back to the floor, and `retain` reads them
    pub said_thinned : (marked kept : List Bool) (r : ℕ) (d : List Float) → Ok marked ≡ flagged (record_point c) tolerance angle n → kept ≡ with_floor floor marked → length kept ≡ n
        → ChainStored c d r (retained_by kept (samples (length kept) c)) → Said (Ok r) d
    said_thinned marked kept r d m f size s =
        let e : retained_by kept (samples (length kept) c) ≡ retained_by (with_floor floor marked) (samples n c) = rw (size, f) in
        said (Ok r) d (Ok (retained_by (with_floor floor marked) (samples n c))) (ap Ok (s.count ∙ ap length e)) (s.floats ∙ ap (λ (l : List Sample). sets c 0 (flat l)) e)
        (ap (each (λ k. retained_by (with_floor floor k) (samples n c))) m ∙ by_flags)
