-- The ways through `thin_sampled` and `finish`. Assumes nothing.
use Rattle.std.specs.Prelude.{Err, Ok}
use mathlib.Core.Path.{◌≡◌, refl, sym, ap, subst, ◌∙◌}
use mathlib.Core.Bool.{Bool, true, false, cond, not, ◌||◌}
use mathlib.Core.List.{List, [], ◌∷◌, ◌++◌}
use Prim.Native.Nat.{ℕ, ◌+◌, ◌-◌, ◌*◌, ◌/◌, ◌≤◌, min}
use native.Mathlib.Omega.{arith}
use lib.ListN.{length, take, set, replicate, length-append, length-set, length-replicate}
use Rattle.std.proofs.lemmas.List.{append-nil, take-append-le}
use lib.Seq.{sets, length-sets}
use lib.Dec.{ltb}
use lib.Ieee.{Float, lt}
use Rattle.base_lists.specs.Own.ListOf.{list_of}
use Rattle.base_lists.proofs.Order.{sub_length}
use Rattle.arith.specs.Notation.{◌⊗◌, plus_zero}
use Rattle.arith.specs.Constants.{hundredth}
use Rattle.math.specs.declared.Vec3.{Vec3}
use Rattle.options.specs.declared.Resolved.{Resolved}
use Rattle.edge_record.specs.declared.Sample.{Sample}
use Rattle.edge_record.specs.Own.Stored.{counted_of, after, ChainStored}
use Rattle.edge_record.specs.Chain.{width, most, flat, sample_point, samples}
use Rattle.edge_record.proofs.Laws.{samples_from-length, samples_own, length_flat, lead, reads}
use Rattle.edge_record.proofs.Shorter.{Shorter, shorter_same, shorter_sub, shorter_two}
use Rattle.edge_merge.specs.Merge.{merged}
use Rattle.edge_merge.proofs.Laws.{merge_shorter}
use Rattle.edge_thin_mark.specs.Spans.{kept, marks, flagged}
use Rattle.edge_thin_span.specs.Span.{decision}
use Rattle.edge_thin.specs.Thin.{with_floor, restored, retained_by, thinned}
use Rattle.edge_thin.proofs.Loops.{length_marks}
use Rattle.edge_thin.proofs.Laws.{thin_shorter}
use Rattle.draw_spec.specs.Edge.{thinned_if}
use Rattle.edge_discretise.specs.Own.Discretised.{ChainLeads}
use Rattle.refusal.specs.Answer.{Answer, each}
use Rattle.refusal.specs.declared.Refusal.{Refusal}

-- ---- a floor above the most samples says nothing more
flagged_length : (points : ℕ → Vec3) (tolerance angle : Float) (n : ℕ) (keep : List Bool) → flagged points tolerance angle n ≡ Ok keep → length keep ≡ n
unfolding flagged
flagged_length points tolerance angle n keep e = go (kept (decision points tolerance angle) 0 (n - 1)) e
  where
    go : (r : Answer (List ℕ)) → each (marks (set (set (replicate n false) 0 true) (n - 1) true)) r ≡ Ok keep → length keep ≡ n
    go (Err x) q = cc
    go (Ok l) q =
        let w : keep ≡ marks (set (set (replicate n false) 0 true) (n - 1) true) l = cc in
        ap length w ∙ length_marks _ l ∙ simp length-set (length-replicate n false)

pub thin_capped : (tolerance angle : Float) (segments floor : ℕ) (l : List Sample) → length l ≤ most → floor ≡ min segments most
    → thinned tolerance angle (floor + 1) l ≡ thinned tolerance angle (segments + 1) l
unfolding thinned
thin_capped tolerance angle segments floor l h e =
    ap (λ (x : Answer (List Sample)). cond (ltb (length l) 3 || not (lt plus_zero tolerance)) (Ok l) x)
    (go (flagged (sample_point l) tolerance angle (length l)) (flagged_length (sample_point l) tolerance angle (length l)))
  where
    go : (x : Answer (List Bool)) → ((keep : List Bool) → x ≡ Ok keep → length keep ≡ length l)
        → each (λ keep. retained_by (with_floor (floor + 1) keep) l) x ≡ each (λ keep. retained_by (with_floor (segments + 1) keep) l) x
    go (Err n) f = refl
    go (Ok keep) f =
        let k : length keep ≤ most = omega (arith, f keep refl) in
        let m : min (floor + 1) (length keep) ≡ min (segments + 1) (length keep) = omega arith in
        ap (λ (n : ℕ). Ok (retained_by (restored n keep) l)) m

-- ---- `thin_sampled`
-- r and d are the answer of a pass over the buffer c and what it leaves, by X
abbrev pub Passed : List Float → Answer (List Sample) → Answer ℕ → List Float → Type 0
Passed c X w d = (w ≡ counted_of X) × (d ≡ after c X)

module _ (r : Resolved) (c : List Float) (n : ℕ) (b sampled : Bool) (own : b ≡ sampled) where
  pub passed_thinned : (floor : ℕ) (w : Answer ℕ) (d : List Float) → b ≡ true → n ≤ most → floor ≡ min r.segments most
      → Passed c (thinned (r.sag ⊗ hundredth) r.angle (floor + 1) (samples n c)) w d
      → Passed c (thinned_if sampled r (samples n c)) w d
  unfolding thinned_if
  passed_thinned floor w d t h e p =
      let q : thinned (r.sag ⊗ hundredth) r.angle (floor + 1) (samples n c) ≡ thinned_if sampled r (samples n c) =
      thin_capped (r.sag ⊗ hundredth) r.angle r.segments floor (samples n c) (omega (arith, samples_from-length c 0 n)) e
      ∙ ap (λ (v : Bool). thinned_if v r (samples n c)) (sym t ∙ own) in
      (p.0 ∙ ap counted_of q, p.1 ∙ ap (after c) q)

  pub passed_over : b ≡ false → Passed c (thinned_if sampled r (samples n c)) (Ok n) c
  unfolding thinned_if
  passed_over f =
      let q : ◌≡◌ {A = Answer (List Sample)} (Ok (samples n c)) (thinned_if sampled r (samples n c)) = ap (λ (v : Bool). thinned_if v r (samples n c)) (sym f ∙ own) in
      (ap Ok (sym (samples_from-length c 0 n)) ∙ ap counted_of q, sym (samples_own c 0 n) ∙ ap (after c) q)

-- ---- `finish`
shorter_own : (l : List Sample) → 2 ≤ length l → Shorter l l
shorter_own [] h = absurd (omega arith)
shorter_own (p ∷ []) h = absurd (omega arith)
shorter_own (p ∷ q ∷ l) h = shorter_same p q l

thinned_shorter : (b : Bool) (r : Resolved) (l m : List Sample) → 2 ≤ length l → thinned_if b r l ≡ Ok m → Shorter m l
unfolding thinned_if
thinned_shorter true r l m h e = thin_shorter _ _ _ l m h e
thinned_shorter false r l m h e = let q : l ≡ m = cc in subst (λ (k : List Sample). Shorter k l) q (shorter_own l h)

-- a chain of two and more records, thinned, as the buffer d then holds it
pub record Thin (c : List Float) (X : Answer (List Sample)) (m : ℕ) (d : List Float) : Type 0 where
  pub chain : List Sample
  pub is : X ≡ Ok chain
  pub size : length chain ≡ m
  pub two : 2 ≤ length chain
  pub fits : width * length chain ≤ length c
  pub floats : d ≡ sets c 0 (flat chain)

pub thin_some : (b : Bool) (r : Resolved) (c : List Float) (n : ℕ) (w : Answer ℕ) (m : ℕ) (d : List Float) → 2 ≤ n → width * n ≤ length c
    → Passed c (thinned_if b r (samples n c)) w d → w ≡ Ok m → Thin c (thinned_if b r (samples n c)) m d
thin_some b r c n w m d two room p e =
    go (thinned_if b r (samples n c)) (λ k q. thinned_shorter b r (samples n c) k (omega (arith, samples_from-length c 0 n)) q) (sym e ∙ p.0) p.1
  where
    go : (X : Answer (List Sample)) → ((k : List Sample) → X ≡ Ok k → Shorter k (samples n c)) → Ok m ≡ counted_of X → d ≡ after c X → Thin c X m d
    go (Err x) f a b = cc
    go (Ok k) f a b =
        let s = f k refl in
        record {
          chain = k;
          is = refl;
          size = cc;
          two = shorter_two k (samples n c) s;
          fits = omega (arith, sub_length (shorter_sub k (samples n c) s), samples_from-length c 0 n);
          floats = b;
        }

-- a part that holds a chain and nothing else, read
pub flat_reads : (l : List Sample) (p : List Float) → p ≡ flat l → samples (length p / width) p ≡ l
flat_reads l p e =
    let n : length p / width ≡ length l = omega (arith, ap length e, length_flat l) in
    ap (λ (k : ℕ). samples k p) n ∙ ap (samples (length l)) (e ∙ sym (append-nil (flat l))) ∙ reads l []

-- a chain at the start of a part stands at the start of the buffer
pub leads_more : {D : Answer (List Sample)} {w : Answer ℕ} {f : List Float} (more : List Float) → ChainLeads D w f → ChainLeads D w (f ++ more)
leads_more {D} {w} {f} more p = record {
  answered = p.answered;
  fits = omega (arith, p.fits, length-append f more);
  holds = take-append-le (width * length (list_of D)) f more p.fits ∙ p.holds;
}

module _ {c : List Float} {X : Answer (List Sample)} {m : ℕ} {d : List Float} (t : Thin c X m d) where
  thin_length : length d ≡ length c
  thin_length = ap length t.floats ∙ length-sets c 0 (flat t.chain)

  pub thin_few : width * m ≤ length c
  thin_few = omega (arith, t.size, t.fits)

  pub thin_room : width * m ≤ length d
  thin_room = omega (arith, thin_few, thin_length)

  thin_part : take (width * m) d ≡ flat t.chain
  thin_part = ap (λ (k : ℕ). take (width * k) d) (sym t.size) ∙ ap (take (width * length t.chain)) t.floats ∙ lead c t.chain t.fits

  -- merged, with the floor that `merge_floor` answered
  module _ (answered floor : Float) (same : answered ≡ floor) {k : ℕ} {f : List Float}
      (merging : ChainStored (take (width * m) d) f k (merged answered (samples (length (take (width * m) d) / width) (take (width * m) d)))) where
    stored : ChainStored (flat t.chain) f k (merged floor t.chain)
    stored =
        subst (λ (x : Float). ChainStored (flat t.chain) f k (merged x t.chain)) same
        (subst (λ (l : List Sample). ChainStored (flat t.chain) f k (merged answered l)) (flat_reads t.chain (take (width * m) d) thin_part)
        (subst (λ (p : List Float). ChainStored p f k (merged answered (samples (length (take (width * m) d) / width) (take (width * m) d)))) thin_part merging))

    merged_fits : width * length (merged floor t.chain) ≤ length (flat t.chain)
    merged_fits = omega (arith, length_flat t.chain, sub_length (shorter_sub (merged floor t.chain) t.chain (merge_shorter floor t.chain t.two)))

    pub finished_some : (more : List Float) → ChainLeads (each (merged floor) X) (Ok k) (f ++ more)
    finished_some more =
        let M = merged floor t.chain in
        let l : length f ≡ length (flat t.chain) = ap length stored.floats ∙ length-sets (flat t.chain) 0 (flat M) in
        leads_more more
        (rw t.is
        (record {
          answered = ap Ok stored.count;
          fits = omega (arith, merged_fits, l);
          holds = ap (take (width * length M)) stored.floats ∙ lead (flat t.chain) M merged_fits;
        }))

pub finished_none : (c : List Float) (X : Answer (List Sample)) (floor : Float) (n : Refusal) (d : List Float) → Passed c X (Err n) d → ChainLeads (each (merged floor) X) (Err n) d
unfolding flat
finished_none c (Err x) floor n d p = record { answered = p.0; fits = omega arith; holds = refl }
finished_none c (Ok l) floor n d p = let z : ◌≡◌ {A = Answer ℕ} (Err n) (Ok (length l)) = p.0 in cc
