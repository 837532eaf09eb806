-- The loops of `mark_evenly` and `retain`. Assumes nothing.
use mathlib.Core.Path.{◌≡◌, refl, sym, ap, ◌∙◌}
use mathlib.Core.Bool.{Bool, true, false, cond}
use mathlib.Core.List.{List, [], ◌∷◌, ◌++◌}
use Prim.Native.Nat.{ℕ, suc, ◌+◌, ◌-◌, ◌*◌, ◌/◌, ◌<◌, ◌≤◌, max}
use native.Mathlib.Nat.{le-max_left, mul-le-mul, mul-le-mul_right, div-le_of_le-mul}
use native.Mathlib.Numerals.{add-one}
use native.Mathlib.Omega.{arith}
use lib.ListN.{length, get_or, set, drop, length-append, length-set}
use lib.Seq.{sets, drop-cons}
use lib.Ieee.{Float}
use Rattle.edge_record.specs.declared.Sample.{Sample}
use Rattle.edge_record.specs.Own.Stored.{ChainStored}
use Rattle.edge_record.specs.Chain.{width, most, row, sample_at, samples}
use Rattle.edge_record.proofs.Compact.{Compacted, compact_start, compact_skip, compact_keep, compact_done}
use Rattle.edge_thin_mark.specs.Spans.{marks}
use Rattle.edge_thin.specs.Thin.{even_at, evens, retained_by}

-- ---- `mark_evenly`
marks_append : (keep : List Bool) (a b : List ℕ) → marks keep (a ++ b) ≡ marks (marks keep a) b
marks_append keep [] b = refl
marks_append keep (i ∷ a) b = marks_append (set keep i true) a b

pub length_marks : (keep : List Bool) (a : List ℕ) → length (marks keep a) ≡ length keep
length_marks keep [] = refl
length_marks keep (i ∷ a) = length_marks (set keep i true) a ∙ length-set keep i true

pub even_fits : (n i : ℕ) → i < n → n ≤ most → i * (n - 1) ≤ most * most
even_fits n i h l = mul-le-mul {n₁ = i} {m₁ = n - 1} {n₂ = most} {m₂ = most} (omega arith) (omega arith)

module _ (n want steps i : ℕ) (e : steps ≡ max (want - 1) 1) (h : i < want) (g : want ≤ n) where
  pub even_next : (keep d : List Bool) → d ≡ marks keep (evens n want i) → set d (i * (n - 1) / steps) true ≡ marks keep (evens n want (i + 1))
  unfolding evens
  even_next keep d q =
      ap (λ (k : ℕ). set d (i * (n - 1) / k) true) e
      ∙ ap (λ (l : List Bool). set l (even_at n want i) true) q
      ∙ sym (marks_append keep (evens n want i) (even_at n want i ∷ []))
      ∙ ap (λ (k : ℕ). marks keep (evens n want k)) (sym (add-one i))

  pub even_inside : i * (n - 1) / steps < n
  even_inside =
      let a : i ≤ steps = let m = le-max_left (want - 1) 1 in omega arith in
      let b : i * (n - 1) / steps ≤ n - 1 = div-le_of_le-mul steps (mul-le-mul_right (n - 1) a) in omega arith

-- ---- `retain`
pub retained_none : (keep : List Bool) → retained_by keep [] ≡ []
unfolding retained_by
retained_none [] = refl
retained_none (b ∷ keep) = refl

module _ (c : List Float) (keep : List Bool) where
  -- of the records before i k are kept
  pub record Moved (chain : List Float) (k i : ℕ) : Type 0 where
    pub kept : List Sample
    pub number : length kept ≡ k
    pub moved : Compacted c (length keep) (retained_by keep (samples (length keep) c)) (retained_by (drop i keep)) chain kept i

  pub moved_none : Moved c 0 0
  moved_none = record { kept = []; number = refl; moved = compact_start c (length keep) (retained_by keep) }

  next : (i : ℕ) (s : Sample) (l : List Sample) → i < length keep → retained_by (drop i keep) (s ∷ l) ≡ cond (get_or keep i false) (s ∷ retained_by (drop (i + 1) keep) l) (retained_by (drop (i + 1) keep) l)
  unfolding retained_by
  next i s l h = rw (drop-cons keep i false h, add-one i) (go (get_or keep i false))
    where
      go : (b : Bool) → retained_by (b ∷ drop (suc i) keep) (s ∷ l) ≡ cond b (s ∷ retained_by (drop (suc i) keep) l) (retained_by (drop (suc i) keep) l)
      go true = refl
      go false = refl

  module _ (chain : List Float) (k i : ℕ) (w : Moved chain k i) (inside : i < length keep) where
    pub moved_pass : get_or keep i false ≡ false → Moved chain k (i + 1)
    moved_pass t = record {
      kept = w.kept;
      number = w.number;
      moved = compact_skip w.moved (retained_by (drop (i + 1) keep)) inside (next i (sample_at c i) _ inside ∙ rw t);
    }

    pub moved_push : (s : Sample) (d : List Float) → k ≤ i → get_or keep i false ≡ true → s ≡ sample_at chain i → d ≡ sets chain (width * k) (row s) → Moved d (k + 1) (i + 1)
    moved_push s d behind t e b =
        let q = w.number in
        record {
          kept = w.kept ++ (s ∷ []);
          number = simp length-append (omega arith);
          moved =
              compact_keep w.moved (retained_by (drop (i + 1) keep)) inside s d e (omega arith) (next i s _ inside ∙ rw t)
              (b ∙ ap (λ (j : ℕ). sets chain (width * j) (row s)) (sym q));
        }

  pub moved_all : (chain : List Float) (k i : ℕ) → length keep ≤ i → Moved chain k i → ChainStored c chain k (retained_by keep (samples (length keep) c))
  moved_all chain k i h w = compact_done w.moved k w.number (retained_none (drop i keep)) h
