-- The loop of `merge` and its ways out: what is kept so far, with what is left to be kept, is the whole. Assumes nothing.
use mathlib.Core.Path.{◌≡◌, refl, sym, ap, ◌∙◌}
use mathlib.Core.Bool.{Bool, true, false, cond, ◌&&◌}
use mathlib.Core.List.{List, [], ◌∷◌, ◌++◌, drop_last}
use Prim.Native.Nat.{ℕ, zero, suc, ◌+◌, ◌-◌, ◌*◌, ◌<◌, ◌≤◌}
use native.Mathlib.Nat.{add-zero, add-suc, suc-add}
use native.Mathlib.Omega.{arith}
use lib.ListN.{length, length-append}
use lib.Seq.{sets, length-sets}
use lib.Dec.{ltb}
use lib.Ieee.{Float, lt, le}
use borrow.Author.Tests.{lt-ltb, le-ltb, ltb-true, ltb-false}
use Rattle.arith.specs.Notation.{plus_zero}
use Rattle.math.specs.declared.Vec3.{Vec3}
use Rattle.math.specs.Math.{distance}
use Rattle.edge_record.specs.declared.Sample.{Sample}
use Rattle.edge_record.specs.Own.Stored.{ChainStored}
use Rattle.edge_record.specs.Chain.{width, row, flat, sample_at, samples_from, samples, last_of}
use Rattle.edge_record.proofs.Laws.{push, replace, row_own, samples_own, samples_from-length, flat_one}
use Rattle.edge_record.proofs.Compact.{Compacted, compact_behind, compact_skip, compact_keep, compact_all}
use Rattle.edge_record.proofs.Shorter.{last_snoc, drop_last-last, drop_last-length}
use Rattle.edge_merge.specs.Merge.{spaced, with_end, merged}

-- ---- a buffer's samples without the last, and the last
drop_last-samples : (c : List Float) (i n : ℕ) → drop_last (samples_from c i (suc n)) ≡ samples_from c i n
unfolding samples_from
drop_last-samples c i zero = refl
drop_last-samples c i (suc n) = ap (λ (r : List Sample). sample_at c i ∷ r) (drop_last-samples c (suc i) n)

last_samples : (d : Sample) (c : List Float) (i n : ℕ) → last_of d (samples_from c i (suc n)) ≡ sample_at c (i + n)
unfolding last_of samples_from
last_samples d c i zero = ap (sample_at c) (sym (add-zero i))
last_samples d c i (suc n) = last_samples (sample_at c i) c (suc i) n ∙ ap (sample_at c) (suc-add i n ∙ sym (add-suc i n))

drop_last-last_of : (d : Sample) (l : List Sample) → 0 < length l → drop_last l ++ (last_of d l ∷ []) ≡ l
unfolding last_of
drop_last-last_of d [] h = absurd (omega arith)
drop_last-last_of d (p ∷ l) h = drop_last-last p l

module _ (c : List Float) (n : ℕ) (floor : Float) where
  abbrev first : Sample
  first = sample_at c 0

  -- all that the loop keeps
  abbrev all : List Sample
  all = first ∷ spaced floor first.point (samples_from c 1 (n - 2))

  -- where the loop stands: of the records before i k are kept, the last of them at `last`
  pub record Kept (chain : List Float) (last : Vec3) (k i : ℕ) : Type 0 where
    pub many : 2 < n
    pub some : 1 ≤ k
    pub behind : k ≤ i
    pub inside : i ≤ n - 1
    pub same_length : length chain ≡ length c
    pub kept : List Sample
    pub number : length kept ≡ k
    pub moved : Compacted c (n - 1) all (spaced floor last) chain kept i
    pub top : (last_of first kept).point ≡ last

  pub kept_first_lem : 2 < n → (last : Vec3) → last ≡ first.point → Kept c last 1 1
  unfolding last_of
  kept_first_lem h last e = record {
    many = h;
    some = omega arith;
    behind = omega arith;
    inside = omega arith;
    same_length = refl;
    kept = first ∷ [];
    number = refl;
    moved = record {
      floats = sym (ap (sets c 0) (flat_one first) ∙ row_own c 0);
      rest = let q : n - 1 - 1 ≡ n - 2 = omega arith in rw (e, q);
    };
    top = sym e;
  }

  -- b: whether record i, p, is apart from the last one kept
  module _ {chain : List Float} {last : Vec3} {k i : ℕ} (w : Kept chain last k i) (inside : i < n - 1) {p : Sample} (e : p ≡ sample_at chain i) {b : Bool} (f : b ≡ lt floor (distance p.point last)) where
    pub kept_push : {d : List Float} → b ≡ true → d ≡ sets chain (width * k) (row p) → Kept d p.point (k + 1) (i + 1)
    unfolding spaced
    kept_push {d} t b =
        let q = w.number in
        let h = w.behind in
        record {
          many = w.many;
          some = omega arith;
          behind = omega arith;
          inside = omega arith;
          same_length = ap length b ∙ length-sets chain (width * k) (row p) ∙ w.same_length;
          kept = w.kept ++ (p ∷ []);
          number = simp length-append (omega arith);
          moved =
              compact_keep w.moved (spaced floor p.point) inside p d e (omega arith) (rw (sym f ∙ t))
              (b ∙ ap (λ (j : ℕ). sets chain (width * j) (row p)) (sym q));
          top = ap (λ (s : Sample). s.point) (last_snoc first w.kept p);
        }

    pub kept_pass : b ≡ false → Kept chain last k (i + 1)
    unfolding spaced
    kept_pass t =
        let q = w.number in
        let h = w.behind in
        let same : p ≡ sample_at c i = e ∙ compact_behind w.moved i (omega arith) in
        record {
          many = w.many;
          some = w.some;
          behind = omega arith;
          inside = omega arith;
          same_length = w.same_length;
          kept = w.kept;
          number = q;
          moved = compact_skip w.moved (spaced floor last) inside (rw (sym same, sym f ∙ t));
          top = w.top;
        }

  -- ---- the ways out
  pub as_it_was : merged floor (samples n c) ≡ samples n c → ChainStored c c n (merged floor (samples n c))
  as_it_was e = record {
    count = sym (ap length e ∙ samples_from-length c 0 n);
    floats = sym (ap (λ (l : List Sample). sets c 0 (flat l)) e ∙ samples_own c 0 n);
  }

  pub no_floor : lt plus_zero floor ≡ false → merged floor (samples n c) ≡ samples n c
  unfolding merged
  no_floor t = go (samples n c)
    where
      go : (l : List Sample) → merged floor l ≡ l
      go [] = refl
      go (p ∷ l) = rw t

  pub few : n ≤ 2 → merged floor (samples n c) ≡ samples n c
  unfolding merged
  few h = go (samples n c) (samples_from-length c 0 n)
    where
      go : (l : List Sample) → length l ≡ n → merged floor l ≡ l
      go [] e = refl
      go (p ∷ l) e = rw (le-ltb 2 (length (p ∷ l)) (omega arith)) (either (lt plus_zero floor))
        where
          either : (b : Bool) → cond (b && false) (with_end floor p (p ∷ spaced floor p.point (drop_last l)) (last_of p l)) (p ∷ l) ≡ p ∷ l
          either true = refl
          either false = refl

  many : lt plus_zero floor ≡ true → 2 < n → merged floor (samples n c) ≡ with_end floor first all (sample_at c (n - 1))
  unfolding merged samples_from
  many t h =
      let q : n ≡ suc (suc (n - 2)) = omega arith in
      let z : 1 + (n - 2) ≡ n - 1 = omega arith in
      ap (λ (m : ℕ). merged floor (samples m c)) q
      ∙ go (n - 2) (omega arith)
      ∙ ap (λ (j : ℕ). with_end floor first all (sample_at c j)) z
    where
      go : (m : ℕ) → 0 < m → merged floor (samples (suc (suc m)) c) ≡ with_end floor first (first ∷ spaced floor first.point (samples_from c 1 m)) (sample_at c (1 + m))
      go m g = rw (
        t,
        lt-ltb 2 (suc (suc (length (samples_from c 2 m)))) (let l = samples_from-length c 2 m in omega arith),
        drop_last-samples c 1 m,
        last_samples first c 1 m,
      )

  module _ (above : lt plus_zero floor ≡ true) {chain : List Float} {last : Vec3} {k i : ℕ} (w : Kept chain last k i) (done : n - 1 ≤ i) {end : Sample} (e : end ≡ sample_at chain (n - 1)) where
    meant : merged floor (samples n c) ≡ with_end floor first w.kept end
    unfolding spaced
    meant =
        let q = w.number in
        let h = w.behind in
        let g = w.inside in
        many above w.many ∙ rw (sym (compact_all w.moved refl done), sym (e ∙ compact_behind w.moved (n - 1) (omega arith)))

    -- r is the number of records before the end
    module _ {d : List Float} {r : ℕ} (b : d ≡ sets chain (width * r) (row end)) where
      popped : r ≡ k - 1 → le (distance end.point last) floor ≡ true → 1 < k → ChainStored c d (r + 1) (merged floor (samples n c))
      unfolding with_end
      popped f t h =
          let q = w.number in
          let m : merged floor (samples n c) ≡ drop_last w.kept ++ (end ∷ []) = meant ∙ rw (w.top, t, lt-ltb 1 (length w.kept) (omega arith)) in
          let g : r ≡ length (drop_last w.kept) = let x = drop_last-length w.kept in omega arith in
          let z = drop_last-last_of first w.kept (omega arith) in
          record {
            count = sym (ap length m ∙ simp length-append (omega arith));
            floats =
                b
                ∙ ap (λ (l : List Float). sets l (width * r) (row end)) w.moved.floats
                ∙ ap (λ (l : List Sample). sets (sets c 0 (flat l)) (width * r) (row end)) (sym z)
                ∙ ap (λ (j : ℕ). sets (sets c 0 (flat (drop_last w.kept ++ (last_of first w.kept ∷ [])))) (width * j) (row end)) g
                ∙ replace c (drop_last w.kept) (last_of first w.kept) end
                ∙ ap (λ (l : List Sample). sets c 0 (flat l)) (sym m);
          }

      stays : r ≡ k → merged floor (samples n c) ≡ w.kept ++ (end ∷ []) → ChainStored c d (r + 1) (merged floor (samples n c))
      stays f m =
          let q = w.number in
          let g : r ≡ length w.kept = omega arith in
          record {
            count = sym (ap length m ∙ simp length-append (omega arith));
            floats =
                b
                ∙ ap (λ (l : List Float). sets l (width * r) (row end)) w.moved.floats
                ∙ ap (λ (j : ℕ). sets (sets c 0 (flat w.kept)) (width * j) (row end)) g
                ∙ push c w.kept end
                ∙ ap (λ (l : List Sample). sets c 0 (flat l)) (sym m);
          }

      alone : r ≡ k → k ≤ 1 → ChainStored c d (r + 1) (merged floor (samples n c))
      unfolding with_end
      alone f h =
          let q = w.number in
          stays f (meant ∙ rw (le-ltb 1 (length w.kept) (omega arith)) (either (le (distance end.point (last_of first w.kept).point) floor)))
        where
          either : (v : Bool) → cond (v && false) (drop_last w.kept) w.kept ++ (end ∷ []) ≡ w.kept ++ (end ∷ [])
          either true = refl
          either false = refl

      apart : r ≡ k → le (distance end.point last) floor ≡ false → ChainStored c d (r + 1) (merged floor (samples n c))
      unfolding with_end
      apart f t = stays f (meant ∙ rw (w.top, t))

      -- by the tests of `before_end`
      pub ended : r ≡ cond (ltb 1 k && le (distance end.point last) floor) (k - 1) k → ChainStored c d (r + 1) (merged floor (samples n c))
      ended f = go (ltb 1 k) (le (distance end.point last) floor) refl refl
        where
          go : (x y : Bool) → ltb 1 k ≡ x → le (distance end.point last) floor ≡ y → ChainStored c d (r + 1) (merged floor (samples n c))
          go false y p q = alone (f ∙ rw p) (ltb-false 1 k p)
          go true true p q = popped (f ∙ rw (p, q)) q (ltb-true 1 k p)
          go true false p q = apart (f ∙ rw (p, q)) q
