-- Samples that stand at a buffer's start: one read, one replaced, all replaced. Assumes nothing.
use mathlib.Core.Path.{◌≡◌, refl, sym, ap, ◌∙◌}
use mathlib.Core.List.{List, [], ◌∷◌, ◌++◌, append_assoc, append-nil}
use Prim.Native.Nat.{ℕ, suc, ◌+◌, ◌*◌, ◌/◌, ◌<◌, ◌≤◌}
use native.Mathlib.Nat.{zero-add}
use native.Mathlib.Omega.{arith}
use lib.ListN.{length, get_or, take, drop, set, length-append, length-set}
use lib.Seq.{sets, sets-eq, take_at, drop_at, drop-append-add, split_at, set_split, length-take-le}
use lib.Ieee.{Float}
use Rattle.std.proofs.lemmas.List.{drop_all}
use Rattle.edge_record.specs.declared.Sample.{Sample}
use Rattle.edge_record.specs.Chain.{width, row, flat, sample_at, samples}
use Rattle.edge_record.specs.Own.Records.{records_of}
use Rattle.edge_record.proofs.Laws.{flat_append, length_flat, lead, reads, samples_own, samples_from-at, samples_from-length}

-- a run of floats stored over another of its length
over_at : (p a b q : List Float) → length a ≡ length b → sets (p ++ (a ++ q)) (length p) b ≡ p ++ (b ++ q)
over_at p a b q e =
    sets-eq b (p ++ (a ++ q)) (length p) (simp length-append (omega arith))
    ∙ append_assoc (take (length p) (p ++ (a ++ q))) b (drop (length p + length b) (p ++ (a ++ q)))
    ∙ ap (λ (k : List Float). k ++ (b ++ drop (length p + length b) (p ++ (a ++ q)))) (take_at p (a ++ q) (length p) refl)
    ∙ ap (λ (k : List Float). p ++ (b ++ k)) (drop-append-add p (a ++ q) (length b) ∙ drop_at a q (length b) e)

module _ (c : List Float) where
  pub stored : (l : List Sample) → width * length l ≤ length c → sets c 0 (flat l) ≡ flat l ++ drop (width * length l) c
  stored l h = sets-eq (flat l) c 0 (omega (arith, length_flat l)) ∙ ap (λ (k : ℕ). flat l ++ drop k c) (zero-add (length (flat l)) ∙ length_flat l)

  pub read_back : (l : List Sample) → width * length l ≤ length c → samples (length l) (sets c 0 (flat l)) ≡ l
  read_back l h = ap (samples (length l)) (stored l h) ∙ reads l (drop (width * length l) c)

  pub read_at : (l : List Sample) (i : ℕ) (d : Sample) → width * length l ≤ length c → i < length l → sample_at (sets c 0 (flat l)) i ≡ get_or l i d
  read_at l i d h k =
      let b = sets c 0 (flat l) in
      sym (samples_from-at b d 0 (length l) i k ∙ ap (sample_at b) (zero-add i)) ∙ ap (λ (m : List Sample). get_or m i d) (read_back l h)

  -- the sample between a and b replaced
  split : (a b : List Sample) (x : Sample) → width * length (a ++ x ∷ b) ≤ length c
      → sets c 0 (flat (a ++ x ∷ b)) ≡ flat a ++ (row x ++ (flat b ++ drop (width * (length a + suc (length b))) c))
  unfolding flat
  split a b x h =
      stored (a ++ x ∷ b) h
      ∙ ap (λ (k : ℕ). flat (a ++ x ∷ b) ++ drop (width * k) c) (length-append a (x ∷ b))
      ∙ ap (λ (k : List Float). k ++ drop (width * (length a + suc (length b))) c) (flat_append a (x ∷ b))
      ∙ append_assoc (flat a) (row x ++ flat b) (drop (width * (length a + suc (length b))) c)

  replaced : (a b : List Sample) (x s : Sample) → width * length (a ++ x ∷ b) ≤ length c
      → sets (sets c 0 (flat (a ++ x ∷ b))) (width * length a) (row s) ≡ sets c 0 (flat (a ++ s ∷ b))
  replaced a b x s h =
      let q = flat b ++ drop (width * (length a + suc (length b))) c in
      ap (λ (k : List Float). sets k (width * length a) (row s)) (split a b x h)
      ∙ ap (λ (k : ℕ). sets (flat a ++ (row x ++ q)) k (row s)) (sym (length_flat a))
      ∙ over_at (flat a) (row x) (row s) q refl
      ∙ sym (split a b s (omega (arith, length-append a (x ∷ b), length-append a (s ∷ b))))

  pub put_at : (l : List Sample) (i : ℕ) (s : Sample) → width * length l ≤ length c → i < length l
      → sets (sets c 0 (flat l)) (width * i) (row s) ≡ sets c 0 (flat (set l i s))
  put_at l i s h k =
      let parts = split_at l i s k in
      let n : length (take i l) ≡ i = length-take-le i l (omega arith) in
      ap (λ (m : List Sample). sets (sets c 0 (flat m)) (width * i) (row s)) parts
      ∙ ap (λ (m : ℕ). sets (sets c 0 (flat (take i l ++ get_or l i s ∷ drop (suc i) l))) (width * m) (row s)) (sym n)
      ∙ replaced (take i l) (drop (suc i) l) (get_or l i s) s (omega (arith, ap length parts))
      ∙ ap (λ (m : List Sample). sets c 0 (flat m)) (sym (set_split l i s k))

  -- two exchanged
  pub exchanged : (d next : List Float) (l : List Sample) (i j : ℕ) (s : Sample) → width * length l ≤ length c → i < length l → j < length l → d ≡ sets c 0 (flat l)
      → next ≡ sets (sets d (width * i) (row (sample_at d j))) (width * j) (row (sample_at d i)) → next ≡ sets c 0 (flat (set (set l i (get_or l j s)) j (get_or l i s)))
  exchanged d next l i j s h u v e q =
      let b = sets c 0 (flat l) in
      let n = length-set l i (get_or l j s) in
      q
      ∙ ap (λ (z : List Float). sets (sets z (width * i) (row (sample_at z j))) (width * j) (row (sample_at z i))) e
      ∙ ap (λ (z : Sample). sets (sets b (width * i) (row z)) (width * j) (row (sample_at b i))) (read_at l j s h v)
      ∙ ap (λ (z : Sample). sets (sets b (width * i) (row (get_or l j s))) (width * j) (row z)) (read_at l i s h u)
      ∙ ap (λ (z : List Float). sets z (width * j) (row (get_or l i s))) (put_at l i (get_or l j s) h u)
      ∙ put_at (set l i (get_or l j s)) j (get_or l i s) (omega arith) (omega arith)

  -- those that stand there, n of them, replaced by what f makes of them
  pub pass : (n : ℕ) (d next : List Float) (l : List Sample) (f : List Sample → List Sample) → length l ≡ n → width * n ≤ length c → length (f l) ≡ length l
      → d ≡ sets c 0 (flat l) → next ≡ sets d 0 (flat (f (samples n d))) → next ≡ sets c 0 (flat (f l))
  pass n d next l f k h e p q =
      let fits : width * length l ≤ length c = omega arith in
      q
      ∙ ap (λ (z : List Float). sets z 0 (flat (f (samples n z)))) p
      ∙ ap (λ (z : ℕ). sets (sets c 0 (flat l)) 0 (flat (f (samples z (sets c 0 (flat l)))))) (sym k)
      ∙ ap (λ (z : List Sample). sets (sets c 0 (flat l)) 0 (flat (f z))) (read_back l fits)
      ∙ ap (λ (z : List Float). sets z 0 (flat (f l))) (stored l fits)
      ∙ over_at [] (flat l) (flat (f l)) (drop (width * length l) c) (length_flat l ∙ ap (λ (z : ℕ). width * z) (sym e) ∙ sym (length_flat (f l)))
      ∙ ap (λ (z : ℕ). flat (f l) ++ drop (width * z) c) (sym e)
      ∙ sym (stored (f l) (omega arith))

-- a slice that n records fill
module _ (c : List Float) (n : ℕ) where
  pub filled_by : (l : List Sample) → length l ≡ n → length c ≡ width * n → sets c 0 (flat l) ≡ flat l
  filled_by l k h = stored c l (omega arith) ∙ ap (λ (z : List Float). flat l ++ z) (drop_all (width * length l) c (omega arith)) ∙ append-nil (flat l)

  pub records_all : length c ≡ width * n → records_of c ≡ samples n c
  records_all h = let k : length c / width ≡ n = omega arith in ap (λ (z : ℕ). samples z c) k

  -- a buffer's first n
  pub first_records : width * n ≤ length c → take (width * n) c ≡ flat (samples n c)
  first_records h =
      let k = samples_from-length c 0 n in
      ap (take (width * n)) (sym (samples_own c 0 n)) ∙ ap (λ (z : ℕ). take (width * z) (sets c 0 (flat (samples n c)))) (sym k) ∙ lead c (samples n c) (omega arith)

-- the samples of a buffer's first n records stand at its start
pub own_samples : (c : List Float) (n : ℕ) → c ≡ sets c 0 (flat (samples n c))
own_samples c n = sym (samples_own c 0 n)
