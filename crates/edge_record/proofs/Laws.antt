-- A chain's records in a buffer: stores at its start, and what is read of it afterwards. Assumes nothing.
use mathlib.Core.Path.{◌≡◌, refl, sym, ap, ◌∙◌}
use mathlib.Core.List.{List, [], ◌∷◌, ◌++◌, append_assoc}
use Prim.Native.Nat.{ℕ, zero, suc, ◌+◌, ◌*◌, ◌<◌, ◌≤◌}
use native.Mathlib.Nat.{zero-add, add-zero, add-suc, suc-add}
use native.Mathlib.Numerals.{add-one, add-two, add-three}
use native.Mathlib.Omega.{arith}
use lib.ListN.{length, get_or, take, drop, set, length-append}
use lib.Seq.{get_or_at, get_or-append-add, set_comm, set-set, set-get_or, sets, sets-eq, length-sets, get_or-set_other, take_at}
use lib.Ieee.{Float, nan}
use Rattle.base_lists.specs.Room.{filled}
use Rattle.base_lists.proofs.Stores.{sets_append}
use Rattle.edge_record.specs.declared.Sample.{Sample}
use Rattle.edge_record.specs.Own.Stored.{record_point}
use Rattle.edge_record.specs.Chain.{width, row, flat, sample_at, samples_from, samples, sample_point}

-- ---- stores of a run of floats: what lies behind the run stays
get_d-behind : (l : List Float) (n : ℕ) (a : List Float) (j : ℕ) (d : Float) → n + length a ≤ j → get_or (sets l n a) j d ≡ get_or l j d
get_d-behind l n [] j d h = refl
get_d-behind l n (x ∷ a) j d h =
    get_d-behind (set l n x) (suc n) a j d (omega arith) ∙ get_or-set_other l n j x d (λ e. omega arith)

set_before : (l : List Float) (n m : ℕ) (y : Float) (a : List Float) → n < m → set (sets l m a) n y ≡ sets (set l n y) m a
set_before l n m y [] h = refl
set_before l n m y (x ∷ a) h =
    set_before (set l m x) n (suc m) y a (omega arith)
    ∙ ap (λ (r : List Float). sets r (suc m) a) (set_comm l m n x y (λ e. omega arith))

-- a run stored over another of its length
sets_over : (l : List Float) (n : ℕ) (a b : List Float) → length a ≡ length b → sets (sets l n a) n b ≡ sets l n b
sets_over l n [] [] h = refl
sets_over l n [] (y ∷ b) h = absurd (omega arith)
sets_over l n (x ∷ a) [] h = absurd (omega arith)
sets_over l n (x ∷ a) (y ∷ b) h =
    ap (λ (r : List Float). sets r (suc n) b)
    (set_before (set l n x) n (suc n) y a (omega arith) ∙ ap (λ (r : List Float). sets r (suc n) a) (set-set l n x y))
    ∙ sets_over (set l n y) (suc n) a b (omega arith)

-- ---- a chain as floats
pub flat_append : (a b : List Sample) → flat (a ++ b) ≡ flat a ++ flat b
unfolding flat
flat_append [] b = refl
flat_append (s ∷ a) b = ap (λ (r : List Float). row s ++ r) (flat_append a b)

pub length_flat : (a : List Sample) → length (flat a) ≡ width * length a
unfolding flat
length_flat [] = refl
length_flat (s ∷ a) = let h = length_flat a in omega arith

pub flat_one : (s : Sample) → flat (s ∷ []) ≡ row s
unfolding flat
flat_one s = refl

-- a sample stored behind those that stand at the buffer's start
pub push : (c : List Float) (kept : List Sample) (s : Sample) → sets (sets c 0 (flat kept)) (width * length kept) (row s) ≡ sets c 0 (flat (kept ++ (s ∷ [])))
push c kept s =
    let q : width * length kept ≡ 0 + length (flat kept) = let h = length_flat kept in omega arith in
    ap (λ (k : ℕ). sets (sets c 0 (flat kept)) k (row s)) q
    ∙ sym (sets_append c 0 (flat kept) (row s))
    ∙ ap (sets c 0) (ap (λ (r : List Float). flat kept ++ r) (sym (flat_one s)) ∙ sym (flat_append kept (s ∷ [])))

-- the last of those that stand there replaced
pub replace : (c : List Float) (kept : List Sample) (s t : Sample) → sets (sets c 0 (flat (kept ++ (s ∷ [])))) (width * length kept) (row t) ≡ sets c 0 (flat (kept ++ (t ∷ [])))
replace c kept s t =
    ap (λ (r : List Float). sets r (width * length kept) (row t)) (sym (push c kept s))
    ∙ sets_over (sets c 0 (flat kept)) (width * length kept) (row s) (row t) refl
    ∙ push c kept t

-- ---- a buffer's samples
pub sample_at-behind : (c : List Float) (kept : List Sample) (i : ℕ) → length kept ≤ i → sample_at (sets c 0 (flat kept)) i ≡ sample_at c i
unfolding sample_at
sample_at-behind c kept i h =
    let e = length_flat kept in
    let g : (j : ℕ) → width * i ≤ j → get_or (sets c 0 (flat kept)) j nan ≡ get_or c j nan =
    λ j l. get_d-behind c 0 (flat kept) j nan (omega arith) in
    rw (
      g (width * i) (omega arith),
      g (width * i + 1) (omega arith),
      g (width * i + 2) (omega arith),
      g (width * i + 3) (omega arith),
    )

pub samples_from-length : (c : List Float) (i n : ℕ) → length (samples_from c i n) ≡ n
unfolding samples_from
samples_from-length c i zero = refl
samples_from-length c i (suc n) = ap suc (samples_from-length c (suc i) n)

pub samples_from-at : (c : List Float) (d : Sample) (i n j : ℕ) → j < n → get_or (samples_from c i n) j d ≡ sample_at c (i + j)
unfolding samples_from
samples_from-at c d i zero j h = absurd (omega arith)
samples_from-at c d i (suc n) zero h = ap (sample_at c) (sym (add-zero i))
samples_from-at c d i (suc n) (suc j) h = samples_from-at c d (suc i) n j (omega arith) ∙ ap (sample_at c) (suc-add i j ∙ sym (add-suc i j))

pub point_of-samples : (c : List Float) (n j : ℕ) → j < n → sample_point (samples n c) j ≡ record_point c j
point_of-samples c n j h = ap (λ (s : Sample). s.point) (samples_from-at c _ 0 n j h ∙ ap (sample_at c) (zero-add j))

-- ---- a buffer's own samples, stored again, change nothing
-- m floats from j on
abbrev run : List Float → ℕ → ℕ → List Float
run c j zero = []
run c j (suc m) = get_or c j nan ∷ run c (suc j) m

own_run : (c d : List Float) (j m : ℕ) → d ≡ c → sets d j (run c j m) ≡ c
own_run c d j zero q = q
own_run c d j (suc m) q = own_run c (set d j (get_or c j nan)) (suc j) m (ap (λ (r : List Float). set r j (get_or c j nan)) q ∙ set-get_or c j nan)

pub row_own : (c : List Float) (i : ℕ) → sets c (width * i) (row (sample_at c i)) ≡ c
unfolding sample_at
row_own c i = rw (add-one, add-two, add-three) (own_run c c (width * i) width refl)

pub samples_own : (c : List Float) (i n : ℕ) → sets c (width * i) (flat (samples_from c i n)) ≡ c
unfolding flat samples_from
samples_own c i zero = refl
samples_own c i (suc n) =
    let q : width * i + width ≡ width * suc i = omega arith in
    sets_append c (width * i) (row (sample_at c i)) (flat (samples_from c (suc i) n))
    ∙ ap (λ (r : List Float). sets r (width * i + width) (flat (samples_from c (suc i) n))) (row_own c i)
    ∙ ap (λ (k : ℕ). sets c k (flat (samples_from c (suc i) n))) q
    ∙ samples_own c (suc i) n

-- ---- what a caller reads: the leading part is the chain, and +0.0 behind it once the rest is cleared
pub lead : (c : List Float) (l : List Sample) → width * length l ≤ length c → take (width * length l) (sets c 0 (flat l)) ≡ flat l
lead c l h =
    let e = length_flat l in
    ap (take (width * length l)) (sets-eq (flat l) c 0 (omega arith))
    ∙ take_at (flat l) (drop (0 + length (flat l)) c) (width * length l) (omega arith)

pub rest_cleared : (c : List Float) (l : List Sample) → width * length l ≤ length c → filled (length (sets c 0 (flat l))) (take (width * length l) (sets c 0 (flat l))) ≡ filled (length c) (flat l)
rest_cleared c l h = rw (length-sets c 0 (flat l), lead c l h)

-- a buffer that holds a chain, read again
row_read : (p r : List Float) (s : Sample) (i : ℕ) → length p ≡ width * i → sample_at (p ++ (row s ++ r)) i ≡ s
unfolding sample_at
row_read p r s i e =
    let g : (k : ℕ) → get_or (p ++ (row s ++ r)) (width * i + k) nan ≡ get_or (row s ++ r) k nan =
    λ k. ap (λ (j : ℕ). get_or (p ++ (row s ++ r)) (j + k) nan) (sym e) ∙ get_or-append-add p (row s ++ r) k nan in
    let g0 : get_or (p ++ (row s ++ r)) (width * i) nan ≡ s.point.x = get_or_at p s.point.x (s.point.y ∷ s.point.z ∷ s.param ∷ r) nan (width * i) e in
    rw (g0, g 1, g 2, g 3)

reads_from : (s : List Sample) (p r : List Float) (i : ℕ) → length p ≡ width * i → samples_from (p ++ (flat s ++ r)) i (length s) ≡ s
unfolding flat samples_from
reads_from [] p r i e = refl
reads_from (x ∷ s) p r i e =
    let q : p ++ ((row x ++ flat s) ++ r) ≡ (p ++ row x) ++ (flat s ++ r) = sym (append_assoc p (row x) (flat s ++ r)) in
    let h = reads_from s (p ++ row x) r (suc i) (length-append p (row x) ∙ omega arith) in
    ap (λ (t : Sample). t ∷ samples_from (p ++ ((row x ++ flat s) ++ r)) (suc i) (length s)) (row_read p (flat s ++ r) x i e)
    ∙ ap (λ (l : List Sample). x ∷ l) (ap (λ (l : List Float). samples_from l (suc i) (length s)) q ∙ h)

pub reads : (s : List Sample) (r : List Float) → samples (length s) (flat s ++ r) ≡ s
reads s r = reads_from s [] r 0 refl
