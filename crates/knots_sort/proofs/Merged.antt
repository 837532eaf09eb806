-- Two sorted lists merged are the sorted list of both, joined. Assumes nothing.
use mathlib.Core.Path.{◌≡◌, refl, sym, ap, subst, ◌∙◌}
use mathlib.Core.Bool.{Bool, true, false, cond}
use mathlib.Core.List.{List, [], ◌∷◌, ◌++◌}
use lib.Dec.{T}
use lib.Ieee.{Float, lt}
use lib.Ieee.Bits.{is_true}
use Rattle.arith_order.proofs.Signed.{refuted, le_trans, lt→le, lt→nle, nlt→le, lt_le_trans}
use Rattle.base_lists.specs.All.{All, none, more}
use Rattle.knots_sort.specs.Own.Sortable.{Number}
use Rattle.knots_sort.specs.Sort.{inserted, sorted}
use Rattle.knots_sort.specs.Own.Merge.{before, merged_runs}

pub merged_nil : (l : List Float) → merged_runs l [] ≡ l
unfolding merged_runs before
merged_nil [] = refl
merged_nil (x ∷ l) = ap (λ (r : List Float). x ∷ r) (merged_nil l)

pub merged_cons : (x : Float) (l : List Float) (y : Float) (k : List Float) → merged_runs (x ∷ l) (y ∷ k) ≡ cond (lt y x) (y ∷ merged_runs (x ∷ l) k) (x ∷ merged_runs l (y ∷ k))
unfolding merged_runs before
merged_cons x l y k = refl

-- ---- the order's laws, as tests
lt_trans_test : (x y z : Float) → lt x y ≡ true → lt y z ≡ true → lt x z ≡ true
lt_trans_test x y z p q = is_true (lt x z) (lt_le_trans x y z (subst T (sym p) tt) (lt→le y z (subst T (sym q) tt)))

-- y is not below x, and z not below y: z is not below x
nlt_trans_test : (x y z : Float) → Number x → Number y → Number z → lt y x ≡ false → lt z y ≡ false → lt z x ≡ false
nlt_trans_test x y z X Y Z p q = refuted (lt z x) (λ h. lt→nle z x h (le_trans x y z (nlt→le y x Y X (rw p tt)) (nlt→le z y Z Y (rw q tt))))

-- ---- one step of each
pub put_below : (x y : Float) (l : List Float) → lt y x ≡ true → inserted x (y ∷ l) ≡ y ∷ inserted x l
unfolding inserted
put_below x y l h = rw h

pub put_here : (x y : Float) (l : List Float) → lt y x ≡ false → inserted x (y ∷ l) ≡ x ∷ y ∷ l
unfolding inserted
put_here x y l h = rw h

pub merged_right : (x : Float) (l : List Float) (y : Float) (k : List Float) → lt y x ≡ true → merged_runs (x ∷ l) (y ∷ k) ≡ y ∷ merged_runs (x ∷ l) k
merged_right x l y k h = merged_cons x l y k ∙ ap (λ (b : Bool). cond b (y ∷ merged_runs (x ∷ l) k) (x ∷ merged_runs l (y ∷ k))) h

pub merged_left : (x : Float) (l : List Float) (y : Float) (k : List Float) → lt y x ≡ false → merged_runs (x ∷ l) (y ∷ k) ≡ x ∷ merged_runs l (y ∷ k)
merged_left x l y k h = merged_cons x l y k ∙ ap (λ (b : Bool). cond b (y ∷ merged_runs (x ∷ l) k) (x ∷ merged_runs l (y ∷ k))) h

-- ---- what is put into a merged list may be put into the first
step : (x y : Float) (a : List Float) (z : Float) (b : List Float) → Number x → Number y → Number z → (u v w : Bool) → lt y x ≡ u → lt z y ≡ v → lt z x ≡ w
    → inserted x (merged_runs (y ∷ a) b) ≡ merged_runs (inserted x (y ∷ a)) b → inserted x (merged_runs a (z ∷ b)) ≡ merged_runs (inserted x a) (z ∷ b)
    → inserted x (merged_runs (y ∷ a) (z ∷ b)) ≡ merged_runs (inserted x (y ∷ a)) (z ∷ b)
step x y a z b X Y Z true true true p q r i j =
    cc (merged_right y a z b q, put_below x z (merged_runs (y ∷ a) b) r, put_below x y a p, merged_right y (inserted x a) z b q)
step x y a z b X Y Z true true false p q r i j = let h = lt_trans_test z y x q p in let e : true ≡ false = cc in absurd (subst T e tt)
step x y a z b X Y Z true false w p q r i j =
    cc (merged_left y a z b q, put_below x y (merged_runs a (z ∷ b)) p, put_below x y a p, merged_left y (inserted x a) z b q)
step x y a z b X Y Z false true true p q r i j =
    cc (merged_right y a z b q, put_below x z (merged_runs (y ∷ a) b) r, put_here x y a p, merged_right x (y ∷ a) z b r)
step x y a z b X Y Z false true false p q r i j =
    cc (merged_right y a z b q, put_here x z (merged_runs (y ∷ a) b) r, put_here x y a p, merged_left x (y ∷ a) z b r)
step x y a z b X Y Z false false w p q r i j =
    let h = nlt_trans_test x y z X Y Z p q in
    cc (merged_left y a z b q, put_here x y (merged_runs a (z ∷ b)) p, put_here x y a p, merged_left x (y ∷ a) z b h)

put_alone : (x : Float) (b : List Float) → inserted x b ≡ merged_runs (x ∷ []) b
unfolding inserted merged_runs before
put_alone x [] = refl
put_alone x (y ∷ b) = ap (λ (r : List Float). cond (lt y x) (y ∷ r) (x ∷ y ∷ b)) (put_alone x b)

put_first : (x : Float) (b : List Float) → inserted x (merged_runs [] b) ≡ merged_runs (inserted x []) b
unfolding inserted merged_runs
put_first x b = put_alone x b

pub put_merged : (x : Float) (a b : List Float) → Number x → All Number a → All Number b → inserted x (merged_runs a b) ≡ merged_runs (inserted x a) b
put_merged x [] b X none B = put_first x b
put_merged x (y ∷ a) [] X A none = ap (inserted x) (merged_nil (y ∷ a)) ∙ sym (merged_nil (inserted x (y ∷ a)))
put_merged x (y ∷ a) (z ∷ b) X (more Y A) (more Z B) =
    step x y a z b X Y Z (lt y x) (lt z y) (lt z x) refl refl refl (put_merged x (y ∷ a) b X (more Y A) B) (put_merged x a (z ∷ b) X A (more Z B))

-- ---- all of a sorted list
pub put_all : {P : Float → Type 0} (x : Float) (l : List Float) → P x → All P l → All P (inserted x l)
unfolding inserted
put_all x [] p none = more p none
put_all {P} x (y ∷ l) p (more q h) = go (lt y x) (put_all x l p h)
  where
    go : (b : Bool) → All P (inserted x l) → All P (cond b (y ∷ inserted x l) (x ∷ y ∷ l))
    go true g = more q g
    go false g = more p (more q h)

pub sorted_all : {P : Float → Type 0} (l : List Float) → All P l → All P (sorted l)
unfolding sorted
sorted_all [] none = none
sorted_all (x ∷ l) (more p h) = put_all x (sorted l) p (sorted_all l h)

-- ---- THE LAW of a merge sort, wherever the list is cut
pub sorted_append : (l k : List Float) → All Number l → All Number k → sorted (l ++ k) ≡ merged_runs (sorted l) (sorted k)
unfolding sorted merged_runs
sorted_append [] k none K = refl
sorted_append (x ∷ l) k (more X L) K = ap (inserted x) (sorted_append l k L K) ∙ put_merged x (sorted l) (sorted k) X (sorted_all l L) (sorted_all k K)
