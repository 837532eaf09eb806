-- `All` and `Pairwise` of joined, reversed and mapped lists; lists that lie between two bounds. Assumes nothing.
use mathlib.Core.Path.{sym, subst}
use mathlib.Core.List.{List, [], ◌∷◌, ◌++◌, map, reverse, reverse-cons}
use Rattle.base_lists.specs.All.{All, none, more}
use Rattle.base_lists.specs.Own.Sub.{Pairwise, empty, first, Sub, end, keep, skip}

module _ {A : Type 0} where
  pub all_join : {P : A → Type 0} {k l : List A} → All P k → All P l → All P (k ++ l)
  all_join none h = h
  all_join (more p g) h = more p (all_join g h)

  pub all_left : {P : A → Type 0} (k l : List A) → All P (k ++ l) → All P k
  all_left [] l h = none
  all_left (a ∷ k) l (more p h) = more p (all_left k l h)

  pub all_right : {P : A → Type 0} (k l : List A) → All P (k ++ l) → All P l
  all_right [] l h = h
  all_right (a ∷ k) l (more p h) = all_right k l h

  pub all_map : {P Q : A → Type 0} {l : List A} → ((a : A) → P a → Q a) → All P l → All Q l
  all_map f none = none
  all_map f (more {a = a} p h) = more (f a p) (all_map f h)

  pub all_one : {P : A → Type 0} {a : A} → P a → All P (a ∷ [])
  all_one p = more p none

  pub all_reverse : {P : A → Type 0} (l : List A) → All P l → All P (reverse l)
  all_reverse [] none = none
  all_reverse {P} (a ∷ l) (more p h) = subst (λ (k : List A). All P k) (sym (reverse-cons a l)) (all_join (all_reverse l h) (all_one p))

  -- an element after all of k
  pub pair_snoc : {R : A → A → Type 0} {k : List A} {b : A} → Pairwise R k → All (λ a. R a b) k → Pairwise R (k ++ (b ∷ []))
  pair_snoc empty none = first none empty
  pair_snoc (first p h) (more q g) = first (all_join p (all_one q)) (pair_snoc h g)

  pub pair_last : {R : A → A → Type 0} (k : List A) (b : A) → Pairwise R (k ++ (b ∷ [])) → All (λ a. R a b) k
  pair_last [] b h = none
  pair_last {R} (a ∷ k) b (first p h) = more (end_of (all_right k (b ∷ []) p)) (pair_last k b h)
    where
      end_of : All (R a) (b ∷ []) → R a b
      end_of (more q none) = q

  -- turned round
  pub pair_reverse : {R : A → A → Type 0} (l : List A) → Pairwise R l → Pairwise (λ a b. R b a) (reverse l)
  pair_reverse [] empty = empty
  pair_reverse {R} (a ∷ l) (first p h) = subst (λ (k : List A). Pairwise (λ a b. R b a) k) (sym (reverse-cons a l)) (pair_snoc (pair_reverse l h) (all_reverse l p))

-- f of each element
pub sub_map : {A B : Type 0} (f : A → B) {k l : List A} → Sub k l → Sub (map f k) (map f l)
sub_map f end = end
sub_map f (keep s) = keep (sub_map f s)
sub_map f (skip s) = skip (sub_map f s)

-- ---- a list that runs from a to b, in the order R
pub record Within {A : Type 0} (R : A → A → Type 0) (a : A) (l : List A) (b : A) : Type 0 where
  pub from : All (R a) l
  pub to : All (λ x. R x b) l
  pub pairs : Pairwise R l

module _ {A : Type 0} (R : A → A → Type 0) (trans : (x y z : A) → R x y → R y z → R x z) where
  pub pair_join : (m : A) {k l : List A} → Pairwise R k → All (λ x. R x m) k → Pairwise R l → All (R m) l → Pairwise R (k ++ l)
  pair_join m empty none h g = h
  pair_join m (first {a = a} p h) (more q t) g u = first (all_join p (all_map (λ y r. trans a m y q r) u)) (pair_join m h t g u)

  pub within_none : (a b : A) → Within R a [] b
  within_none a b = record { from = none; to = none; pairs = empty }

  pub within_one : (a x b : A) → R a x → R x b → Within R a (x ∷ []) b
  within_one a x b p q = record { from = all_one p; to = all_one q; pairs = first none empty }

  -- a list to m, then one from m
  pub within_join : (a m b : A) {k l : List A} → R a m → R m b → Within R a k m → Within R m l b → Within R a (k ++ l) b
  within_join a m b p q h g = record {
    from = all_join h.from (all_map (λ y r. trans a m y p r) g.from);
    to = all_join (all_map (λ y r. trans y m b r q) h.to) g.to;
    pairs = pair_join m h.pairs h.to g.pairs g.from;
  }

  -- with m itself between the two
  pub within_mid : (a m b : A) {k l : List A} → R a m → R m b → R m m → Within R a k m → Within R m l b → Within R a (k ++ m ∷ l) b
  within_mid a m b p q r h g = within_join a m b p q h (within_join m m b r q (within_one m m m r r) g)

  -- with both ends
  pub within_ends : (a b : A) {l : List A} → R a a → R a b → R b b → Within R a l b → Pairwise R (a ∷ (l ++ (b ∷ [])))
  within_ends a b p q r h = (within_mid a a b p q p (within_none a a) (within_mid a b b q r r h (within_none b b))).pairs
