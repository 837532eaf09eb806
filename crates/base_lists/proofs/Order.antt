-- What holds of a list in order holds where some elements are left out.
use mathlib.Core.List.{List, [], ◌∷◌, ◌++◌}
use Prim.Native.Nat.{◌≤◌}
use native.Mathlib.Omega.{arith}
use lib.ListN.{length}
use Rattle.base_lists.specs.All.{All, more}
use Rattle.base_lists.specs.Own.Sub.{Pairwise, first, Sub, end, keep, skip}

module _ {A : Type 0} where
  pub sub_all : {P : A → Type 0} {k l : List A} → Sub k l → All P l → All P k
  sub_all end h = h
  sub_all (keep s) (more p h) = more p (sub_all s h)
  sub_all (skip s) (more p h) = sub_all s h

  pub sub_pairwise : {R : A → A → Type 0} {k l : List A} → Sub k l → Pairwise R l → Pairwise R k
  sub_pairwise end h = h
  sub_pairwise (keep s) (first p h) = first (sub_all s p) (sub_pairwise s h)
  sub_pairwise (skip s) (first p h) = sub_pairwise s h

  pub sub_same : (l : List A) → Sub l l
  sub_same [] = end
  sub_same (a ∷ l) = keep (sub_same l)

  pub sub_trans : {j k l : List A} → Sub j k → Sub k l → Sub j l
  sub_trans s end = s
  sub_trans s (skip t) = skip (sub_trans s t)
  sub_trans (keep {a = a} {k = k} s) (keep {k = k'} {l = l} t) = keep (sub_trans {j = k} s t)
  sub_trans (skip s) (keep t) = skip (sub_trans s t)

  pub sub_append : {j k : List A} (t : List A) → Sub j k → Sub (j ++ t) (k ++ t)
  sub_append t end = sub_same t
  sub_append t (keep s) = keep (sub_append t s)
  sub_append t (skip s) = skip (sub_append t s)

  pub sub_length : {k l : List A} → Sub k l → length k ≤ length l
  sub_length end = omega arith
  sub_length (keep s) = let h = sub_length s in omega arith
  sub_length (skip s) = let h = sub_length s in omega arith
