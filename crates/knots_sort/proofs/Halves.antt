-- What `join` and `merge_sort` make of two halves. Assumes nothing.
use mathlib.Core.Path.{◌≡◌, sym, ap, subst, ◌∙◌}
use mathlib.Core.Bool.{false}
use mathlib.Core.List.{List, [], ◌∷◌, ◌++◌}
use Prim.Native.Nat.{ℕ, suc, ◌-◌, ◌≤◌, ◌<◌}
use native.Mathlib.Nat.{le_of_lt}
use native.Mathlib.Omega.{arith}
use lib.ListN.{length, get_or, take, drop, length-append, length-drop, take-append-drop}
use lib.Seq.{length-take-le, take-suc, drop-cons, take_at, drop_at}
use lib.Dec.{T}
use lib.Ieee.{Float, nan, lt, le}
use Rattle.arith_order.proofs.Signed.{le_trans, le_refl, nlt→le}
use Rattle.base_lists.specs.All.{All, none, more}
use Rattle.base_lists.specs.Own.Sub.{Pairwise, first}
use Rattle.base_lists.proofs.Parts.{all_take, all_drop, all_at}
use Rattle.base_lists.proofs.Joined.{all_map, all_join, pair_join, pair_last}
use Rattle.base_lists.specs.Own.Way.{Up}
use Rattle.knots_sort.specs.Own.Sortable.{Number}
use Rattle.knots_sort.specs.Sort.{sorted}
use Rattle.knots_sort.specs.Own.Merge.{Halves, merged_runs}
use Rattle.knots_sort.proofs.Merged.{sorted_append, sorted_all}
use Rattle.knots_sort.proofs.Sorted.{sorted_pairs, sorted_same, sorted_length}

-- ---- join
module _ (a s : List Float) (m : ℕ) (h : Halves a s m) where
  -- the halves stand in order
  pub unmoved : lt (get_or a m nan) (get_or a (m - 1) nan) ≡ false → a ≡ merged_runs (take m a) (drop m a)
  unmoved e =
      sym (take-append-drop m a)
      ∙ sym (sorted_same (take m a ++ drop m a) (pair_join Up le_trans y h.first below h.second above))
      ∙ sorted_append (take m a) (drop m a) (all_take m a h.numbers) (all_drop m a h.numbers)
      ∙ ap (λ (l : List Float). merged_runs l (sorted (drop m a))) (sorted_same (take m a) h.first)
      ∙ ap (merged_runs (take m a)) (sorted_same (drop m a) h.second)
    where
      x : Float
      x = get_or a (m - 1) nan

      y : Float
      y = get_or a m nan

      X : Number x
      X = all_at a (m - 1) nan h.numbers (omega (arith, h.some, h.others))

      Y : Number y
      Y = all_at a m nan h.numbers h.others

      step : T (le x y)
      step = nlt→le y x Y X (rw e tt)

      last_is : take m a ≡ take (m - 1) a ++ (x ∷ [])
      last_is = ap (λ (n : ℕ). take n a) (m_is h.some) ∙ take-suc a (m - 1) nan (omega (arith, h.some, h.others))
        where
          m_is : 0 < m → m ≡ suc (m - 1)
          m_is p = omega arith

      next_is : drop m a ≡ y ∷ drop (suc m) a
      next_is = drop-cons a m nan h.others

      below : All (λ z. Up z y) (take m a)
      below = subst (λ (l : List Float). All (λ z. Up z y) l) (sym last_is)
          (all_join (all_map (λ z p. le_trans z x y p step) (pair_last (take (m - 1) a) x (subst (λ (l : List Float). Pairwise Up l) last_is h.first))) (more step none))

      head_of : (l : List Float) → Pairwise Up (y ∷ l) → All (Up y) (y ∷ l)
      head_of l (first p g) = more (le_refl y Y) p

      above : All (Up y) (drop m a)
      above = subst (λ (l : List Float). All (Up y) l) (sym next_is) (head_of (drop (suc m) a) (subst (λ (l : List Float). Pairwise Up l) next_is h.second))

-- ---- merge_sort: b and c stand for the halves after their sorts
module _ (a b c : List Float) (m : ℕ) (some : 0 < m) (others : m < length a) (N : All Number a) (first_is : b ≡ sorted (take m a)) (second_is : c ≡ sorted (drop m a)) where
  b_length : length b ≡ m
  b_length = ap length first_is ∙ sorted_length (take m a) ∙ length-take-le m a (le_of_lt others)

  first_part : take m (b ++ c) ≡ sorted (take m a)
  first_part = take_at b c m b_length ∙ first_is

  second_part : drop m (b ++ c) ≡ sorted (drop m a)
  second_part = drop_at b c m b_length ∙ second_is

  pub sorted_halves : (s : List Float) → m ≤ length s → Halves (b ++ c) s m
  sorted_halves s r = record {
    some = some;
    others = omega (arith, length-append b c, b_length, ap length second_is, sorted_length (drop m a), length-drop m a);
    room = r;
    numbers =
        subst (λ (l : List Float). All Number (l ++ c)) (sym first_is)
        (subst (λ (l : List Float). All Number (sorted (take m a) ++ l)) (sym second_is)
        (all_join (sorted_all (take m a) (all_take m a N)) (sorted_all (drop m a) (all_drop m a N))));
    first = subst (Pairwise Up) (sym first_part) (sorted_pairs (take m a) (all_take m a N));
    second = subst (Pairwise Up) (sym second_part) (sorted_pairs (drop m a) (all_drop m a N));
  }

  pub sorted_whole : merged_runs (take m (b ++ c)) (drop m (b ++ c)) ≡ sorted a
  sorted_whole =
      ap (λ (l : List Float). merged_runs l (drop m (b ++ c))) first_part ∙ ap (merged_runs (sorted (take m a))) second_part
      ∙ sym (sorted_append (take m a) (drop m a) (all_take m a N) (all_drop m a N)) ∙ ap sorted (take-append-drop m a)
