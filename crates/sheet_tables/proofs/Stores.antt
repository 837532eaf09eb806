-- What a list holds while rows are put into it, and behind them. Assumes nothing.
use mathlib.Core.Path.{◌≡◌, refl, sym, ap, ◌∙◌}
use mathlib.Core.List.{List, [], ◌∷◌, ◌++◌, append_assoc, append-nil}
use Prim.Native.Nat.{ℕ, ◌+◌, ◌≤◌}
use native.Mathlib.Omega.{arith}
use lib.ListN.{length, take, drop, length-append}
use lib.Seq.{sets, sets-eq, length-sets, take_at}
use Rattle.base_lists.specs.Room.{padded}
use Rattle.base_lists.proofs.Stores.{sets_append}
use Rattle.sheet_tables.specs.Flattened.{flattened}

module _ {A E : Type 0} (row : A → List E) where
  flat_snoc : (l : List A) (a : A) → flattened row (l ++ (a ∷ [])) ≡ flattened row l ++ row a
  unfolding flattened
  flat_snoc [] a = append-nil (row a)
  flat_snoc (b ∷ l) a = ap (λ z. row b ++ z) (flat_snoc l a) ∙ sym (append_assoc (row b) (flattened row l) (row a))

  module _ (before : List E) where
    -- `out` is `before` with the rows' numbers in front, k of them
    pub record Put (out : List E) (rows : List A) (k : ℕ) : Type 0 where
      pub place : k ≡ length (flattened row rows)
      pub is : out ≡ sets before 0 (flattened row rows)

    pub none_put : Put before [] 0
    unfolding flattened
    none_put = record { place = refl; is = refl }

    module _ (out : List E) (rows : List A) (k : ℕ) (p : Put out rows k) where
      pub put_length : length out ≡ length before
      put_length = ap length p.is ∙ length-sets before 0 (flattened row rows)

      -- one more row
      pub one_put : (a : A) (next : List E) (j : ℕ) → j ≡ k + length (row a) → next ≡ sets out k (row a) → Put next (rows ++ (a ∷ [])) j
      one_put a next j e f =
          let s = flat_snoc rows a in
          let h = p.place in
          let front : k ≡ 0 + length (flattened row rows) = omega arith in
          record {
            place = let l = ap length s ∙ length-append (flattened row rows) (row a) in omega arith;
            is = f ∙ ap (λ o. sets o k (row a)) p.is ∙ ap (λ i. sets (sets before 0 (flattened row rows)) i (row a)) front ∙ sym (sets_append before 0 (flattened row rows) (row a)) ∙ ap (sets before 0) (sym s);
          }

      -- the value behind them
      pub padded_behind : (value : E) (after : List E) → k ≤ length before → after ≡ padded (length out) value (take k out) → after ≡ padded (length before) value (flattened row rows)
      padded_behind value after h g =
          let q = p.place in
          g ∙ ap (λ n. padded n value (take k out)) put_length
          ∙ ap (λ o. padded (length before) value (take k o)) (p.is ∙ sets-eq (flattened row rows) before 0 (omega arith))
          ∙ ap (padded (length before) value) (take_at (flattened row rows) (drop (0 + length (flattened row rows)) before) k (sym p.place))
