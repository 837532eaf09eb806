-- What the numbers of rows say of the curves. Assumes nothing.
use Rattle.std.specs.Prelude.{Some, None}
use Rattle.std.specs.Option.{option_eq}
use Rattle.std.proofs.Common.{add-one}
use mathlib.Core.Path.{◌≡◌, refl, sym, ◌∙◌}
use mathlib.Core.Bool.{Bool, true, false, cond, ◌&&◌}
use mathlib.Core.List.{List}
use Prim.Native.Nat.{ℕ, zero, suc, ◌+◌, ◌*◌}
use lib.ListN.{get_or}
use lib.Dec.{eqb, ltb}
use borrow.Author.Tests.{eqb-true, eqb-false, ltb-true, ltb-false}
use Rattle.brep.specs.contracts.KindPartialEq.TheImpl.{eq-value}
use Rattle.brep.specs.declared.Kind.{Kind}
use Rattle.brep.specs.Kind.{number_of, kind_at}
use Rattle.brep.specs.Rows.{Tables, segment_of}
use Rattle.brep.specs.Tree.{segments, below, tree}
use Rattle.brep.proofs.Laws.{at_lower, at_high}
use Rattle.brep.proofs.Numbered.{is_kind}
use Rattle.brep.proofs.ByKind.{row_first, row_count, at_composite}
use Rattle.curve_parameter.specs.Own.Under.{under}
use Rattle.curve_parameter.proofs.Under.{under_same, under_none}
use Rattle.curve_nests.specs.Nests.{is_composite, some_composite, nests}
use Rattle.curve_nests.specs.Own.Numbers.{composite_row, kind_below, refers_to, some_refers}

-- a test of the kind of what a row refers to
pub is_kind_below : (curves : List ℕ) (row base : ℕ) (k : Kind) → option_eq eq-value.it (kind_below curves row base) (Some k) ≡ refers_to (number_of k) curves row base
is_kind_below curves row base k = go (ltb base row)
  where
    go : (b : Bool) → option_eq eq-value.it (cond b (kind_at curves (under curves base)) None) (Some k) ≡ b && eqb (get_or curves (under curves base * 3) 0) (number_of k)
    go true = is_kind _ k
    go false = refl

module _ (T : Tables) (row : ℕ) where
  pub composite_by_number : composite_row T.curves row ≡ is_composite (tree T row)
  unfolding is_composite
  composite_by_number = go (composite_row T.curves row) refl
    where
      go : (b : Bool) → composite_row T.curves row ≡ b → b ≡ is_composite (tree T row)
      go true h = at_composite is_composite T _ refl (eqb-true _ 7 h) refl refl ∙ under_same is_composite (λ b r. refl) T row refl
      go false h = under_none is_composite (λ b r. refl) T false (λ c. refl) (λ ps. refl) row refl refl (eqb-false _ 7 h)

module _ (T : Tables) (row : ℕ) where
  refers_by_number : (base : ℕ) → refers_to 7 T.curves row base ≡ is_composite (below T row base)
  unfolding is_composite
  refers_by_number base = go (ltb base row) refl
    where
      go : (b : Bool) → ltb base row ≡ b → b && composite_row T.curves base ≡ is_composite (below T row base)
      go true h = composite_by_number T base ∙ at_lower is_composite T row (ltb-true base row h)
      go false h = at_high is_composite T row (ltb-false base row h)

  pub some_by_number : (first n : ℕ) → some_refers T.curves T.parts row first n ≡ some_composite (segments T (below T row) first n)
  unfolding some_composite segments segment_of
  some_by_number first zero = refl
  some_by_number first (suc n) =
      rw (refers_by_number (get_or T.parts (first * 2) 0), some_by_number (first + 1) n, add-one)

module _ (T : Tables) (row : ℕ) where
  pub nests_by_number :
      let r = under T.curves row in
      nests (tree T row) ≡ composite_row T.curves row && some_refers T.curves T.parts r (row_first T r) (row_count T r)
  unfolding nests
  nests_by_number = go (composite_row T.curves row) refl
    where
      r : ℕ
      r = under T.curves row

      go : (b : Bool) → composite_row T.curves row ≡ b → nests (tree T row) ≡ b && some_refers T.curves T.parts r (row_first T r) (row_count T r)
      go true h = sym (at_composite nests T r refl (eqb-true _ 7 h) refl refl ∙ under_same nests (λ b r. refl) T row refl) ∙ sym (some_by_number T r _ _)
      go false h = sym (under_none nests (λ b r. refl) T false (λ c. refl) (λ ps. refl) row refl refl (eqb-false _ 7 h))
