-- Flags may be set in any order. Assumes nothing.
use mathlib.Core.Path.{◌≡◌, refl, sym, ap, ◌∙◌}
use mathlib.Core.Bool.{Bool, true, false}
use mathlib.Core.List.{List, [], ◌∷◌, ◌++◌}
use Prim.Native.Nat.{ℕ}
use lib.Dec.{eqb}
use lib.ListN.{set}
use lib.Seq.{set_comm}
use borrow.Author.Tests.{eqb-true, eqb-false}
use Rattle.edge_thin_mark.specs.Spans.{marks}

set_any : (k : List Bool) (i j : ℕ) → set (set k i true) j true ≡ set (set k j true) i true
set_any k i j = go (eqb i j) refl
  where
    go : (b : Bool) → eqb i j ≡ b → set (set k i true) j true ≡ set (set k j true) i true
    go true q = rw (eqb-true i j q)
    go false q = set_comm k i j true true (eqb-false i j q)

marks_set : (l : List ℕ) (k : List Bool) (i : ℕ) → marks (set k i true) l ≡ set (marks k l) i true
marks_set [] k i = refl
marks_set (j ∷ l) k i = ap (λ (x : List Bool). marks x l) (set_any k i j) ∙ marks_set l (set k j true) i

-- the later span's before the earlier span's
pub marks_both : (l r : List ℕ) (k : List Bool) → marks (marks k r) l ≡ marks k (l ++ r)
marks_both [] r k = refl
marks_both (j ∷ l) r k = ap (λ (x : List Bool). marks x l) (sym (marks_set r k j)) ∙ marks_both l r (set k j true)
