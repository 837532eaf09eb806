-- A row and the row that its trims lead down to. Assumes nothing.
use Rattle.std.specs.Prelude.{Option, Some, None}
use mathlib.Core.Path.{◌≡◌, refl, sym, ap, ◌∙◌}
use mathlib.Core.Bool.{Bool, true, false, cond, ◌&&◌}
use mathlib.Core.List.{List, []}
use Prim.Native.Nat.{ℕ, zero, suc, ◌+◌, ◌*◌, ◌<◌, ◌≤◌}
use native.Mathlib.Omega.{arith}
use lib.ListN.{get_or}
use lib.Dec.{eqb, ltb}
use borrow.Author.Tests.{eqb-true, eqb-false, eq-eqb, ltb-true, ltb-false}
use Rattle.math.specs.declared.Vec3.{Vec3}
use Rattle.math.specs.declared.Interval.{Interval}
use Rattle.brep.specs.Rows.{Tables}
use Rattle.brep.specs.declared.Curve.{Curve}
use Rattle.brep.specs.Tree.{Analytic, CurveTree, analytic, polyline, trimmed, row_in, grown, below, tree}
use Rattle.brep.proofs.Laws.{at_row, at_lower, at_high}
use Rattle.brep.proofs.ByKind.{row_kind, UnknownOrTrim, not_trim_unknown, at_leaf, at_trim, at_unknown}
use Rattle.curve_parameter.specs.Own.Under.{lower_base, down_by, under}

module _ (curves : List ℕ) where
  abbrev kind : ℕ → ℕ
  kind row = get_or curves (row * 3) 0

  abbrev base : ℕ → ℕ
  base row = get_or curves (row * 3 + 1) 0

  -- what a lower base says, both ways
  base_yes : (row : ℕ) {b : ℕ} → lower_base curves row ≡ Some b → (kind row ≡ 6) × (base row ≡ b) × (base row < row)
  base_yes row {b} = go (eqb (kind row) 6) (ltb (base row) row) refl refl
    where
      go : (k l : Bool) → eqb (kind row) 6 ≡ k → ltb (base row) row ≡ l → cond (k && l) (Some (base row)) None ≡ Some b → (kind row ≡ 6) × (base row ≡ b) × (base row < row)
      go true true k l e = let same : base row ≡ b = cc in (eqb-true (kind row) 6 k, same, ltb-true (base row) row l)
      go true false k l e = cc
      go false l k m e = cc

  base_no : (row : ℕ) → lower_base curves row ≡ None → kind row ≡ 6 → row ≤ base row
  base_no row n k = go (ltb (base row) row) refl (rw (eq-eqb (kind row) 6 k) at n)
    where
      go : (l : Bool) → ltb (base row) row ≡ l → cond l (Some (base row)) None ≡ None → row ≤ base row
      go true l e = cc
      go false l e = ltb-false (base row) row l

  -- one step of the definition
  step : (n row : ℕ) {b : ℕ} → lower_base curves row ≡ Some b → down_by (suc n) curves row ≡ down_by n curves b
  unfolding down_by
  step n row e = rw (e, down_by)

  stop : (n row : ℕ) → lower_base curves row ≡ None → down_by n curves row ≡ row
  unfolding down_by
  stop zero row e = refl
  stop (suc n) row e = rw (e, down_by)

  -- no step from row 0
  floor : (row : ℕ) → row ≤ 0 → lower_base curves row ≡ None
  floor row l = go (lower_base curves row) refl
    where
      go : (o : Option ℕ) → lower_base curves row ≡ o → o ≡ None
      go (Some b) e = let y = base_yes row e in absurd (omega arith)
      go None e = refl

  -- enough is enough
  steady : (n m row : ℕ) → row ≤ n → row ≤ m → down_by n curves row ≡ down_by m curves row
  steady zero m row a b = stop zero row (floor row a) ∙ sym (stop m row (floor row a))
  steady (suc n) zero row a b = stop (suc n) row (floor row b) ∙ sym (stop zero row (floor row b))
  steady (suc n) (suc m) row a b = go (lower_base curves row) refl (steady n m)
    where
      go : (o : Option ℕ) → lower_base curves row ≡ o → ((c : ℕ) → c ≤ n → c ≤ m → down_by n curves c ≡ down_by m curves c) → down_by (suc n) curves row ≡ down_by (suc m) curves row
      go (Some c) e ih = let y = base_yes row e in step n row e ∙ ih c (omega arith) (omega arith) ∙ sym (step m row e)
      go None e ih = stop (suc n) row e ∙ sym (stop (suc m) row e)

  -- what the loop uses: a step down leads to the same row, and lower; where there is none the row is it
  pub under_falls : (row : ℕ) {b : ℕ} → Some b ≡ lower_base curves row → (b < row) × (under curves b ≡ under curves row)
  under_falls zero e = let y = base_yes zero (sym e) in absurd (omega arith)
  under_falls (suc n) {b} e = let y = base_yes (suc n) (sym e) in (omega arith, steady b n b (omega arith) (omega arith) ∙ sym (step n (suc n) (sym e)))

  pub under_stays : (row : ℕ) → None ≡ lower_base curves row → row ≡ under curves row
  under_stays row e = sym (stop row row (sym e))

  -- it lies no higher
  pub under_low : (n row : ℕ) → down_by n curves row ≤ row
  unfolding down_by
  under_low zero row = omega arith
  under_low (suc n) row = go (lower_base curves row) refl (under_low n)
    where
      go : (o : Option ℕ) → lower_base curves row ≡ o → ((b : ℕ) → down_by n curves b ≤ b) → down_by (suc n) curves row ≤ row
      go (Some b) e ih = let y = base_yes row e in let l = ih b in rw (step n row e) (omega arith)
      go None e ih = rw (stop (suc n) row e) (omega arith)

  -- and no step leads on from it
  under_ends : (n row : ℕ) → row ≤ n → lower_base curves (down_by n curves row) ≡ None
  under_ends zero row l = rw (stop zero row (floor row l)) (floor row l)
  under_ends (suc n) row l = go (lower_base curves row) refl (under_ends n)
    where
      go : (o : Option ℕ) → lower_base curves row ≡ o → ((b : ℕ) → b ≤ n → lower_base curves (down_by n curves b) ≡ None) → lower_base curves (down_by (suc n) curves row) ≡ None
      go (Some b) e ih = let y = base_yes row e in rw (step n row e) (ih b (omega arith))
      go None e ih = rw (stop (suc n) row e) e

  -- so that a trim there stays where it is
  under_trim : (row : ℕ) {r : ℕ} → r ≡ under curves row → kind r ≡ 6 → r ≤ base r
  under_trim row {r} e = base_no r (ap (lower_base curves) e ∙ under_ends row row (omega arith))

-- an evaluator F that looks through trims has one value at both rows
module _ {A : Type 0} (F : CurveTree → A) (through : (b : CurveTree) (r : Interval) → F (trimmed b r) ≡ F b) (T : Tables) where
  same : (n row : ℕ) → F (tree T (down_by n T.curves row)) ≡ F (tree T row)
  unfolding down_by
  same zero row = refl
  same (suc n) row = go (lower_base T.curves row) refl (same n)
    where
      go : (o : Option ℕ) → lower_base T.curves row ≡ o → ((b : ℕ) → F (tree T (down_by n T.curves b)) ≡ F (tree T b)) → F (tree T (down_by (suc n) T.curves row)) ≡ F (tree T row)
      go (Some b) e ih =
          let y = base_yes T.curves row e in
          ap (λ (i : ℕ). F (tree T i)) (step T.curves n row e) ∙ ih b ∙ at_lower F T row (omega arith)
          ∙ sym (through _ _) ∙ at_trim F T row refl y.0 (sym y.1) refl refl
      go None e ih = ap (λ (i : ℕ). F (tree T i)) (stop T.curves (suc n) row e)

  -- THE LAW of under_trims
  pub under_same : (row : ℕ) {r : ℕ} → r ≡ under T.curves row → F (tree T r) ≡ F (tree T row)
  under_same row e = ap (λ (i : ℕ). F (tree T i)) e ∙ same row row

  -- what is read of the row there
  pub under_row : (row : ℕ) {r : ℕ} {c k : Curve} → r ≡ under T.curves row → c ≡ row_in T r → c ≡ k → F (grown T (below T r) k) ≡ F (tree T row)
  under_row row {r} u e is = at_row F T r is e ∙ under_same row u

  -- a trim that stays where it is reads as the empty polyline
  pub empty_trim : (row : ℕ) {r kind : ℕ} → r ≡ under T.curves row → kind ≡ row_kind T r → kind ≡ 6 → F (polyline []) ≡ F (tree T row)
  empty_trim row {r} e k six =
      at_high F T r (under_trim T.curves row e (sym k ∙ six)) ∙ sym (through _ _) ∙ at_trim F T r k six refl refl refl ∙ under_same row e

  -- the kinds that are left: such a trim, and an unknown one
  pub under_rest : (row : ℕ) {r kind : ℕ} → r ≡ under T.curves row → kind ≡ row_kind T r → UnknownOrTrim kind → F (polyline []) ≡ F (tree T row)
  under_rest row {r} {kind} e k n = go (eqb kind 6) refl
    where
      go : (v : Bool) → eqb kind 6 ≡ v → F (polyline []) ≡ F (tree T row)
      go true h = empty_trim row e k (eqb-true kind 6 h)
      go false h = at_unknown F T r k (not_trim_unknown n (eqb-false kind 6 h)) ∙ under_same row e

  -- an F that is v of every analytic curve and of every polyline is v of all but composites
  pub under_none : (v : A) → ((c : Analytic) → v ≡ F (analytic c)) → ((ps : List Vec3) → v ≡ F (polyline ps)) → (row : ℕ) {r kind : ℕ} → r ≡ under T.curves row → kind ≡ row_kind T r → (kind ≡ 7 → ⊥) → v ≡ F (tree T row)
  under_none v a p row {r} {kind} e k n = go (eqb kind 6) refl
    where
      go : (b : Bool) → eqb kind 6 ≡ b → v ≡ F (tree T row)
      go true h = p [] ∙ empty_trim row e k (eqb-true kind 6 h)
      go false h = at_leaf F T r k v a p (eqb-false kind 6 h) n ∙ under_same row e
