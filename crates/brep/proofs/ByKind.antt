-- A row by its kind's number, for callers that read a row's numbers one by one. Assumes nothing.
use mathlib.Core.Path.{◌≡◌, refl, sym, ap, ◌∙◌, subst}
use mathlib.Core.List.{List, []}
use Prim.Native.Nat.{ℕ, ◌+◌, ◌*◌}
use lib.ListN.{get_or}
use lib.Ieee.{Float, nan}
use borrow.Author.Tests.{ne_eqb}
use Rattle.math.specs.declared.Vec3.{Vec3}
use Rattle.math.specs.Math.{interval}
use Rattle.brep.specs.declared.Curve.{Curve}
use Rattle.brep.specs.declared.Curve.TheVariants.{Line, Circle, Ellipse, Parabola, Polyline, Trimmed, Composite, Hyperbola}
use Rattle.brep.specs.declared.Run.{Run}
use Rattle.std.specs.Prelude.{Option, Some, None}
use Rattle.brep.specs.declared.Kind.{Kind}
use Rattle.brep.specs.declared.Kind.TheVariants as kinds
use Rattle.brep.specs.Kind.{number_of, kind_numbered, kind_at}
use Rattle.brep.specs.Rows.{Tables, point_of, frame_of, kind_of, curve_of}
use Rattle.brep.specs.Own.RunAt.{run_at}
use Rattle.brep.specs.Tree.{Analytic, CurveTree, analytic, line, circle, ellipse, parabola, hyperbola, polyline, trimmed, composite, run, segments, row_in, grown, below, tree}
use Rattle.brep.proofs.Laws.{at_row}
pub use Rattle.brep.proofs.Numbered.{Unknown}
use Rattle.brep.proofs.Numbered.{numbered}

-- a row's five numbers
abbrev pub row_kind : Tables → ℕ → ℕ
row_kind T row = get_or T.curves (row * 3) 0

abbrev pub row_first : Tables → ℕ → ℕ
row_first T row = get_or T.curves (row * 3 + 1) 0

abbrev pub row_count : Tables → ℕ → ℕ
row_count T row = get_or T.curves (row * 3 + 2) 0

abbrev pub row_p : Tables → ℕ → Float
row_p T row = get_or T.reals (row * 2) nan

abbrev pub row_q : Tables → ℕ → Float
row_q T row = get_or T.reals (row * 2 + 1) nan

-- the two numbers of a run that was read of a row
module _ {r read : Run} (e : r ≡ read) where
  pub first_read : r.first ≡ read.first
  first_read = ap (λ (x : Run). x.first) e

  pub count_read : r.count ≡ read.count
  count_read = ap (λ (x : Run). x.count) e

-- none of them, or a trim's
abbrev pub UnknownOrTrim : ℕ → Type 0
UnknownOrTrim k = ((((((Unit {0} × (k ≡ 1 → ⊥)) × (k ≡ 2 → ⊥)) × (k ≡ 3 → ⊥)) × (k ≡ 4 → ⊥)) × (k ≡ 5 → ⊥)) × (k ≡ 7 → ⊥)) × (k ≡ 8 → ⊥)

-- one that is no trim's is none of them
pub not_trim_unknown : {k : ℕ} → UnknownOrTrim k → (k ≡ 6 → ⊥) → Unknown k
not_trim_unknown n m = (((n.0.0, m), n.0.1), n.1)

-- THE LAW OF KINDS: what a row is, by its kind's number
module _ (T : Tables) (row : ℕ) where
  pub row_line : row_kind T row ≡ 1 → Line (point_of T.points (row_first T row)) (point_of T.points (row_first T row + 1)) ≡ row_in T row
  unfolding curve_of kind_of kind_numbered
  row_line k = simp k

  pub row_circle : row_kind T row ≡ 2 → Circle (frame_of T.points (row_first T row)) (row_p T row) ≡ row_in T row
  unfolding curve_of kind_of kind_numbered
  row_circle k = simp k

  pub row_ellipse : row_kind T row ≡ 3 → Ellipse (frame_of T.points (row_first T row)) (row_p T row) (row_q T row) ≡ row_in T row
  unfolding curve_of kind_of kind_numbered
  row_ellipse k = simp k

  pub row_parabola : row_kind T row ≡ 4 → Parabola (frame_of T.points (row_first T row)) (row_p T row) ≡ row_in T row
  unfolding curve_of kind_of kind_numbered
  row_parabola k = simp k

  pub row_polyline : row_kind T row ≡ 5 → Polyline (run_at T.curves row) ≡ row_in T row
  unfolding curve_of kind_of kind_numbered
  row_polyline k = simp k

  pub row_trim : row_kind T row ≡ 6 → Trimmed (row_first T row) (interval (row_p T row) (row_q T row)) ≡ row_in T row
  unfolding curve_of kind_of kind_numbered
  row_trim k = simp k

  pub row_composite : row_kind T row ≡ 7 → Composite (run_at T.curves row) ≡ row_in T row
  unfolding curve_of kind_of kind_numbered
  row_composite k = simp k

  pub row_hyperbola : row_kind T row ≡ 8 → Hyperbola (frame_of T.points (row_first T row)) (row_p T row) (row_q T row) ≡ row_in T row
  unfolding curve_of kind_of kind_numbered
  row_hyperbola k = simp k

  -- any other number
  pub row_unknown : Unknown (row_kind T row) → Polyline (record { first = row_first T row; count = 0 }) ≡ row_in T row
  unfolding curve_of kind_of kind_numbered
  row_unknown n =
      let k = row_kind T row in
      simp (ne_eqb k 1 n.0.0.0.0.0.0.0.1, ne_eqb k 2 n.0.0.0.0.0.0.1, ne_eqb k 3 n.0.0.0.0.0.1, ne_eqb k 4 n.0.0.0.0.1, ne_eqb k 5 n.0.0.0.1, ne_eqb k 6 n.0.0.1, ne_eqb k 7 n.0.1, ne_eqb k 8 n.1)

-- a curve's number among the kinds
abbrev pub kind_number : Curve → ℕ
kind_number (Line origin direction) = 1
kind_number (Circle frame radius) = 2
kind_number (Ellipse frame major minor) = 3
kind_number (Parabola frame focal) = 4
kind_number (Polyline r) = 5
kind_number (Trimmed base range) = 6
kind_number (Composite r) = 7
kind_number (Hyperbola frame major minor) = 8

module _ (T : Tables) (row : ℕ) where
  -- the curve of each kind
  abbrev pub curve_by : Option Kind → Curve
  curve_by kind = kind_of T.points kind (row_first T row) (row_count T row) (row_p T row) (row_q T row)

  -- what is so of a row's curve by each kind that it may have, and by none, is so of it
  pub by_kind : (P : Curve → Type 0) → ((kind : Kind) → row_kind T row ≡ number_of kind → P (curve_by (Some kind))) → P (curve_by None) → P (row_in T row)
  unfolding curve_of
  by_kind P each none = go (kind_at T.curves row) refl
    where
      go : (kind : Option Kind) → kind ≡ kind_at T.curves row → P (curve_by kind)
      go (Some kind) e = each kind (numbered e)
      go None e = none

  -- the number of a row that is read as any kind but a polyline, which stands for unknown numbers too
  pub number : {c : Curve} → row_in T row ≡ c → (kind_number c ≡ 5 → ⊥) → row_kind T row ≡ kind_number c
  unfolding kind_of
  number e =
      let Q : Curve → Type 0 = λ c. (kind_number c ≡ 5 → ⊥) → row_kind T row ≡ kind_number c in
      subst Q e
      (by_kind Q
      (elim [
        | kinds.Line ↦ λ k h. k
        | kinds.Circle ↦ λ k h. k
        | kinds.Ellipse ↦ λ k h. k
        | kinds.Parabola ↦ λ k h. k
        | kinds.Polyline ↦ λ k h. k
        | kinds.Trimmed ↦ λ k h. k
        | kinds.Composite ↦ λ k h. k
        | kinds.Hyperbola ↦ λ k h. k
      ])
      (λ h. absurd (h refl)))

  -- a row that is no trim and no composite: what is so of every analytic curve and of every polyline is so of it, whatever f gives
  pub row_leaf : (f : ℕ → CurveTree) (P : CurveTree → Type 0) → ((c : Analytic) → P (analytic c)) → ((ps : List Vec3) → P (polyline ps))
      → (row_kind T row ≡ 6 → ⊥) → (row_kind T row ≡ 7 → ⊥) → P (grown T f (row_in T row))
  unfolding kind_of grown
  row_leaf f P a p m n =
      by_kind (λ c. P (grown T f c))
      (elim [
        | kinds.Line ↦ λ k. a _
        | kinds.Circle ↦ λ k. a _
        | kinds.Ellipse ↦ λ k. a _
        | kinds.Parabola ↦ λ k. a _
        | kinds.Polyline ↦ λ k. p _
        | kinds.Trimmed ↦ λ k. absurd (m k)
        | kinds.Composite ↦ λ k. absurd (n k)
        | kinds.Hyperbola ↦ λ k. a _
      ])
      (p _)

-- how an evaluator F uses it: at a row whose numbers are kind, first, count, p and q
module _ {A : Type 0} (F : CurveTree → A) (T : Tables) (row : ℕ) {kind : ℕ} (e : kind ≡ row_kind T row) where
  pub at_line : kind ≡ 1 → {first : ℕ} → first ≡ row_first T row → F (analytic (line (point_of T.points first) (point_of T.points (first + 1)))) ≡ F (tree T row)
  unfolding grown
  at_line k f = rw f (at_row F T row refl (row_line T row (sym e ∙ k)))

  pub at_circle : kind ≡ 2 → {first : ℕ} {p : Float} → first ≡ row_first T row → p ≡ row_p T row → F (analytic (circle (frame_of T.points first) p)) ≡ F (tree T row)
  unfolding grown
  at_circle k f g = rw (f, g) (at_row F T row refl (row_circle T row (sym e ∙ k)))

  pub at_ellipse : kind ≡ 3 → {first : ℕ} {p q : Float} → first ≡ row_first T row → p ≡ row_p T row → q ≡ row_q T row → F (analytic (ellipse (frame_of T.points first) p q)) ≡ F (tree T row)
  unfolding grown
  at_ellipse k f g h = rw (f, g, h) (at_row F T row refl (row_ellipse T row (sym e ∙ k)))

  pub at_parabola : kind ≡ 4 → {first : ℕ} {p : Float} → first ≡ row_first T row → p ≡ row_p T row → F (analytic (parabola (frame_of T.points first) p)) ≡ F (tree T row)
  unfolding grown
  at_parabola k f g = rw (f, g) (at_row F T row refl (row_parabola T row (sym e ∙ k)))

  pub at_polyline : kind ≡ 5 → {first count : ℕ} → first ≡ row_first T row → count ≡ row_count T row → F (polyline (run T.points first count)) ≡ F (tree T row)
  unfolding grown
  at_polyline k f g = rw (f, g) (at_row F T row refl (row_polyline T row (sym e ∙ k)))

  pub at_trim : kind ≡ 6 → {first : ℕ} {p q : Float} → first ≡ row_first T row → p ≡ row_p T row → q ≡ row_q T row → F (trimmed (below T row first) (interval p q)) ≡ F (tree T row)
  unfolding grown
  at_trim k f g h = rw (f, g, h) (at_row F T row refl (row_trim T row (sym e ∙ k)))

  pub at_composite : kind ≡ 7 → {first count : ℕ} → first ≡ row_first T row → count ≡ row_count T row → F (composite (segments T (below T row) first count)) ≡ F (tree T row)
  unfolding grown
  at_composite k f g = rw (f, g) (at_row F T row refl (row_composite T row (sym e ∙ k)))

  pub at_hyperbola : kind ≡ 8 → {first : ℕ} {p q : Float} → first ≡ row_first T row → p ≡ row_p T row → q ≡ row_q T row → F (analytic (hyperbola (frame_of T.points first) p q)) ≡ F (tree T row)
  unfolding grown
  at_hyperbola k f g h = rw (f, g, h) (at_row F T row refl (row_hyperbola T row (sym e ∙ k)))

  pub at_unknown : Unknown kind → F (polyline []) ≡ F (tree T row)
  unfolding grown run
  at_unknown n = at_row F T row refl (row_unknown T row (subst Unknown e n))

  -- an F that is v of every analytic curve and of every polyline, at a row that is no trim and no composite
  pub at_leaf : (v : A) → ((c : Analytic) → v ≡ F (analytic c)) → ((ps : List Vec3) → v ≡ F (polyline ps)) → (kind ≡ 6 → ⊥) → (kind ≡ 7 → ⊥) → v ≡ F (tree T row)
  unfolding tree
  at_leaf v a p m n = row_leaf T row (below T row) (λ c. v ≡ F c) a p (λ k. m (e ∙ k)) (λ k. n (e ∙ k))
