-- The point of a row is what was read of the row under its trims. Assumes nothing.
use mathlib.Core.Path.{◌≡◌, refl, sym, ◌∙◌}
use Prim.Native.Nat.{ℕ}
use native.Mathlib.Omega.{arith}
use lib.Ieee.{Float}
use Rattle.std.specs.Prelude.{Option}
use Rattle.arith_trig.specs.declared.SinCos.{SinCos}
use Rattle.arith_trig.specs.Own.SinCos.{sin_cos_of}
use Rattle.math.specs.declared.Frame.{Frame}
use Rattle.math.specs.declared.Interval.{Interval}
use Rattle.math.specs.Math.{v_zero, y_dir}
use Rattle.brep.specs.declared.Curve.{Curve}
use Rattle.brep.specs.declared.Curve.TheVariants.{Circle, Ellipse, Trimmed, Hyperbola}
use Rattle.brep.specs.declared.Kind.{Kind}
use Rattle.brep.specs.Kind.{kind_numbered, kind_at}
use Rattle.brep.specs.Rows.{Tables}
use Rattle.brep.specs.Tree.{row_in, grown, below, tree}
use Rattle.brep.proofs.ByKind.{row_kind, number}
use Rattle.curve_parameter.specs.Own.Under.{under}
use Rattle.curve_parameter.proofs.Under.{under_row, empty_trim}
use Rattle.curve_point.specs.Point.{axes_point, point_at, polyline_point}
use Rattle.curve_point.specs.Own.Turn.{sin_cos_for}

module _ (T : Tables) (row : ℕ) (t : Float) {r : ℕ} (u : r ≡ under T.curves row) {c : Curve} (e : c ≡ row_in T r) where
  pub point_under : {k : Curve} → c ≡ k → point_at (grown T (below T r) k) t ≡ point_at (tree T row) t
  unfolding point_at
  point_under is = under_row (λ x. point_at x t) (λ b r. refl) T row u e is

  -- a trim that stays where it is has a base that does not fall
  pub trim_stays : {base : ℕ} {range : Interval} → c ≡ Trimmed base range → v_zero ≡ point_at (tree T row) t
  unfolding point_at polyline_point
  trim_stays k = empty_trim (λ x. point_at x t) (λ b r. refl) T row u refl (number T r (sym e ∙ k) (λ v. omega arith))

  -- the pair worked out before a row that is round, or a hyperbola, by the kind's number
  module _ {kind : Option Kind} (h : kind ≡ kind_at T.curves r) {s : SinCos} (w : s ≡ sin_cos_for kind t) where
    taken : (f : Frame) (a b : Float) {n : ℕ} → row_kind T r ≡ n → axes_point f.origin f.ref_dir (y_dir f) a b s.cos s.sin ≡ axes_point f.origin f.ref_dir (y_dir f) a b (sin_cos_for (kind_numbered n) t).cos (sin_cos_for (kind_numbered n) t).sin
    taken f a b k = rw (w, h, k)

    pub circle_under : {f : Frame} {a : Float} → c ≡ Circle f a → axes_point f.origin f.ref_dir (y_dir f) a a s.cos s.sin ≡ point_at (tree T row) t
    unfolding sin_cos_for kind_numbered sin_cos_of point_at grown
    circle_under {f} {a} k = taken f a a (number T r (sym e ∙ k) (λ v. omega arith)) ∙ point_under k

    pub ellipse_under : {f : Frame} {a b : Float} → c ≡ Ellipse f a b → axes_point f.origin f.ref_dir (y_dir f) a b s.cos s.sin ≡ point_at (tree T row) t
    unfolding sin_cos_for kind_numbered sin_cos_of point_at grown
    ellipse_under {f} {a} {b} k = taken f a b (number T r (sym e ∙ k) (λ v. omega arith)) ∙ point_under k

    pub hyperbola_under : {f : Frame} {a b : Float} → c ≡ Hyperbola f a b → axes_point f.origin f.ref_dir (y_dir f) a b s.cos s.sin ≡ point_at (tree T row) t
    unfolding sin_cos_for kind_numbered point_at grown
    hyperbola_under {f} {a} {b} k = taken f a b (number T r (sym e ∙ k) (λ v. omega arith)) ∙ point_under k
