-- The derivative of a row by the curve that it is read as, of a run of segments and of a run of points. Assumes nothing.
use Rattle.std.specs.Prelude.{Some, None}
use mathlib.Core.Path.{◌≡◌, refl, sym, ◌∙◌}
use mathlib.Core.Bool.{Bool}
use mathlib.Core.List.{List}
use Prim.Native.Nat.{ℕ}
use native.Mathlib.Omega.{arith}
use lib.Ieee.{Float}
use lib.ListN.{length}
use borrow.Author.Tests.{lt-ltb, le-ltb}
use Rattle.math.specs.declared.Interval.{Interval}
use Rattle.math.specs.Math.{v_zero, v_sub, v_scale}
use Rattle.brep.specs.declared.Curve.{Curve}
use Rattle.brep.specs.declared.Curve.TheVariants.{Trimmed}
use Rattle.brep.specs.Rows.{Tables}
use Rattle.brep.specs.Tree.{CurveTree, composite, run, segments, row_in, grown, below, tree}
use Rattle.brep.proofs.Laws.{length_run, at_row}
use Rattle.brep.proofs.ByKind.{number}
use Rattle.curve_parameter.specs.Own.Under.{under}
use Rattle.curve_parameter.specs.declared.OnLeg.{OnLeg}
use Rattle.curve_parameter.specs.declared.OnSegment.{OnSegment}
use Rattle.curve_parameter.specs.Own.Falls.{leg_under, segment_under}
use Rattle.curve_parameter.specs.Run.{closes}
use Rattle.curve_parameter.proofs.Laws.{no_leg, no_segment, on_leg, on_segment}
use Rattle.curve_parameter.proofs.Under.{under_same, empty_trim}
use Rattle.curve_tangent.specs.Derivative.{derivative_at, segment_derivative, signed_span, polyline_derivative}

-- the row under a row's trims, read as the curve c
module _ (T : Tables) (row : ℕ) (t : Float) {r : ℕ} (u : r ≡ under T.curves row) {c : Curve} (e : c ≡ row_in T r) where
  pub derivative_row : {k : Curve} → c ≡ k → derivative_at (grown T (below T r) k) t ≡ derivative_at (tree T row) t
  unfolding derivative_at
  derivative_row k = at_row (λ (x : CurveTree). derivative_at x t) T r k e ∙ under_same (λ (x : CurveTree). derivative_at x t) (λ b i. refl) T row u

  -- a trim is left only where its base does not fall
  pub derivative_trim : {base : ℕ} {range : Interval} → c ≡ Trimmed base range → v_zero ≡ derivative_at (tree T row) t
  unfolding derivative_at polyline_derivative
  derivative_trim k = empty_trim (λ (x : CurveTree). derivative_at x t) (λ b i. refl) T row u refl (number T r (sym e ∙ k) (λ v. omega arith))

module _ (T : Tables) (f : ℕ → CurveTree) (first n : ℕ) (t : Float) where
  pub derivative_none : None ≡ segment_under T.parts T.ranges first n t → v_zero ≡ derivative_at (composite (segments T f first n)) t
  unfolding derivative_at segments
  derivative_none e = rw (no_segment _ _ _ _ _ e)

  pub derivative_some : {p : OnSegment} → Some p ≡ segment_under T.parts T.ranges first n t →
      v_scale (derivative_at (f p.segment.curve) p.t) (signed_span p.segment.range p.segment.same_sense) ≡ derivative_at (composite (segments T f first n)) t
  unfolding derivative_at
  derivative_some e =
      on_segment segment_derivative (λ c r b u. v_scale (derivative_at c u) (signed_span r b))
      (λ c r b rest v. refl) (λ c r b rest i v. refl) T f first n t e

module _ (points : List Float) (first n : ℕ) (t : Float) (closed : Bool) where
  pub slope_few : None ≡ leg_under points first n closed t → v_zero ≡ polyline_derivative (run points first n) t
  unfolding polyline_derivative
  slope_few e = rw (length_run points first n, lt-ltb n 2 (no_leg _ _ _ _ _ e))

  pub slope_many : closed ≡ closes (run points first n) → {p : OnLeg} → Some p ≡ leg_under points first n closed t → v_sub p.to p.from ≡ polyline_derivative (run points first n) t
  unfolding polyline_derivative
  slope_many c {p} e = let l = on_leg points first n c t e in rw (l.1, le-ltb (length (run points first n)) 2 l.0)
