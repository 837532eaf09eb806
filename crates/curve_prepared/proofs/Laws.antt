-- A curve prepared has the points and the derivatives of the curve; where a row has no points to look up, and where it is a line under its trims. Assumes nothing.
use Rattle.std.specs.Prelude.{Some, None}
use mathlib.Core.Path.{◌≡◌, refl, sym, ap, ◌∙◌}
use mathlib.Core.Bool.{Bool, true, false, false≢true}
use Prim.Native.Nat.{ℕ, ◌+◌}
use native.Mathlib.Omega.{arith}
use lib.Ieee.{Float}
use Rattle.math.specs.declared.Vec3.{Vec3}
use Rattle.math.specs.declared.Interval.{Interval}
use Rattle.arith_trig.specs.Trig.{sin_of, cos_of}
use Rattle.math.specs.Math.{v_zero}
use Rattle.brep.specs.declared.Curve.{Curve}
use Rattle.brep.specs.declared.Curve.TheVariants as rows
use Rattle.brep.specs.declared.Kind.{Kind}
use Rattle.brep.specs.declared.Kind.TheVariants as kinds
use Rattle.brep.specs.Kind.{kind_at}
use Rattle.brep.specs.Rows.{Tables, point_of}
use Rattle.brep.specs.Tree.{CurveTree, analytic, line, circle, ellipse, parabola, hyperbola, polyline, trimmed, composite, run, row_in, grown, tree}
use Rattle.brep.proofs.Laws.{at_row}
use Rattle.brep.proofs.ByKind.{row_kind, row_first, row_count, number, at_line, at_circle, at_ellipse, at_parabola, at_polyline, at_unknown}
use Rattle.brep.proofs.Numbered.{numbered, unnumbered}
use Rattle.curve_parameter.specs.Own.Under.{under}
use Rattle.curve_parameter.specs.Run.{closes}
use Rattle.curve_parameter.proofs.Under.{under_same, empty_trim}
use Rattle.curve_point.specs.Point as curves
use Rattle.curve_tangent.specs.Derivative as derivatives
use Rattle.curve_prepared.specs.declared.Prepared.{Prepared}
use Rattle.curve_prepared.specs.declared.Prepared.TheVariants.{Line, Round, Parabola, Other}
use Rattle.curve_prepared.specs.Own.Prepared.{prepared_of, line_only, is_plain, plain_point, prepared_point, prepared_derivative}
use Rattle.curve_prepared.proofs.EveryCurve.{own_point, own_derivative}

-- an F that looks through trims is of a curve that was prepared as a line what it is of that line
pub through_line : {A : Type 0} (F : CurveTree → A) → ((b : CurveTree) (i : Interval) → F (trimmed b i) ≡ F b) → (c : CurveTree) {o d : Vec3} → prepared_of c ≡ Line o d → F c ≡ F (analytic (line o d))
unfolding prepared_of
through_line F h (analytic (line p q)) e = cc
through_line F h (analytic (circle f r)) e = cc
through_line F h (analytic (ellipse f a b)) e = cc
through_line F h (analytic (parabola f a)) e = cc
through_line F h (analytic (hyperbola f a b)) e = cc
through_line F h (polyline ps) e = cc
through_line F h (trimmed base range) e = h base range ∙ through_line F h base e
through_line F h (composite ss) e = cc

-- a curve prepared that needs no tables has its points without them
pub plain_is : (r : Prepared) (c : CurveTree) (t : Float) → is_plain r ≡ true → plain_point r t ≡ prepared_point r c t
unfolding is_plain plain_point prepared_point
plain_is (Line o d) c t h = refl
plain_is (Round o x y a b) c t h = refl
plain_is (Parabola o x y d) c t h = refl
plain_is (Other closed) c t h = absurd (false≢true h)

pub plain_point_lem : (c : CurveTree) (t : Float) {prepared : Prepared} → prepared_of c ≡ prepared → is_plain prepared ≡ true → {p : Vec3} → p ≡ plain_point prepared t → p ≡ curves.point_at c t
plain_point_lem c t {prepared} R h P = own_point c t (sym R) (P ∙ plain_is prepared c t h)

-- every variant but the last is plain
pub no_other : (r : Prepared) → ((closed : Bool) → r ≡ Other closed → ⊥) → is_plain r ≡ true
unfolding is_plain
no_other (Line o d) h = refl
no_other (Round o x y a b) h = refl
no_other (Parabola o x y d) h = refl
no_other (Other closed) h = absurd (h closed refl)

-- the derivative of a curve that was prepared as one of the plain variants
module _ (t : Float) where
  pub line_slope : (c : CurveTree) {o d : Vec3} → prepared_of c ≡ Line o d → d ≡ derivatives.derivative_at c t
  unfolding prepared_derivative
  line_slope c e = own_derivative c t (sym e) refl

  pub round_slope : (c : CurveTree) {o x y : Vec3} {a b : Float} → prepared_of c ≡ Round o x y a b → derivatives.ellipse_derivative x y a b (cos_of t) (sin_of t) ≡ derivatives.derivative_at c t
  unfolding prepared_derivative
  round_slope c e = own_derivative c t (sym e) refl

  pub parabola_slope : (c : CurveTree) {o x y : Vec3} {d : Float} → prepared_of c ≡ Parabola o x y d → derivatives.parabola_derivative x y d t ≡ derivatives.derivative_at c t
  unfolding prepared_derivative
  parabola_slope c e = own_derivative c t (sym e) refl

-- a row that was left to be looked up, by the row under its trims
module _ (T : Tables) (row : ℕ) {r : ℕ} (u : r ≡ under T.curves row) where
  -- of a polyline it is known whether it closes
  pub known_closed : row_kind T r ≡ 5 → {closed : Bool} → Other closed ≡ prepared_of (tree T row) → {first count : ℕ} → first ≡ row_first T r → count ≡ row_count T r → closed ≡ closes (run T.points first count)
  unfolding prepared_of
  known_closed k {closed} o {first} {count} f n =
      let known : Other closed ≡ Other (closes (run T.points first count)) =
      o ∙ sym (at_polyline prepared_of T r refl k f n ∙ under_same prepared_of (λ b i. refl) T row u) in
      cc

  not_plain : {closed : Bool} → Other closed ≡ prepared_of (tree T row) → {p : Prepared} → p ≡ prepared_of (tree T r) → is_plain p ≡ true → ⊥
  unfolding prepared_of is_plain
  not_plain o e h = false≢true (ap is_plain (o ∙ sym (e ∙ under_same prepared_of (λ b i. refl) T row u)) ∙ h)

  -- one that is no polyline, composite or hyperbola has no points, and zero as its derivative
  pub no_slope : {closed : Bool} → Other closed ≡ prepared_of (tree T row) → (kind : Kind) → Some kind ≡ kind_at T.curves r
      → (kind ≡ kinds.Polyline → ⊥) → (kind ≡ kinds.Composite → ⊥) → (kind ≡ kinds.Hyperbola → ⊥) → (t : Float) → v_zero ≡ derivatives.derivative_at (tree T row) t
  unfolding prepared_of is_plain derivatives.derivative_at derivatives.polyline_derivative
  no_slope o kinds.Line e p c h t = absurd (not_plain o (at_line prepared_of T r refl (numbered e) refl) refl)
  no_slope o kinds.Circle e p c h t = absurd (not_plain o (at_circle prepared_of T r refl (numbered e) refl refl) refl)
  no_slope o kinds.Ellipse e p c h t = absurd (not_plain o (at_ellipse prepared_of T r refl (numbered e) refl refl refl) refl)
  no_slope o kinds.Parabola e p c h t = absurd (not_plain o (at_parabola prepared_of T r refl (numbered e) refl refl) refl)
  no_slope o kinds.Polyline e p c h t = absurd (p refl)
  no_slope o kinds.Trimmed e p c h t = empty_trim (λ (k : CurveTree). derivatives.derivative_at k t) (λ b i. refl) T row u refl (numbered e)
  no_slope o kinds.Composite e p c h t = absurd (c refl)
  no_slope o kinds.Hyperbola e p c h t = absurd (h refl)

  -- of an unknown kind, likewise
  pub no_kind_slope : None ≡ kind_at T.curves r → (t : Float) → v_zero ≡ derivatives.derivative_at (tree T row) t
  unfolding derivatives.derivative_at derivatives.polyline_derivative
  no_kind_slope e t =
      let F : CurveTree → Vec3 = λ k. derivatives.derivative_at k t in
      at_unknown F T r refl (unnumbered e) ∙ under_same F (λ b i. refl) T row u

-- ---- a line under trims: the row that the trims of a row lead down to, by its kind's number
abbrev line_of : CurveTree → Prepared
line_of c = line_only (prepared_of c)

module _ (T : Tables) (row : ℕ) {r : ℕ} (u : r ≡ under T.curves row) where
  same : line_of (tree T r) ≡ line_of (tree T row)
  unfolding prepared_of
  same = under_same line_of (λ b i. refl) T row u

  pub is_line : row_kind T r ≡ 1 → {first : ℕ} → first ≡ row_first T r → Line (point_of T.points first) (point_of T.points (first + 1)) ≡ line_of (tree T row)
  unfolding line_only prepared_of
  is_line one f = at_line line_of T r refl one f ∙ same

  pub no_line : (row_kind T r ≡ 1 → ⊥) → Other false ≡ line_of (tree T row)
  unfolding line_only prepared_of grown
  no_line n = go (row_in T r) refl
    where
      go : (c : Curve) → row_in T r ≡ c → Other false ≡ line_of (tree T row)
      go (rows.Line o d) e = absurd (n (number T r e (λ q. omega arith)))
      go (rows.Circle f radius) e = at_row line_of T r refl (sym e) ∙ same
      go (rows.Ellipse f a b) e = at_row line_of T r refl (sym e) ∙ same
      go (rows.Parabola f d) e = at_row line_of T r refl (sym e) ∙ same
      go (rows.Polyline s) e = at_row line_of T r refl (sym e) ∙ same
      go (rows.Trimmed base range) e = empty_trim line_of (λ b i. refl) T row u refl (number T r e (λ q. omega arith))
      go (rows.Composite s) e = at_row line_of T r refl (sym e) ∙ same
      go (rows.Hyperbola f a b) e = at_row line_of T r refl (sym e) ∙ same

-- what was told as a line is one
pub told_line : (p : Prepared) {o d : Vec3} → line_only p ≡ Line o d → p ≡ Line o d
unfolding line_only
told_line (Line p q) e = e
told_line (Round p x y a b) e = cc
told_line (Parabola p x y a) e = cc
told_line (Other closed) e = cc
