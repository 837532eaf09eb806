-- The probes, one after the other. Assumes nothing.
use mathlib.Core.Path.{◌≡◌, refl, ap, ◌∙◌}
use mathlib.Core.Bool.{Bool, true, false, cond, ◌||◌}
use Prim.Native.Nat.{ℕ, suc, ◌+◌, ◌≤◌}
use native.Mathlib.Omega.{arith}
use lib.Dec.{T}
use lib.Ieee.{Float, nan, inf, fin, lt, le, is_nan}
use Rattle.arith_order.proofs.Laws.{lt→nle, number_right}
use Rattle.arith.proofs.Cmp.{holds}
use Rattle.arith.specs.Notation.{◌⊘◌, count}
use Rattle.arith.specs.Constants.{eight}
use Rattle.arith.specs.Pick.{min_of, max_of}
use Rattle.math.specs.declared.Vec3.{Vec3}
use Rattle.math.specs.declared.Aabb.{Aabb}
use Rattle.math.specs.declared.Interval.{Interval}
use Rattle.math.specs.Math.{v_add, v_scale, v_finite, v_min, v_max, add_point, at}
use Rattle.brep.specs.declared.LentTables.{LentTables}
use Rattle.brep.specs.Rows.{lent}
use Rattle.brep.specs.Tree.{CurveTree, tree}
use Rattle.curve.specs.Eval.{point_at}
use Rattle.curve_prepared.specs.declared.Prepared.TheVariants.{Line}
use Rattle.curve_prepared.specs.declared.PreparedCurve.{PreparedCurve}
use Rattle.curve_prepared.specs.Own.Prepared.{prepared_of, is_plain, plain_point}
use Rattle.curve_prepared.specs.Own.PreparedCurve.{curve_of}
use Rattle.curve_prepared.proofs.Laws.{plain_point_lem}
use Rattle.draw_spec.specs.Edge.{probed}

-- a line's point
pub line_point : (c : CurveTree) {o d : Vec3} → prepared_of c ≡ Line o d → (t : Float) → v_add o (v_scale d t) ≡ point_at c t
unfolding is_plain plain_point
line_point c R t = plain_point_lem c t R refl refl

-- the curve of a row that was prepared
pub of_row : (curve : PreparedCurve) {slices : LentTables} {row : ℕ} → curve.tables.now ≡ slices → curve.row ≡ row → curve_of curve ≡ tree (lent slices) row
of_row curve {slices} {row} e f = ap (λ (t : LentTables). tree (lent t) curve.row) e ∙ ap (tree (lent slices)) f

module _ (c : CurveTree) (range : Interval) (b : Aabb) (i : ℕ) {found : Aabb} (e : found ≡ probed c range b i) where
  pub one_more : {t : Float} → t ≡ at range (count i ⊘ eight) → {p : Vec3} → p ≡ point_at c t → {next : Aabb} → next ≡ cond (v_finite p) (add_point found p) found → next ≡ probed c range b (i + 1)
  unfolding probed
  one_more et ep en =
      let one : suc i ≡ i + 1 = omega arith in
      en ∙ rw (ep, et, e) (ap (probed c range b) one)

  pub all_nine : i ≤ 9 → 9 ≤ i → found ≡ probed c range b 9
  all_nine h k = e ∙ ap (probed c range b) (omega arith)

-- ---- a point inside the box leaves it as it is
no_lower : (a p : Float) → le a p ≡ true → min_of a p ≡ a
unfolding is_nan
no_lower nan p h = absurd (unfold le in holds h)
no_lower (inf s) p h = go (lt p (inf s)) (λ t. lt→nle p (inf s) t (holds h))
  where
    go : (b : Bool) → (T b → ⊥) → cond (b || false) p (inf s) ≡ inf s
    go true f = absurd (f tt)
    go false f = refl
no_lower (fin s m e) p h = go (lt p (fin s m e)) (λ t. lt→nle p (fin s m e) t (holds h))
  where
    go : (b : Bool) → (T b → ⊥) → cond (b || false) p (fin s m e) ≡ fin s m e
    go true f = absurd (f tt)
    go false f = refl

no_higher : (a p : Float) → le p a ≡ true → max_of a p ≡ a
unfolding is_nan
no_higher nan p h = absurd (number_right p nan (holds h))
no_higher (inf s) p h = go (lt (inf s) p) (λ t. lt→nle (inf s) p t (holds h))
  where
    go : (b : Bool) → (T b → ⊥) → cond (b || false) p (inf s) ≡ inf s
    go true f = absurd (f tt)
    go false f = refl
no_higher (fin s m e) p h = go (lt (fin s m e) p) (λ t. lt→nle (fin s m e) p t (holds h))
  where
    go : (b : Bool) → (T b → ⊥) → cond (b || false) p (fin s m e) ≡ fin s m e
    go true f = absurd (f tt)
    go false f = refl

pub inside : (b : Aabb) (p : Vec3) → le b.min.x p.x ≡ true → le p.x b.max.x ≡ true → le b.min.y p.y ≡ true → le p.y b.max.y ≡ true
    → le b.min.z p.z ≡ true → le p.z b.max.z ≡ true → b ≡ cond (v_finite p) (add_point b p) b
unfolding add_point v_min v_max
inside b p x₁ x₂ y₁ y₂ z₁ z₂ =
    go (v_finite p) (rw (no_lower b.min.x p.x x₁, no_higher b.max.x p.x x₂, no_lower b.min.y p.y y₁, no_higher b.max.y p.y y₂, no_lower b.min.z p.z z₁, no_higher b.max.z p.z z₂))
  where
    go : (f : Bool) → b ≡ add_point b p → b ≡ cond f (add_point b p) b
    go true e = e
    go false e = refl
