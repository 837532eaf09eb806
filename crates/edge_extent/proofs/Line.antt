-- A line's coordinate rises or falls with the parameter, so that its probes lie between the first and the last. Assumes nothing.
use mathlib.Core.Path.{◌≡◌, refl, sym}
use mathlib.Core.Bool.{true}
use mathlib.Core.Logic.{◌⊎◌, inl, inr}
use Prim.Native.Nat.{ℕ, zero, suc, ◌≤◌}
use native.Mathlib.Omega.{arith}
use lib.Dec.{T, lit≤}
use lib.Ieee.{Float, binary64, le, of_bits, of_int, div}
use lib.Ieee.Bits.{is_true}
use lib.Ieee.Scale.{finite}
use Rattle.arith_order.proofs.Signed.{zero_f}
use Rattle.arith_order.proofs.Laws.{le_trans, le_total, between, add_parts, mul_parts, add_mono_right, mul_mono_right, mul_turns_right, Modest, rises}
use Rattle.arith.proofs.Cmp.{finite_number}
use Rattle.arith.specs.Notation.{◌⊕◌, ◌⊗◌, ◌⊘◌, count, plus_zero, one}
use Rattle.arith.specs.Constants.{eight}
use Rattle.math.specs.declared.Vec3.{Vec3}
use Rattle.math.specs.declared.Aabb.{Aabb}
use Rattle.math.specs.declared.Interval.{Interval}
use Rattle.math.specs.Math.{v_add, v_scale, at}
use Rattle.brep.specs.Tree.{CurveTree}
use Rattle.curve_prepared.specs.declared.Prepared.TheVariants.{Line}
use Rattle.curve_prepared.specs.Own.Prepared.{prepared_of}
use Rattle.draw_spec.specs.Edge.{probed}
use Rattle.edge_extent.proofs.Laws.{line_point, inside}

-- one coordinate
module _ (o d first last low high t : Float) (P : T (finite (o ⊕ d ⊗ first))) (Q : T (finite (o ⊕ d ⊗ last)))
    (p : T (le low (o ⊕ d ⊗ first))) (p' : T (le (o ⊕ d ⊗ first) high)) (q : T (le low (o ⊕ d ⊗ last))) (q' : T (le (o ⊕ d ⊗ last) high))
    (h : T (le first t)) (k : T (le t last)) where
  -- what the two ends are made of is finite
  O : T (finite o)
  O = (add_parts binary64 o (d ⊗ first) P).0

  A : T (finite (d ⊗ first))
  A = (add_parts binary64 o (d ⊗ first) P).1

  C : T (finite (d ⊗ last))
  C = (add_parts binary64 o (d ⊗ last) Q).1

  D : T (finite d)
  D = (mul_parts binary64 d first A).0

  F : T (finite first)
  F = (mul_parts binary64 d first A).1

  L : T (finite last)
  L = (mul_parts binary64 d last C).1

  E : T (finite t)
  E = between first t last F L h k

  up : T (le zero_f d) → T (le (d ⊗ first) (d ⊗ t)) × T (le (d ⊗ t) (d ⊗ last))
  up z = (mul_mono_right binary64 first t d F E D z h, mul_mono_right binary64 t last d E L D z k)

  down : T (le d zero_f) → T (le (d ⊗ last) (d ⊗ t)) × T (le (d ⊗ t) (d ⊗ first))
  down z = (mul_turns_right binary64 t last d E L D z k, mul_turns_right binary64 first t d F E D z h)

  held : (a c : Float) → T (finite a) → T (finite c) → T (le a (d ⊗ t)) → T (le (d ⊗ t) c) → T (le low (o ⊕ a)) → T (le (o ⊕ c) high)
      → (le low (o ⊕ d ⊗ t) ≡ true) × (le (o ⊕ d ⊗ t) high ≡ true)
  held a c G H u v w x =
      let M = between a (d ⊗ t) c G H u v in (
        is_true (le low (o ⊕ d ⊗ t)) (le_trans low (o ⊕ a) (o ⊕ d ⊗ t) w (add_mono_right binary64 a (d ⊗ t) o G M O u)),
        is_true (le (o ⊕ d ⊗ t) high) (le_trans (o ⊕ d ⊗ t) (o ⊕ c) high (add_mono_right binary64 (d ⊗ t) c o M H O v) x),
      )

  pub coordinate : (le low (o ⊕ d ⊗ t) ≡ true) × (le (o ⊕ d ⊗ t) high ≡ true)
  coordinate = go (le_total zero_f d tt (finite_number d D))
    where
      go : T (le zero_f d) ⊎ T (le d zero_f) → (le low (o ⊕ d ⊗ t) ≡ true) × (le (o ⊕ d ⊗ t) high ≡ true)
      go (inl z) = let u = up z in held (d ⊗ first) (d ⊗ last) A C u.0 u.1 p q'
      go (inr z) = let u = down z in held (d ⊗ last) (d ⊗ first) C A u.0 u.1 q p'

-- all nine
module _ (o d : Vec3) (range : Interval) (b : Aabb) (c : CurveTree) (R : prepared_of c ≡ Line o d) (l : Modest range.lo) (h : Modest range.hi) (g : T (le range.lo range.hi))
    (X : (t : Float) → T (le (at range plus_zero) t) → T (le t (at range one)) → (le b.min.x (o.x ⊕ d.x ⊗ t) ≡ true) × (le (o.x ⊕ d.x ⊗ t) b.max.x ≡ true))
    (Y : (t : Float) → T (le (at range plus_zero) t) → T (le t (at range one)) → (le b.min.y (o.y ⊕ d.y ⊗ t) ≡ true) × (le (o.y ⊕ d.y ⊗ t) b.max.y ≡ true))
    (Z : (t : Float) → T (le (at range plus_zero) t) → T (le t (at range one)) → (le b.min.z (o.z ⊕ d.z ⊗ t) ≡ true) × (le (o.z ⊕ d.z ⊗ t) b.max.z ≡ true)) where
  from_first : (n : ℕ) → n ≤ 8 → T (le (at range plus_zero) (at range (count n ⊘ eight)))
  unfolding at of_bits of_int div
  from_first n k = rises range.lo range.hi 8 0 n l h (omega arith) (lit≤ tt) (omega arith) k g

  to_last : (n : ℕ) → n ≤ 8 → T (le (at range (count n ⊘ eight)) (at range one))
  unfolding at of_bits of_int div
  to_last n k = rises range.lo range.hi 8 n 8 l h (omega arith) (lit≤ tt) k (omega arith) g

  first_ones : (n : ℕ) → n ≤ 9 → b ≡ probed c range b n
  unfolding probed v_add v_scale
  first_ones zero k = refl
  first_ones (suc n) k =
      let t = at range (count n ⊘ eight) in
      let f = from_first n (omega arith) in
      let e = to_last n (omega arith) in
      rw (sym (first_ones n (omega arith)), sym (line_point c R t))
      (inside b (v_add o (v_scale d t)) (X t f e).0 (X t f e).1 (Y t f e).0 (Y t f e).1 (Z t f e).0 (Z t f e).1)

  pub all_inside : b ≡ probed c range b 9
  all_inside = first_ones 9 (omega arith)
