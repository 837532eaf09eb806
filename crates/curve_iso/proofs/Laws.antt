-- ISO 10303-42 and point_at: the statements of specs/Claims.antt. Assumes nothing.
use mathlib.Core.Path.{◌≡◌, refl, sym, ap, ◌∙◌}
use mathlib.Core.Bool.{Bool, true, false}
use mathlib.Mathlib.Algebra.Group.Defs.{AddGroup, add-neg_cancel}
use mathlib.Mathlib.Algebra.Group.Basic.{add-sub-add_right_eq-sub}
use mathlib.Mathlib.Algebra.Ring.Defs.IsRing
use mathlib.Mathlib.Algebra.Ring.Defs.NonUnitalNonAssocRing
use mathlib.Mathlib.Algebra.Ring.Defs.{CommRing, IsNonUnitalNonAssocRing, IsNonUnitalNonAssocSemiring, IsHasDistribNeg}
use Prim.Native.Nat.{ℕ, zero, suc, ◌-◌}
use native.Mathlib.Omega.{arith}
use lib.ListN.{length}
use lib.Ieee.{Float, add, of_bits, of_int}
use borrow.Author.Tests.{ne_eqb}
use Rattle.math.specs.declared.Interval.{Interval}
use Rattle.math.specs.Math.{v_add, v_sub, v_scale, v_lerp, v_cross, y_dir, at}
use Rattle.brep.specs.Tree.{CurveTree, Segments, none, segment}
use Rattle.curve.specs.Eval.{point_at, segment_point, natural_range, axes_point, parabola_point, polyline_parameter, polyline_point, clamped_to, own_parameter}
use Rattle.curve_iso.specs.Iso.{value, exact, rounded, rounded_vector, iso_line, rust_line, iso_circle, rust_circle, iso_ellipse, rust_ellipse, iso_parabola, rust_parabola, iso_hyperbola, rust_hyperbola, iso_polyline, iso_polyline_from_one, rust_polyline, iso_segment, rust_segment, cross_part}
use Rattle.curve_iso.specs.Claims.{Same, NumbersFollow, PlacementFollows, LineFollows, CircleFollows, EllipseFollows, ParabolaFollows, HyperbolaFollows, PolylineFollows, segments_from, CompositeFollows, TrimFollows}
use Rattle.curve_iso.proofs.Taken.{kept, open_kept, holds, clamped_lies}
use Rattle.curve_iso.proofs.Wrapped.{wrapped, ended}

-- what is used of the ring's laws
module _ {ℓ} {A : Type ℓ} (K : CommRing A) where
  open K use {add, mul, neg}

  semiring : IsNonUnitalNonAssocSemiring A add mul K.zero
  semiring = K.is_comm_ring.is_ring.is_semiring.is_non_unital_semiring.is_non_unital_non_assoc_semiring

  nonassociative : IsNonUnitalNonAssocRing A add mul K.zero neg
  nonassociative = IsRing.to_is_non_unital_non_assoc_ring K.is_comm_ring.is_ring

  negation : IsHasDistribNeg A mul neg
  negation = NonUnitalNonAssocRing.to_is_has_distrib_neg (record { add = add; mul = mul; zero = K.zero; neg = neg; is_non_unital_non_assoc_ring = nonassociative })

  abbrev group : AddGroup A
  group = record { add = add; zero = K.zero; neg = neg; is_add_group = nonassociative.is_add_comm_group.is_add_group }

  add_assoc : (a b c : A) → add (add a b) c ≡ add a (add b c)
  add_assoc = semiring.is_add_comm_monoid.is_add_monoid.is_add_semigroup.add_assoc

  add_comm : (a b : A) → add a b ≡ add b a
  add_comm = semiring.is_add_comm_monoid.add_comm

  add_left_comm : (a b c : A) → add a (add b c) ≡ add b (add a c)
  add_left_comm a b c = rw (← add_assoc a b c, add_comm a b, add_assoc b a c)

  mul_comm : (a b : A) → mul a b ≡ mul b a
  mul_comm = K.is_comm_ring.mul_comm

  mul_assoc : (a b c : A) → mul (mul a b) c ≡ mul a (mul b c)
  mul_assoc = K.is_comm_ring.is_ring.is_semiring.is_non_unital_semiring.mul_assoc

  mul_left_comm : (a b c : A) → mul a (mul b c) ≡ mul b (mul a c)
  mul_left_comm a b c = rw (← mul_assoc a b c, mul_comm a b, mul_assoc b a c)

  mul_one : (a : A) → mul a K.one ≡ a
  mul_one = K.is_comm_ring.is_ring.is_semiring.mul-one

  mul_add : (a b c : A) → mul a (add b c) ≡ add (mul a b) (mul a c)
  mul_add = semiring.left_distrib

  add_mul : (a b c : A) → mul (add a b) c ≡ add (mul a c) (mul b c)
  add_mul = semiring.right_distrib

  neg_mul : (a b : A) → mul (neg a) b ≡ neg (mul a b)
  neg_mul = negation.neg-mul

  mul_neg : (a b : A) → mul a (neg b) ≡ neg (mul a b)
  mul_neg = negation.mul-neg

  neg_neg : (a : A) → neg (neg a) ≡ a
  neg_neg = negation.is_involutive_neg.neg-neg

  weights : (p q i u : A) → add p (mul (add q (neg p)) (add u (neg i))) ≡ add (mul p (add (add i K.one) (neg u))) (mul q (add u (neg i)))
  weights p q i u = simp (mul_add, add_mul, neg_mul, mul_neg, neg_neg, mul_one, add_assoc, add_comm, add_left_comm)

  reverse : (lo hi v : A) → add lo (mul (add hi (neg lo)) (add K.one (neg v))) ≡ add hi (neg (mul v (add hi (neg lo))))
  reverse lo hi v =
      let d = add hi (neg lo) in
      let e : add lo d ≡ hi = add_left_comm lo hi (neg lo) ∙ ap (add hi) (add-neg_cancel group lo) ∙ semiring.is_add_comm_monoid.is_add_monoid.add-zero hi in
      ap (add lo) (mul_add d K.one (neg v) ∙ ap (λ (x : A). add x (mul d (neg v))) (mul_one d) ∙ ap (add d) (mul_neg d v ∙ ap neg (mul_comm d v)))
      ∙ sym (add_assoc lo d (neg (mul v d))) ∙ ap (λ (x : A). add x (neg (mul v d))) e

pub numbers-follow {ℓ} : NumbersFollow {ℓ}
unfolding exact rounded add of_bits of_int
numbers-follow = record { is_one = refl; is_two = refl; exact = λ K. refl; rounded = refl }

pub placement_follows : PlacementFollows
unfolding y_dir v_cross rounded cross_part
placement_follows = record { rounded = λ f. refl }

pub line-follows {ℓ} : LineFollows {ℓ}
unfolding exact rust_line iso_line point_at v_add v_scale rounded_vector rounded
line-follows = record { exact = λ K C v u. rw (mul_comm K (exact K v)); rounded = λ o d t. refl }

pub circle-follows {ℓ} : CircleFollows {ℓ}
unfolding exact rust_circle iso_circle point_at axes_point v_add v_scale rounded_vector rounded
circle-follows = record {
  exact = λ K C R x y cosu sinu. simp (mul_add K, add_assoc K, mul_comm K, mul_left_comm K);
  rounded = λ f r t. refl;
}

pub ellipse-follows {ℓ} : EllipseFollows {ℓ}
unfolding exact rust_ellipse iso_ellipse point_at axes_point v_add v_scale rounded_vector rounded
ellipse-follows = record {
  exact = λ K C R1 R2 x y cosu sinu. rw (mul_comm K (exact K x), mul_comm K (exact K y));
  rounded = λ f a b t. refl;
}

pub parabola-follows {ℓ} : ParabolaFollows {ℓ}
unfolding exact rust_parabola iso_parabola point_at parabola_point v_add v_scale rounded_vector rounded
parabola-follows = record {
  exact = λ K C F x y u. simp (mul_add K, add_assoc K, mul_assoc K, mul_comm K, mul_left_comm K);
  rounded = λ f d t. refl;
}

pub hyperbola-follows {ℓ} : HyperbolaFollows {ℓ}
unfolding exact rust_hyperbola iso_hyperbola point_at axes_point v_add v_scale rounded_vector rounded
hyperbola-follows = record {
  exact = λ K C R1 R2 x y coshu sinhu. rw (mul_comm K (exact K x), mul_comm K (exact K y));
  rounded = λ f a b t. refl;
}

pub polyline-follows {ℓ} : PolylineFollows {ℓ}
unfolding exact rust_polyline iso_polyline iso_polyline_from_one point_at polyline_point v_lerp v_add v_sub v_scale rounded_vector rounded
polyline-follows = record {
  exact = λ K P next i u. ap (K.add (exact K P)) (mul_comm K _ _);
  exact_from_one = λ K P next i u. rw (add-sub-add_right_eq-sub (group K) (exact K u) (exact K i) K.one) (weights K (exact K P) (exact K next) (exact K i) (exact K u));
  rounded = λ ps t l. rw (ne_eqb (length ps) 0 (λ e. omega arith), ne_eqb (length ps) 1 (λ e. omega arith));
  parameter = open_kept;
  wrapped = λ ps t c b. wrapped ps c b t;
  ended = ended;
  taken = λ ps t l b lies. rw (two_less (length ps)) at (holds (length ps - 1) (polyline_parameter ps t) (omega arith) (omega arith) lies);
}
  where
    two_less : (n : ℕ) → n - 1 - 1 ≡ n - 2
    two_less n = omega arith

own_rounded : (r : Interval) (same : Bool) (v : Float) → own_parameter r same v ≡ rounded (rust_segment same (value r.lo) (value r.hi) (value v))
unfolding own_parameter at rounded rust_segment
own_rounded r true v = refl
own_rounded r false v = refl

segment_at : (ss : Segments) (i : ℕ) (v : Float) (c : CurveTree) (r : Interval) (same : Bool) (rest : Segments) →
    segments_from i ss ≡ segment c r same rest → segment_point ss i v ≡ point_at c (own_parameter r same v)
unfolding segments_from segment_point
segment_at ss zero v c r same rest e = rw e
segment_at none (suc i) v c r same rest e = cc
segment_at (segment c' r' same' rest') (suc i) v c r same rest e = segment_at rest' i v c r same rest e

pub composite-follows {ℓ} : CompositeFollows {ℓ}
unfolding exact rust_segment iso_segment point_at
composite-follows = record {
  exact = λ K same lo hi v. elim same as (λ s. Same K (rust_segment s lo hi v) (iso_segment s lo hi v)) [
    | true ↦ ap (K.add (exact K lo)) (mul_comm K _ _)
    | false ↦ reverse K (exact K lo) (exact K hi) (exact K v)
  ];
  rounded = λ ss t c r same rest e. segment_at ss _ _ c r same rest e ∙ ap (point_at c) (own_rounded r same _);
  parameter = kept;
  taken = λ n t p b h. holds n (clamped_to n t) p b (clamped_lies n t h);
}

pub trim_follows : TrimFollows
unfolding natural_range point_at
trim_follows = record { range = λ base r. refl; point = λ base r t. refl }
