-- ISO 10303-42: a curve's point as the standard writes it and in the Rust's order, and what such an expression means, exactly and rounded. Definitions only.
-- A vector equation says the same of x, y and z, so a formula is of one component: C, V, x, y and P stand for that component of each vector.
use Rattle.std.specs.Prelude.{Bool, true, false, Float}
use mathlib.Mathlib.Algebra.Ring.Defs.{CommRing}
use Rattle.arith.specs.Notation.{◌⊕◌, ◌⊖◌, ◌⊗◌}
use Rattle.arith.specs.Notation.{one as float_one, two as float-two}
use Rattle.math.specs.declared.Vec3.{Vec3}
use Rattle.math.specs.Math.{vec}

infixl 65 ◌⊞◌ ◌⊟◌
infixl 70 ◌·◌
-- an expression over real operations: a named value, 1 and 2, a sum, a difference, a product
pub data Expr {ℓ} (A : Type ℓ) : Type ℓ where
  value : A → Expr A
  one : Expr A
  two : Expr A
  ◌⊞◌ : Expr A → Expr A → Expr A
  ◌⊟◌ : Expr A → Expr A → Expr A
  ◌·◌ : Expr A → Expr A → Expr A

-- the exact meaning, in any commutative ring
unfoldable pub exact {ℓ} : {A : Type ℓ} → CommRing A → Expr A → A
exact K (value a) = a
exact K one = K.one
exact K two = K.add K.one K.one
exact K (a ⊞ b) = K.add (exact K a) (exact K b)
exact K (a ⊟ b) = K.add (exact K a) (K.neg (exact K b))
exact K (a · b) = K.mul (exact K a) (exact K b)

-- the rounded meaning, in f64: each operation once, to nearest even
unfoldable pub rounded : Expr Float → Float
rounded (value a) = a
rounded one = float_one
rounded two = float-two
rounded (a ⊞ b) = rounded a ⊕ rounded b
rounded (a ⊟ b) = rounded a ⊖ rounded b
rounded (a · b) = rounded a ⊗ rounded b

-- one expression rounded three times: at the x of each vector in it, at the y, at the z
unfoldable pub rounded_vector : ((Vec3 → Expr Float) → Expr Float) → Vec3
rounded_vector e =
    vec (rounded (e (λ v. value v.x))) (rounded (e (λ v. value v.y))) (rounded (e (λ v. value v.z)))

-- x and y are the placement's first two directions, given to both sides; cosu and sinu are cos u and sin u, coshu and sinhu cosh u and sinh u
module _ {ℓ} {A : Type ℓ} where
  -- line: C + u V
  unfoldable pub iso_line : (C «V» u : Expr A) → Expr A
  iso_line C «V» u = C ⊞ u · «V»

  -- *origin + *direction * t
  unfoldable pub rust_line : (C «V» u : Expr A) → Expr A
  rust_line C «V» u = C ⊞ «V» · u

  -- circle: C + R ((cos u) x + (sin u) y)
  unfoldable pub iso_circle : (C R x y cosu sinu : Expr A) → Expr A
  iso_circle C R x y cosu sinu = C ⊞ R · (cosu · x ⊞ sinu · y)

  -- self.origin + self.ref_dir * (r * theta.cos()) + self.y_dir() * (r * theta.sin())
  unfoldable pub rust_circle : (C R x y cosu sinu : Expr A) → Expr A
  rust_circle C R x y cosu sinu = C ⊞ x · (R · cosu) ⊞ y · (R · sinu)

  -- ellipse: C + (R1 cos u) x + (R2 sin u) y
  unfoldable pub iso_ellipse : (C R1 R2 x y cosu sinu : Expr A) → Expr A
  iso_ellipse C R1 R2 x y cosu sinu = C ⊞ (R1 · cosu) · x ⊞ (R2 · sinu) · y

  -- frame.origin + frame.ref_dir * (*semi_major * t.cos()) + frame.y_dir() * (*semi_minor * t.sin())
  unfoldable pub rust_ellipse : (C R1 R2 x y cosu sinu : Expr A) → Expr A
  rust_ellipse C R1 R2 x y cosu sinu = C ⊞ x · (R1 · cosu) ⊞ y · (R2 · sinu)

  -- parabola: C + F (u² x + 2 u y)
  unfoldable pub iso_parabola : (C F x y u : Expr A) → Expr A
  iso_parabola C F x y u = C ⊞ F · ((u · u) · x ⊞ two · u · y)

  -- frame.origin + frame.ref_dir * (*focal_dist * t * t) + frame.y_dir() * (2.0 * *focal_dist * t)
  unfoldable pub rust_parabola : (C F x y u : Expr A) → Expr A
  rust_parabola C F x y u = C ⊞ x · (F · u · u) ⊞ y · (two · F · u)

  -- hyperbola: C + (R1 cosh u) x + (R2 sinh u) y
  unfoldable pub iso_hyperbola : (C R1 R2 x y coshu sinhu : Expr A) → Expr A
  iso_hyperbola C R1 R2 x y coshu sinhu = C ⊞ (R1 · coshu) · x ⊞ (R2 · sinhu) · y

  -- frame.origin + frame.ref_dir * (*semi_major * t.cosh()) + frame.y_dir() * (*semi_minor * t.sinh())
  unfoldable pub rust_hyperbola : (C R1 R2 x y coshu sinhu : Expr A) → Expr A
  rust_hyperbola C R1 R2 x y coshu sinhu = C ⊞ x · (R1 · coshu) ⊞ y · (R2 · sinhu)

  -- polyline, from point P of number i to the next: P + (u - i) (next - P)
  unfoldable pub iso_polyline : (P next i u : Expr A) → Expr A
  iso_polyline P next i u = P ⊞ (u ⊟ i) · (next ⊟ P)

  -- polyline, with the points numbered from 1 and each given its weight: P (i - u) + next (u + 1 - i)
  unfoldable pub iso_polyline_from_one : (P next i u : Expr A) → Expr A
  iso_polyline_from_one P next i u = P · (i ⊟ u) ⊞ next · (u ⊞ one ⊟ i)

  -- points[i].lerp(points[i + 1], t - i as f64)
  unfoldable pub rust_polyline : (P next i u : Expr A) → Expr A
  rust_polyline P next i u = P ⊞ (next ⊟ P) · (u ⊟ i)

  -- composite, on a segment of which the part v is gone: its curve's own parameter, that part of the parametric length on from lo;
  -- where the segment has not the same sense as its curve, down from hi
  unfoldable pub iso_segment : (same : Bool) (lo hi v : Expr A) → Expr A
  iso_segment true lo hi v = lo ⊞ v · (hi ⊟ lo)
  iso_segment false lo hi v = hi ⊟ v · (hi ⊟ lo)

  -- seg.range.at(local), seg.range.at(1.0 - local)
  unfoldable pub rust_segment : (same : Bool) (lo hi v : Expr A) → Expr A
  rust_segment true lo hi v = lo ⊞ (hi ⊟ lo) · v
  rust_segment false lo hi v = lo ⊞ (hi ⊟ lo) · (one ⊟ v)

  -- the placement's y, the cross product of its third direction and its first: one component of a × b, by the two components after it
  unfoldable pub cross_part : (a2 a3 b2 b3 : Expr A) → Expr A
  cross_part a2 a3 b2 b3 = a2 · b3 ⊟ a3 · b2
