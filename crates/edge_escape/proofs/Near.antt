-- The diagonal is within the limit, where neither its square nor the sag is below zero; and two points within it do not escape. Assumes
-- nothing.
use mathlib.Core.Path.{◌≡◌, sym}
use mathlib.Core.Bool.{true, false}
use mathlib.Core.List.{[], ◌∷◌}
use lib.Dec.{T}
use lib.Ieee.{Float, nan, inf, fin, binary64, of_bits, fits, le, add, mul}
use lib.Ieee.Bits.{is_true}
use Rattle.arith_order.proofs.Signed.{zero_f}
use Rattle.arith_order.proofs.Middle.{zero_fits}
use Rattle.arith_order.proofs.Laws.{add_grows, mul_mono}
use Rattle.arith.proofs.Cmp.{holds}
use Rattle.arith.specs.Notation.{◌⊕◌, ◌⊗◌, plus_zero}
use Rattle.arith.specs.Constants.{sixteen}
use Rattle.arith_root.specs.Root.{root_of}
use Rattle.arith_root.proofs.Laws.{root_fits, root_zero, root_monotone}
use Rattle.arith_root_limit.proofs.Roots.{not_above}
use Rattle.math.specs.declared.Vec3.{Vec3}
use Rattle.math.specs.declared.Aabb.{Aabb}
use Rattle.math.specs.Math.{v_sub, v_length_squared, v_length, box_size, centre, diagonal}
use Rattle.options.specs.declared.Resolved.{Resolved}
use Rattle.draw_spec.specs.Repair.{escapes}

-- a sum of two that are not below zero is not below the first, infinities among them
grown : (a x : Float) → T (fits binary64 a) → T (le zero_f a) → T (le zero_f x) → T (le a (a ⊕ x))
unfolding le add
grown nan x F p q = absurd p
grown (inf true) x F p q = absurd p
grown (inf false) nan F p q = absurd q
grown (inf false) (inf true) F p q = absurd q
grown (inf false) (inf false) F p q = tt
grown (inf false) (fin t n d) F p q = tt
grown (fin s m e) nan F p q = absurd q
grown (fin s m e) (inf true) F p q = absurd q
grown (fin s m e) (inf false) F p q = tt
grown (fin s m e) (fin t n d) F p q = add_grows binary64 (fin s m e) (fin t n d) F tt tt q

sags : (sag : Float) → T (le zero_f sag) → T (le zero_f (sag ⊗ sixteen))
unfolding le mul of_bits
sags nan h = absurd h
sags (inf true) h = absurd h
sags (inf false) h = tt
sags (fin s m e) h = mul_mono binary64 zero_f (fin s m e) sixteen tt tt tt tt h

pub in_limit : (square sag : Float) → T (fits binary64 square) → le plus_zero sag ≡ true → le plus_zero square ≡ true → le (root_of square) (root_of square ⊕ sag ⊗ sixteen) ≡ true
unfolding of_bits le
in_limit square sag F p q =
    is_true (le (root_of square) (root_of square ⊕ sag ⊗ sixteen))
    (grown (root_of square) (sag ⊗ sixteen) (root_fits square F) (rw root_zero at (root_monotone zero_f square (zero_fits binary64) F tt (holds q))) (sags sag (holds p)))

-- ---- a chain of two points that lie within the box's diagonal of its centre, by the squares a and b of how far
module _ (box : Aabb) (p q : Vec3) {square a b : Float} {z : Vec3} (c : square ≡ v_length_squared (box_size box)) (m : z ≡ centre box)
    (f : a ≡ v_length_squared (v_sub p z)) (g : b ≡ v_length_squared (v_sub q z)) where
  pub both_near : T (fits binary64 square) → T (fits binary64 a) → T (fits binary64 b) → le plus_zero square ≡ true → le a square ≡ true → le b square ≡ true
      → (r : Resolved) → le plus_zero r.sag ≡ true → (s t : Float) → false ≡ escapes box r (record { point = p; param = s } ∷ record { point = q; param = t } ∷ [])
  unfolding escapes v_length diagonal
  both_near F A B o h k r n s t =
      let l = in_limit square r.sag F n o in
      let u = not_above a square (root_of square ⊕ r.sag ⊗ sixteen) A F l h in
      let v = not_above b square (root_of square ⊕ r.sag ⊗ sixteen) B F l k in
      rw (sym c, sym m, sym f, sym g, sym u, sym v)
