-- The loops over a span: of what is left they find what they would find of the whole. Assumes nothing.
use Rattle.std.specs.Prelude.{Option, Some, None}
use mathlib.Core.Path.{◌≡◌, refl, sym, ap, ◌∙◌}
use mathlib.Core.Bool.{Bool, true, false}
use mathlib.Core.List.{List, [], ◌∷◌, ◌++◌, append-nil}
use Prim.Native.Nat.{ℕ, zero, suc, ◌+◌, ◌-◌, ◌<◌, ◌≤◌}
use native.Mathlib.Nat.{add-zero, add-suc, suc-add}
use native.Mathlib.Numerals.{add-one}
use native.Mathlib.Omega.{arith}
use lib.Ieee.{Float, lt, of_bits}
use Rattle.arith.specs.Notation.{plus_zero}
use Rattle.arith_root.specs.Root.{root_of}
use Rattle.math.specs.declared.Vec3.{Vec3}
use Rattle.math.specs.Math.{v_sub, v_length_squared, try_normalized}
use Rattle.edge_record.specs.Chain.{last_of}
use Rattle.edge_record.proofs.Shorter.{last_snoc}
use Rattle.math_chord.specs.declared.Chord.{Chord}
use Rattle.math_chord.specs.Chord.{span_distance}
use Rattle.math_chord.specs.Own.Made.{thinning_chord, chord_foot}
use Rattle.math_chord.proofs.Made.{distance_from}
use Rattle.edge_thin_span.specs.declared.Worst.{Worst}
use Rattle.edge_thin_span.specs.Span.{worse, worst_from, joined, directions, first_in, last_in}

abbrev pub worst_is : Float → ℕ → Worst
worst_is d i = record { distance = d; index = i }

-- ---- `worst`
pub root_none : root_of plus_zero ≡ plus_zero
unfolding of_bits root_of
root_none = refl

module _ (points : ℕ → Vec3) (pa pb : Vec3) (b : ℕ) where
  -- the points from i on, after those that gave `far` and `at`
  abbrev pub worst_onward : Float → ℕ → ℕ → Worst
  worst_onward far at i = worst_from points pa (v_sub pb pa) (b - i) i (worst_is far at)

  module _ {c : Chord} (ec : c ≡ thinning_chord pa pb) (far : Float) (at i : ℕ) (h : i < b) {d2 : Float} {p : Vec3} {below : Bool} (ep : p ≡ points i) (ed : d2 ≡ (chord_foot c p).squared) (et : below ≡ lt far (root_of d2)) where
    -- the root of a foot's square is the distance
    rooted : root_of d2 ≡ span_distance pa (v_sub pb pa) (v_length_squared (v_sub pb pa)) (points i)
    rooted = rw (ed, ep) (distance_from pa pb ec (points i))

    one_more : worst_onward far at i ≡ worst_from points pa (v_sub pb pa) (b - (i + 1)) (i + 1) (worse (worst_is far at) (root_of d2) i)
    unfolding worst_from
    one_more = let q : b - i ≡ suc (b - (i + 1)) = omega arith in rw (q, add-one i, rooted)

    pub worst_new : below ≡ true → worst_onward (root_of d2) i (i + 1) ≡ worst_onward far at i
    worst_new s = sym (one_more ∙ rw (sym et ∙ s))

    pub worst_old : below ≡ false → worst_onward far at (i + 1) ≡ worst_onward far at i
    worst_old s = sym (one_more ∙ rw (sym et ∙ s))

  pub worst_end : (far : Float) (at i : ℕ) → b ≤ i → worst_is far at ≡ worst_onward far at i
  unfolding worst_from
  worst_end far at i h = let q : b - i ≡ 0 = omega arith in rw q

-- ---- `first_direction` and `last_direction`
module _ (points : ℕ → Vec3) where
  abbrev pub direction_of : ℕ → Option Vec3
  direction_of i = try_normalized (v_sub (points (i + 1)) (points i))

  -- the directions of the segments from i to b
  abbrev pub ends : ℕ → ℕ → List Vec3
  ends i b = directions points (b - i) i

  ends_first : (i b : ℕ) → i < b → ends i b ≡ joined (direction_of i) (ends (i + 1) b)
  unfolding directions
  ends_first i b h = let q : b - i ≡ suc (b - (i + 1)) = omega arith in rw (q, add-one i)

  directions_last : (n a : ℕ) → directions points (suc n) a ≡ directions points n a ++ joined (try_normalized (v_sub (points (suc (a + n))) (points (a + n)))) []
  unfolding directions
  directions_last zero a = rw add-zero
  directions_last (suc n) a = rw (directions_last n (suc a), suc-add a n, add-suc a n) (over (try_normalized (v_sub (points (suc a)) (points a))) (directions points n (suc a)) _)
    where
      over : (d : Option Vec3) (k l : List Vec3) → joined d (k ++ l) ≡ joined d k ++ l
      over (Some v) k l = refl
      over None k l = refl

  ends_last : (a i : ℕ) → a < i → ends a i ≡ ends a (i - 1) ++ joined (direction_of (i - 1)) []
  ends_last a i h =
      let q : i - a ≡ suc (i - 1 - a) = omega arith in
      let r : a + (i - 1 - a) ≡ i - 1 = omega arith in
      ap (λ (n : ℕ). directions points n a) q
      ∙ directions_last (i - 1 - a) a
      ∙ ap (λ (j : ℕ). ends a (i - 1) ++ joined (try_normalized (v_sub (points (suc j)) (points j))) []) r
      ∙ ap (λ (j : ℕ). ends a (i - 1) ++ joined (try_normalized (v_sub (points j) (points (i - 1)))) []) (sym (add-one (i - 1)))

  pub first_here : (i b : ℕ) {v : Vec3} → i < b → Some v ≡ direction_of i → Some v ≡ first_in (ends i b)
  first_here i b h e = sym (ap first_in (ends_first i b h ∙ ap (λ (x : Option Vec3). joined x (ends (i + 1) b)) (sym e)))

  pub first_later : (i b : ℕ) → i < b → None ≡ direction_of i → first_in (ends (i + 1) b) ≡ first_in (ends i b)
  first_later i b h e = sym (ap first_in (ends_first i b h ∙ ap (λ (x : Option Vec3). joined x (ends (i + 1) b)) (sym e)))

  pub last_here : (a i : ℕ) {v : Vec3} → a < i → Some v ≡ direction_of (i - 1) → Some v ≡ last_in (ends a i)
  unfolding last_of
  last_here a i {v} h e = sym (ap last_in (ends_last a i h ∙ ap (λ (x : Option Vec3). ends a (i - 1) ++ joined x []) (sym e)) ∙ final (ends a (i - 1)))
    where
      final : (l : List Vec3) → last_in (l ++ (v ∷ [])) ≡ Some v
      final [] = refl
      final (u ∷ l) = ap Some (last_snoc u l v)

  pub last_earlier : (a i : ℕ) → a < i → None ≡ direction_of (i - 1) → last_in (ends a (i - 1)) ≡ last_in (ends a i)
  last_earlier a i h e = sym (ap last_in (ends_last a i h ∙ ap (λ (x : Option Vec3). ends a (i - 1) ++ joined x []) (sym e) ∙ append-nil (ends a (i - 1))))

  pub ends_none : (i b : ℕ) → b ≤ i → ends i b ≡ []
  unfolding directions
  ends_none i b h = let q : b - i ≡ 0 = omega arith in rw q
