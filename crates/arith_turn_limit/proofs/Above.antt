-- In the fixed steps too, an angle whose half has a tangent y up to 1/4 is at least 1.958 y, and at least 0.368 beyond; up to 1/8 it is at
-- least 1.989 y, and at least 0.2448 beyond. Assumes nothing.
use mathlib.Core.Path.{◌≡◌, refl, subst}
use mathlib.Core.Bool.{Bool, true, false, false≢true, cond, not, ◌&&◌}
use mathlib.Core.Logic.{◌⊎◌, inl, inr}
use mathlib.Core.List.{[], ◌∷◌}
use lib.Dec.{T}
use lib.Ieee.{Float, nan, inf, fin, binary64, of_bits, of_int, fits, le, lt, eq, neg, add, sub, mul, div}
use lib.Ieee.Bits.{is_true, of_bits-fits}
use lib.Ieee.Fits.{add-fits, mul-fits, div-fits}
use lib.Ieee.Scale.{finite}
use Rattle.arith_order.proofs.Signed.{zero_f, one_f}
use Rattle.arith_order.proofs.Mono.{add_grows, add_mono_right, sub_shrinks, sub_turns, mul_mono, mul_mono_right, div_mono, div_turns, div_low}
use Rattle.arith_order.proofs.Middle.{between}
use Rattle.arith_order.proofs.Modest.{sub_up}
use Rattle.arith_order.proofs.Laws.{refuted, le_trans, le_total, lt_le_trans, lt→le, lt→nle, lt→neq, nlt→le, number_left, number_right}
use Rattle.arith.proofs.Cmp.{holds, fails}
use Rattle.arith.specs.Notation.{◌⊕◌, ◌⊖◌, ◌⊗◌, ◌⊘◌, bits, plus_zero, half, one, two, count}
use Rattle.arith_root.specs.Root.{root_of}
use Rattle.arith_root.proofs.Laws.{root_monotone}
use Rattle.arith_root.proofs.Squares.{root_over_square}
use Rattle.arith_trig.specs.Trig.{halved, summed, arc_of, angle_of, acos_by, acos_of, pi}
use Rattle.arith_turn_limit.specs.Own.Limit.{tangent_square, first_divisor, second_divisor, third_divisor, fourth_divisor, least_series, fine_series, least_turn, fine_turn, over_half, fine_half, largest_limit, fine_limit, over_cut, is_over, over_quarter, is_double_over, Exceeds}
use Rattle.arith_turn_limit.proofs.Bound.{Part, part_finite, one_fits, square_part, scaled_low, scaled_high, part_times, two_f, square_finite, root_finite, divisor_low, divisor_finite, halved_high, halved_part, halved_fits, half_mono, thrice, term, term_fits, series_three, series_of, series_part, sixteen_mono, eighths, eighths_mono, angle_high, equal_le}
use Rattle.arith_root_limit.specs.Own.Limit.{cut_if, square_if}
use Rattle.arith_root_limit.proofs.Roots.{above_square}

abbrev quarter : Float
quarter = bits 0x3FD0000000000000

abbrev eighth : Float
eighth = bits 0x3FC0000000000000

abbrev sixteenth : Float
sixteenth = bits 0x3FB0000000000000

-- ---- a part at most u, halved: what it is divided by is at most d
record Step (u d : Float) : Type 0 where
  part : Part u
  square : Float
  root : Float
  format : T (fits binary64 square)
  over : T (le (one_f ⊕ u ⊗ u) square)
  is : root_of square ≡ root
  known : T (finite root)
  last : T (le (one_f ⊕ root) d)
  number : T (finite d)

square_mono : (x y : Float) → Part x → Part y → T (le x y) → T (le (x ⊗ x) (y ⊗ y))
square_mono x y p q h =
    let X = part_finite x p in
    let Y = part_finite y q in
    le_trans (x ⊗ x) (y ⊗ x) (y ⊗ y) (mul_mono binary64 x y x X Y X p.0 h)
    (mul_mono_right binary64 x y y X Y Y q.0 h)

module _ (y u d : Float) (p : Part y) (s : Step u d) (h : T (le y u)) where
  within : T (le (one_f ⊕ y ⊗ y) s.square)
  within = le_trans (one_f ⊕ y ⊗ y) (one_f ⊕ u ⊗ u) s.square
      (add_mono_right binary64 (y ⊗ y) (u ⊗ u) one_f (square_finite y p) (square_finite u s.part) tt (square_mono y u p s.part h)) s.over

  root_within : T (le (root_of (one_f ⊕ y ⊗ y)) s.root)
  unfolding le add
  root_within = subst (λ (z : Float). T (le (root_of (one_f ⊕ y ⊗ y)) z)) s.is
      (root_monotone (one_f ⊕ y ⊗ y) s.square (add-fits binary64 one_f (y ⊗ y)) s.format
      (le_trans zero_f one_f (one_f ⊕ y ⊗ y) tt (add_mono_right binary64 zero_f (y ⊗ y) one_f tt (square_finite y p) tt (square_part y p).0)) within)

  divisor_within : T (le (one_f ⊕ root_of (one_f ⊕ y ⊗ y)) d)
  unfolding le
  divisor_within = le_trans (one_f ⊕ root_of (one_f ⊕ y ⊗ y)) (one_f ⊕ s.root) d
      (add_mono_right binary64 (root_of (one_f ⊕ y ⊗ y)) s.root one_f (root_finite y p) s.known tt root_within) s.last

  one_under : T (le one_f (one_f ⊕ root_of (one_f ⊕ y ⊗ y)))
  unfolding le
  one_under = le_trans one_f two_f (one_f ⊕ root_of (one_f ⊕ y ⊗ y)) tt (divisor_low y p)

  -- so what is left is at least a d-th of any k up to y
  halved_low : (k : Float) → T (finite k) → T (le k y) → T (lt zero_f d) → T (le (k ⊘ d) (halved y))
  unfolding halved of_bits
  halved_low k K g D =
      le_trans (k ⊘ d) (y ⊘ d) (halved y) (div_mono binary64 k y d K (part_finite y p) s.number D g)
      (div_turns binary64 y (one_f ⊕ root_of (one_f ⊕ y ⊗ y)) d (part_finite y p) (divisor_finite y p) s.number p.0 one_under divisor_within)

  halved_within : (w : Float) → T (le (u ⊘ two_f) w) → T (le (halved y) w)
  halved_within w g =
      le_trans (halved y) (y ⊘ two_f) w (halved_high y p)
      (le_trans (y ⊘ two_f) (u ⊘ two_f) w (half_mono y u (part_finite y p) (part_finite u s.part) h) g)

-- ---- the series of a part at most z is at least 1 less a third of z
series_low : (z m v : Float) → Part z → Part m → T (le z m) → T (le v (term 1 ⊖ m ⊗ term 3)) → T (le v (series_of z))
unfolding summed of_bits div of_int le
series_low z m v p q h e =
    let w = summed z (one ⊘ count 15) (13 ∷ 11 ∷ 9 ∷ 7 ∷ 5 ∷ 3 ∷ []) in
    let s = series_three z p in
    let Z = part_finite z p in
    let M = part_finite m q in
    let W = between zero_f w (term 3) tt tt s.low s.high in
    let less : T (le (z ⊗ w) (m ⊗ term 3)) =
    le_trans (z ⊗ w) (m ⊗ w) (m ⊗ term 3) (mul_mono binary64 z m w Z M W s.low h) (mul_mono_right binary64 w (term 3) m W tt M q.0 s.high) in
    le_trans v (term 1 ⊖ m ⊗ term 3) (series_of z) e
    (sub_turns binary64 (z ⊗ w) (m ⊗ term 3) (term 1) (product z w p W s.format s.low) (product m (term 3) q tt (term_fits 3) tt) tt less)
  where
    product : (x y : Float) → Part x → T (finite y) → T (fits binary64 y) → T (le zero_f y) → T (finite (x ⊗ y))
    product x y a Y F b = let t = part_times x y a Y F b in between zero_f (x ⊗ y) y tt Y t.0 t.1

-- ---- three halvings and the series: what no angle is below whose tangent is from k to the first u
record Steps (a b c d e f g m v : Float) : Type 0 where
  one_step : Step a d
  two_step : Step b e
  three_step : Step c f
  a_half : T (le (a ⊘ two_f) b)
  b_half : T (le (b ⊘ two_f) c)
  c_half : T (le (c ⊘ two_f) g)
  d_over : T (le one_f d)
  e_over : T (le one_f e)
  f_over : T (le one_f f)
  g_part : Part g
  m_part : Part m
  g_square : T (le (g ⊗ g) m)
  v_part : Part v
  v_low : T (le v (term 1 ⊖ m ⊗ term 3))

module _ (a b c d e f g m v : Float) (s : Steps a b c d e f g m v) (y k : Float) (p : Part y) (K : T (finite k)) (k0 : T (le zero_f k)) (h : T (le k y)) (u : T (le y a)) where
  positive : (x : Float) → T (le one_f x) → T (lt zero_f x)
  unfolding lt
  positive x g = lt_le_trans zero_f one_f x tt g

  step : (x n z w : Float) → Part x → (t : Step z w) → T (le x z) → T (le one_f w) → T (finite n) → T (le zero_f n) → T (le n x)
      → T (le (n ⊘ w) (halved x)) × (T (finite (n ⊘ w)) × T (le zero_f (n ⊘ w)))
  step x n z w q t i o N n0 j =
      let r = halved_low x z w q t i n N j (positive w o) in
      let l = div_low binary64 n w N t.number n0 o in
      (r, (between zero_f (n ⊘ w) (halved x) tt (part_finite (halved x) (halved_part x q)) l r, l))

  one_done : T (le (k ⊘ d) (halved y)) × (T (finite (k ⊘ d)) × T (le zero_f (k ⊘ d)))
  one_done = step y k a d p s.one_step u s.d_over K k0 h

  one_within : T (le (halved y) b)
  one_within = halved_within y a d p s.one_step u b s.a_half

  two_done : T (le (k ⊘ d ⊘ e) (halved (halved y))) × (T (finite (k ⊘ d ⊘ e)) × T (le zero_f (k ⊘ d ⊘ e)))
  two_done = step (halved y) (k ⊘ d) b e (halved_part y p) s.two_step one_within s.e_over one_done.1.0 one_done.1.1 one_done.0

  two_within : T (le (halved (halved y)) c)
  two_within = halved_within (halved y) b e (halved_part y p) s.two_step one_within c s.b_half

  three_done : T (le (k ⊘ d ⊘ e ⊘ f) (halved (halved (halved y)))) × (T (finite (k ⊘ d ⊘ e ⊘ f)) × T (le zero_f (k ⊘ d ⊘ e ⊘ f)))
  three_done = step (halved (halved y)) (k ⊘ d ⊘ e) c f (halved_part (halved y) (halved_part y p)) s.three_step two_within s.f_over two_done.1.0 two_done.1.1 two_done.0

  three_within : T (le (halved (halved (halved y))) g)
  three_within = halved_within (halved (halved y)) c f (halved_part (halved y) (halved_part y p)) s.three_step two_within g s.c_half

  turn_low : T (le zero_f (count 16 ⊗ (k ⊘ d ⊘ e ⊘ f ⊗ v)))
  unfolding le mul of_int
  turn_low =
      let n = k ⊘ d ⊘ e ⊘ f in
      let N = three_done.1.0 in
      let N0 = three_done.1.1 in
      let l = scaled_low n v N N0 s.v_part in
      sixteen_mono zero_f (n ⊗ v) tt (between zero_f (n ⊗ v) n tt N l (scaled_high n v N N0 s.v_part (div-fits binary64 (k ⊘ d ⊘ e) f))) l

  angle_low : T (le (count 16 ⊗ (k ⊘ d ⊘ e ⊘ f ⊗ v)) (angle_of y))
  unfolding angle_of arc_of
  angle_low =
      let x = halved (halved (halved y)) in
      let n = k ⊘ d ⊘ e ⊘ f in
      let S = series_of (x ⊗ x) in
      let X = part_finite x (thrice y p) in
      let vf = part_finite v s.v_part in
      let q = square_part x (thrice y p) in
      let Q = series_part (x ⊗ x) q in
      let t : T (le v S) = series_low (x ⊗ x) m v q s.m_part
      (le_trans (x ⊗ x) (g ⊗ g) m (square_mono x g (thrice y p) s.g_part three_within) s.g_square) s.v_low in
      let N = three_done.1.0 in
      let N0 = three_done.1.1 in
      let i : T (le (n ⊗ v) (x ⊗ v)) = mul_mono binary64 n x v N X vf s.v_part.0 three_done.0 in
      let j : T (le (x ⊗ v) (x ⊗ S)) = mul_mono_right binary64 v S x vf (part_finite S Q) X (thrice y p).0 t in
      sixteen_mono (n ⊗ v) (x ⊗ S)
      (between zero_f (n ⊗ v) n tt N (scaled_low n v N N0 s.v_part) (scaled_high n v N N0 s.v_part (div-fits binary64 (k ⊘ d ⊘ e) f)))
      (between zero_f (x ⊗ S) x tt X (scaled_low x S X (thrice y p).0 Q) (scaled_high x S X (thrice y p).0 Q (halved_fits (halved (halved y)))))
      (le_trans (n ⊗ v) (x ⊗ v) (x ⊗ S) i j)

-- ---- the two of them: up to a quarter, and up to 1
step_one : Step one_f (bits 0x4004000000000000)
unfolding of_bits le lt add mul fits root_of
step_one = record { part = (tt, tt); square = bits 0x4002000000000000; root = bits 0x3FF8000000000000; format = tt; over = tt; is = refl; known = tt; last = tt; number = tt }

step_half : Step half (bits 0x4001000000000000)
unfolding of_bits le lt add mul fits root_of
step_half = record { part = (tt, tt); square = bits 0x3FF4400000000000; root = bits 0x3FF2000000000000; format = tt; over = tt; is = refl; known = tt; last = tt; number = tt }

step_quarter : Step quarter first_divisor
unfolding of_bits le lt add mul fits root_of
step_quarter = record { part = (tt, tt); square = bits 0x3FF1040000000000; root = bits 0x3FF0800000000000; format = tt; over = tt; is = refl; known = tt; last = tt; number = tt }

step_eighth : Step eighth second_divisor
unfolding of_bits le lt add mul fits root_of
step_eighth = record { part = (tt, tt); square = bits 0x3FF0404000000000; root = bits 0x3FF0200000000000; format = tt; over = tt; is = refl; known = tt; last = tt; number = tt }

step_sixteenth : Step sixteenth third_divisor
unfolding of_bits le lt add mul fits root_of
step_sixteenth = record { part = (tt, tt); square = bits 0x3FF0100400000000; root = bits 0x3FF0080000000000; format = tt; over = tt; is = refl; known = tt; last = tt; number = tt }

step_thirty_second : Step (bits 0x3FA0000000000000) fourth_divisor
unfolding of_bits le lt add mul fits root_of
step_thirty_second = record {
  part = (tt, tt);
  square = bits 0x3FF0040040000000;
  root = bits 0x3FF0020000000000;
  format = tt;
  over = tt;
  is = refl;
  known = tt;
  last = tt;
  number = tt;
}

near_steps : Steps quarter eighth sixteenth first_divisor second_divisor third_divisor
    (bits 0x3FA0000000000000) (bits 0x3F50000000000000) least_series
unfolding of_bits of_int le lt add sub mul div
near_steps = record {
  one_step = step_quarter;
  two_step = step_eighth;
  three_step = step_sixteenth;
  a_half = tt;
  b_half = tt;
  c_half = tt;
  d_over = tt;
  e_over = tt;
  f_over = tt;
  g_part = (tt, tt);
  m_part = (tt, tt);
  g_square = tt;
  v_part = (tt, tt);
  v_low = tt;
}

far_steps : Steps one_f half quarter (bits 0x4004000000000000) (bits 0x4001000000000000) first_divisor
    eighth (bits 0x3F90000000000000) (bits 0x3FEFCED916872B02)
unfolding of_bits of_int le lt add sub mul div
far_steps = record {
  one_step = step_one;
  two_step = step_half;
  three_step = step_quarter;
  a_half = tt;
  b_half = tt;
  c_half = tt;
  d_over = tt;
  e_over = tt;
  f_over = tt;
  g_part = (tt, tt);
  m_part = (tt, tt);
  g_square = tt;
  v_part = (tt, tt);
  v_low = tt;
}

-- ---- an angle whose half has a tangent above 1
one_part : Part one_f
unfolding le
one_part = (tt, tt)

zero_part : Part zero_f
unfolding le
zero_part = (tt, tt)

turned_part : (y : Float) → T (lt one_f y) → Part (one_f ⊘ y)
unfolding lt le div
turned_part nan h = absurd h
turned_part (inf false) h = zero_part
turned_part (inf true) h = absurd h
turned_part (fin s m e) h =
    let y = fin s m e in
    let g = lt→le one_f y h in
    (div_low binary64 one_f y tt tt tt g, le_trans (one_f ⊘ y) (one_f ⊘ one_f) one_f (div_turns binary64 one_f one_f y tt tt tt tt tt g) tt)

-- an angle of a part is not below zero, and finite
angle_zero : (y : Float) → Part y → T (le zero_f (angle_of y))
unfolding le mul div of_int of_bits
angle_zero y p = angle_low _ _ _ _ _ _ _ _ _ far_steps y zero_f p tt tt p.0 p.1

angle_most : (y : Float) → Part y → T (le (angle_of y) (eighths one_f))
angle_most y p = le_trans (angle_of y) (eighths y) (eighths one_f) (angle_high y p) (eighths_mono y one_f p one_part p.1)

angle_finite : (y : Float) → Part y → T (finite (angle_of y))
unfolding mul div of_int
angle_finite y p = between zero_f (angle_of y) (eighths one_f) tt tt (angle_zero y p) (angle_most y p)

far_off : (y : Float) → T (lt one_f y) → T (le largest_limit (pi ⊖ angle_of (one_f ⊘ y)))
unfolding le mul div sub of_int of_bits
far_off y h =
    let x = one_f ⊘ y in
    let p = turned_part y h in
    le_trans largest_limit (pi ⊖ eighths one_f) (pi ⊖ angle_of x) tt
    (sub_turns binary64 (angle_of x) (eighths one_f) pi (angle_finite x p) tt tt (angle_most x p))

far_finite : (y : Float) → T (lt one_f y) → T (finite (pi ⊖ angle_of (one_f ⊘ y)))
unfolding of_bits
far_finite y h =
    let x = one_f ⊘ y in
    let p = turned_part y h in
    between largest_limit (pi ⊖ angle_of x) pi tt tt (far_off y h)
    (sub_shrinks binary64 pi (angle_of x) (of_bits-fits binary64 0x400921FB54442D18) tt (angle_finite x p) (angle_zero x p))

-- ---- an angle whose half has a tangent y, from k on: it reaches the least turn at k, or 0.368
abbrev Reaches : Float → Float → Type 0
Reaches k x = (T (le zero_f (least_turn k)) × T (le (least_turn k) x)) ⊎ T (le largest_limit x)

module _ (y k : Float) (k0 : T (le zero_f k)) (h : T (le k y)) where
  tangent_low : T (le zero_f y)
  tangent_low = le_trans zero_f k y k0 h

  up_to_one : T (le y one_f) → Reaches k (angle_of y)
  unfolding le mul div of_int of_bits
  up_to_one g = go (le_total y quarter (number_right zero_f y tangent_low) tt)
    where
      p : Part y
      p = (tangent_low, g)

      K : T (finite k)
      K = between zero_f k y tt (part_finite y p) k0 h

      go : T (le y quarter) ⊎ T (le quarter y) → Reaches k (angle_of y)
      go (inl n) = inl (turn_low _ _ _ _ _ _ _ _ _ near_steps y k p K k0 h n, angle_low _ _ _ _ _ _ _ _ _ near_steps y k p K k0 h n)
      go (inr n) = inr
          (le_trans largest_limit
          (count 16 ⊗ (quarter ⊘ bits 0x4004000000000000 ⊘ bits 0x4001000000000000 ⊘ first_divisor ⊗ bits 0x3FEFCED916872B02)) (angle_of y) tt
          (angle_low _ _ _ _ _ _ _ _ _ far_steps y quarter p tt tt n g))

  not_far : lt one y ≡ false → T (le y one_f)
  unfolding of_bits
  not_far e = nlt→le one_f y tt (number_right zero_f y tangent_low) (fails e)

  turn_reaches : Reaches k (acos_by y)
  unfolding acos_by of_bits
  turn_reaches = go (lt one y) refl
    where
      go : (b : Bool) → lt one y ≡ b → Reaches k (cond b (pi ⊖ angle_of (one ⊘ y)) (angle_of y))
      go true e = inr (far_off y (holds e))
      go false e = up_to_one (not_far e)

  turn_finite : T (finite (acos_by y))
  unfolding acos_by of_bits
  turn_finite = go (lt one y) refl
    where
      go : (b : Bool) → lt one y ≡ b → T (finite (cond b (pi ⊖ angle_of (one ⊘ y)) (angle_of y)))
      go true e = far_finite y (holds e)
      go false e = angle_finite y (tangent_low, not_far e)

-- so it is above a limit that both are above
over_limit : (k x limit : Float) → T (lt limit largest_limit) → T (lt limit (least_turn k)) → Reaches k x → T (lt limit x)
over_limit k x limit s l (inl r) = lt_le_trans limit (least_turn k) x l r.1
over_limit k x limit s l (inr r) = lt_le_trans limit largest_limit x s r

-- and twice it, above one that twice both are above
twice_mono : (x y : Float) → T (finite x) → T (finite y) → T (le x y) → T (le (two ⊗ x) (two ⊗ y))
unfolding le of_bits
twice_mono x y X Y h = mul_mono_right binary64 x y two X Y tt tt h

twice_over : (k x limit : Float) → T (finite x) → T (lt limit (two ⊗ largest_limit)) → T (lt limit (two ⊗ least_turn k)) → Reaches k x
    → T (lt limit (two ⊗ x))
unfolding of_bits
twice_over k x limit X s l (inl r) = lt_le_trans limit (two ⊗ least_turn k) (two ⊗ x) l
    (twice_mono (least_turn k) x (between zero_f (least_turn k) x tt X r.0 r.1) X r.1)
twice_over k x limit X s l (inr r) = lt_le_trans limit (two ⊗ largest_limit) (two ⊗ x) s (twice_mono largest_limit x tt X r)

-- ---- the same up to an eighth: it reaches the fine turn at k, or 0.2448
fine_steps : Steps eighth sixteenth (bits 0x3FA0000000000000) second_divisor third_divisor fourth_divisor
    (bits 0x3F90000000000000) (bits 0x3F30000000000000) fine_series
unfolding of_bits of_int le lt add sub mul div
fine_steps = record {
  one_step = step_eighth;
  two_step = step_sixteenth;
  three_step = step_thirty_second;
  a_half = tt;
  b_half = tt;
  c_half = tt;
  d_over = tt;
  e_over = tt;
  f_over = tt;
  g_part = (tt, tt);
  m_part = (tt, tt);
  g_square = tt;
  v_part = (tt, tt);
  v_low = tt;
}

module _ (y k : Float) (k0 : T (le zero_f k)) (h : T (le k y)) where
  small_turn : T (le y eighth) → T (le (fine_turn k) (acos_by y))
  unfolding acos_by le of_bits
  small_turn n =
      let low = le_trans zero_f k y k0 h in
      let top = le_trans y eighth one_f n tt in
      let none = refuted (lt one y) (λ (t : T (lt one y)). lt→nle one_f y t top) in
      rw none (angle_low _ _ _ _ _ _ _ _ _ fine_steps y k (low, top) (between zero_f k y tt (part_finite y (low, top)) k0 h) k0 h n)

  large_turn : T (le eighth y) → T (le fine_limit (acos_by y))
  unfolding le mul div of_int of_bits
  large_turn n = go (turn_reaches y eighth tt n)
    where
      go : Reaches eighth (acos_by y) → T (le fine_limit (acos_by y))
      go (inl r) = le_trans fine_limit (least_turn eighth) (acos_by y) tt r.1
      go (inr r) = le_trans fine_limit largest_limit (acos_by y) tt r

  fine_over : (limit : Float) → T (lt limit fine_limit) → T (lt limit (fine_turn k)) → T (lt limit (acos_by y))
  unfolding of_bits
  fine_over limit s l = go (le_total y eighth (number_right k y h) tt)
    where
      go : T (le y eighth) ⊎ T (le eighth y) → T (lt limit (acos_by y))
      go (inl n) = lt_le_trans limit (fine_turn k) (acos_by y) l (small_turn n)
      go (inr n) = lt_le_trans limit fine_limit (acos_by y) s (large_turn n)

-- ---- twice the angle, by squares: (1 - a) / 2 is not above the square of the tangent of half of it, and k is not above that tangent
module _ (a k limit : Float) (F : T (fits binary64 k)) (a0 : T (le zero_f a)) (a1 : T (lt a one_f)) (k0 : T (lt zero_f k)) where
  cosine_finite : T (finite a)
  cosine_finite = between zero_f a one_f tt tt a0 (lt→le a one_f a1)

  difference : Part (one_f ⊖ a)
  difference = (sub_up one_f a tt cosine_finite (lt→le a one_f a1), sub_shrinks binary64 one_f a one_fits tt cosine_finite a0)

  sum_low : T (le one_f (one_f ⊕ a))
  sum_low = add_grows binary64 one_f a one_fits tt cosine_finite a0

  sum_high : T (le (one_f ⊕ a) two_f)
  unfolding le add
  sum_high = le_trans (one_f ⊕ a) (one_f ⊕ one_f) two_f (add_mono_right binary64 a one_f one_f cosine_finite tt tt (lt→le a one_f a1)) tt

  quotient_low : T (le ((one_f ⊖ a) ⊘ two_f) ((one_f ⊖ a) ⊘ (one_f ⊕ a)))
  quotient_low = div_turns binary64 (one_f ⊖ a) (one_f ⊕ a) two_f (part_finite (one_f ⊖ a) difference)
      (between one_f (one_f ⊕ a) two_f tt tt sum_low sum_high) tt difference.0 sum_low sum_high

  tangent_over : T (lt (k ⊗ k) ((one ⊖ a) ⊘ two)) → T (le k (root_of (tangent_square a)))
  unfolding of_bits
  tangent_over h =
      root_over_square k (tangent_square a) F (div-fits binary64 (one ⊖ a) (one ⊕ a)) k0
      (lt_le_trans (k ⊗ k) ((one ⊖ a) ⊘ two) (tangent_square a) h quotient_low)

  not_one : eq a one ≡ false
  unfolding of_bits
  not_one = lt→neq a one_f a1

  not_minus_one : eq a (neg one) ≡ false
  unfolding le neg of_bits
  not_minus_one = refuted (eq a (neg one)) (λ (t : T (eq a (neg one))). le_trans zero_f a (neg one) a0 (equal_le a (neg one) t))

  twice_surely : T (lt limit (two ⊗ largest_limit)) → T (lt limit (two ⊗ least_turn k)) → T (lt (k ⊗ k) ((one ⊖ a) ⊘ two))
      → lt limit (two ⊗ acos_of a) ≡ true
  unfolding acos_of
  twice_surely s l h =
      let y = root_of (tangent_square a) in
      let t = tangent_over h in
      let b = lt→le zero_f k k0 in
      rw (not_one, not_minus_one)
      (is_true (lt limit (two ⊗ acos_by y)) (twice_over k (acos_by y) limit (turn_finite y k b t) s l (turn_reaches y k b t)))

-- ---- by the tests that the code makes
module _ (a limit : Float) where
  parts : (x y : Bool) → x && y ≡ true → (T x) × (T y)
  parts true y e = (tt, holds e)
  parts false y e = absurd (false≢true e)

  pub double_over : is_double_over a limit ≡ true → lt limit (two ⊗ acos_of a) ≡ true
  unfolding of_bits
  double_over e =
      let y = limit ⊗ over_quarter in
      let p = parts (le plus_zero a) _ e in
      let q = parts (lt a one) _ (is_true _ p.1) in
      let r = parts (lt plus_zero y) _ (is_true _ q.1) in
      let s = parts (lt limit (two ⊗ largest_limit)) _ (is_true _ r.1) in
      let t = parts (lt limit (two ⊗ least_turn y)) _ (is_true _ s.1) in
      twice_surely a y limit (mul-fits binary64 limit over_quarter) p.0 q.0 r.0 s.0 t.0 t.1

-- ---- a cosine of 1 has no square of a tangent above zero
module _ (a : Float) (t : T (eq a one_f)) where
  one_at_most : T (le one_f a)
  one_at_most = nlt→le a one_f (number_left a one_f (equal_le a one_f t)) tt
      (is_not (lt a one_f) (λ (l : T (lt a one_f)). subst T (lt→neq a one_f l) t))
    where
      is_not : (b : Bool) → (T b → ⊥) → T (not b)
      is_not true h = h tt
      is_not false h = tt

  square_high : T (le ((one_f ⊖ a) ⊘ (one_f ⊕ a)) zero_f)
  unfolding le lt add sub div
  square_high =
      let high = equal_le a one_f t in
      let A = between one_f a one_f tt tt one_at_most high in
      let d : T (le (one_f ⊖ a) zero_f) = sub_turns binary64 one_f a one_f tt A tt one_at_most in
      let D = between zero_f (one_f ⊖ a) zero_f tt tt (sub_up one_f a tt A high) d in
      let s : T (le one_f (one_f ⊕ a)) = add_grows binary64 one_f a one_fits tt A (le_trans zero_f one_f a tt one_at_most) in
      let S = between one_f (one_f ⊕ a) two_f tt tt s (add_mono_right binary64 a one_f one_f A tt tt high) in
      le_trans ((one_f ⊖ a) ⊘ (one_f ⊕ a)) (zero_f ⊘ (one_f ⊕ a)) zero_f
      (div_mono binary64 (one_f ⊖ a) zero_f (one_f ⊕ a) D tt S (lt_le_trans zero_f one_f (one_f ⊕ a) tt s) d)
      (div_turns binary64 zero_f one_f (one_f ⊕ a) tt tt S tt tt s)

-- ---- an angle above a limit below 0.368, of a cosine with a square of a tangent above zero: π is above it too
turn_over : (a limit : Float) → T (lt limit largest_limit) → T (lt zero_f (tangent_square a)) → T (lt limit (acos_by (root_of (tangent_square a))))
    → le (acos_of a) limit ≡ false
unfolding acos_of le lt of_bits
turn_over a limit s q h = refuted (le (acos_of a) limit) (lt→nle limit (acos_of a) (go (eq a one) (eq a (neg one)) refl))
  where
    go : (b c : Bool) → eq a one ≡ b → T (lt limit (cond b plus_zero (cond c pi (acos_by (root_of (tangent_square a))))))
    go true c e = absurd (lt→nle zero_f (tangent_square a) q (square_high a (holds e)))
    go false true e = lt_le_trans limit largest_limit pi s tt
    go false false e = h

below_largest : (limit : Float) → T (lt limit fine_limit) → T (lt limit largest_limit)
unfolding le of_bits
below_largest limit s = lt_le_trans limit fine_limit largest_limit s tt

-- ---- the cut for a limit serves
pub exceeds : (limit : Float) → Exceeds (over_cut limit) limit
unfolding over_cut
exceeds limit = record { above = λ (a : Float) (h : is_over a (over_cut limit) ≡ true). fine a (lt limit fine_limit) refl (holds h) }
  where
    least : (a : Float) (c : Bool) → lt limit largest_limit ≡ c
        → T (lt (cut_if c (square_if (lt limit (least_turn (limit ⊗ over_half))) (limit ⊗ over_half))) (tangent_square a))
        → le (acos_of a) limit ≡ false
    least a true s h =
        let k = limit ⊗ over_half in
        let y = root_of (tangent_square a) in
        let F = div-fits binary64 (one ⊖ a) (one ⊕ a) in
        let t = above_square k (tangent_square a) (mul-fits binary64 limit over_half) F (lt limit (least_turn k)) h in
        let x = turn_reaches y k (lt→le zero_f k t.1) t.3 in
        turn_over a limit (holds s) t.2 (over_limit k (acos_by y) limit (holds s) (holds t.0) x)
    least a false s h = absurd (number_left nan (tangent_square a) (lt→le nan (tangent_square a) h))

    fine : (a : Float) (c : Bool) → lt limit fine_limit ≡ c
        → T (lt
        (cond c (square_if (lt limit (fine_turn (limit ⊗ fine_half))) (limit ⊗ fine_half))
        (cut_if (lt limit largest_limit) (square_if (lt limit (least_turn (limit ⊗ over_half))) (limit ⊗ over_half)))) (tangent_square a))
        → le (acos_of a) limit ≡ false
    fine a true s h =
        let k = limit ⊗ fine_half in
        let y = root_of (tangent_square a) in
        let F = div-fits binary64 (one ⊖ a) (one ⊕ a) in
        let t = above_square k (tangent_square a) (mul-fits binary64 limit fine_half) F (lt limit (fine_turn k)) h in
        let x = fine_over y k (lt→le zero_f k t.1) t.3 limit (holds s) (holds t.0) in
        turn_over a limit (below_largest limit (holds s)) t.2 x
    fine a false s h = least a (lt limit largest_limit) refl h
