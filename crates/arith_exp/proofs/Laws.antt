-- 2^k is exact, k is small where t is, and the constants are their decimals: what specs/Claims.antt claims. Assumes nothing.
use mathlib.Core.Path.{◌≡◌, refl, sym, ap, subst, ◌∙◌}
use mathlib.Core.Bool.{Bool, true, false}
use Prim.Native.Nat.{ℕ, ◌+◌, ◌-◌, ◌*◌, ◌/◌, ◌%◌, ◌^◌, ◌<◌, ◌≤◌}
use native.Mathlib.Nat.{zero-mul, mul-one, mul-pos, mul_assoc, mul_right_comm, add-mul, div-add-mod', div-lt_iff_lt-mul, le_of_eq}
use native.Mathlib.Omega.{arith}
use lib.IntN.{ℤ, pos, negsuc}
use lib.Dec.{T, eqb, eqb→eq, le→leb, lit<, lit≤}
use lib.Ieee.{Float, nan, inf, fin, binary64, up, down, minus, round, add, mul, neg, le, eq, of_int, of_bits, to_unsigned, in_float}
use lib.Ieee.Back.{unsigned_back}
use lib.Ieee.Bits.{is_true}
use lib.Ieee.Fits.{down_pos}
use lib.Ieee.Scale.{finite, round_same}
use lib.Ieee.Positive.{den, den_pos}
use borrow.Author.Tests.{le-leb, lt-leb}
use Rattle.arith_order.proofs.Signed.{plus, neg', le→, le←, le_trans, antisym}
use Rattle.arith_order.proofs.Rounds.{Rounds, add_rounds}
use Rattle.arith_order.proofs.Mono.{add_mono, mul_mono}
use Rattle.arith_order.proofs.Middle.{between}
use Rattle.arith_order.proofs.Lerp.{whole}
use Rattle.arith.specs.Floor.{floor_of}
use Rattle.arith.specs.Notation.{◌⊕◌, ◌⊗◌, count, half}
use Rattle.arith.proofs.Cmp.{holds}
use Rattle.arith.proofs.Floors.{picked, kept}
use Rattle.arith.proofs.Whole.{Shifted, shifted}
use Rattle.arith_exp.specs.Exp.{per_doubling, doublings, power_of_two}
use Rattle.arith_exp.specs.Claims.{PowerExact, PowerInRange, Decimals}
use Rattle.arith_exp.proofs.Field.{below, exact}

-- ---- a float x that is n - 1023: x + 1023 is the float of n
-- what rounds (p - m) / c is the float of n, where that fraction is n
rounds_whole : (z : Float) (n p m c : ℕ) → 0 < n → 0 < c → p ≡ n * c + m → Rounds binary64 z p m c → z ≡ count n
unfolding of_int
rounds_whole z n p m c h C e (false, a, is, v) = is ∙ round_same binary64 false a c n 1 C (lit< tt) (mul-one a ∙ omega arith)
rounds_whole z n p m c h C e (true, a, is, v) = absurd (omega (arith, mul-pos h C))

-- x = n - b, with the parts px, nx and dx, and y = b, with py, ny and dy: their sum is n
adds : (b n px nx dx py ny dy : ℕ) → px + b * dx ≡ n * dx + nx → py ≡ b * dy → ny ≡ 0
    → px * dy + py * dx ≡ n * (dx * dy) + (nx * dy + ny * dx)
adds b n px nx dx py ny dy h p q =
    let e = simp add-mul at (ap (λ (z : ℕ). z * dy) h) in
    rw (p, q) (omega (arith, zero-mul dx, mul_assoc n dx dy, mul_right_comm b dx dy))

-- and the float of n is n as a whole number
cut : (n : ℕ) → n ≤ 2 ^ 53 → to_unsigned 64 (count n) ≡ n
unfolding in_float
cut n h = (unsigned_back binary64 64 n (le→leb n (2 ^ 53) h) (omega arith)).1

module _ (x : Float) (n : ℕ) (h : 0 < n) (v : Shifted x n 1023) where
  field : x ⊕ count 1023 ≡ count n
  field =
      let y = count 1023 in
      let w = whole binary64 1023 (lit≤ tt) in
      rounds_whole (x ⊕ y) n (plus x * den y + plus y * den x) (neg' x * den y + neg' y * den x) (den x * den y) h (mul-pos (den_pos x) (den_pos y))
      (adds 1023 n (plus x) (neg' x) (den x) (plus y) (neg' y) (den y) v.1 w.1 w.2) (add_rounds binary64 x y v.0 w.0)

  -- so the power of x is 2^(n - 1023)
  power_at : n < 2047 → power_of_two x ≡ fin false 1 (minus n 1023)
  power_at k = sym (below x n (sym (ap (to_unsigned 64) field ∙ cut n (omega arith))) k) ∙ exact n h k

pub power_exact : PowerExact
power_exact n h k = power_at (of_int binary64 (minus n 1023)) n h (shifted n 1023 (omega arith) (lit≤ tt)) k

-- ---- two floats that are n - b are equal
same_law : (b n px nx dx py ny dy : ℕ) → px + b * dx ≡ n * dx + nx → py + b * dy ≡ n * dy + ny → px * dy + ny * dx ≡ py * dx + nx * dy
same_law b n px nx dx py ny dy h k =
    let e = simp add-mul at (ap (λ (z : ℕ). z * dy) h) in
    let g = simp add-mul at (ap (λ (z : ℕ). z * dx) k) in
    omega (arith, mul_right_comm b dx dy, mul_right_comm n dx dy)

same : (x y : Float) (n b : ℕ) → Shifted x n b → Shifted y n b → T (eq x y)
same x y n b v w =
    antisym x y
    (le← x y v.0 w.0 (le_of_eq (same_law b n (plus x) (neg' x) (den x) (plus y) (neg' y) (den y) v.1 w.1)))
    (le← y x w.0 v.0 (le_of_eq (same_law b n (plus y) (neg' y) (den y) (plus x) (neg' x) (den x) w.1 v.1)))

-- ---- the floor of a float from -144 to 145
abbrev low_f : Float
low_f = fin true 144 (pos 0)

abbrev high_f : Float
high_f = fin false 145 (pos 0)

abbrev Small : Float → Type 0
Small x = (n : ℕ) × (878 ≤ n) × (n ≤ 1168) × Shifted x n 1023

-- the float of q, and of -(q + 1)
up_small : (q : ℕ) → q < 146 → Small (of_int binary64 (pos q))
up_small q h =
    let n = q + 1023 in
    let is : minus n 1023 ≡ pos q = rw (le-leb 1023 n (omega arith)) (ap pos (omega arith)) in
    (n, omega arith, omega arith, subst (λ (z : ℤ). Shifted (of_int binary64 z) n 1023) is (shifted n 1023 (omega arith) (lit≤ tt)))

down_small : (q : ℕ) → q < 145 → Small (of_int binary64 (negsuc q))
down_small q h =
    let n = 1022 - q in
    let is : minus n 1023 ≡ negsuc q = rw (lt-leb 1023 n (omega arith)) (ap negsuc (omega arith)) in
    (n, omega arith, omega arith, subst (λ (z : ℤ). Shifted (of_int binary64 z) n 1023) is (shifted n 1023 (omega arith) (lit≤ tt)))

-- a / d where d divides a, with either sign
divides : (a d : ℕ) → eqb (a % d) 0 ≡ true → a ≡ a / d * d
divides a d h = let r = div-add-mod' a d in omega (arith, eqb→eq (a % d) 0 (holds h))

up_whole : (m : ℕ) (e : ℤ) (q : ℕ) → q < 146 → m * up e ≡ q * down e → Small (fin false m e)
up_whole m e q h k = (q + 1023, omega arith, omega arith, (tt, omega (arith, add-mul q 1023 (down e))))

down_whole : (m : ℕ) (e : ℤ) (q : ℕ) → q < 145 → m * up e ≡ q * down e → Small (fin true m e)
down_whole m e q h k =
    let n = 1023 - q in
    let s : (n + q) * down e ≡ 1023 * down e = ap (λ (z : ℕ). z * down e) (omega arith) in
    (n, omega arith, omega arith, (tt, omega (arith, add-mul n q (down e))))

floor_small : (u : Float) → T (le low_f u) → T (le u high_f) → Small (floor_of u)
floor_small nan l h = absurd (unfold le in l)
floor_small (inf true) l h = absurd (unfold le in l)
floor_small (inf false) l h = absurd (unfold le in h)
floor_small (fin false m e) l h = go (eqb (m * up e % down e) 0) refl
  where
    most : m * up e / down e < 146
    most = (div-lt_iff_lt-mul (down_pos e)).1 (omega (arith, le→ (fin false m e) high_f tt tt h, down_pos e, zero-mul (down e)))

    go : (o : Bool) → eqb (m * up e % down e) 0 ≡ o → Small (floor_of (fin false m e))
    go true p = subst Small (kept false m e p) (up_whole m e (m * up e / down e) most (divides (m * up e) (down e) p))
    go false p = subst Small (sym (picked false m e p)) (up_small (m * up e / down e) most)
floor_small (fin true m e) l h = go (eqb (m * up e % down e) 0) refl
  where
    most : m * up e / down e < 145
    most = (div-lt_iff_lt-mul (down_pos e)).1 (omega (arith, le→ low_f (fin true m e) tt tt l, down_pos e, zero-mul (down e)))

    go : (o : Bool) → eqb (m * up e % down e) 0 ≡ o → Small (floor_of (fin true m e))
    go true p = subst Small (kept true m e p) (down_whole m e (m * up e / down e) most (divides (m * up e) (down e) p))
    go false p = subst Small (sym (picked true m e p)) (down_small (m * up e / down e) most)

-- ---- t from -100 to 100: t / ln 2 + 1/2 is such a float
abbrev Finite : Float → Type 0
Finite t = T (finite t) × T (finite (t ⊗ per_doubling))

ends : Finite (neg (count 100)) × Finite (count 100)
    × T (le low_f (neg (count 100) ⊗ per_doubling ⊕ half)) × T (le (count 100 ⊗ per_doubling ⊕ half) high_f)
    × T (finite per_doubling) × T (le (fin false 0 (pos 0)) per_doubling) × T (finite half)
unfolding le add mul neg of_int of_bits
ends = ((tt, tt), (tt, tt), tt, tt, tt, tt, tt)

scaled_small : (t : Float) → T (le (neg (count 100)) t) → T (le t (count 100)) → Small (doublings t)
scaled_small t l h =
    let x = neg (count 100) in
    let y = count 100 in
    let c = per_doubling in
    let (a, b, low, high, C, positive, H) = ends in
    let f = between x t y a.0 b.0 l h in
    let l1 = mul_mono binary64 x t c a.0 f C positive l in
    let h1 = mul_mono binary64 t y c f b.0 C positive h in
    let g = between (x ⊗ c) (t ⊗ c) (y ⊗ c) a.1 b.1 l1 h1 in
    floor_small (t ⊗ c ⊕ half)
    (le_trans low_f (x ⊗ c ⊕ half) (t ⊗ c ⊕ half) low (add_mono binary64 (x ⊗ c) (t ⊗ c) half a.1 g H l1))
    (le_trans (t ⊗ c ⊕ half) (y ⊗ c ⊕ half) high_f (add_mono binary64 (t ⊗ c) (y ⊗ c) half g b.1 H h1) high)

pub power_in_range : PowerInRange
power_in_range t l h =
    let (n, low, high, v) = scaled_small t (holds l) (holds h) in
    let k = doublings t in
    let z = of_int binary64 (minus n 1023) in
    record {
      n = n;
      low = low;
      high = high;
      is_whole = is_true (eq k z) (same k z n 1023 v (shifted n 1023 (omega arith) (lit≤ tt)));
      is_exact = power_at k n (omega arith) v (omega arith);
    }

-- ---- the constants
pub decimals : Decimals
unfolding round of_bits
decimals = record { is_per_doubling = refl; is_ln2_high = refl; is_ln2_low = refl }
