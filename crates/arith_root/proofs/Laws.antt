-- The laws of the root that callers cite: it is monotone, so comparisons of roots are comparisons of what stands under them. Assumes nothing.
use Rattle.std.proofs.Common.{◌≡◌, ℕ, zero, suc, ◌+◌, ◌*◌, ◌^◌, ◌<◌, ◌≤◌, Bool, true, false, T, ℤ, refl, true≢false, lt_of_lt_of_le, lt_of_le_of_lt, le_of_lt, lt_irrefl, mul-le-mul_right, zero-lt-suc, add_comm, mul-pos, zero-mul, le_of_mul-le-mul_right, arith, lt→ltb, pow_pos}
use lib.Ieee.{Float, nan, inf, fin, binary64, up, down, fits, le, lt}
use lib.Ieee.Fits.{up_pos, down_pos}
use lib.Ieee.Order.{le_of_values}
use lib.Ieee.Positive.{positive, values_of_le}
use Rattle.arith_order.proofs.Signed.{P, N, zero_f, le→, le←}
use Rattle.arith_order.proofs.Laws.{number, number_left, number_right, le_trans, lt→le, lt→nle, nle→lt, lt_le_trans}
use Rattle.arith_root.specs.Root.{root_of}
use Rattle.arith_root.specs.Ieee.{Units, Nearest}
use Rattle.arith_root.proofs.Whole.{not_above}
use Rattle.arith_root.proofs.Ieee.{nearest_root}

-- ---- what is not below zero: a zero of either sign, a positive finite float, +∞
pub data Kind : Float → Type 0 where
  zeros : (s : Bool) (e : ℤ) → Kind (fin s zero e)
  above : (m : ℕ) (e : ℤ) → T (positive (fin false (suc m) e)) → Kind (fin false (suc m) e)
  top : Kind (inf false)

pub kind : (x : Float) → T (le zero_f x) → Kind x
unfolding le
kind nan h = absurd h
kind (inf true) h = absurd h
kind (inf false) h = top
kind (fin s zero e) h = zeros s e
kind (fin false (suc m) e) h = above m e (lt→ltb 0 (suc m) (zero-lt-suc m))
kind (fin true (suc m) e) h = absurd (bad (suc m * up e) (down e) (mul-pos (zero-lt-suc m) (up_pos e)) (le→ zero_f (fin true (suc m) e) tt tt h))
  where
    bad : (a d : ℕ) → 0 < a → 0 * d + a * 1 ≤ 0 * 1 + 0 * d → ⊥
    bad a d p h = omega arith

-- ---- two roots of positive floats
between_roots : (n n' : ℕ) (r r' : Float) → n ≤ n' → Nearest n r → Nearest n' r' → T (le r r')
between_roots n n' r r' h N M =
    let a = N.a in
    let b = M.a in
    le_of_values r r' a (2 ^ 1074) b (2 ^ 1074) (pow_pos 1074) (pow_pos 1074) N.value M.value
    (mul-le-mul_right (2 ^ 1074) (not_above a b (λ (k : b < a).
    lt_irrefl (n * 2 ^ 1076)
    (lt_of_le_of_lt (mul-le-mul_right (2 ^ 1076) h)
    (lt_of_lt_of_le (M.above r a N.format N.value k) (rw (add_comm b a) (le_of_lt (N.below r' b M.format M.value k))))))))

units_above_zero : (s : Bool) (e : ℤ) (v : Float) (a : ℕ) → Units v a → T (le (fin s zero e) v)
units_above_zero s e nan a u = absurd u
units_above_zero s e (inf t) a u = absurd u
units_above_zero s e (fin true m d) a u = absurd (true≢false u.0)
units_above_zero true e (fin false m d) a u = le← (fin true zero e) (fin false m d) tt tt
    (omega (arith, zero-mul (up e), zero-mul (down e), zero-mul (down d)))
units_above_zero false e (fin false m d) a u = le← (fin false zero e) (fin false m d) tt tt
    (omega (arith, zero-mul (up e), zero-mul (down e), zero-mul (down d)))

-- what has units is no NaN, and below +∞
pub units_number : (v : Float) (a : ℕ) → Units v a → T (number v)
units_number nan a u = absurd u
units_number (inf s) a u = absurd u
units_number (fin s m e) a u = tt

pub units_below : (v : Float) (a : ℕ) → Units v a → T (lt v (inf false))
unfolding lt
units_below nan a u = absurd u
units_below (inf s) a u = absurd u
units_below (fin s m e) a u = tt

units_below_top : (v : Float) (a : ℕ) → Units v a → T (le v (inf false))
units_below_top v a u = lt→le v (inf false) (units_below v a u)

not_down : (m : ℕ) (e : ℤ) (t : Bool) (d : ℤ) → T (le (fin false (suc m) e) (fin t zero d)) → ⊥
not_down m e t d h = bad t (suc m * up e) (down d) (down e) (up d) (mul-pos (mul-pos (zero-lt-suc m) (up_pos e)) (down_pos d))
    (le→ (fin false (suc m) e) (fin t zero d) tt tt h)
  where
    bad : (t : Bool) (a b c u : ℕ) → 0 < a * b → a * b + N t (0 * u) * c ≤ P t (0 * u) * c + 0 * b → ⊥
    bad true a b c u p h = omega (arith, zero-mul u, zero-mul c)
    bad false a b c u p h = omega (arith, zero-mul u, zero-mul c)

-- x ≤ y gives √x ≤ √y, for an x not below zero: -0.0 counts as 0.0
pub root_monotone : (x y : Float) → T (fits binary64 x) → T (fits binary64 y) → T (le zero_f x) → T (le x y) → T (le (root_of x) (root_of y))
root_monotone x y F G p h = go x y F G (kind x p) (kind y (le_trans zero_f x y p h)) h
  where
    go : (x y : Float) → T (fits binary64 x) → T (fits binary64 y) → Kind x → Kind y → T (le x y) → T (le (root_of x) (root_of y))
    go x y F G (zeros s e) (zeros t d) h = unfold root_of in h
    go x y F G (zeros s e) (above n d q) h = let N = (nearest_root y G q).2 in unfold root_of in units_above_zero s e (root_of y) N.a N.value
    go x y F G (zeros s e) top h = unfold root_of le in tt
    go x y F G (above m e p) (zeros t d) h = absurd (not_down m e t d h)
    go x y F G (above m e p) (above n d q) h =
        let N = nearest_root x F p in
        let M = nearest_root y G q in
        between_roots N.0 M.0 (root_of x) (root_of y)
        (le_of_mul-le-mul_right (values_of_le x y N.0 (2 ^ 1074) M.0 (2 ^ 1074) p q N.1 M.1 h) (pow_pos 1074)) N.2 M.2
    go x y F G (above m e p) top h = let N = (nearest_root x F p).2 in unfold root_of in units_below_top (root_of x) N.a N.value
    go x y F G top (zeros t d) h = absurd (unfold le in h)
    go x y F G top (above n d q) h = absurd (unfold le in h)
    go x y F G top top h = unfold root_of in h

-- a root is a float of the format too
pub root_fits : (x : Float) → T (fits binary64 x) → T (fits binary64 (root_of x))
root_fits nan F = unfold root_of in F
root_fits (inf true) F = unfold root_of fits in tt
root_fits (inf false) F = unfold root_of in F
root_fits (fin s zero e) F = unfold root_of in F
root_fits (fin true (suc m) e) F = unfold root_of fits in tt
root_fits (fin false (suc m) e) F = (nearest_root (fin false (suc m) e) F (lt→ltb 0 (suc m) (zero-lt-suc m))).2.format

pub root_zero : root_of zero_f ≡ zero_f
unfolding root_of
root_zero = refl

-- what has a root is not below zero
pub rooted : (x : Float) → T (number (root_of x)) → T (le zero_f x)
unfolding root_of le
rooted nan h = absurd h
rooted (inf true) h = absurd h
rooted (inf false) h = tt
rooted (fin true zero e) h = le← zero_f (fin true zero e) tt tt (omega (arith, zero-mul (up e), zero-mul (down e)))
rooted (fin false zero e) h = le← zero_f (fin false zero e) tt tt (omega (arith, zero-mul (up e), zero-mul (down e)))
rooted (fin true (suc m) e) h = absurd h
rooted (fin false (suc m) e) h = le← zero_f (fin false (suc m) e) tt tt (omega (arith, zero-mul (down e)))

-- √x < √y gives x < y, whatever x and y are
pub root_reflects : (x y : Float) → T (fits binary64 x) → T (fits binary64 y) → T (lt (root_of x) (root_of y)) → T (lt x y)
root_reflects x y F G h =
    let p = rooted x (number_left (root_of x) (root_of y) (lt→le (root_of x) (root_of y) h)) in
    let q = rooted y (number_right (root_of x) (root_of y) (lt→le (root_of x) (root_of y) h)) in
    nle→lt x y (number_right zero_f x p) (number_right zero_f y q) (λ (k : T (le y x)). lt→nle (root_of x) (root_of y) h (root_monotone y x G F q k))

-- ---- a cut-off: c < √up, so that √s is above c wherever s is not below up
pub root_over : (s up c : Float) → T (fits binary64 s) → T (fits binary64 up) → T (lt c (root_of up)) → T (le up s) → T (lt c (root_of s))
root_over s up c F G h k = lt_le_trans c (root_of up) (root_of s) h
    (root_monotone up s G F (rooted up (number_right c (root_of up) (lt→le c (root_of up) h))) k)
