-- Products with one, and with a factor of the other sign. Assumes nothing.
use Rattle.std.proofs.Common.{◌≡◌, ℕ, zero, suc, ◌*◌, ◌<◌, Bool, true, false, cond, not, ◌||◌, T, eqb, ℤ, sym, refl, ap, ◌∙◌, subst, inl, inr, lt_irrefl, zero-lt-suc, mul-pos, one-mul, zero-mul, mul-one, lit<, lit≤}
use mathlib.Core.Bool.{beq}
use lib.Ieee.{Float, nan, inf, fin, binary64, up, down, unlike, round, neg, mul, eq, fits, of_bits}
use lib.Ieee.Fits.{up_pos, down_pos, round-fits, and_i, eq→eqb}
use lib.Ieee.Exact.{HasValue}
use lib.Ieee.Back.{round_whole, whole_unique}
use lib.Ieee.Scale.{round_same}
use Rattle.arith_order.proofs.Equal.{eq→same}
use Rattle.arith_order.proofs.Middle.{parts, scaled}
use Rattle.arith_order.proofs.Rounds.{round_neg}
use Rattle.arith.specs.Notation.{◌⊗◌, one}

-- ---- a factor of the other sign turns the product's
neg_neg : (x : Float) → neg (neg x) ≡ x
unfolding neg
neg_neg nan = refl
neg_neg (inf true) = refl
neg_neg (inf false) = refl
neg_neg (fin true m e) = refl
neg_neg (fin false m e) = refl

turned : (s t : Bool) (a c : ℕ) → round binary64 (unlike (not s) t) a c ≡ neg (round binary64 (unlike s t) a c)
turned false false a c = round_neg binary64 a c
turned true true a c = round_neg binary64 a c
turned false true a c = sym (ap neg (round_neg binary64 a c) ∙ neg_neg (round binary64 false a c))
turned true false a c = sym (ap neg (round_neg binary64 a c) ∙ neg_neg (round binary64 false a c))

turned_inf : (s t : Bool) → inf (unlike (not s) t) ≡ neg (inf (unlike s t))
unfolding neg
turned_inf true true = refl
turned_inf true false = refl
turned_inf false true = refl
turned_inf false false = refl

turned_cond : (b s t : Bool) → cond b nan (inf (unlike (not s) t)) ≡ neg (cond b nan (inf (unlike s t)))
unfolding neg
turned_cond true s t = refl
turned_cond false s t = turned_inf s t

pub times_neg : (x y : Float) → neg x ⊗ y ≡ neg (x ⊗ y)
unfolding mul neg
times_neg nan y = refl
times_neg (inf s) nan = refl
times_neg (inf s) (inf t) = turned_inf s t
times_neg (inf s) (fin t n d) = turned_cond (eqb n 0) s t
times_neg (fin s m e) nan = refl
times_neg (fin s m e) (inf t) = turned_cond (eqb m 0) s t
times_neg (fin s m e) (fin t n d) = turned s t (m * up e * (n * up d)) (down e * down d)

-- ---- a float of the format is not moved by rounding
same_sign : (s t : Bool) (b : Bool) → t ≡ s → T (beq t s || b)
same_sign true t b h = subst (λ (u : Bool). T (beq u true || b)) (sym h) tt
same_sign false t b h = subst (λ (u : Bool). T (beq u false || b)) (sym h) tt

same_value : (y : Float) (s : Bool) (m : ℕ) (e : ℤ) → T (fits binary64 y) → T (fits binary64 (fin s (suc m) e))
    → HasValue y s (suc m * up e) (down e) → y ≡ fin s (suc m) e
unfolding eq
same_value nan s m e F G v = absurd v
same_value (inf t) s m e F G v = absurd v
same_value (fin t n d) s m e F G v =
    let a = n * up d * down e in
    let b = suc m * up e * down d in
    elim (eq→same binary64 (fin t n d) (fin s (suc m) e) F G (and_i (eqb a b) (beq t s || eqb a 0) (eq→eqb v.1) (same_sign s t (eqb a 0) v.0))) [
      | inl p ↦ p
      | inr z ↦ absurd (lt_irrefl 0 (subst (λ (w : ℕ). 0 < w) (sym v.1 ∙ z) (mul-pos (mul-pos (zero-lt-suc m) (up_pos e)) (down_pos d))))
    ]

unmoved : (s : Bool) (m : ℕ) (e : ℤ) → T (fits binary64 (fin s m e)) → round binary64 s (m * up e) (down e) ≡ fin s m e
unmoved s zero e F =
    let z : zero * up e * 1 ≡ 0 * down e = mul-one (zero * up e) ∙ zero-mul (up e) ∙ sym (zero-mul (down e)) in
    round_same binary64 s (zero * up e) (down e) 0 1 (down_pos e) (lit< tt) z
    ∙ whole_unique binary64 (round binary64 s 0 1) (fin s zero e) s 0 (round-fits binary64 s 0 1) F (round_whole binary64 s 0 (lit≤ tt)) (refl, z)
unmoved s (suc m) e F =
    let q = parts binary64 s (suc m) e F in
    let w = mul-one (suc m * up e) in
    same_value (round binary64 s (suc m * up e) (down e)) s m e (round-fits binary64 s (suc m * up e) (down e)) F
    (rw w at (scaled binary64 s (suc m) e 0 q.0 q.1 (rw w q.2)))

pub one_times : (x : Float) → T (fits binary64 x) → one ⊗ x ≡ x
unfolding mul of_bits
one_times nan F = refl
one_times (inf true) F = refl
one_times (inf false) F = refl
one_times (fin true m e) F = rw (one-mul (m * up e), one-mul (down e)) (unmoved true m e F)
one_times (fin false m e) F = rw (one-mul (m * up e), one-mul (down e)) (unmoved false m e F)
