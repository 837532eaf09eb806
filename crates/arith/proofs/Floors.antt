-- The floor of a float, from its size without its fraction. Assumes nothing.
use Rattle.std.proofs.Common.{◌≡◌, ℕ, suc, ◌+◌, ◌*◌, ◌/◌, ◌%◌, ◌^◌, ◌<◌, ◌≤◌, Bool, true, false, cond, T, eqb, ℤ, pos, negsuc, sym, refl, ap, ◌∙◌, subst, le_trans, le_of_lt, lt_irrefl, pow-suc, div-add-mod', mul-one, mul_right_comm, add-one, arith, lit≤, le→leb, eqb→eq, pow_pos, eq-eqb, ne_eqb}
use native.Mathlib.Nat.{zero-mod, eq_of_mul-eq-mul_right}
use lib.Ieee.{Float, nan, inf, fin, binary64, up, down, round, neg, lt, eq, fits, of_int, to_unsigned, in_float}
use lib.Ieee.Fits.{down_pos, and_l}
use lib.Ieee.Exact.{HasValue}
use lib.Ieee.Back.{round_whole}
use Rattle.arith_order.proofs.Rounds.{round_neg}
use Rattle.arith_order.proofs.Middle.{parts}
use Rattle.arith.specs.Floor.{floor_of}
use Rattle.arith.specs.Pick.{abs_of}
use Rattle.arith.proofs.Cmp.{zero_f, never, holds, not_below, not_minus, minus_zero}
use Rattle.arith.proofs.Casts.{cut_small, cut_is}

abbrev pub high : Float
high = fin false 1 (pos 52)

-- ---- what `floor_of` picks
abbrev next : Bool → ℕ → ℤ
next s q = cond s (negsuc q) (pos q)

pub picked : (s : Bool) (m : ℕ) (e : ℤ) → eqb (m * up e % down e) 0 ≡ false → floor_of (fin s m e) ≡ of_int binary64 (next s (m * up e / down e))
unfolding floor_of
picked s m e p = ap (λ (o : Bool). cond o (fin s m e) (of_int binary64 (next s (m * up e / down e)))) p

pub kept : (s : Bool) (m : ℕ) (e : ℤ) → eqb (m * up e % down e) 0 ≡ true → fin s m e ≡ floor_of (fin s m e)
unfolding floor_of
kept s m e p = sym (ap (λ (o : Bool). cond o (fin s m e) (of_int binary64 (next s (m * up e / down e)))) p)

-- ---- the whole part q of a / d: q * d is a where d divides a, and only there
no_rest : (a d : ℕ) → a / d * d ≡ a → eqb (a % d) 0 ≡ true
no_rest a d h = let r = div-add-mod' a d in eq-eqb (a % d) 0 (omega arith)

some_rest : (a d : ℕ) → (a / d * d ≡ a → ⊥) → eqb (a % d) 0 ≡ false
some_rest a d h = ne_eqb (a % d) 0 (λ (z : a % d ≡ 0). h (back z))
  where
    back : a % d ≡ 0 → a / d * d ≡ a
    back z = let r = div-add-mod' a d in omega arith

pub part : (a d u : ℕ) → a / d ≡ u → u * d < a → eqb (a % d) 0 ≡ false
part a d u q h = some_rest a d (λ (z : a / d * d ≡ a). lt_irrefl a (subst (λ (w : ℕ). w < a) (ap (λ (w : ℕ). w * d) (sym q) ∙ z) h))

-- ---- the test of the float of a whole number q against a / d
swap : (u q d c : ℕ) → u * 1 ≡ q * d → u * c ≡ q * c * d
swap u q d c h = ap (λ (z : ℕ). z * c) (sym (mul-one u) ∙ h) ∙ mul_right_comm q d c

at_number : (f : Float) (q m : ℕ) (e : ℤ) → HasValue f false q 1 → eq f (fin false m e) ≡ true → q * down e ≡ m * up e
unfolding eq
at_number nan q m e v h = absurd v
at_number (inf s) q m e v h = absurd v
at_number (fin true n d) q m e v h = never v.0
at_number (fin false n d) q m e v h =
    let A = n * up d * down e in
    let B = m * up e * down d in
    eq_of_mul-eq-mul_right (down d) (down_pos d) (q * down e) (m * up e)
    (sym (swap (n * up d) q (down d) (down e) v.1) ∙ eqb→eq A B (and_l (eqb A B) true (holds h)))

off_number : (f : Float) (q m : ℕ) (e : ℤ) → HasValue f false q 1 → eq f (fin false m e) ≡ false → q * down e ≡ m * up e → ⊥
unfolding eq
off_number nan q m e v h z = absurd v
off_number (inf s) q m e v h z = absurd v
off_number (fin true n d) q m e v h z = never v.0
off_number (fin false n d) q m e v h z =
    let A = n * up d * down e in
    let B = m * up e * down d in
    let same : A ≡ B = swap (n * up d) q (down d) (down e) v.1 ∙ ap (λ (w : ℕ). w * down d) z in
    never (sym (rw (eq-eqb A B same)) ∙ h)

pub int_value : (n : ℕ) → n ≤ 2 ^ 53 → HasValue (of_int binary64 (pos n)) false n 1
unfolding of_int
int_value n h = round_whole binary64 false n h

below_int : (q : ℕ) → of_int binary64 (negsuc q) ≡ neg (of_int binary64 (pos (q + 1)))
unfolding of_int
below_int q = round_neg binary64 (suc q) 1 ∙ ap (λ (n : ℕ). neg (round binary64 false n 1)) (sym (add-one q))

-- ---- |x| below 2 ^ 52: u is |x| without its fraction
abbrev cut_of : Float → ℕ
cut_of x = to_unsigned 64 (abs_of x)

K : 2 ^ 52 ≤ 2 ^ 64
K = lit≤ tt

small_cut : (x : Float) → lt (abs_of x) high ≡ true → cut_of x < 2 ^ 52
small_cut nan h = unfold lt in never (sym h)
small_cut (inf s) h = unfold lt in never (sym h)
small_cut (fin s m e) h = rw (cut_is 52 K s m e h) (cut_small 52 K s m e h)

module _ (s : Bool) (m : ℕ) (e : ℤ) (h : lt (abs_of (fin s m e)) high ≡ true) where
  value : HasValue (of_int binary64 (pos (cut_of (fin s m e)))) false (cut_of (fin s m e)) 1
  value = int_value (cut_of (fin s m e)) (le_trans (le_of_lt (small_cut (fin s m e) h)) (lit≤ tt))

  is_whole : eq (of_int binary64 (pos (cut_of (fin s m e)))) (abs_of (fin s m e)) ≡ true → eqb (m * up e % down e) 0 ≡ true
  is_whole k =
      no_rest (m * up e) (down e)
      (ap (λ (q : ℕ). q * down e) (sym (cut_is 52 K s m e h)) ∙ at_number (of_int binary64 (pos (cut_of (fin s m e)))) (cut_of (fin s m e)) m e value k)

  not_whole : eq (of_int binary64 (pos (cut_of (fin s m e)))) (abs_of (fin s m e)) ≡ false → eqb (m * up e % down e) 0 ≡ false
  not_whole k =
      some_rest (m * up e) (down e)
      (λ (z : m * up e / down e * down e ≡ m * up e).
      off_number (of_int binary64 (pos (cut_of (fin s m e)))) (cut_of (fin s m e)) m e value k
      (ap (λ (q : ℕ). q * down e) (cut_is 52 K s m e h) ∙ z))

abbrev cut_float : Float → Float
cut_float x = of_int binary64 (pos (cut_of x))

cut_whole : (x : Float) → lt (abs_of x) high ≡ true → eq (cut_float x) (abs_of x) ≡ true → x ≡ floor_of x
cut_whole nan h k = unfold lt in never (sym h)
cut_whole (inf s) h k = unfold lt in never (sym h)
cut_whole (fin s m e) h k = kept s m e (is_whole s m e h k)

cut_below : (x : Float) → lt (abs_of x) high ≡ true → eq (cut_float x) (abs_of x) ≡ false → lt x zero_f ≡ true
    → neg (of_int binary64 (pos (cut_of x + 1))) ≡ floor_of x
cut_below nan h k l = unfold lt in never (sym h)
cut_below (inf s) h k l = unfold lt in never (sym h)
cut_below (fin false m e) h k l = absurd (not_minus m e l)
cut_below (fin true m e) h k l =
    ap (λ (n : ℕ). neg (of_int binary64 (pos (n + 1)))) (cut_is 52 K true m e h)
    ∙ sym (below_int (m * up e / down e))
    ∙ sym (picked true m e (not_whole true m e h k))

cut_above : (x : Float) → lt (abs_of x) high ≡ true → eq (cut_float x) (abs_of x) ≡ false → lt x zero_f ≡ false → cut_float x ≡ floor_of x
cut_above nan h k l = unfold lt in never (sym h)
cut_above (inf s) h k l = unfold lt in never (sym h)
cut_above (fin false m e) h k l = ap (λ (n : ℕ). of_int binary64 (pos n)) (cut_is 52 K false m e h) ∙ sym (picked false m e (not_whole false m e h k))
cut_above (fin true m e) h k l =
    never (sym (ap (λ (a : ℕ). eqb (a % down e) 0) (minus_zero m e l) ∙ eq-eqb (0 % down e) 0 (zero-mod (down e))) ∙ not_whole true m e h k)

-- the same, with |x| and its whole part as the function has them
pub record Cut (x a : Float) (n : ℕ) : Type 0 where
  pub size : a ≡ abs_of x
  pub cut : n ≡ to_unsigned 64 a
  pub small : lt a high ≡ true

module _ {x a : Float} {n : ℕ} (c : Cut x a n) where
  pub far_small : n < 2 ^ 52
  far_small = rw (c.cut, c.size) (small_cut x (rw c.size at c.small))

  pub far_whole : eq (of_int binary64 (pos n)) a ≡ true → x ≡ floor_of x
  far_whole k = cut_whole x (rw c.size at c.small) (rw (c.cut, c.size) at k)

  pub far_below : eq (of_int binary64 (pos n)) a ≡ false → lt x zero_f ≡ true → neg (of_int binary64 (pos (n + 1))) ≡ floor_of x
  far_below k l = rw (c.cut, c.size) (cut_below x (rw c.size at c.small) (rw (c.cut, c.size) at k) l)

  pub far_above : eq (of_int binary64 (pos n)) a ≡ false → lt x zero_f ≡ false → of_int binary64 (pos n) ≡ floor_of x
  far_above k l = rw (c.cut, c.size) (cut_above x (rw c.size at c.small) (rw (c.cut, c.size) at k) l)

pub as_float : (n : ℕ) → n ≤ 2 ^ 53 → T (in_float binary64 (pos n))
unfolding in_float
as_float n h = le→leb n (2 ^ 53) h

-- ---- from 2 ^ 52 on every float is whole
pub whole_big : (m : ℕ) (e : ℤ) → m < 2 ^ 53 → 2 ^ 52 * down e ≤ m * up e → eqb (m * up e % down e) 0 ≡ true
whole_big m (pos k) h l = eq-eqb (m * 2 ^ k % 1) 0 (omega arith)
whole_big m (negsuc k) h l = absurd (bad (2 ^ k) (pow_pos k) (subst (λ (x : ℕ). 2 ^ 52 * x ≤ m * 1) (pow-suc 2 k) l))
  where
    bad : (w : ℕ) → 0 < w → 2 ^ 52 * (w * 2) ≤ m * 1 → ⊥
    bad w p q = omega arith

pub far_big : (x : Float) → T (fits binary64 x) → lt (abs_of x) high ≡ false → x ≡ floor_of x
far_big nan F h = unfold floor_of in refl
far_big (inf s) F h = unfold floor_of in refl
far_big (fin s m e) F h = kept s m e (whole_big m e (parts binary64 s m e F).0 (unfold lt in omega (arith, not_below (m * up e * 1) (1 * 2 ^ 52 * down e) h)))
