-- Whole numbers as floats: from 2 ^ 52 to 2 ^ 53 every float is one, and a difference of two of at most 2 ^ 53 is not rounded. Assumes nothing.
use Rattle.std.proofs.Common.{◌≡◌, ℕ, suc, ◌+◌, ◌-◌, ◌*◌, ◌/◌, ◌%◌, ◌^◌, ◌<◌, ◌≤◌, Bool, true, false, cond, not, T, ltb, leb, pos, negsuc, sym, refl, ap, ◌∙◌, lt_of_lt_of_le, le_of_lt, lt_irrefl, mul-le-mul_right, mul_assoc, mul_comm, div-lt_iff_lt-mul, add-mul, mul-lt-mul_of_pos_right, mul-pos, div-add-mod', le-div_iff_mul-le, zero-mul, mul-one, le_of_mul-le-mul_right, arith, lit<, eqb→eq, ltb→lt, lt→ltb, leb→le}
use native.Mathlib.Nat.{mul-sub}
use lib.Dec.{nleb→lt, not_T}
use lib.Ieee.{Float, nan, inf, fin, binary64, up, down, minus, round, sum, add, sub, neg, lt, le, fits, of_int}
use lib.Ieee.Bits.{is_true, is_false}
use lib.Ieee.Fits.{down_pos, of_int-fits}
use lib.Ieee.Exact.{HasValue}
use lib.Ieee.Back.{round_whole, whole_unique}
use lib.Ieee.Scale.{finite, round_same}
use lib.Ieee.Positive.{den, den_pos}
use Rattle.arith_order.proofs.Signed.{plus, neg', le→, lt→}
use Rattle.arith_order.proofs.Lerp.{whole}
use Rattle.arith_order.proofs.Middle.{parts}
use Rattle.arith.specs.Notation.{◌⊖◌, count}
use Rattle.arith.proofs.Cmp.{never, holds}
use Rattle.arith.proofs.Floors.{whole_big, int_value}

-- ---- a float from 2 ^ 52 to 2 ^ 53
abbrev pub bottom : Float
bottom = fin false 1 (pos 52)

abbrev pub top : Float
top = fin false 1 (pos 53)

pub record Between (s : Float) : Type 0 where
  pub number : ℕ
  pub is : s ≡ count number
  pub value : HasValue s false number 1
  pub low : 2 ^ 52 ≤ number
  pub high : number < 2 ^ 53

exactly : (a d : ℕ) → a % d ≡ 0 → a * 1 ≡ a / d * d
exactly a d h = let q = div-add-mod' a d in omega arith

no_minus : (a d : ℕ) → 0 < d → 1 * 2 ^ 52 * d + a * 1 ≤ 0 * 1 + 0 * d → ⊥
no_minus a d D h = omega (arith, zero-mul d)

pub between : (s : Float) → T (fits binary64 s) → le bottom s ≡ true → lt s top ≡ true → Between s
between nan F a b = unfold lt in never (sym b)
between (inf true) F a b = unfold le in never (sym a)
between (inf false) F a b = unfold lt in never (sym b)
between (fin true m e) F a b = absurd (no_minus (m * up e) (down e) (down_pos e) (le→ bottom (fin true m e) tt tt (holds a)))
between (fin false m e) F a b =
    let l : 2 ^ 52 * down e ≤ m * up e = omega (arith, le→ bottom (fin false m e) tt tt (holds a), zero-mul (down e)) in
    let g : m * up e < 2 ^ 53 * down e = omega (arith, lt→ (fin false m e) top tt tt (holds b), zero-mul (down e)) in
    let q = m * up e / down e in
    let h : q < 2 ^ 53 = (div-lt_iff_lt-mul (down_pos e)).1 g in
    let r : m * up e % down e ≡ 0 = eqb→eq (m * up e % down e) 0 (holds (whole_big m e (parts binary64 false m e F).0 l)) in
    let v : HasValue (fin false m e) false q 1 = (refl, exactly (m * up e) (down e) r) in
    record {
      number = q;
      is = whole_unique binary64 (fin false m e) (count q) false q F (of_int-fits binary64 (pos q)) v (int_value q (le_of_lt h));
      value = v;
      low = (le-div_iff_mul-le (down_pos e)).1 l;
      high = h;
    }

-- ---- S - B as a float
pub gap : (S B c : ℕ) → S * c - B * c ≡ (S - B) * c
gap S B c = sym (mul_comm (S - B) c ∙ mul-sub c S B ∙ ap (λ (z : ℕ). z - c * B) (mul_comm c S) ∙ ap (λ (z : ℕ). S * c - z) (mul_comm c B))

not_ltb : (a b : ℕ) → b ≤ a → ltb a b ≡ false
not_ltb a b h = is_false (ltb a b) (not_T (ltb a b) (λ (t : T (ltb a b)). lt_irrefl a (lt_of_lt_of_le (ltb→lt a b t) h)))

module _ (S B c : ℕ) (C : 0 < c) where
  abbrev rounded : Float
  rounded = cond (ltb (S * c) (B * c)) (round binary64 true (B * c - S * c) c) (round binary64 false (S * c - B * c) c)

  above : B ≤ S → rounded ≡ of_int binary64 (pos (S - B))
  unfolding of_int
  above h =
      rw (not_ltb (S * c) (B * c) (mul-le-mul_right c h))
      (round_same binary64 false (S * c - B * c) c (S - B) 1 C (lit< tt) (mul-one (S * c - B * c) ∙ gap S B c))

  below : S < B → rounded ≡ of_int binary64 (negsuc (B - suc S))
  unfolding of_int
  below h =
      let e : (B - S) * c ≡ suc (B - suc S) * c = ap (λ (z : ℕ). z * c) (omega arith) in
      rw (is_true (ltb (S * c) (B * c)) (lt→ltb (S * c) (B * c) (mul-lt-mul_of_pos_right h C)))
      (round_same binary64 true (B * c - S * c) c (suc (B - suc S)) 1 C (lit< tt) (mul-one (B * c - S * c) ∙ gap B S c ∙ e))

  difference : rounded ≡ of_int binary64 (minus S B)
  difference = go (leb B S) (leb→le B S) (nleb→lt B S)
    where
      go : (o : Bool) → (T o → B ≤ S) → (T (not o) → S < B) → rounded ≡ of_int binary64 (cond o (pos (S - B)) (negsuc (B - suc S)))
      go true p q = above (p tt)
      go false p q = below (q tt)

scaled : (a S d c : ℕ) → a * 1 ≡ S * d → a * c ≡ S * (d * c)
scaled a S d c h = ap (λ (z : ℕ). z * c) (sym (mul-one a) ∙ h) ∙ mul_assoc S d c

pub sub_value : (x y : Float) (S B : ℕ) → HasValue x false S 1 → HasValue y false B 1 → x ⊖ y ≡ of_int binary64 (minus S B)
unfolding sub add neg sum
sub_value nan y S B v w = absurd v
sub_value (inf s) y S B v w = absurd v
sub_value (fin true m e) y S B v w = never v.0
sub_value (fin false m e) nan S B v w = absurd w
sub_value (fin false m e) (inf t) S B v w = absurd w
sub_value (fin false m e) (fin true n d) S B v w = never w.0
sub_value (fin false m e) (fin false n d) S B v w =
    let a : m * up e * down d ≡ S * (down e * down d) = scaled (m * up e) S (down e) (down d) v.1 in
    let b : n * up d * down e ≡ B * (down e * down d) =
    scaled (n * up d) B (down d) (down e) w.1 ∙ ap (λ (z : ℕ). B * z) (mul_comm (down d) (down e)) in
    rw (a, b) (difference S B (down e * down d) (mul-pos (down_pos e) (down_pos d)))

-- its parts: it is S - B
below_parts : (x : Float) (n : ℕ) → HasValue x true n 1 → T (finite x) × (plus x ≡ 0) × (neg' x ≡ n * den x)
below_parts nan n h = absurd h
below_parts (inf s) n h = absurd h
below_parts (fin false m e) n h = never (sym h.0)
below_parts (fin true m e) n h = (tt, refl, sym (mul-one (m * up e)) ∙ h.1)

abbrev pub Shifted : Float → ℕ → ℕ → Type 0
Shifted x S B = T (finite x) × (plus x + B * den x ≡ S * den x + neg' x)

pub shifted : (S B : ℕ) → S ≤ 2 ^ 53 → B ≤ 2 ^ 53 → Shifted (of_int binary64 (minus S B)) S B
unfolding of_int
shifted S B a b = go (leb B S) (leb→le B S) (nleb→lt B S)
  where
    up_to : (x : Float) (k : ℕ) → k + B ≡ S → plus x ≡ k * den x → neg' x ≡ 0 → plus x + B * den x ≡ S * den x + neg' x
    up_to x k e p n = rw (p, n, ← e, add-mul) (omega arith)

    down_to : (x : Float) (k : ℕ) → B ≡ S + k → plus x ≡ 0 → neg' x ≡ k * den x → plus x + B * den x ≡ S * den x + neg' x
    down_to x k e p n = rw (p, n, e, add-mul) (omega arith)

    go : (o : Bool) → (T o → B ≤ S) → (T (not o) → S < B) → Shifted (of_int binary64 (cond o (pos (S - B)) (negsuc (B - suc S)))) S B
    go true p q =
        let l = p tt in
        let w = whole binary64 (S - B) (omega arith) in
        (w.0, up_to (count (S - B)) (S - B) (omega arith) w.1 w.2)
    go false p q =
        let l = q tt in
        let k = B - suc S in
        let w = below_parts (round binary64 true (suc k) 1) (suc k) (round_whole binary64 true (suc k) (omega arith)) in
        (w.0, down_to (of_int binary64 (negsuc k)) (suc k) (omega arith) w.1 w.2)

-- ---- the order of two whole numbers is that of their floats
pub int_le : (i j : ℕ) → i ≤ 2 ^ 53 → j ≤ 2 ^ 53 → T (le (count i) (count j)) → i ≤ j
int_le i j a b h =
    let x = count i in
    let y = count j in
    let v = whole binary64 i a in
    let w = whole binary64 j b in
    let l = le→ x y v.0 w.0 h in
    le_of_mul-le-mul_right {k = den x * den y}
    (shape (den x) (den y) (plus x) (neg' x) (plus y) (neg' y) v.1 v.2 w.1 w.2 l) (mul-pos (den_pos x) (den_pos y))
  where
    shape : (dx dy px nx py ny : ℕ) → px ≡ i * dx → nx ≡ 0 → py ≡ j * dy → ny ≡ 0 → px * dy + ny * dx ≤ py * dx + nx * dy
        → i * (dx * dy) ≤ j * (dx * dy)
    shape dx dy px nx py ny a b c d l =
        let r = ap (λ (z : ℕ). j * z) (mul_comm dy dx) in
        omega (arith, rw (a, b, c, d) at l, zero-mul dx, zero-mul dy, mul_assoc i dx dy, mul_assoc j dy dx)
