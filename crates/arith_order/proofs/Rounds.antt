-- Rounding keeps the order, for both signs, overflow and subnormal results included; and what each operation on finite floats rounds.
-- Assumes nothing.
use mathlib.Core.Path.{◌≡◌, refl, sym, ap, ◌∙◌, subst}
use mathlib.Core.Logic.{inl, inr}
use Prim.Native.Nat.{ℕ, zero, suc, ◌+◌, ◌-◌, ◌*◌, ◌^◌, ◌≤◌, ◌<◌}
use native.Mathlib.Nat.{zero-mul, eq-zero-or-pos, le_of_eq, lt_irrefl, lt_of_lt_of_le, mul-pos, mul_comm, add-mul, add_comm}
use native.Mathlib.Omega.{arith}
use mathlib.Core.Bool.{Bool, true, false, true≢false, not, cond}
use lib.Dec.{T, ltb, eqb, ltb→lt, nltb→le, eqb-suc-zero}
use lib.Pow.{pow_pos}
use lib.Ieee.{Float, nan, inf, fin, Format, prec, emax, low, up, down, unlike, odd, units, round, neg, sum, add, sub, mul, div, le}
use lib.Ieee.Fits.{round_is}
use lib.Ieee.Exact.{HasValue, round_exact}
use lib.Ieee.Order.{round_mono, kept, drop}
use lib.Ieee.Scale.{finite}
use lib.Ieee.Positive.{den}
use Rattle.arith_order.proofs.Signed.{P, N, P-mul, N-mul, plus, neg', le←, neg_le, neg_plus, neg_minus}

-- ---- `round` with the sign set is the negation of `round` without
odd_neg : (d q k l : ℕ) → odd d true q k l ≡ neg (odd d false q k l)
unfolding odd neg
odd_neg d zero k l = refl
odd_neg d (suc q) k l = refl

cond_neg : (b : Bool) (x y : Float) → y ≡ neg x → cond b y (inf true) ≡ neg (cond b x (inf false))
unfolding neg
cond_neg true x y h = h
cond_neg false x y h = refl

units_neg : (f : Format) (q k : ℕ) → units f true q k ≡ neg (units f false q k)
unfolding units
units_neg f q k = cond_neg (ltb (q * 2 ^ k) (2 ^ (low f + suc (emax f)))) (odd (suc (prec f)) false q k (low f))
    (odd (suc (prec f)) true q k (low f)) (odd_neg (suc (prec f)) q k (low f))

pub round_neg : (f : Format) (a c : ℕ) → round f true a c ≡ neg (round f false a c)
round_neg f a c = round_is f true a c ∙ units_neg f (kept (prec f) (a * 2 ^ low f) c) (drop (prec f) (a * 2 ^ low f) c)
    ∙ ap neg (sym (round_is f false a c))

-- ---- what `round f false` gives has no sign
abbrev Plain : Float → Type 0
Plain nan = ⊥
Plain (inf s) = s ≡ false
Plain (fin s m e) = s ≡ false

odd_plain : (d q k l : ℕ) → Plain (odd d false q k l)
unfolding odd
odd_plain d zero k l = refl
odd_plain d (suc q) k l = refl

cond_plain : (b : Bool) (x : Float) → Plain x → Plain (cond b x (inf false))
cond_plain true x h = h
cond_plain false x h = refl

units_plain : (f : Format) (q k : ℕ) → Plain (units f false q k)
unfolding units
units_plain f q k = cond_plain (ltb (q * 2 ^ k) (2 ^ (low f + suc (emax f)))) (odd (suc (prec f)) false q k (low f))
    (odd_plain (suc (prec f)) q k (low f))

round_plain : (f : Format) (a c : ℕ) → Plain (round f false a c)
round_plain f a c = subst Plain (sym (round_is f false a c)) (units_plain f (kept (prec f) (a * 2 ^ low f) c) (drop (prec f) (a * 2 ^ low f) c))

across : (x y : Float) → Plain x → Plain y → T (le (neg x) y)
unfolding neg le
across nan y p q = absurd p
across (inf true) y p q = absurd (true≢false p)
across (inf false) nan p q = absurd q
across (inf false) (inf true) p q = absurd (true≢false q)
across (inf false) (inf false) p q = tt
across (inf false) (fin t n d) p q = tt
across (fin s m e) nan p q = absurd q
across (fin s m e) (inf true) p q = absurd (true≢false q)
across (fin s m e) (inf false) p q = tt
across (fin true m e) (fin t n d) p q = absurd (true≢false p)
across (fin false m e) (fin true n d) p q = absurd (true≢false q)
across (fin false m e) (fin false n d) p q = le← (fin true m e) (fin false n d) tt tt (omega (arith, zero-mul (down d), zero-mul (down e)))

-- ---- zero, whatever its sign
zero_value : (f : Format) (s : Bool) (c : ℕ) → 0 < c → HasValue (round f s 0 c) s 0 c
zero_value f s c C = round_exact f s 0 c 0 0 C (pow_pos (prec f)) (pow_pos (low f + suc (emax f))) (zero-mul (2 ^ low f) ∙ sym (zero-mul c))

at_zero : (x y : Float) (c c' : ℕ) → 0 < c → 0 < c' → HasValue x false 0 c → HasValue y true 0 c' → T (le x y)
at_zero nan y c c' C C' p q = absurd p
at_zero (inf s) y c c' C C' p q = absurd p
at_zero (fin s m e) nan c c' C C' p q = absurd q
at_zero (fin s m e) (inf t) c c' C C' p q = absurd q
at_zero (fin true m e) (fin t n d) c c' C C' p q = absurd (true≢false p.0)
at_zero (fin false m e) (fin false n d) c c' C C' p q = absurd (true≢false (sym q.0))
at_zero (fin false m e) (fin true n d) c c' C C' p q =
    let a : m * up e ≡ 0 = none (m * up e) c (down e) C p.1 in
    let b : n * up d ≡ 0 = none (n * up d) c' (down d) C' q.1 in
    le← (fin false m e) (fin true n d) tt tt (rw (a, b) (omega (arith, zero-mul (down d), zero-mul (down e))))
  where
    none : (w k j : ℕ) → 0 < k → w * k ≡ 0 * j → w ≡ 0
    none w k j K h = elim (eq-zero-or-pos w) [ inl z ↦ z | inr g ↦ absurd (lt_irrefl 0 (lt_of_lt_of_le (mul-pos g K) (le_of_eq (h ∙ zero-mul j)))) ]

-- ---- rounding keeps the order, signs and all: ±a / c ≤ ±b / d
is_zero : (w k r : ℕ) → 0 < k → w * k + r ≤ 0 → w ≡ 0
is_zero w k r K h = elim (eq-zero-or-pos w) [ inl z ↦ z | inr g ↦ absurd (bad (mul-pos g K)) ]
  where
    bad : 0 < w * k → ⊥
    bad p = omega arith

pub round_le : (f : Format) (s : Bool) (a c : ℕ) (t : Bool) (b d : ℕ) → 0 < c → 0 < d → P s a * d + N t b * c ≤ P t b * c + N s a * d
    → T (le (round f s a c) (round f t b d))
round_le f false a c false b d C D h = round_mono f a c b d C D (omega (arith, zero-mul c, zero-mul d))
round_le f true a c true b d C D h = rw (round_neg f a c, round_neg f b d)
    (neg_le (round f false b d) (round f false a c) (round_mono f b d a c D C (omega (arith, zero-mul c, zero-mul d))))
round_le f true a c false b d C D h = subst (λ (z : Float). T (le z (round f false b d))) (sym (round_neg f a c))
    (across (round f false a c) (round f false b d) (round_plain f a c) (round_plain f b d))
round_le f false a c true b d C D h =
    let u : a ≡ 0 = is_zero a d (b * c) D (omega (arith, zero-mul c, zero-mul d)) in
    let v : b ≡ 0 = is_zero b c (a * d) C (omega (arith, zero-mul c, zero-mul d)) in
    rw (u, v) (at_zero (round f false 0 c) (round f true 0 d) c d C D (zero_value f false c C) (zero_value f true d D))

-- ---- z is (p - n) / c rounded. The sign of a zero is left open: the order does not see it
abbrev pub Rounds : Format → Float → ℕ → ℕ → ℕ → Type 0
Rounds f z p n c = (s : Bool) × (a : ℕ) × (z ≡ round f s a c) × (P s a + n ≡ p + N s a)

-- so p / c - n / c ≤ p' / c' - n' / c' gives z ≤ w
pub rounds_le : (f : Format) (z w : Float) (p n c p' n' c' : ℕ) → Rounds f z p n c → Rounds f w p' n' c' → 0 < c → 0 < c'
    → p * c' + n' * c ≤ p' * c + n * c' → T (le z w)
rounds_le f z w p n c p' n' c' (s, a, e, v) (t, b, e', v') C C' h =
    let x = ap (λ (y : ℕ). y * c') v in
    let y = ap (λ (y : ℕ). y * c) v' in
    let g : P s a * c' + N t b * c ≤ P t b * c + N s a * c' = omega (arith, simp add-mul at x, simp add-mul at y) in
    rw (e, e') (round_le f s a c t b c' C C' g)

-- ---- what each operation rounds
sum_rounds : (f : Format) (s : Bool) (a : ℕ) (t : Bool) (b c : ℕ) → Rounds f (sum f s a t b c) (P s a + P t b) (N s a + N t b) c
unfolding sum
sum_rounds f false a false b c = (false, a + b, refl, omega arith)
sum_rounds f true a true b c = (true, a + b, refl, omega arith)
sum_rounds f false a true b c = go (ltb a b) (ltb→lt a b) (nltb→le a b)
  where
    go : (o : Bool) → (T o → a < b) → (T (not o) → b ≤ a) → Rounds f (cond o (round f true (b - a) c) (round f false (a - b) c)) (a + 0) (0 + b) c
    go true h k = (true, b - a, refl, let l = h tt in omega arith)
    go false h k = (false, a - b, refl, let l = k tt in omega arith)
sum_rounds f true a false b c = go (ltb a b) (ltb b a) (ltb→lt a b) (nltb→le a b) (nltb→le b a)
  where
    go : (o u : Bool) → (T o → a < b) → (T (not o) → b ≤ a) → (T (not u) → a ≤ b)
        → Rounds f (cond o (round f false (b - a) c) (round f u (a - b) c)) (0 + b) (a + 0) c
    go true u h k j = (false, b - a, refl, let l = h tt in omega arith)
    go false true h k j = (true, a - b, refl, let l = k tt in omega arith)
    go false false h k j = (false, a - b, refl, let l = k tt in let r = j tt in omega arith)

-- a sum
pub add_rounds : (f : Format) (x y : Float) → T (finite x) → T (finite y)
    → Rounds f (add f x y) (plus x * den y + plus y * den x) (neg' x * den y + neg' y * den x) (den x * den y)
unfolding add
add_rounds f nan y p q = absurd p
add_rounds f (inf s) y p q = absurd p
add_rounds f (fin s m e) nan p q = absurd q
add_rounds f (fin s m e) (inf t) p q = absurd q
add_rounds f (fin s m e) (fin t n d) p q =
    subst (λ (w : ℕ). Rounds f (sum f s (m * up e * down d) t (n * up d * down e) (down e * down d)) w
    (N s (m * up e) * down d + N t (n * up d) * down e) (down e * down d))
    (ap (λ (w : ℕ). w + P t (n * up d * down e)) (P-mul s (m * up e) (down d))
    ∙ ap (λ (w : ℕ). P s (m * up e) * down d + w) (P-mul t (n * up d) (down e)))
    (subst (λ (w : ℕ). Rounds f (sum f s (m * up e * down d) t (n * up d * down e) (down e * down d))
    (P s (m * up e * down d) + P t (n * up d * down e)) w (down e * down d))
    (ap (λ (w : ℕ). w + N t (n * up d * down e)) (N-mul s (m * up e) (down d))
    ∙ ap (λ (w : ℕ). N s (m * up e) * down d + w) (N-mul t (n * up d) (down e)))
    (sum_rounds f s (m * up e * down d) t (n * up d * down e) (down e * down d)))

-- the negation of a finite float is finite
pub neg_finite : (x : Float) → T (finite x) → T (finite (neg x))
unfolding neg
neg_finite nan h = h
neg_finite (inf s) h = h
neg_finite (fin s m e) h = h

neg_den : (x : Float) → den (neg x) ≡ den x
unfolding neg
neg_den nan = refl
neg_den (inf s) = refl
neg_den (fin s m e) = refl

-- a difference
pub sub_rounds : (f : Format) (x y : Float) → T (finite x) → T (finite y)
    → Rounds f (sub f x y) (plus x * den y + neg' y * den x) (neg' x * den y + plus y * den x) (den x * den y)
unfolding sub
sub_rounds f x y p q = rw (neg_plus y, neg_minus y, neg_den y) at (add_rounds f x (neg y) p (neg_finite y q))

mul_signs : (s t : Bool) (a b : ℕ) → P (unlike s t) (a * b) + (P s a * N t b + N s a * P t b) ≡ P s a * P t b + N s a * N t b + N (unlike s t) (a * b)
mul_signs false false a b = omega (arith, zero-mul b, mul_comm a 0, zero-mul a)
mul_signs false true a b = omega (arith, zero-mul b, mul_comm a 0, zero-mul a)
mul_signs true false a b = omega (arith, zero-mul b, mul_comm a 0, zero-mul a)
mul_signs true true a b = omega (arith, zero-mul b, mul_comm a 0, zero-mul a)

-- a product
pub mul_rounds : (f : Format) (x y : Float) → T (finite x) → T (finite y)
    → Rounds f (mul f x y) (plus x * plus y + neg' x * neg' y) (plus x * neg' y + neg' x * plus y) (den x * den y)
unfolding mul
mul_rounds f nan y p q = absurd p
mul_rounds f (inf s) y p q = absurd p
mul_rounds f (fin s m e) nan p q = absurd q
mul_rounds f (fin s m e) (inf t) p q = absurd q
mul_rounds f (fin s m e) (fin t n d) p q = (unlike s t, m * up e * (n * up d), refl, mul_signs s t (m * up e) (n * up d))

-- a quotient by a y above 0
pub div_rounds : (f : Format) (x y : Float) → T (finite x) → T (finite y) → 0 < plus y
    → Rounds f (div f x y) (plus x * den y) (neg' x * den y) (plus y * den x)
unfolding div
div_rounds f nan y p q g = absurd p
div_rounds f (inf s) y p q g = absurd p
div_rounds f (fin s m e) nan p q g = absurd q
div_rounds f (fin s m e) (inf t) p q g = absurd q
div_rounds f (fin s m e) (fin true n d) p q g = absurd (lt_irrefl 0 g)
div_rounds f (fin s m e) (fin false zero d) p q g = absurd (lt_irrefl 0 (lt_of_lt_of_le g (le_of_eq (zero-mul (up d)))))
div_rounds f (fin s m e) (fin false (suc n) d) p q g = (unlike s false, m * up e * down d, rw (eqb-suc-zero n), signs s (m * up e) (down d))
  where
    signs : (s : Bool) (a k : ℕ) → P (unlike s false) (a * k) + N s a * k ≡ P s a * k + N (unlike s false) (a * k)
    signs false a k = omega (arith, zero-mul k)
    signs true a k = omega (arith, zero-mul k)

-- ---- a sum in either order
sum_swap : (f : Format) (s : Bool) (a : ℕ) (t : Bool) (b c : ℕ) → sum f s a t b c ≡ sum f t b s a c
unfolding sum
sum_swap f false a false b c = rw (add_comm a b)
sum_swap f true a true b c = rw (add_comm a b)
sum_swap f false a true b c = go (ltb a b) (ltb b a) (ltb→lt a b) (ltb→lt b a) (nltb→le a b) (nltb→le b a)
  where
    go : (o u : Bool) → (T o → a < b) → (T u → b < a) → (T (not o) → b ≤ a) → (T (not u) → a ≤ b)
        → cond o (round f true (b - a) c) (round f false (a - b) c) ≡ cond u (round f false (a - b) c) (round f o (b - a) c)
    go true true h i j k = let x = h tt in let y = i tt in absurd (lt_irrefl a (omega arith))
    go true false h i j k = refl
    go false true h i j k = refl
    go false false h i j k = let x = j tt in let y = k tt in let z : a - b ≡ b - a = omega arith in rw z
sum_swap f true a false b c = sym (go (ltb b a) (ltb a b) (ltb→lt b a) (ltb→lt a b) (nltb→le b a) (nltb→le a b))
  where
    go : (o u : Bool) → (T o → b < a) → (T u → a < b) → (T (not o) → a ≤ b) → (T (not u) → b ≤ a)
        → cond o (round f true (a - b) c) (round f false (b - a) c) ≡ cond u (round f false (b - a) c) (round f o (a - b) c)
    go true true h i j k = let x = h tt in let y = i tt in absurd (lt_irrefl a (omega arith))
    go true false h i j k = refl
    go false true h i j k = refl
    go false false h i j k = let x = j tt in let y = k tt in let z : b - a ≡ a - b = omega arith in rw z

pub add_swap : (f : Format) (x y : Float) → T (finite x) → T (finite y) → add f x y ≡ add f y x
unfolding add
add_swap f nan y a b = absurd a
add_swap f (inf s) y a b = absurd a
add_swap f (fin s m e) nan a b = absurd b
add_swap f (fin s m e) (inf t) a b = absurd b
add_swap f (fin s m e) (fin t n d) a b = rw (mul_comm (down e) (down d)) (sum_swap f s (m * up e * down d) t (n * up d * down e) (down d * down e))

-- ---- and a product
unlike_comm : (s t : Bool) → unlike s t ≡ unlike t s
unlike_comm true true = refl
unlike_comm true false = refl
unlike_comm false true = refl
unlike_comm false false = refl

pub mul_swap : (f : Format) (x y : Float) → T (finite x) → T (finite y) → mul f x y ≡ mul f y x
unfolding mul
mul_swap f nan y a b = absurd a
mul_swap f (inf s) y a b = absurd a
mul_swap f (fin s m e) nan a b = absurd b
mul_swap f (fin s m e) (inf t) a b = absurd b
mul_swap f (fin s m e) (fin t n d) a b = rw (unlike_comm s t, mul_comm (m * up e) (n * up d), mul_comm (down e) (down d))

-- ---- a sum that is finite has finite parts
pub add_parts : (f : Format) (x y : Float) → T (finite (add f x y)) → T (finite x) × T (finite y)
unfolding add
add_parts f nan y h = absurd h
add_parts f (inf s) nan h = absurd h
add_parts f (inf true) (inf true) h = absurd h
add_parts f (inf true) (inf false) h = absurd h
add_parts f (inf false) (inf true) h = absurd h
add_parts f (inf false) (inf false) h = absurd h
add_parts f (inf s) (fin t n d) h = absurd h
add_parts f (fin s m e) nan h = absurd h
add_parts f (fin s m e) (inf t) h = absurd h
add_parts f (fin s m e) (fin t n d) h = (tt, tt)

-- and so does a product
neither : (b u : Bool) → T (finite (cond b nan (inf u))) → ⊥
neither true u h = h
neither false u h = h

pub mul_parts : (f : Format) (x y : Float) → T (finite (mul f x y)) → T (finite x) × T (finite y)
unfolding mul
mul_parts f nan y h = absurd h
mul_parts f (inf s) nan h = absurd h
mul_parts f (inf s) (inf t) h = absurd h
mul_parts f (inf s) (fin t n d) h = absurd (neither (eqb n 0) (unlike s t) h)
mul_parts f (fin s m e) nan h = absurd h
mul_parts f (fin s m e) (inf t) h = absurd (neither (eqb m 0) (unlike s t) h)
mul_parts f (fin s m e) (fin t n d) h = (tt, tt)
