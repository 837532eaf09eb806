-- A finite float as a difference of two fractions with one denominator, (plus x - minus x) / den x, one of the two being 0.
-- So a fact about floats of any signs is one about natural numbers, and linear in `plus` and `minus`, with no case for each sign. Assumes nothing.
use mathlib.Core.Path.{◌≡◌, refl, sym}
use mathlib.Core.Logic.{◌⊎◌, inl, inr}
use Prim.Native.Nat.{ℕ, ◌+◌, ◌*◌, ◌≤◌, ◌<◌}
use native.Mathlib.Nat.{zero-mul, eq-zero-or-pos, eq-or-lt_of_le, le_of_lt, le_antisymm, mul-le-mul_right, le_of_mul-le-mul_right, mul_assoc, mul_comm, mul_left_comm, add-mul, mul-add}
use native.Mathlib.Omega.{arith}
use mathlib.Core.Bool.{Bool, true, false, not, ◌&&◌, ◌||◌}
use lib.IntN.{pos}
use lib.Dec.{T, not_T, leb, leb→le, nleb→lt, nltb→le, ltb, eqb, eqb→eq, ltb→lt, lt→ltb}
use lib.Ieee.{Float, nan, inf, fin, up, down, below, level, lt, eq, le, neg}
use lib.Ieee.Bits.{is_false}
use lib.Ieee.Fits.{and_l, and_r, and_i, eq→eqb}
use lib.Ieee.Scale.{finite}
use lib.Ieee.Positive.{den, den_pos}
pub use Rattle.arith_order.specs.Own.Number.{number}

-- ---- ±a as P - N
abbrev pub P : Bool → ℕ → ℕ
P false a = a
P true a = 0

abbrev pub N : Bool → ℕ → ℕ
N false a = 0
N true a = a

pub P-mul : (s : Bool) (a k : ℕ) → P s (a * k) ≡ P s a * k
P-mul false a k = refl
P-mul true a k = sym (zero-mul k)

pub N-mul : (s : Bool) (a k : ℕ) → N s (a * k) ≡ N s a * k
N-mul true a k = refl
N-mul false a k = sym (zero-mul k)

abbrev pub plus : Float → ℕ
plus nan = 0
plus (inf s) = 0
plus (fin s m e) = P s (m * up e)

abbrev pub neg' : Float → ℕ
neg' nan = 0
neg' (inf s) = 0
neg' (fin s m e) = N s (m * up e)

-- 0.0 and 1.0
abbrev pub zero_f : Float
zero_f = fin false 0 (pos 0)

abbrev pub one_f : Float
one_f = fin false 1 (pos 0)

-- ---- Bool tests
-- a test that cannot hold
pub refuted : (b : Bool) → (T b → ⊥) → b ≡ false
refuted b h = is_false b (not_T b h)

or_cases : (p q : Bool) → T (p || q) → T p ⊎ T q
or_cases true q t = inl tt
or_cases false q t = inr t

or_l : (p q : Bool) → T p → T (p || q)
or_l true q t = tt
or_l false q t = absurd t

or_r : (p q : Bool) → T q → T (p || q)
or_r true q t = tt
or_r false q t = t

-- with its arguments written, for `omega`
eqt : (a b : ℕ) → a ≡ b → T (eqb a b)
eqt a b p = eq→eqb p

-- ---- ±a ≤ ±b, both ways
test→ : (s : Bool) (a : ℕ) (t : Bool) (b : ℕ) → T (below s a t b || level s a t b) → P s a + N t b ≤ P t b + N s a
test→ false a false b h = elim
    (or_cases (ltb a b) (eqb a b && true) h) [ inl t ↦ omega (arith, ltb→lt a b t) | inr t ↦ omega (arith, eqb→eq a b (and_l (eqb a b) true t)) ]
test→ false a true b h = let t = and_l (eqb a b) (eqb a 0) h in omega (arith, eqb→eq a b t, eqb→eq a 0 (and_r (eqb a b) (eqb a 0) h))
test→ true a false b h = omega arith
test→ true a true b h = elim (or_cases (ltb b a) (eqb a b && true) h) [
  | inl t ↦ omega (arith, ltb→lt b a t)
  | inr t ↦ omega
      (arith, eqb→eq a b (and_l (eqb a b) true t))
]

test← : (s : Bool) (a : ℕ) (t : Bool) (b : ℕ) → P s a + N t b ≤ P t b + N s a → T (below s a t b || level s a t b)
test← false a false b h =
    elim (eq-or-lt_of_le {n = a} {m = b} (omega arith)) [
      | inl e ↦ or_r (ltb a b) (eqb a b && true) (and_i (eqb a b) true (eqt a b e) tt)
      | inr l ↦ or_l (ltb a b) (eqb a b && true) (lt→ltb a b l)
    ]
test← false a true b h = and_i (eqb a b) (eqb a 0) (eqt a b (omega arith)) (eqt a 0 (omega arith))
test← true a false b h =
    elim (eq-zero-or-pos (a + b)) [
      | inl z ↦ or_r (ltb 0 (a + b)) (eqb a b && eqb a 0) (and_i (eqb a b) (eqb a 0) (eqt a b (omega arith)) (eqt a 0 (omega arith)))
      | inr p ↦ or_l (ltb 0 (a + b)) (eqb a b && eqb a 0) (lt→ltb 0 (a + b) p)
    ]
test← true a true b h =
    elim (eq-or-lt_of_le {n = b} {m = a} (omega arith)) [
      | inl e ↦ or_r (ltb b a) (eqb a b && true) (and_i (eqb a b) true (eqt a b (sym e)) tt)
      | inr l ↦ or_l (ltb b a) (eqb a b && true) (lt→ltb b a l)
    ]

-- ---- the order of two finite floats is that of their differences
abbrev pub Below : Float → Float → Type 0
Below x y = plus x * den y + neg' y * den x ≤ plus y * den x + neg' x * den y

-- x ≤ y as one of whole numbers
pub le→ : (x y : Float) → T (finite x) → T (finite y) → T (le x y) → Below x y
unfolding le
le→ nan y a b h = absurd a
le→ (inf s) y a b h = absurd a
le→ (fin s m e) nan a b h = absurd b
le→ (fin s m e) (inf t) a b h = absurd b
le→ (fin s m e) (fin t n d) a b h =
    rw (← P-mul s (m * up e) (down d), ← N-mul t (n * up d) (down e), ← P-mul t (n * up d) (down e), ← N-mul s (m * up e) (down d))
    (test→ s (m * up e * down d) t (n * up d * down e) h)

-- and back
pub le← : (x y : Float) → T (finite x) → T (finite y) → Below x y → T (le x y)
unfolding le
le← nan y a b h = absurd a
le← (inf s) y a b h = absurd a
le← (fin s m e) nan a b h = absurd b
le← (fin s m e) (inf t) a b h = absurd b
le← (fin s m e) (fin t n d) a b h =
    test← s (m * up e * down d) t (n * up d * down e)
    (rw (P-mul s (m * up e) (down d), N-mul t (n * up d) (down e), P-mul t (n * up d) (down e), N-mul s (m * up e) (down d)) h)

-- what is not negative has no minus part
pub no_minus : (q : Float) → neg' q ≤ plus q → neg' q ≡ 0
no_minus nan h = refl
no_minus (inf s) h = refl
no_minus (fin true m e) h = omega arith
no_minus (fin false m e) h = refl

pub no_sign : (x : Float) → T (finite x) → T (le zero_f x) → neg' x ≡ 0
no_sign x f p = no_minus x (omega (arith, le→ zero_f x tt f p, zero-mul (den x)))

-- ---- the order on all floats but NaN
-- the equations that bring a sum of products to one form
pub ruleset ring = (add-mul, mul-add, mul_assoc, mul_comm, mul_left_comm)

-- a chain through y's denominator
chain : (px nx dx py ny dy pz nz dz : ℕ) → 0 < dy → px * dy + ny * dx ≤ py * dx + nx * dy → py * dz + nz * dy ≤ pz * dy + ny * dz
    → px * dz + nz * dx ≤ pz * dx + nx * dz
chain px nx dx py ny dy pz nz dz D h k =
    let a = mul-le-mul_right dz h in
    let b = mul-le-mul_right dx k in
    let g : (px * dz + nz * dx) * dy ≤ (pz * dx + nx * dz) * dy = simp ring (omega (arith, simp ring at a, simp ring at b)) in
    le_of_mul-le-mul_right g D

-- x ≤ y and y ≤ z give x ≤ z
pub le_trans : (x y z : Float) → T (le x y) → T (le y z) → T (le x z)
unfolding le
le_trans nan y z h k = absurd h
le_trans (inf s) nan z h k = absurd h
le_trans (inf true) (inf true) z h k = k
le_trans (inf true) (inf false) nan h k = absurd k
le_trans (inf true) (inf false) (inf true) h k = tt
le_trans (inf true) (inf false) (inf false) h k = tt
le_trans (inf true) (inf false) (fin u l c) h k = tt
le_trans (inf false) (inf true) z h k = absurd h
le_trans (inf false) (inf false) z h k = k
le_trans (inf false) (fin t n d) z h k = absurd h
le_trans (inf true) (fin t n d) nan h k = absurd k
le_trans (inf true) (fin t n d) (inf true) h k = tt
le_trans (inf true) (fin t n d) (inf false) h k = tt
le_trans (inf true) (fin t n d) (fin u l c) h k = tt
le_trans (fin s m e) nan z h k = absurd h
le_trans (fin s m e) (inf true) z h k = absurd h
le_trans (fin s m e) (inf false) nan h k = absurd k
le_trans (fin s m e) (inf false) (inf true) h k = absurd k
le_trans (fin s m e) (inf false) (inf false) h k = tt
le_trans (fin s m e) (inf false) (fin u l c) h k = absurd k
le_trans (fin s m e) (fin t n d) nan h k = absurd k
le_trans (fin s m e) (fin t n d) (inf true) h k = absurd k
le_trans (fin s m e) (fin t n d) (inf false) h k = tt
le_trans (fin s m e) (fin t n d) (fin u l c) h k =
    let x = fin s m e in
    let y = fin t n d in
    let z = fin u l c in
    le← x z tt tt (chain (plus x) (neg' x) (den x) (plus y) (neg' y) (den y) (plus z) (neg' z) (den z) (den_pos y) (le→ x y tt tt h)
    (le→ y z tt tt k))

ends : (a b : ℕ) → (a ≤ b) ⊎ (b ≤ a)
ends a b = go (leb a b) (leb→le a b) (nleb→lt a b)
  where
    go : (o : Bool) → (T o → a ≤ b) → (T (not o) → b < a) → (a ≤ b) ⊎ (b ≤ a)
    go true f g = inl (f tt)
    go false f g = inr (le_of_lt (g tt))

-- of two that are no NaN one is at most the other
pub total : (x y : Float) → T (number x) → T (number y) → T (le x y) ⊎ T (le y x)
unfolding le
total nan y a b = absurd a
total (inf s) nan a b = absurd b
total (inf true) (inf true) a b = inl tt
total (inf true) (inf false) a b = inl tt
total (inf false) (inf true) a b = inr tt
total (inf false) (inf false) a b = inl tt
total (inf true) (fin t n d) a b = inl tt
total (inf false) (fin t n d) a b = inr tt
total (fin s m e) nan a b = absurd b
total (fin s m e) (inf true) a b = inr tt
total (fin s m e) (inf false) a b = inl tt
total (fin s m e) (fin t n d) a b =
    let x = fin s m e in
    let y = fin t n d in
    elim (ends (plus x * den y + neg' y * den x) (plus y * den x + neg' x * den y)) [ inl h ↦ inl (le← x y tt tt h) | inr h ↦ inr (le← y x tt tt h) ]

-- what is compared by ≤ is no NaN
pub number_left : (x y : Float) → T (le x y) → T (number x)
unfolding le
number_left nan y h = absurd h
number_left (inf s) y h = tt
number_left (fin s m e) y h = tt

pub number_right : (x y : Float) → T (le x y) → T (number y)
unfolding le
number_right nan y h = absurd h
number_right (inf s) nan h = absurd h
number_right (inf s) (inf t) h = tt
number_right (inf s) (fin t n d) h = tt
number_right (fin s m e) nan h = absurd h
number_right (fin s m e) (inf t) h = tt
number_right (fin s m e) (fin t n d) h = tt

-- x ≤ x, but for a NaN
pub le_refl : (x : Float) → T (number x) → T (le x x)
le_refl x a = elim (total x x a a) [ inl h ↦ h | inr h ↦ h ]

-- x < y gives x ≤ y
pub lt→le : (x y : Float) → T (lt x y) → T (le x y)
unfolding le
lt→le x y h = or_l (lt x y) (eq x y) h

refused : (s : Bool) (a : ℕ) (t : Bool) (b : ℕ) → T (not (below s a t b)) → P t b + N s a ≤ P s a + N t b
refused false a false b h = omega (arith, nltb→le a b h)
refused false a true b h = omega arith
refused true a false b h = omega (arith, nltb→le 0 (a + b) h)
refused true a true b h = omega (arith, nltb→le b a h)

-- a test `x < y` that failed, on two that are no NaN, gives y ≤ x
pub nlt→le : (x y : Float) → T (number x) → T (number y) → T (not (lt x y)) → T (le y x)
unfolding le lt
nlt→le nan y a b h = absurd a
nlt→le (inf s) nan a b h = absurd b
nlt→le (inf true) (inf true) a b h = tt
nlt→le (inf true) (inf false) a b h = absurd h
nlt→le (inf false) (inf true) a b h = tt
nlt→le (inf false) (inf false) a b h = tt
nlt→le (inf true) (fin t n d) a b h = absurd h
nlt→le (inf false) (fin t n d) a b h = tt
nlt→le (fin s m e) nan a b h = absurd b
nlt→le (fin s m e) (inf true) a b h = tt
nlt→le (fin s m e) (inf false) a b h = absurd h
nlt→le (fin s m e) (fin t n d) a b h = test← t (n * up d * down e) s (m * up e * down d) (refused s (m * up e * down d) t (n * up d * down e) h)

same : (s : Bool) (a : ℕ) (t : Bool) (b : ℕ) → P s a + N t b ≡ P t b + N s a → T (level s a t b)
same false a false b h = and_i (eqb a b) true (eqt a b (omega arith)) tt
same false a true b h = and_i (eqb a b) (eqb a 0) (eqt a b (omega arith)) (eqt a 0 (omega arith))
same true a false b h = and_i (eqb a b) (eqb a 0) (eqt a b (omega arith)) (eqt a 0 (omega arith))
same true a true b h = and_i (eqb a b) true (eqt a b (omega arith)) tt

-- at most each other: equal, as 0.0 and -0.0 are
pub antisym : (x y : Float) → T (le x y) → T (le y x) → T (eq x y)
unfolding le eq
antisym nan y h k = absurd h
antisym (inf s) nan h k = absurd h
antisym (inf true) (inf true) h k = tt
antisym (inf true) (inf false) h k = absurd k
antisym (inf false) (inf true) h k = absurd h
antisym (inf false) (inf false) h k = tt
antisym (inf true) (fin t n d) h k = absurd k
antisym (inf false) (fin t n d) h k = absurd h
antisym (fin s m e) nan h k = absurd h
antisym (fin s m e) (inf true) h k = absurd h
antisym (fin s m e) (inf false) h k = absurd k
antisym (fin s m e) (fin t n d) h k =
    same s (m * up e * down d) t (n * up d * down e)
    (le_antisymm (test→ s (m * up e * down d) t (n * up d * down e) h) (test→ t (n * up d * down e) s (m * up e * down d) k))

-- ---- the other sign
pub neg_plus : (x : Float) → plus (neg x) ≡ neg' x
unfolding neg
neg_plus nan = refl
neg_plus (inf s) = refl
neg_plus (fin true m e) = refl
neg_plus (fin false m e) = refl

pub neg_minus : (x : Float) → neg' (neg x) ≡ plus x
unfolding neg
neg_minus nan = refl
neg_minus (inf s) = refl
neg_minus (fin true m e) = refl
neg_minus (fin false m e) = refl

-- x ≤ y gives -y ≤ -x
pub neg_le : (x y : Float) → T (le x y) → T (le (neg y) (neg x))
unfolding le neg
neg_le nan y h = absurd h
neg_le (inf s) nan h = absurd h
neg_le (inf true) (inf true) h = tt
neg_le (inf true) (inf false) h = tt
neg_le (inf false) (inf true) h = absurd h
neg_le (inf false) (inf false) h = tt
neg_le (inf true) (fin t n d) h = tt
neg_le (inf false) (fin t n d) h = absurd h
neg_le (fin s m e) nan h = absurd h
neg_le (fin s m e) (inf true) h = absurd h
neg_le (fin s m e) (inf false) h = tt
neg_le (fin s m e) (fin t n d) h = test← (not t) (n * up d * down e) (not s) (m * up e * down d)
    (turn s (m * up e * down d) t (n * up d * down e) (test→ s (m * up e * down d) t (n * up d * down e) h))
  where
    turn : (s : Bool) (a : ℕ) (t : Bool) (b : ℕ) → P s a + N t b ≤ P t b + N s a → P (not t) b + N (not s) a ≤ P (not s) a + N (not t) b
    turn false a false b h = omega arith
    turn false a true b h = omega arith
    turn true a false b h = omega arith
    turn true a true b h = omega arith

-- ---- the strict order
strict : (s : Bool) (a : ℕ) (t : Bool) (b : ℕ) → T (below s a t b) → P s a + N t b < P t b + N s a
strict false a false b h = omega (arith, ltb→lt a b h)
strict false a true b h = absurd h
strict true a false b h = omega (arith, ltb→lt 0 (a + b) h)
strict true a true b h = omega (arith, ltb→lt b a h)

-- x < y rules out y ≤ x
pub lt→nle : (x y : Float) → T (lt x y) → T (le y x) → ⊥
unfolding lt le
lt→nle nan y h k = h
lt→nle (inf s) nan h k = h
lt→nle (inf true) (inf true) h k = h
lt→nle (inf true) (inf false) h k = k
lt→nle (inf false) (inf true) h k = h
lt→nle (inf false) (inf false) h k = h
lt→nle (inf true) (fin t n d) h k = k
lt→nle (inf false) (fin t n d) h k = h
lt→nle (fin s m e) nan h k = h
lt→nle (fin s m e) (inf true) h k = h
lt→nle (fin s m e) (inf false) h k = k
lt→nle (fin s m e) (fin t n d) h k = clash (P s a) (N t b) (P t b) (N s a) (strict s a t b h) (test→ t b s a k)
  where
    a : ℕ
    a = m * up e * down d

    b : ℕ
    b = n * up d * down e

    clash : (p q r o : ℕ) → p + q < r + o → r + o ≤ p + q → ⊥
    clash p q r o x y = omega arith

-- and where y ≤ x is ruled out, x < y
pub nle→lt : (x y : Float) → T (number x) → T (number y) → (T (le y x) → ⊥) → T (lt x y)
nle→lt x y a b h = go (lt x y) (nlt→le x y a b)
  where
    go : (o : Bool) → (T (not o) → T (le y x)) → T o
    go true f = tt
    go false f = h (f tt)

-- x ≤ y < z and x < y ≤ z give x < z
pub le_lt_trans : (x y z : Float) → T (le x y) → T (lt y z) → T (lt x z)
le_lt_trans x y z h k = nle→lt x z (number_left x y h) (number_right y z (lt→le y z k)) (λ (l : T (le z x)). lt→nle y z k (le_trans z x y l h))

pub lt_le_trans : (x y z : Float) → T (lt x y) → T (le y z) → T (lt x z)
lt_le_trans x y z h k = nle→lt x z (number_left x y (lt→le x y h)) (number_right y z k) (λ (l : T (le z x)). lt→nle x y h (le_trans y z x k l))

-- x < y as one of whole numbers
pub lt→ : (x y : Float) → T (finite x) → T (finite y) → T (lt x y) → plus x * den y + neg' y * den x < plus y * den x + neg' x * den y
unfolding lt
lt→ nan y a b h = absurd a
lt→ (inf s) y a b h = absurd a
lt→ (fin s m e) nan a b h = absurd b
lt→ (fin s m e) (inf t) a b h = absurd b
lt→ (fin s m e) (fin t n d) a b h =
    rw (← P-mul s (m * up e) (down d), ← N-mul t (n * up d) (down e), ← P-mul t (n * up d) (down e), ← N-mul s (m * up e) (down d))
    (strict s (m * up e * down d) t (n * up d * down e) h)
