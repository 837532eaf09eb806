-- A float of the format is not moved by rounding, nor is its double; and 0.5 * (a + b) lies between a and b. Assumes nothing.
use mathlib.Core.Path.{◌≡◌, refl, sym, ap, ◌∙◌}
use Prim.Native.Nat.{ℕ, zero, suc, ◌+◌, ◌-◌, ◌*◌, ◌%◌, ◌^◌, ◌≤◌, ◌<◌}
use native.Mathlib.Nat.{add-zero, zero-mul, one-mul, mul-one, le_of_eq, lt_of_lt_of_le, lt_irrefl, zero-lt-suc, mul-le-mul_right, mul-lt-mul_of_pos_right, lt_of_mul-lt-mul_right, le_of_mul-le-mul_right, mul-pos, le-mul_of_pos_right, mul_assoc, mul_comm, mul_left_comm, sub-add_cancel}
use native.Mathlib.Omega.{arith}
use mathlib.Core.Bool.{Bool, true, false, true≢false, not, ◌&&◌}
use lib.IntN.{ℤ, pos, negsuc}
use lib.Dec.{T, leb, ltb, eqb, leb→le, ltb→lt, eqb→eq, nleb→lt}
use lib.Pow.{pow-add, pow_pos, pow-lt}
use lib.Ieee.{Float, nan, inf, fin, Format, prec, emax, low, up, down, round, add, mul, le, fits}
use lib.Ieee.Fits.{and_l, and_r, up_pos, down_pos}
use lib.Ieee.Exact.{HasValue, round_exact}
use lib.Ieee.Scale.{finite}
use lib.Ieee.Positive.{den, den_pos}
use Rattle.arith_order.proofs.Signed.{P, N, P-mul, N-mul, plus, neg', zero_f, le→, le←, le_trans, ring}
use Rattle.arith_order.proofs.Rounds.{Rounds, rounds_le, add_rounds, mul_rounds}

-- ---- what `fits` says of fin s m e
abbrev pub Parts : Format → ℕ → ℤ → Type 0
Parts f m e = (m < 2 ^ prec f) × (down e ≤ 2 ^ low f) × (m * up e < 2 ^ suc (emax f) * down e)

one_down : (a b c : ℕ) → 0 < a → a * b ≡ 1 → 0 < c → b ≤ c
one_down a b c A h C = omega (arith, le-mul_of_pos_right b A, mul_comm a b)

pub parts : (f : Format) (s : Bool) (m : ℕ) (e : ℤ) → T (fits f (fin s m e)) → Parts f m e
unfolding fits
parts f s zero e h = (
  pow_pos (prec f),
  one_down (up e) (down e) (2 ^ low f) (up_pos e) (eqb→eq (up e * down e) 1 h) (pow_pos (low f)),
  rw
      (zero-mul (up e)) (mul-pos (pow_pos (suc (emax f))) (down_pos e)),
)
parts f s (suc m) e h =
    let A = eqb (suc m % 2) 1 in
    let B = ltb (suc m) (2 ^ prec f) in
    let C = leb (down e) (2 ^ low f) in
    let D = ltb (suc m * up e) (2 ^ suc (emax f) * down e) in (
      ltb→lt (suc m) (2 ^ prec f) (and_r A B (and_l (A && B) C (and_l (A && B && C) D h))),
      leb→le (down e) (2 ^ low f)
          (and_r (A && B) C (and_l (A && B && C) D h)),
      ltb→lt (suc m * up e) (2 ^ suc (emax f) * down e) (and_r (A && B && C) D h),
    )

-- ---- m * 2 ^ e * 2 ^ t is not moved by rounding
at_unit : (f : Format) (s : Bool) (m : ℕ) (e : ℤ) (t j : ℕ) → m < 2 ^ prec f → 2 ^ j * down e ≡ up e * 2 ^ t * 2 ^ low f
    → m * up e * 2 ^ t < 2 ^ suc (emax f) * down e
    → HasValue (round f s (m * up e * 2 ^ t) (down e)) s (m * up e * 2 ^ t) (down e)
at_unit f s m e t j small E h =
    let L = 2 ^ low f in
    let q : m * up e * 2 ^ t * L ≡ m * 2 ^ j * down e = simp mul_assoc (ap (λ (x : ℕ). m * x) (simp mul_assoc at (sym E))) in
    let u : m * up e * 2 ^ t * L < 2 ^ suc (emax f) * down e * L = mul-lt-mul_of_pos_right h (pow_pos (low f)) in
    let v : m * 2 ^ j * down e < 2 ^ (low f + suc (emax f)) * down e = rw (pow-add 2 (low f) (suc (emax f)), ← q)
    (lt_of_lt_of_le u (le_of_eq (simp (mul_assoc, mul_comm, mul_left_comm)))) in
    round_exact f s (m * up e * 2 ^ t) (down e) m j (down_pos e) small (lt_of_mul-lt-mul_right (down e) v) q

pub shallow : (k l : ℕ) → 2 ^ k ≤ 2 ^ l → k ≤ l
shallow k l h = go (leb k l) (leb→le k l) (nleb→lt k l)
  where
    go : (o : Bool) → (T o → k ≤ l) → (T (not o) → l < k) → k ≤ l
    go true a b = a tt
    go false a b = absurd (lt_irrefl (2 ^ l) (lt_of_lt_of_le (pow-lt (b tt)) h))

pub scaled : (f : Format) (s : Bool) (m : ℕ) (e : ℤ) (t : ℕ) → m < 2 ^ prec f → down e ≤ 2 ^ low f → m * up e * 2 ^ t < 2 ^ suc (emax f) * down e
    → HasValue (round f s (m * up e * 2 ^ t) (down e)) s (m * up e * 2 ^ t) (down e)
scaled f s m (pos k) t a b h = at_unit f s m (pos k) t (k + t + low f) a
    (mul-one (2 ^ (k + t + low f)) ∙ pow-add 2 (k + t) (low f) ∙ ap (λ (x : ℕ). x * 2 ^ low f) (pow-add 2 k t)) h
scaled f s m (negsuc k) t a b h =
    let l = low f in
    let E : 2 ^ (t + (l - suc k)) * 2 ^ suc k ≡ 1 * 2 ^ t * 2 ^ l =
    ap (λ (x : ℕ). x * 2 ^ suc k) (pow-add 2 t (l - suc k)) ∙ mul_assoc (2 ^ t) (2 ^ (l - suc k)) (2 ^ suc k)
    ∙ ap (λ (x : ℕ). 2 ^ t * x) (sym (pow-add 2 (l - suc k) (suc k)) ∙ ap (λ (x : ℕ). 2 ^ x) (sub-add_cancel (shallow (suc k) l b)))
    ∙ ap (λ (x : ℕ). x * 2 ^ l) (sym (one-mul (2 ^ t))) in
    at_unit f s m (negsuc k) t (t + (l - suc k)) a E h

-- ---- a value, by its two parts
abbrev Is : Float → ℕ → ℕ → ℕ → Type 0
Is R p n c = T (finite R) × (plus R * c ≡ p * den R) × (neg' R * c ≡ n * den R)

value_parts : (R : Float) (s : Bool) (a c : ℕ) → HasValue R s a c → Is R (P s a) (N s a) c
value_parts nan s a c h = absurd h
value_parts (inf t) s a c h = absurd h
value_parts (fin true m e) true a c h = (tt, zero-mul c ∙ sym (zero-mul (down e)), h.1)
value_parts (fin false m e) false a c h = (tt, h.1, zero-mul c ∙ sym (zero-mul (down e)))
value_parts (fin true m e) false a c h = absurd (true≢false h.0)
value_parts (fin false m e) true a c h = absurd (true≢false (sym h.0))

-- a * 2 ^ t is a float of the format too, and rounding gives it
pub record Exact (f : Format) (a : Float) (t : ℕ) : Type 0 where
  pub float : Float
  pub is : Is float (plus a * 2 ^ t) (neg' a * 2 ^ t) (den a)
  pub rounds : Rounds f float (plus a * 2 ^ t) (neg' a * 2 ^ t) (den a)

pub exact : (f : Format) (a : Float) (t : ℕ) → T (fits f a) → T (finite a) → (plus a + neg' a) * 2 ^ t < 2 ^ suc (emax f) * den a → Exact f a t
exact f nan t F p h = absurd p
exact f (inf s) t F p h = absurd p
exact f (fin s m e) t F p h = record {
  float = round f s (m * up e * 2 ^ t) (down e);
  is = rw
      (P-mul s (m * up e) (2 ^ t), N-mul s (m * up e) (2 ^ t)) at v;
  rounds = (
    s,
    m * up e * 2 ^ t,
    refl,
    rw
        (P-mul s (m * up e) (2 ^ t), N-mul s (m * up e) (2 ^ t)),
  );
}
  where
    both : (s : Bool) (w : ℕ) → P s w + N s w ≡ w
    both true w = omega arith
    both false w = omega arith

    v : Is (round f s (m * up e * 2 ^ t) (down e)) (P s (m * up e * 2 ^ t)) (N s (m * up e * 2 ^ t)) (down e)
    v =
        let q = parts f s m e F in
        value_parts (round f s (m * up e * 2 ^ t) (down e)) s (m * up e * 2 ^ t) (down e)
        (scaled f s m e t q.0 q.1 (rw (both s (m * up e)) at h))

pub both_parts : (f : Format) (a : Float) → T (fits f a) → T (finite a) → (plus a + neg' a) * 1 < 2 ^ suc (emax f) * den a
both_parts f nan F p = absurd p
both_parts f (inf s) F p = absurd p
both_parts f (fin true m e) F p = let h = (parts f true m e F).2 in omega arith
both_parts f (fin false m e) F p = let h = (parts f false m e F).2 in omega arith

-- every format holds 0.0
pub zero_fits : (f : Format) → T (fits f zero_f)
unfolding fits
zero_fits f = tt

-- a float of the format that is at most the fraction is at most what it rounds to; and the other way round
pub above : (f : Format) (a z : Float) (p n c : ℕ) → T (fits f a) → T (finite a) → Rounds f z p n c → 0 < c
    → plus a * c + n * den a ≤ p * den a + neg' a * c → T (le a z)
above f a z p n c F A r C h =
    let E = exact f a 0 F A (both_parts f a F A) in
    let R = E.float in
    let u : plus R * den a ≡ plus a * den R = simp mul-one at E.is.1 in
    let v : neg' R * den a ≡ neg' a * den R = simp mul-one at E.is.2 in
    let x : T (le a R) = le← a R A E.is.0 (omega arith) in
    let y : T (le R z) = rounds_le f R z (plus a * 1) (neg' a * 1) (den a) p n c E.rounds r (den_pos a) C (simp mul-one h) in
    le_trans a R z x y

pub under : (f : Format) (a z : Float) (p n c : ℕ) → T (fits f a) → T (finite a) → Rounds f z p n c → 0 < c
    → p * den a + neg' a * c ≤ plus a * c + n * den a → T (le z a)
under f a z p n c F A r C h =
    let E = exact f a 0 F A (both_parts f a F A) in
    let R = E.float in
    let u : plus R * den a ≡ plus a * den R = simp mul-one at E.is.1 in
    let v : neg' R * den a ≡ neg' a * den R = simp mul-one at E.is.2 in
    let x : T (le R a) = le← R a E.is.0 A (omega arith) in
    let y : T (le z R) = rounds_le f z R p n c (plus a * 1) (neg' a * 1) (den a) r E.rounds C (den_pos a) (simp mul-one h) in
    le_trans z R a y x

-- what lies between two finite floats is finite
pub between : (x y z : Float) → T (finite x) → T (finite z) → T (le x y) → T (le y z) → T (finite y)
unfolding le
between nan y z a b h k = absurd a
between (inf s) y z a b h k = absurd a
between (fin s m e) nan z a b h k = absurd h
between (fin s m e) (inf true) z a b h k = absurd h
between (fin s m e) (inf false) nan a b h k = absurd k
between (fin s m e) (inf false) (inf u) a b h k = absurd b
between (fin s m e) (inf false) (fin u l c) a b h k = absurd k
between (fin s m e) (fin t n d) z a b h k = tt

-- ---- the middle: 0.5 * (a + b)
abbrev pub half : Float
half = fin false 1 (negsuc 0)

abbrev pub Room : Format → Float → Type 0
Room f a = (plus a + neg' a) * 2 < 2 ^ suc (emax f) * den a

-- 2 * a ≤ a + b, so half of a + b rounded is a at least
double_law : (pa na da pb nb db : ℕ) → pa * db + nb * da ≤ pb * da + na * db
    → pa * 2 * (da * db) + (na * db + nb * da) * da ≤ (pa * db + pb * da) * da + na * 2 * (da * db)
double_law pa na da pb nb db h = let x = mul-le-mul_right da h in simp ring (omega (arith, simp ring at x))

double_law' : (pa na da pb nb db : ℕ) → pa * db + nb * da ≤ pb * da + na * db
    → (pa * db + pb * da) * db + nb * 2 * (da * db) ≤ pb * 2 * (da * db) + (na * db + nb * da) * db
double_law' pa na da pb nb db h = let x = mul-le-mul_right db h in simp ring (omega (arith, simp ring at x))

-- y ≥ 2 * a, by R = 2 * a
half_law : (pa na da p_r n_r d_r py ny dy : ℕ) → 0 < d_r → p_r * da ≡ pa * 2 * d_r → n_r * da ≡ na * 2 * d_r
    → p_r * dy + ny * d_r ≤ py * d_r + n_r * dy → pa * (2 * dy) + ny * da ≤ py * da + na * (2 * dy)
half_law pa na da p_r n_r d_r py ny dy D u v h =
    let x = mul-le-mul_right da h in
    let u' = ap (λ (w : ℕ). w * dy) u in
    let v' = ap (λ (w : ℕ). w * dy) v in
    let g : (pa * (2 * dy) + ny * da) * d_r ≤ (py * da + na * (2 * dy)) * d_r = simp ring
    (omega (arith, simp ring at x, simp ring at u', simp ring at v')) in
    le_of_mul-le-mul_right g D

half_law' : (pa na da p_r n_r d_r py ny dy : ℕ) → 0 < d_r → p_r * da ≡ pa * 2 * d_r → n_r * da ≡ na * 2 * d_r
    → py * d_r + n_r * dy ≤ p_r * dy + ny * d_r → py * da + na * (2 * dy) ≤ pa * (2 * dy) + ny * da
half_law' pa na da p_r n_r d_r py ny dy D u v h =
    let x = mul-le-mul_right da h in
    let u' = ap (λ (w : ℕ). w * dy) u in
    let v' = ap (λ (w : ℕ). w * dy) v in
    let g : (py * da + na * (2 * dy)) * d_r ≤ (pa * (2 * dy) + ny * da) * d_r = simp ring
    (omega (arith, simp ring at x, simp ring at u', simp ring at v')) in
    le_of_mul-le-mul_right g D

module _ (f : Format) (a b : Float) (F : T (fits f a)) (G : T (fits f b)) (A : T (finite a)) (B : T (finite b)) (ra : Room f a)
    (rb : Room f b) (h : T (le a b)) where
  -- a + b lies between 2 * a and 2 * b
  low_sum : T (le (exact f a 1 F A ra).float (add f a b))
  low_sum =
      rounds_le f (exact f a 1 F A ra).float (add f a b) (plus a * 2) (neg' a * 2) (den a) (plus a * den b + plus b * den a)
      (neg' a * den b + neg' b * den a) (den a * den b)
      (exact f a 1 F A ra).rounds (add_rounds f a b A B) (den_pos a) (mul-pos (den_pos a) (den_pos b))
      (double_law (plus a) (neg' a) (den a) (plus b) (neg' b) (den b) (le→ a b A B h))

  high_sum : T (le (add f a b) (exact f b 1 G B rb).float)
  high_sum =
      rounds_le f (add f a b) (exact f b 1 G B rb).float (plus a * den b + plus b * den a) (neg' a * den b + neg' b * den a)
      (den a * den b) (plus b * 2) (neg' b * 2) (den b)
      (add_rounds f a b A B) (exact f b 1 G B rb).rounds (mul-pos (den_pos a) (den_pos b)) (den_pos b)
      (double_law' (plus a) (neg' a) (den a) (plus b) (neg' b) (den b) (le→ a b A B h))

  pub sum_finite : T (finite (add f a b))
  sum_finite = between (exact f a 1 F A ra).float (add f a b) (exact f b 1 G B rb).float (exact f a 1 F A ra).is.0
      (exact f b 1 G B rb).is.0 low_sum high_sum

  pub middle_low : T (le a (mul f half (add f a b)))
  middle_low =
      let y = add f a b in
      let R = exact f a 1 F A ra in
      above f a (mul f half y) (1 * plus y + 0 * neg' y) (1 * neg' y + 0 * plus y) (2 * den y) F A (mul_rounds f half y tt sum_finite)
      (mul-pos (zero-lt-suc 1) (den_pos y))
      (simp (one-mul, zero-mul, add-zero)
      (half_law (plus a) (neg' a) (den a) (plus R.float) (neg' R.float) (den R.float) (plus y) (neg' y) (den y)
      (den_pos R.float) R.is.1 R.is.2 (le→ R.float y R.is.0 sum_finite low_sum)))

  pub middle_high : T (le (mul f half (add f a b)) b)
  middle_high =
      let y = add f a b in
      let R = exact f b 1 G B rb in
      under f b (mul f half y) (1 * plus y + 0 * neg' y) (1 * neg' y + 0 * plus y) (2 * den y) G B (mul_rounds f half y tt sum_finite)
      (mul-pos (zero-lt-suc 1) (den_pos y))
      (simp (one-mul, zero-mul, add-zero)
      (half_law' (plus b) (neg' b) (den b) (plus R.float) (neg' R.float) (den R.float) (plus y) (neg' y) (den y)
      (den_pos R.float) R.is.1 R.is.2 (le→ y R.float sum_finite R.is.0 high_sum)))
