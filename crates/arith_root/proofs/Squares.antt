-- A root is told from a float by the float's square, with no root taken: rounding keeps the order, so what is above a square, rounded as it
-- is, has a root that is not below the float; and what is below it has one that is not above. Assumes nothing.
use Rattle.std.proofs.Common.{◌≡◌, ℕ, zero, suc, ◌+◌, ◌*◌, ◌^◌, ◌<◌, ◌≤◌, Bool, true, false, T, ℤ, sym, refl, ap, ◌∙◌, subst, mul-le-mul_right, mul_assoc, mul-le-mul, mul-pos, zero-mul, mul_right_comm, arith, pow_pos}
use lib.Ieee.{Float, nan, inf, fin, binary64, up, down, fits, mul, lt, le}
use lib.Ieee.Order.{le_of_values}
use lib.Ieee.Positive.{positive, den, positive-finite, mul_at}
use Rattle.arith_order.proofs.Signed.{zero_f, plus, neg', le←}
use Rattle.arith_order.proofs.Rounds.{Rounds}
use Rattle.arith_order.proofs.Middle as middle
use Rattle.arith_order.proofs.Laws.{le_trans, lt→le, lt→nle, le_lt_trans}
use Rattle.arith_root.specs.Root.{root_of}
use Rattle.arith_root.specs.Ieee.{Units}
use Rattle.arith_root.proofs.Whole.{not_above, square_of}
use Rattle.arith_root.proofs.Cases.{positive_above}
use Rattle.arith_root.proofs.Ieee.{nearest_root}
use Rattle.arith_root.proofs.Laws.{Kind, zeros, above, top, kind, units_below}

-- ---- a float of m units against the fraction a / (2 ^ 1074 * d)
module _ (y : Float) (m a d : ℕ) (p : T (positive y)) (v : Units y m) where
  over_units : (plus y * (2 ^ 1074 * d) ≡ m * d * den y) × (neg' y ≡ 0)
  over_units = go y p v
    where
      law : (a b U : ℕ) → a * U ≡ m * b → a * (U * d) ≡ m * d * b
      law a b U k = sym (mul_assoc a U d) ∙ ap (λ (x : ℕ). x * d) k ∙ mul_right_comm m b d

      go : (y : Float) → T (positive y) → Units y m → (plus y * (2 ^ 1074 * d) ≡ m * d * den y) × (neg' y ≡ 0)
      go nan p v = absurd p
      go (inf s) p v = absurd p
      go (fin true w e) p v = absurd p
      go (fin false w e) p v = (law (w * up e) (down e) (2 ^ 1074) v.1, refl)

  pub at_most : m * d ≤ a → plus y * (2 ^ 1074 * d) + 0 * den y ≤ a * den y + neg' y * (2 ^ 1074 * d)
  at_most h = go (2 ^ 1074 * d) over_units
    where
      go : (U : ℕ) → (plus y * U ≡ m * d * den y) × (neg' y ≡ 0) → plus y * U + 0 * den y ≤ a * den y + neg' y * U
      go U w = rw w.1 (omega (arith, w.0, mul-le-mul_right (den y) h, zero-mul (den y), zero-mul U))

  pub at_least : a ≤ m * d → a * den y + neg' y * (2 ^ 1074 * d) ≤ plus y * (2 ^ 1074 * d) + 0 * den y
  at_least h = go (2 ^ 1074 * d) over_units
    where
      go : (U : ℕ) → (plus y * U ≡ m * d * den y) × (neg' y ≡ 0) → a * den y + neg' y * U ≤ plus y * U + 0 * den y
      go U w = rw w.1 (omega (arith, w.0, mul-le-mul_right (den y) h, zero-mul (den y), zero-mul U))

-- ---- the square of b units, rounded, against n units
module _ (k q : Float) (b n : ℕ) (G : T (fits binary64 q)) (p : T (positive k)) (r : T (positive q)) (u : Units k b) (v : Units q n) where
  squared : Rounds binary64 (mul binary64 k k) (b * b) 0 (2 ^ 1074 * 2 ^ 1074)
  squared = (false, b * b, mul_at binary64 k k b (2 ^ 1074) b (2 ^ 1074) p p (pow_pos 1074) (pow_pos 1074) u u, refl)

  square_up : n * 2 ^ 1074 ≤ b * b → T (le q (mul binary64 k k))
  square_up h = middle.above binary64 q (mul binary64 k k) (b * b) 0 (2 ^ 1074 * 2 ^ 1074) G (positive-finite q r) squared
      (mul-pos (pow_pos 1074) (pow_pos 1074)) (at_most q n (b * b) (2 ^ 1074) r v h)

  square_down : b * b ≤ n * 2 ^ 1074 → T (le (mul binary64 k k) q)
  square_down h = middle.under binary64 q (mul binary64 k k) (b * b) 0 (2 ^ 1074 * 2 ^ 1074) G (positive-finite q r) squared
      (mul-pos (pow_pos 1074) (pow_pos 1074)) (at_least q n (b * b) (2 ^ 1074) r v h)

-- a square is not below zero
pub square_low : (k : Float) → T (fits binary64 k) → T (lt zero_f k) → T (le zero_f (mul binary64 k k))
square_low nan F p = absurd (unfold lt in p)
square_low (inf true) F p = absurd (unfold lt in p)
square_low (inf false) F p = unfold mul le in tt
square_low (fin true m e) F p = absurd (unfold lt in p)
square_low (fin false m e) F p =
    let k = fin false m e in
    let K = nearest_root k F (positive_above m e p) in
    middle.above binary64 zero_f (mul binary64 k k) (K.0 * K.0) 0 (2 ^ 1074 * 2 ^ 1074) (middle.zero_fits binary64) tt
    (squared k k K.0 K.0 F (positive_above m e p) (positive_above m e p) K.1 K.1)
    (mul-pos (pow_pos 1074) (pow_pos 1074)) (none (K.0 * K.0) (2 ^ 1074 * 2 ^ 1074))
  where
    none : (s c : ℕ) → 0 * c + 0 * 1 ≤ s * 1 + 0 * c
    none s c = omega (arith, zero-mul c)

-- ---- the midpoint of b units and the a of a root, squared
below_middle : (n U a b : ℕ) → a < b → n * U * 4 < (a + b) * (a + b) → n * U ≤ b * b
below_middle n U a b l h =
    let c : a + b ≤ 2 * b = omega arith in
    omega (arith, h, square_of 2 b, mul-le-mul c c)

above_middle : (n U a b : ℕ) → b < a → (a + b) * (a + b) < n * U * 4 → b * b ≤ n * U
above_middle n U a b l h =
    let c : 2 * b ≤ a + b = omega arith in
    omega (arith, h, square_of 2 b, mul-le-mul c c)

module _ (k q : Float) (F : T (fits binary64 k)) (G : T (fits binary64 q)) (p : T (positive k)) (r : T (positive q)) where
  -- k² < x gives k ≤ √x
  positive_over : T (lt (mul binary64 k k) q) → T (le k (root_of q))
  positive_over h =
      let K = nearest_root k F p in
      let Q = nearest_root q G r in
      let N = Q.2 in
      let n = Q.0 in
      let b = K.0 in
      le_of_values k (root_of q) b (2 ^ 1074) N.a (2 ^ 1074) (pow_pos 1074) (pow_pos 1074) K.1 N.value
      (mul-le-mul_right (2 ^ 1074) (not_above b N.a (λ (l : N.a < b).
      lt→nle (mul binary64 k k) q h
      (square_up k q b n G p r K.1 Q.1
      (below_middle n (2 ^ 1074) N.a b l
      (subst (λ (x : ℕ). x < (N.a + b) * (N.a + b)) (sym (mul_assoc n (2 ^ 1074) 4)) (N.above k b F K.1 l)))))))

  -- and x < k² gives √x ≤ k
  positive_under : T (lt q (mul binary64 k k)) → T (le (root_of q) k)
  positive_under h =
      let K = nearest_root k F p in
      let Q = nearest_root q G r in
      let N = Q.2 in
      let n = Q.0 in
      let b = K.0 in
      le_of_values (root_of q) k N.a (2 ^ 1074) b (2 ^ 1074) (pow_pos 1074) (pow_pos 1074) N.value K.1
      (mul-le-mul_right (2 ^ 1074) (not_above N.a b (λ (l : b < N.a).
      lt→nle q (mul binary64 k k) h
      (square_down k q b n G p r K.1 Q.1
      (above_middle n (2 ^ 1074) N.a b l
      (subst (λ (x : ℕ). (N.a + b) * (N.a + b) < x) (sym (mul_assoc n (2 ^ 1074) 4)) (N.below k b F K.1 l)))))))

-- ---- and for all
-- k ≤ √x, where k is above 0.0 and its square, rounded, below x
pub root_over_square : (k x : Float) → T (fits binary64 k) → T (fits binary64 x) → T (lt zero_f k) → T (lt (mul binary64 k k) x)
    → T (le k (root_of x))
root_over_square k x F G p h = go k x F G p (le_lt_trans zero_f (mul binary64 k k) x (square_low k F p) h) h
  where
    go : (k x : Float) → T (fits binary64 k) → T (fits binary64 x) → T (lt zero_f k) → T (lt zero_f x) → T (lt (mul binary64 k k) x)
        → T (le k (root_of x))
    go nan x F G p q h = absurd (unfold lt in p)
    go (inf true) x F G p q h = absurd (unfold lt in p)
    go (inf false) nan F G p q h = absurd (unfold lt in q)
    go (inf false) (inf s) F G p q h = absurd (unfold lt mul in h)
    go (inf false) (fin s n d) F G p q h = absurd (unfold lt mul in h)
    go (fin true m e) x F G p q h = absurd (unfold lt in p)
    go (fin false m e) nan F G p q h = absurd (unfold lt in q)
    go (fin false m e) (inf true) F G p q h = absurd (unfold lt in q)
    go (fin false m e) (inf false) F G p q h = unfold root_of le lt in tt
    go (fin false m e) (fin true n d) F G p q h = absurd (unfold lt in q)
    go (fin false m e) (fin false n d) F G p q h =
        positive_over (fin false m e) (fin false n d) F G (positive_above m e p) (positive_above n d q) h

zero_under : (s : Bool) (d : ℤ) → T (le (fin s zero d) zero_f)
zero_under true d = le← (fin true zero d) zero_f tt tt (omega (arith, zero-mul (up d), zero-mul (down d)))
zero_under false d = le← (fin false zero d) zero_f tt tt (omega (arith, zero-mul (up d), zero-mul (down d)))

none_above : (y : Float) → T (lt (inf false) y) → ⊥
unfolding lt
none_above nan h = h
none_above (inf s) h = h
none_above (fin s n d) h = h

-- √x ≤ k, where x is not below 0.0, and below the square of a k above 0.0, rounded
pub root_under_square : (k x : Float) → T (fits binary64 k) → T (fits binary64 x) → T (lt zero_f k) → T (le zero_f x)
    → T (lt x (mul binary64 k k)) → T (le (root_of x) k)
root_under_square k x F G p q h = go k x F G p (kind x q) h
  where
    go : (k x : Float) → T (fits binary64 k) → T (fits binary64 x) → T (lt zero_f k) → Kind x → T (lt x (mul binary64 k k))
        → T (le (root_of x) k)
    go nan x F G p q h = absurd (unfold lt in p)
    go (inf true) x F G p q h = absurd (unfold lt in p)
    go (inf false) x F G p (zeros s d) h = unfold root_of le in tt
    go (inf false) x F G p (above n d q) h =
        let y = root_of (fin false (suc n) d) in
        let N = (nearest_root (fin false (suc n) d) G q).2 in
        lt→le y (inf false) (units_below y N.a N.value)
    go (inf false) x F G p top h = absurd (none_above (mul binary64 (inf false) (inf false)) h)
    go (fin true m e) x F G p q h = absurd (unfold lt in p)
    go (fin false m e) x F G p (zeros s d) h =
        unfold root_of in le_trans (fin s zero d) zero_f (fin false m e) (zero_under s d) (lt→le zero_f (fin false m e) p)
    go (fin false m e) x F G p (above n d q) h = positive_under (fin false m e) (fin false (suc n) d) F G (positive_above m e p) q h
    go (fin false m e) x F G p top h = absurd (none_above (mul binary64 (fin false m e) (fin false m e)) h)
