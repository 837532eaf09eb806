-- Two floats of a format that are equal as numbers are the same float, but for zeros of two signs. Assumes nothing.
use mathlib.Core.Path.{◌≡◌, refl, sym, ap, ◌∙◌}
use mathlib.Core.Logic.{◌⊎◌, inl, inr}
use Prim.Native.Nat.{ℕ, ◌+◌, ◌-◌, ◌*◌, ◌/◌, ◌^◌}
use native.Mathlib.Nat.{mul_right_comm}
use native.Mathlib.Omega.{arith}
use mathlib.Core.Bool.{Bool, true, false, cond}
use lib.IntN.{ℤ}
use lib.Dec.{T, eqb, eqb→eq, ltb→lt}
use lib.Ieee.{Float, nan, inf, fin, Format, prec, low, up, down, size, hid, top, below, level, eq, lt, le, fits, to_bits}
use lib.Ieee.Bits.{of_bits-to_bits}
use lib.Ieee.Fits.{and_l, and_r, down_pos}
use lib.Ieee.Nearest.{div_same}
use Rattle.arith_order.proofs.Signed.{refuted, antisym}

same_bits : (f : Format) (s : Bool) (m : ℕ) (e : ℤ) (n : ℕ) (d : ℤ) → m * up e * down d ≡ n * up d * down e
    → to_bits f (fin s m e) ≡ to_bits f (fin s n d)
unfolding to_bits
same_bits f s m e n d h =
    ap (λ (w : ℕ). cond s (top f) 0 + (size w - prec f) * hid f + w / 2 ^ (size w - prec f))
    (div_same (m * up e * 2 ^ low f) (down e) (n * up d * 2 ^ low f) (down d) (down_pos e) (down_pos d)
    (mul_right_comm (m * up e) (2 ^ low f) (down d) ∙ ap (λ (w : ℕ). w * 2 ^ low f) h ∙ mul_right_comm (n * up d) (down e) (2 ^ low f)))

same_float : (f : Format) (s : Bool) (m : ℕ) (e : ℤ) (n : ℕ) (d : ℤ) → T (fits f (fin s m e)) → T (fits f (fin s n d))
    → m * up e * down d ≡ n * up d * down e → fin s m e ≡ fin s n d
same_float f s m e n d F G h = sym (of_bits-to_bits f (fin s m e) F) ∙ ap (lib.Ieee.of_bits f) (same_bits f s m e n d h) ∙ of_bits-to_bits f (fin s n d) G

-- both are zeros
abbrev pub Zeros : Float → Float → Type 0
Zeros (fin s m e) (fin t n d) = m * up e * down d ≡ 0
Zeros (fin s m e) nan = ⊥
Zeros (fin s m e) (inf t) = ⊥
Zeros nan y = ⊥
Zeros (inf s) y = ⊥

pub eq→same : (f : Format) (x y : Float) → T (fits f x) → T (fits f y) → T (eq x y) → (x ≡ y) ⊎ Zeros x y
unfolding eq
eq→same f nan y F G h = absurd h
eq→same f (inf s) nan F G h = absurd h
eq→same f (inf true) (inf true) F G h = inl refl
eq→same f (inf true) (inf false) F G h = absurd h
eq→same f (inf false) (inf true) F G h = absurd h
eq→same f (inf false) (inf false) F G h = inl refl
eq→same f (inf s) (fin t n d) F G h = absurd h
eq→same f (fin s m e) nan F G h = absurd h
eq→same f (fin s m e) (inf t) F G h = absurd h
eq→same f (fin true m e) (fin true n d) F G h = inl
    (same_float f true m e n d F G (eqb→eq (m * up e * down d) (n * up d * down e) (and_l (eqb (m * up e * down d) (n * up d * down e)) true h)))
eq→same f (fin false m e) (fin false n d) F G h = inl
    (same_float f false m e n d F G (eqb→eq (m * up e * down d) (n * up d * down e) (and_l (eqb (m * up e * down d) (n * up d * down e)) true h)))
eq→same f (fin true m e) (fin false n d) F G h = inr
    (eqb→eq (m * up e * down d) 0 (and_r (eqb (m * up e * down d) (n * up d * down e)) (eqb (m * up e * down d) 0) h))
eq→same f (fin false m e) (fin true n d) F G h = inr
    (eqb→eq (m * up e * down d) 0 (and_r (eqb (m * up e * down d) (n * up d * down e)) (eqb (m * up e * down d) 0) h))

-- what is below another is not equal to it
neither : (s : Bool) (a : ℕ) (t : Bool) (b : ℕ) → T (below s a t b) → T (level s a t b) → ⊥
neither false a false b h k = let e = eqb→eq a b (and_l (eqb a b) true k) in omega (arith, ltb→lt a b h)
neither false a true b h k = h
neither true a false b h k =
    let e = eqb→eq a b (and_l (eqb a b) (eqb a 0) k) in
    let z = eqb→eq a 0 (and_r (eqb a b) (eqb a 0) k) in
    omega (arith, ltb→lt 0 (a + b) h)
neither true a true b h k = let e = eqb→eq a b (and_l (eqb a b) true k) in omega (arith, ltb→lt b a h)

pub lt→neq : (x y : Float) → T (lt x y) → eq x y ≡ false
unfolding lt eq
lt→neq nan y h = absurd h
lt→neq (inf s) nan h = absurd h
lt→neq (inf true) (inf true) h = absurd h
lt→neq (inf true) (inf false) h = refl
lt→neq (inf false) (inf t) h = absurd h
lt→neq (inf s) (fin t n d) h = refl
lt→neq (fin s m e) nan h = absurd h
lt→neq (fin s m e) (inf t) h = refl
lt→neq (fin s m e) (fin t n d) h =
    let a = m * up e * down d in
    let b = n * up d * down e in
    refuted (level s a t b) (neither s a t b h)

-- so two that are at most each other are the same float, or zeros
pub antisym_same : (f : Format) (x y : Float) → T (fits f x) → T (fits f y) → T (le x y) → T (le y x) → (x ≡ y) ⊎ Zeros x y
antisym_same f x y F G h k = eq→same f x y F G (antisym x y h k)
