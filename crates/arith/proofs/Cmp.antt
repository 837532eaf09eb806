-- Tests of floats, and what they tell. Assumes nothing.
use Rattle.std.proofs.Common.{◌≡◌, ℕ, ◌+◌, ◌*◌, Bool, true, false, not, cond, ◌||◌, T, eqb, ℤ, pos, sym, refl, subst, arith, ltb→lt}
pub use borrow.Author.Tests.{ltb-false as not_below}
use lib.Dec.{eqb_refl}
use lib.Ieee.{Float, nan, inf, fin, up, down, ne, lt, le, is_nan}
use lib.Ieee.Bits.{is_true}
use lib.Ieee.Scale.{finite}
use Rattle.std.specs.Float.{float_with_sign, float_is_finite}
use Rattle.arith_order.proofs.Signed.{number, refuted, lt→nle, nle→lt, nlt→le}
use Rattle.arith.specs.Pick.{abs_of, min_of, max_of}

abbrev pub zero_f : Float
zero_f = fin false 0 (pos 0)

pub never : {A : Type 0} → true ≡ false → A
never p = absurd (subst T p tt)

-- a test as a branch has it, and as the laws do
pub holds : {b : Bool} → b ≡ true → T b
holds p = subst T (sym p) tt

pub fails : {b : Bool} → b ≡ false → T (not b)
fails p = subst (λ (b : Bool). T (not b)) (sym p) tt

-- a float that is not below another is at least it, where both are numbers
pub refused : (x y : Float) → T (number x) → T (number y) → lt x y ≡ false → T (le y x)
refused x y a b h = nlt→le x y a b (fails h)

pub finite_number : (x : Float) → T (finite x) → T (number x)
finite_number nan h = h
finite_number (inf s) h = tt
finite_number (fin s m e) h = tt

-- a number is what is no NaN
pub number_not_nan : (x : Float) → T (number x) → is_nan x ≡ false
unfolding is_nan
number_not_nan nan h = absurd h
number_not_nan (inf s) h = refl
number_not_nan (fin s m e) h = refl

pub not_nan_number : (x : Float) → is_nan x ≡ false → T (number x)
unfolding is_nan
not_nan_number nan h = never h
not_nan_number (inf s) h = tt
not_nan_number (fin s m e) h = tt

-- ---- `x != x` is the test for a NaN
pub ne_self : (x : Float) → ne x x ≡ is_nan x
unfolding ne is_nan
ne_self nan = refl
ne_self (inf true) = refl
ne_self (inf false) = refl
ne_self (fin true m e) = let a = m * up e * down e in rw (is_true (eqb a a) (eqb_refl a))
ne_self (fin false m e) = let a = m * up e * down e in rw (is_true (eqb a a) (eqb_refl a))

-- ---- the test of min and max: of two numbers, one is below the other where that is not at most it
turned : (a b : Float) → T (number a) → T (number b) → lt b a ≡ not (le a b)
turned a b A B = go (le a b) refl
  where
    go : (t : Bool) → le a b ≡ t → lt b a ≡ not t
    go true e = refuted (lt b a) (λ (h : T (lt b a)). lt→nle b a h (holds e))
    go false e = is_true (lt b a) (nle→lt b a B A (λ (h : T (le a b)). subst T e h))

swapped : (t o : Bool) (a b : Float) → o ≡ not t → cond (t || false) a b ≡ cond (o || false) b a
swapped true o a b e = rw e
swapped false o a b e = rw e

pub min_same : (a b : Float) → cond (le a b || is_nan b) a b ≡ min_of a b
unfolding le lt is_nan
min_same nan nan = refl
min_same nan (inf t) = refl
min_same nan (fin t n d) = refl
min_same (inf s) nan = refl
min_same (fin s m e) nan = refl
min_same (inf s) (inf t) = swapped _ _ (inf s) (inf t) (turned (inf s) (inf t) tt tt)
min_same (inf s) (fin t n d) = swapped _ _ (inf s) (fin t n d) (turned (inf s) (fin t n d) tt tt)
min_same (fin s m e) (inf t) = swapped _ _ (fin s m e) (inf t) (turned (fin s m e) (inf t) tt tt)
min_same (fin s m e) (fin t n d) = swapped _ _ (fin s m e) (fin t n d) (turned (fin s m e) (fin t n d) tt tt)

pub max_same : (a b : Float) → cond (le b a || is_nan b) a b ≡ max_of a b
unfolding le lt is_nan
max_same nan nan = refl
max_same nan (inf t) = refl
max_same nan (fin t n d) = refl
max_same (inf s) nan = refl
max_same (fin s m e) nan = refl
max_same (inf s) (inf t) = swapped _ _ (inf s) (inf t) (turned (inf t) (inf s) tt tt)
max_same (inf s) (fin t n d) = swapped _ _ (inf s) (fin t n d) (turned (fin t n d) (inf s) tt tt)
max_same (fin s m e) (inf t) = swapped _ _ (fin s m e) (inf t) (turned (inf t) (fin s m e) tt tt)
max_same (fin s m e) (fin t n d) = swapped _ _ (fin s m e) (fin t n d) (turned (fin t n d) (fin s m e) tt tt)

-- ---- `x < 0.0` tells the sign of an x that is not 0
pub not_minus : (m : ℕ) (e : ℤ) → lt (fin false m e) zero_f ≡ true → ⊥
unfolding lt
not_minus m e h = let l = ltb→lt (m * up e * 1) (0 * 1 * down e) (holds h) in omega arith

pub minus_zero : (m : ℕ) (e : ℤ) → lt (fin true m e) zero_f ≡ false → m * up e ≡ 0
unfolding lt
minus_zero m e h = let l = not_below 0 (m * up e * 1 + 0 * 1 * down e) h in omega arith

-- ---- abs and is_finite, as the library says them
pub abs_same : (x : Float) → float_with_sign false x ≡ abs_of x
unfolding float_with_sign
abs_same nan = refl
abs_same (inf s) = refl
abs_same (fin s m e) = refl

pub finite_same : (x : Float) → float_is_finite x ≡ finite x
unfolding float_is_finite
finite_same nan = refl
finite_same (inf s) = refl
finite_same (fin s m e) = refl
