-- A sag for an extent is not below zero, nor below an eighth of the whole model's: what misses by less is within it, whatever the extent.
-- Assumes nothing but what its statements say.
use mathlib.Core.Path.{◌≡◌, refl}
use mathlib.Core.Bool.{Bool, true, false, cond, ◌||◌}
use Prim.Native.Nat.{ℕ, ◌+◌, ◌*◌, ◌≤◌}
use native.Mathlib.Nat.{add-zero, zero-mul, mul-pos, mul-le-mul_left}
use native.Mathlib.Omega.{arith}
use lib.Dec.{T}
use lib.Ieee.{Float, nan, inf, fin, binary64, fits, of_bits, lt, le, is_nan, div}
use lib.Ieee.Scale.{finite}
use lib.Ieee.Bits.{is_true}
use lib.Ieee.Fits.{div-fits}
use lib.Ieee.Positive.{den, den_pos}
use Rattle.arith_order.proofs.Signed.{zero_f, plus, neg', no_sign, ring}
use Rattle.arith_order.proofs.Rounds.{div_rounds}
use Rattle.arith_order.proofs.Middle.{under}
use Rattle.arith_order.proofs.Laws.{number, le_refl, le_trans, lt→le, lt_le_trans, number_right, div_mono}
use Rattle.arith.specs.Notation.{◌⊗◌, ◌⊘◌, plus_zero, half, two}
use Rattle.arith.specs.Constants.{eight, least_normal}
use Rattle.arith.specs.Pick.{max_of, clamp_of}
use Rattle.arith.proofs.Cmp.{never, holds, refused}
use Rattle.arith_root.specs.Root.{root_of}
use Rattle.arith_root.proofs.Squares.{root_under_square}
use Rattle.options.specs.declared.Options.{Options}
use Rattle.options.specs.Options.{absolute_deflection, resolved_sag, resolve, is_relative_to, sag_for}

-- ---- the larger of two is not below the second
a_number : (a : Float) → is_nan a ≡ false → T (number a)
unfolding is_nan
a_number nan h = never h
a_number (inf s) h = tt
a_number (fin s m e) h = tt

max_right : (a b : Float) → T (number b) → T (le b (max_of a b))
max_right a b n = go (lt a b) (is_nan a) refl refl
  where
    go : (x y : Bool) → lt a b ≡ x → is_nan a ≡ y → T (le b (cond (x || y) b a))
    go true y p q = le_refl b n
    go false true p q = le_refl b n
    go false false p q = refused a b (a_number a q) n p

-- ---- an eighth
-- of what is not below b it is not below that of b
eighth : (b s : Float) → T (finite b) → T (le (b ⊘ eight) (inf false)) → T (le b s) → T (le (b ⊘ eight) (s ⊘ eight))
unfolding le div of_bits
eighth b nan h i k = absurd (number_right b nan k)
eighth (fin t n d) (inf true) h i k = absurd k
eighth nan (inf true) h i k = elim h [ ]
eighth (inf _) (inf true) h i k = elim h [ ]
eighth b (inf false) h i k = i
eighth b (fin s m e) h i k = div_mono binary64 b (fin s m e) eight h tt tt tt k

-- and it is not above the whole
eighth_law : (p d a b : ℕ) → b ≤ a → p * b * d + 0 * (a * d) ≤ p * (a * d) + 0 * b * d
eighth_law p d a b h = let k = mul-le-mul_left (p * d) h in simp (ring, zero-mul, add-zero) (simp ring at k)

eighth_less : (x : Float) → T (fits binary64 x) → T (le zero_f x) → T (le (x ⊘ eight) x)
unfolding le div of_bits
eighth_less nan F h = absurd h
eighth_less (inf true) F h = absurd h
eighth_less (inf false) F h = tt
eighth_less (fin s m e) F h =
    let x = fin s m e in
    under binary64 x (x ⊘ eight) (plus x * den eight) (neg' x * den eight) (plus eight * den x) F tt (div_rounds binary64 x eight tt tt (omega arith))
    (mul-pos (omega arith) (den_pos x)) (rw (no_sign x tt h) (eighth_law (plus x) (den x) (plus eight) (den eight) (omega arith)))

-- ---- the least sag
-- the model's own is not below the least normal number
own_least : (o : Options) → T (le least_normal (resolve o).sag)
unfolding resolve resolved_sag of_bits
own_least o = max_right (absolute_deflection o) least_normal tt

-- so that an eighth of it is above zero
eighth_least : (o : Options) → T (le (least_normal ⊘ eight) ((resolve o).sag ⊘ eight))
unfolding le div of_bits
eighth_least o = eighth least_normal (resolve o).sag tt tt (own_least o)

module _ (o : Options) (x : Float) where
  -- by whether the sag is for the extent: what is at most an eighth of the model's, and at most all of it, is at most the sag
  below_sag : (b : Float) → T (le b ((resolve o).sag ⊘ eight)) → T (le b (resolve o).sag) → T (le b (sag_for (resolve o) x))
  unfolding sag_for
  below_sag b h k = go (is_relative_to (resolve o) x)
    where
      go : (v : Bool)
          → T (le b (cond v (max_of (clamp_of ((resolve o).model ⊘ (two ⊗ x)) half two ⊗ x ⊗ (resolve o).relative) ((resolve o).sag ⊘ eight)) (resolve o).sag))
      go true = le_trans b ((resolve o).sag ⊘ eight) _ h (max_right _ ((resolve o).sag ⊘ eight) (number_right b ((resolve o).sag ⊘ eight) h))
      go false = k

  -- a sag is not below zero
  pub sag_above : le plus_zero (sag_for (resolve o) x) ≡ true
  unfolding le div of_bits
  sag_above = is_true (le plus_zero (sag_for (resolve o) x))
      (below_sag plus_zero (le_trans plus_zero (least_normal ⊘ eight) ((resolve o).sag ⊘ eight) tt (eighth_least o)) (le_trans plus_zero least_normal (resolve o).sag tt (own_least o)))

  -- a miss whose square is below that of an eighth of the model's sag is within it
  pub root_within : (s : Float) → T (fits binary64 s) → T (fits binary64 (resolve o).sag) → lt plus_zero s ≡ true
      → lt s (((resolve o).sag ⊘ eight) ⊗ ((resolve o).sag ⊘ eight)) ≡ true → le (root_of s) (sag_for (resolve o) x) ≡ true
  unfolding lt le div of_bits
  root_within s F G p h =
      let e = (resolve o).sag ⊘ eight in
      let r : T (le (root_of s) e) = root_under_square e s (div-fits binary64 (resolve o).sag eight) F (lt_le_trans zero_f (least_normal ⊘ eight) e tt (eighth_least o)) (lt→le zero_f s (holds p)) (holds h) in
      let less = eighth_less (resolve o).sag G (le_trans zero_f least_normal (resolve o).sag tt (own_least o)) in
      is_true (le (root_of s) (sag_for (resolve o) x)) (below_sag (root_of s) r (le_trans (root_of s) e (resolve o).sag r less))
