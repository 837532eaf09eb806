-- What is picked by k mod 4: a factor times one of the two series. Assumes nothing.
use Rattle.std.proofs.Common.{◌≡◌, ℕ, zero, suc, ◌+◌, ◌%◌, ◌<◌, T, [], ◌∷◌, get_or, sym, refl, ap, ◌∙◌, subst, arith}
use lib.Ieee.{Float, nan, binary64, neg, fits}
use lib.Ieee.Fits.{sub-fits}
use Rattle.arith.specs.Notation.{◌⊗◌, one}
use Rattle.arith_trig.specs.Trig.{horner_steps, sin_kernel, cos_kernel, sin_by, cos_by}
use Rattle.arith_trig.proofs.Factors.{times_neg, one_times}

four_on : (q : ℕ) → suc (suc (suc (suc q))) < 4 → ⊥
four_on q h = omega arith

-- the cosine is what the sine is one quarter on
pub cos_as_sin : (q : ℕ) (r : Float) → q < 4 → sin_by ((q + 1) % 4) r ≡ cos_by q r
unfolding sin_by cos_by
cos_as_sin zero r h = refl
cos_as_sin (suc zero) r h = refl
cos_as_sin (suc (suc zero)) r h = refl
cos_as_sin (suc (suc (suc zero))) r h = refl
cos_as_sin (suc (suc (suc (suc q)))) r h = absurd (four_on q h)

module _ (r s c : Float)
    (S : s ≡ horner_steps (r ⊗ r) one (272 ∷ 210 ∷ 156 ∷ 110 ∷ 72 ∷ 42 ∷ 20 ∷ 6 ∷ []))
    (C : c ≡ horner_steps (r ⊗ r) one (240 ∷ 182 ∷ 132 ∷ 90 ∷ 56 ∷ 30 ∷ 12 ∷ 2 ∷ [])) where
  sine : r ⊗ s ≡ sin_kernel r
  unfolding sin_kernel
  sine = ap (λ (w : Float). r ⊗ w) S

  cosine : one ⊗ c ≡ cos_kernel r
  unfolding cos_kernel horner_steps
  cosine = one_times c (subst (λ (w : Float). T (fits binary64 w)) (sym C) (sub-fits binary64 one _)) ∙ C

  pub picked : (q : ℕ) → q < 4 → get_or (r ∷ one ∷ neg r ∷ neg one ∷ []) q nan ⊗ get_or (s ∷ c ∷ []) (q % 2) nan ≡ sin_by q r
  unfolding sin_by
  picked zero h = sine
  picked (suc zero) h = cosine
  picked (suc (suc zero)) h = times_neg r s ∙ ap neg sine
  picked (suc (suc (suc zero))) h = times_neg one c ∙ ap neg cosine
  picked (suc (suc (suc (suc q)))) h = absurd (four_on q h)
