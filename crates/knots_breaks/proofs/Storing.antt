-- The loop of `store_wholes`: what is stored, then the whole numbers that are left, is all of them. Assumes nothing.
use Rattle.std.proofs.Common.{◌≡◌, ℕ, suc, ◌+◌, ◌-◌, ◌<◌, ◌≤◌, List, ◌∷◌, ◌++◌, length, take, set, sym, refl, ap, ◌∙◌, append-nil, add-one, arith, length-set, take_all, take-suc-set}
use lib.Seq.{append_snoc}
use lib.Ieee.{Float}
use Rattle.arith.specs.Notation.{count}
use Rattle.knots_breaks.specs.Breaks.{wholes}

wholes_step : (k n : ℕ) → count k ∷ wholes (k + 1) n ≡ wholes k (suc n)
unfolding wholes
wholes_step k n = ap (λ (j : ℕ). count k ∷ wholes j n) (add-one k)

module _ (out₀ : List Float) where
  -- i numbers are stored
  pub record Storing (out : List Float) (i : ℕ) : Type 0 where
    pub stored : i ≤ length out₀
    pub same_length : length out ≡ length out₀
    pub whole : take i out ++ wholes (i + 1) (length out₀ - i) ≡ wholes 1 (length out₀)

  pub storing_start : Storing out₀ 0
  storing_start = let all : length out₀ - 0 ≡ length out₀ = omega arith in record { stored = omega arith; same_length = refl; whole = ap (wholes 1) all }

  module _ (out : List Float) (i : ℕ) (s : Storing out i) where
    pub storing_next : i < length out₀ → (x : Float) → x ≡ count (i + 1) → Storing (set out i x) (i + 1)
    storing_next h x e = record {
      stored = omega arith;
      same_length = length-set out i x ∙ s.same_length;
      whole =
          ap (λ (n : ℕ). take n (set out i x) ++ rest) (add-one i)
          ∙ ap (λ (l : List Float). l ++ rest) (take-suc-set out i x (omega (arith, s.same_length)))
          ∙ append_snoc (take i out) x rest
          ∙ ap (λ (l : List Float). take i out ++ l) (ap (λ (y : Float). y ∷ rest) e ∙ wholes_step (i + 1) (length out₀ - (i + 1)) ∙ ap (wholes (i + 1)) left)
          ∙ s.whole;
    }
      where
        rest : List Float
        rest = wholes (i + 1 + 1) (length out₀ - (i + 1))

        left : suc (length out₀ - (i + 1)) ≡ length out₀ - i
        left = omega arith

    pub storing_done : length out₀ ≤ i → out ≡ wholes 1 (length out₀)
    unfolding wholes
    storing_done h =
        let none : length out₀ - i ≡ 0 = omega arith in
        sym (ap (λ (n : ℕ). take i out ++ wholes (i + 1) n) none ∙ append-nil (take i out) ∙ take_all i out (omega (arith, s.same_length))) ∙ s.whole
