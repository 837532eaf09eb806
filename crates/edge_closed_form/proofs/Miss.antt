-- The largest miss, parameter by parameter. Assumes nothing.
use mathlib.Core.Path.{◌≡◌, refl, sym, ap, ◌∙◌}
use mathlib.Core.List.{List, [], ◌∷◌}
use Prim.Native.Nat.{ℕ, ◌+◌, ◌≤◌, ◌<◌}
use native.Mathlib.Numerals.{add-one}
use native.Mathlib.Omega.{arith}
use lib.ListN.{length, get_or, drop, drop_of_length-le}
use lib.Seq.{drop-cons}
use lib.Ieee.{Float, nan}
use Rattle.arith.specs.Notation.{plus_zero}
use Rattle.arith.specs.Pick.{max_of}
use Rattle.brep.specs.Tree.{CurveTree}
use Rattle.edge_closed_form.specs.Miss.{miss_of, worst_miss}

-- where there are no parameters
pub no_params : (c : CurveTree) (params : List Float) → length params ≡ 0 → plus_zero ≡ worst_miss c plus_zero params
unfolding worst_miss
no_params c [] h = refl
no_params c (a ∷ l) h = absurd (omega arith)

-- a is the parameter before number i of the rest, and worst the largest miss up to it
abbrev pub Missing : CurveTree → List Float → List Float → Float → Float → ℕ → Type 0
Missing c params rest worst a i = worst_miss c worst (a ∷ drop i rest) ≡ worst_miss c plus_zero params

module _ (c : CurveTree) (params rest : List Float) where
  pub first_param : (a : Float) → params ≡ a ∷ rest → Missing c params rest plus_zero a 0
  first_param a e = ap (worst_miss c plus_zero) (sym e)

  module _ (worst a : Float) (i : ℕ) (s : Missing c params rest worst a i) where
    pub next_param : (w m b : Float) → i < length rest → b ≡ get_or rest i nan → m ≡ miss_of c a b → w ≡ max_of worst m
        → Missing c params rest w b (i + 1)
    unfolding worst_miss
    next_param w m b h B M W =
        ap (λ (n : ℕ). worst_miss c w (b ∷ drop n rest)) (add-one i)
        ∙ rw (W, M, B) (ap (λ (l : List Float). worst_miss c worst (a ∷ l)) (sym (drop-cons rest i nan h)) ∙ s)

    pub last_param : length rest ≤ i → worst ≡ worst_miss c plus_zero params
    unfolding worst_miss
    last_param h = sym (ap (λ (l : List Float). worst_miss c worst (a ∷ l)) (drop_of_length-le rest {i = i} h)) ∙ s
