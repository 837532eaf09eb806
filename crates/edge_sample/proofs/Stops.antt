-- The stops of the walk, read forwards or backwards. Assumes nothing.
use mathlib.Core.Path.{◌≡◌, refl, sym, ap, ◌∙◌}
use mathlib.Core.Bool.{Bool, true, false}
use mathlib.Core.Logic.{◌⊎◌, inl, inr}
use mathlib.Core.List.{List, [], ◌∷◌, ◌++◌, reverse, reverse-cons}
use Prim.Native.Nat.{ℕ, suc, ◌+◌, ◌-◌, ◌≤◌, ◌<◌}
use native.Mathlib.Nat.{eq-or-lt_of_le}
use native.Mathlib.Numerals.{add-one}
use native.Mathlib.Omega.{arith}
use lib.ListN.{length, get_or, drop, length-append, length-reverse, drop_of_length-le, get_or-append}
use lib.Seq.{get_or_at, drop-cons}
use lib.Ieee.{Float, nan, lt}
use Rattle.math.specs.declared.Interval.{Interval}
use Rattle.edge_sample.specs.Own.Answered.{stops}

get_d_reverse : (l : List Float) (i : ℕ) (d : Float) → i < length l → get_or l (length l - 1 - i) d ≡ get_or (reverse l) i d
get_d_reverse [] i d h = absurd (omega arith)
get_d_reverse (x ∷ l) i d h = go (λ k. get_d_reverse l i d k) (eq-or-lt_of_le {n = i} {m = length l} (omega arith)) ∙ ap (λ (k : List Float). get_or k i d) (sym (reverse-cons x l))
  where
    go : (i < length l → get_or l (length l - 1 - i) d ≡ get_or (reverse l) i d) → (i ≡ length l) ⊎ (i < length l)
        → get_or (x ∷ l) (suc (length l) - 1 - i) d ≡ get_or (reverse l ++ (x ∷ [])) i d
    go f (inl e) =
        let z : suc (length l) - 1 - i ≡ 0 = omega arith in
        ap (λ (n : ℕ). get_or (x ∷ l) n d) z ∙ sym (get_or_at (reverse l) x [] d i (length-reverse l ∙ sym e))
    go f (inr k) =
        let z : suc (length l) - 1 - i ≡ suc (length l - 1 - i) = omega arith in
        ap (λ (n : ℕ). get_or (x ∷ l) n d) z ∙ f k
        ∙ sym (get_or-append (reverse l) (x ∷ []) d i (omega (arith, length-reverse l)))

module _ (range : Interval) (breaks : List Float) where
  turned : Bool → List Float
  turned t = elim t [ true ↦ reverse breaks | false ↦ breaks ]

  turned_length : (t : Bool) → length (turned t) ≡ length breaks
  unfolding turned
  turned_length true = length-reverse breaks
  turned_length false = refl

  pub stops_length : length (stops range breaks) ≡ length breaks + 1
  unfolding stops turned
  stops_length = length-append (turned (lt range.hi range.lo)) (range.hi ∷ []) ∙ ap (λ (n : ℕ). n + 1) (turned_length (lt range.hi range.lo))

  pub stop_last : (i : ℕ) → i ≡ length breaks → range.hi ≡ get_or (stops range breaks) i nan
  unfolding stops turned
  stop_last i e = sym (get_or_at (turned (lt range.hi range.lo)) range.hi [] nan i (turned_length (lt range.hi range.lo) ∙ sym e))

  -- what is left at stop number i
  pub stops_from : (i : ℕ) → i ≤ length breaks → get_or (stops range breaks) i nan ∷ drop (i + 1) (stops range breaks) ≡ drop i (stops range breaks)
  stops_from i h =
      ap (λ (n : ℕ). get_or (stops range breaks) i nan ∷ drop n (stops range breaks)) (add-one i)
      ∙ sym (drop-cons (stops range breaks) i nan (omega (arith, stops_length)))

  pub stops_past : (i : ℕ) → i ≡ length breaks + 1 → drop i (stops range breaks) ≡ []
  stops_past i e = drop_of_length-le (stops range breaks) {i = i} (omega (arith, stops_length))

  module _ (i : ℕ) (h : i < length breaks) where
    stop_of : (t : Bool) → lt range.hi range.lo ≡ t → get_or (turned t) i nan ≡ get_or (stops range breaks) i nan
    unfolding stops turned
    stop_of t e =
        sym (get_or-append (turned t) (range.hi ∷ []) nan i (omega (arith, turned_length t)))
        ∙ ap (λ (t : Bool). get_or (turned t ++ (range.hi ∷ [])) i nan) (sym e)

    pub stop_down : lt range.hi range.lo ≡ true → get_or breaks (length breaks - 1 - i) nan ≡ get_or (stops range breaks) i nan
    unfolding turned
    stop_down e = get_d_reverse breaks i nan h ∙ stop_of true e

    pub stop_up : lt range.hi range.lo ≡ false → get_or breaks i nan ≡ get_or (stops range breaks) i nan
    unfolding turned
    stop_up e = stop_of false e
