-- The loop of `thin_breaks`, over any deviation. Assumes nothing.
use mathlib.Core.Path.{◌≡◌, refl, sym, ap, ◌∙◌}
use mathlib.Core.Bool.{Bool, true, false}
use mathlib.Core.List.{List, ◌∷◌, ◌++◌, append-nil}
use Prim.Native.Nat.{ℕ, ◌+◌, ◌-◌, ◌≤◌, ◌<◌}
use native.Mathlib.Omega.{arith}
use lib.ListN.{length, get_or, take, drop, set, replicate, drop_of_length-le}
use lib.Seq.{drop-cons, length-take-le}
use lib.Ieee.{Float, nan, lt, binary64, of_bits}
use Rattle.arith.specs.Notation.{plus_zero}
use Rattle.base_lists.specs.Room.{filled}
use Rattle.base_lists.proofs.Filtering.{Filtering, filtering_rest, filtering_skip, filtering_keep, filtering_done}
use Rattle.knots_inside.specs.Thinned.{next_of, thinned_from, thin_breaks}

-- ---- next_of
pub next_some : (hi : Float) (l : List Float) (i : ℕ) → i + 1 < length l → get_or l (i + 1) nan ≡ next_of hi (drop (i + 1) l)
next_some hi l i h = sym (ap (next_of hi) (drop-cons l (i + 1) nan h))

pub next_none : (hi : Float) (l : List Float) (i : ℕ) → length l ≤ i + 1 → hi ≡ next_of hi (drop (i + 1) l)
next_none hi l i h = sym (ap (next_of hi) (drop_of_length-le l {i = i + 1} h))

-- ---- the loop: start is the last break kept, or lo
module _ (deviation : Float → Float → Float) (sag hi lo : Float) where
  abbrev pub Thinning : List Float → List Float → Float → ℕ → ℕ → Type 0
  Thinning a₀ a start k i = Filtering (thinned_from deviation sag hi lo a₀) a₀ a (thinned_from deviation sag hi start) k i

  thinned_is : (start b : Float) (bs : List Float) (v : Bool) → lt sag (deviation start (next_of hi bs)) ≡ v
      → thinned_from deviation sag hi start (b ∷ bs) ≡ elim v [ true ↦ b ∷ thinned_from deviation sag hi b bs | false ↦ thinned_from deviation sag hi start bs ]
  unfolding thinned_from
  thinned_is start b bs v h = ap (λ (v : Bool). elim v [ true ↦ b ∷ thinned_from deviation sag hi b bs | false ↦ thinned_from deviation sag hi start bs ]) h

  module _ {a₀ a : List Float} {start : Float} {k i : ℕ} (s : Thinning a₀ a start k i) (p : i < length a₀) (next d : Float)
      (is : next ≡ next_of hi (drop (i + 1) a)) (of : d ≡ deviation start next) where
    tested : (v : Bool) → lt sag d ≡ v → lt sag (deviation start (next_of hi (drop (i + 1) a₀))) ≡ v
    tested v h = ap (λ (b : Float). lt sag (deviation start b)) (sym (is ∙ ap (next_of hi) (filtering_rest nan s p))) ∙ ap (lt sag) (sym of) ∙ h

    pub thinning_keep : lt sag d ≡ true → Thinning a₀ (set a k (get_or a i nan)) (get_or a i nan) (k + 1) (i + 1)
    thinning_keep h = filtering_keep nan s p (thinned_from deviation sag hi (get_or a i nan)) (thinned_is start (get_or a i nan) (drop (i + 1) a₀) true (tested true h))

    pub thinning_skip : lt sag d ≡ false → Thinning a₀ a start k (i + 1)
    thinning_skip h = filtering_skip nan s p (thinned_is start (get_or a i nan) (drop (i + 1) a₀) false (tested false h))

  module _ {a₀ a : List Float} (start : Float) {k i : ℕ} (s : Thinning a₀ a start k i) (h : length a₀ ≤ i) (positive : lt plus_zero sag ≡ true) where
    thinned : take k a ≡ thin_breaks a₀ lo hi sag deviation
    unfolding thinned_from thin_breaks
    thinned = (filtering_done s refl h).1 ∙ sym (ap (λ (v : Bool). elim v [ true ↦ thinned_from deviation sag hi lo a₀ | false ↦ a₀ ]) positive)

    pub thinning_count : k ≡ length (thin_breaks a₀ lo hi sag deviation)
    thinning_count = sym (length-take-le k a (omega (arith, s.kept, s.read, s.same_length))) ∙ ap length thinned

    -- cleared: the buffer in the end
    pub thinning_buffer : (cleared : List Float) → cleared ≡ filled (length a) (take k a) → cleared ≡ filled (length a₀) (thin_breaks a₀ lo hi sag deviation)
    thinning_buffer cleared e = e ∙ ap (λ (n : ℕ). filled n (take k a)) s.same_length ∙ ap (filled (length a₀)) thinned

  pub all_stay : (a : List Float) → lt plus_zero sag ≡ false → a ≡ thin_breaks a lo hi sag deviation
  unfolding thin_breaks
  all_stay a t = sym (ap (λ (v : Bool). elim v [ true ↦ thinned_from deviation sag hi lo a | false ↦ a ]) t)

-- a buffer that is full of its list
pub filled_full : (a : List Float) → a ≡ filled (length a) a
filled_full a = let none : 0 ≡ length a - length a = omega arith in sym (append-nil a) ∙ ap (λ (n : ℕ). a ++ replicate n (of_bits binary64 0)) none
