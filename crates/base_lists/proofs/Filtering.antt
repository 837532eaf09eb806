-- A filter in place: what is kept, then what f leaves of the rest, is the whole. Assumes nothing.
use mathlib.Core.Path.{◌≡◌, refl, sym, ap, ◌∙◌}
use mathlib.Core.List.{List, [], ◌∷◌, ◌++◌, append-nil}
use Prim.Native.Nat.{ℕ, ◌+◌, ◌≤◌, ◌<◌}
use native.Mathlib.Numerals.{add-one}
use native.Mathlib.Omega.{arith}
use lib.ListN.{length, get_or, take, drop, set, length-set, drop_of_length-le}
use lib.Seq.{take-suc-set, drop-set-lt, drop-cons, append_snoc}

-- of a₀ the first i are read, and the first k of a are kept of them
pub record Filtering {A : Type 0} (whole a₀ a : List A) (f : List A → List A) (k i : ℕ) : Type 0 where
  pub kept : k ≤ i
  pub read : i ≤ length a₀
  pub same_length : length a ≡ length a₀
  pub rest : drop i a ≡ drop i a₀
  pub all : take k a ++ f (drop i a₀) ≡ whole

module _ {A : Type 0} where
  pub filtering_start : (a : List A) (f : List A → List A) → Filtering (f a) a a f 0 0
  filtering_start a f = record { kept = omega arith; read = omega arith; same_length = refl; rest = refl; all = refl }

  module _ (d : A) {whole a₀ a : List A} {f : List A → List A} {k i : ℕ} (s : Filtering whole a₀ a f k i) (p : i < length a₀) where
    here : drop i a ≡ get_or a i d ∷ drop (i + 1) a
    here = drop-cons a i d (omega (arith, s.same_length)) ∙ ap (λ (n : ℕ). get_or a i d ∷ drop n a) (sym (add-one i))

    pub filtering_rest : drop (i + 1) a ≡ drop (i + 1) a₀
    filtering_rest =
        let e : get_or a i d ∷ drop (i + 1) a ≡ get_or a₀ i d ∷ drop (i + 1) a₀ = sym here ∙ s.rest ∙ drop-cons a₀ i d p ∙ ap (λ (n : ℕ). get_or a₀ i d ∷ drop n a₀) (sym (add-one i)) in
        cc

    front : drop i a₀ ≡ get_or a i d ∷ drop (i + 1) a₀
    front = sym s.rest ∙ here ∙ ap (λ (l : List A). get_or a i d ∷ l) filtering_rest

    pub filtering_skip : f (get_or a i d ∷ drop (i + 1) a₀) ≡ f (drop (i + 1) a₀) → Filtering whole a₀ a f k (i + 1)
    filtering_skip h = record {
      kept = omega (arith, s.kept);
      read = omega arith;
      same_length = s.same_length;
      rest = filtering_rest;
      all = ap (λ (l : List A). take k a ++ l) (sym h ∙ ap f (sym front)) ∙ s.all;
    }

    pub filtering_keep : (g : List A → List A) → f (get_or a i d ∷ drop (i + 1) a₀) ≡ get_or a i d ∷ g (drop (i + 1) a₀) → Filtering whole a₀ (set a k (get_or a i d)) g (k + 1) (i + 1)
    filtering_keep g h = record {
      kept = omega (arith, s.kept);
      read = omega arith;
      same_length = length-set a k (get_or a i d) ∙ s.same_length;
      rest = drop-set-lt (i + 1) a k (get_or a i d) (omega (arith, s.kept)) ∙ filtering_rest;
      all =
          ap (λ (n : ℕ). take n (set a k (get_or a i d)) ++ g (drop (i + 1) a₀)) (add-one k)
          ∙ ap (λ (l : List A). l ++ g (drop (i + 1) a₀)) (take-suc-set a k (get_or a i d) (omega (arith, s.kept, s.same_length)))
          ∙ append_snoc (take k a) (get_or a i d) (g (drop (i + 1) a₀))
          ∙ ap (λ (l : List A). take k a ++ l) (sym h ∙ ap f (sym front)) ∙ s.all;
    }

  pub filtering_done : {whole a₀ a : List A} {f : List A → List A} {k i : ℕ} → Filtering whole a₀ a f k i → f [] ≡ [] → length a₀ ≤ i → (k ≤ length a₀) × (take k a ≡ whole)
  filtering_done {whole} {a₀} {a} {f} {k} {i} s e h = (
    omega (arith, s.kept, s.read),
    sym (append-nil (take k a)) ∙ ap (λ (l : List A). take k a ++ l) (sym (ap f (drop_of_length-le a₀ {i = i} h) ∙ e)) ∙ s.all,
  )
