-- A part of a list that calls made, each of them the value. Assumes nothing.
use mathlib.Core.Path.{◌≡◌, refl, sym, ap, subst, ◌∙◌}
use mathlib.Core.List.{List, [], ◌∷◌, ◌++◌, append-nil}
use Prim.Native.Nat.{ℕ, ◌-◌, ◌≤◌}
use native.Mathlib.Omega.{arith}
use borrow.Rule.Slice.PartMut.{put_mid}
use lib.ListN.{length, take, drop, replicate, length-drop}
use lib.Seq.{length-take-le}
use Rattle.std.proofs.lemmas.List.{drop_all}
use Rattle.std.specs.List.{FoldsTo}
use Rattle.base_lists.specs.Room.{padded}

-- calls that make the value and change nothing
pub made_same : {P A : Type 0} (R : P → A → P → Type 0) (f : P) (value : A) → ((x : A) (q : P) → R f x q → (x ≡ value) × (q ≡ f)) → (l : List A) (q : P) → FoldsTo R f l q → l ≡ replicate (length l) value
made_same R f value h [] q e = refl
made_same {P} {A} R f value h (x ∷ l) q (j, r, e) =
    let s = h x j r in
    ap (λ (y : A). y ∷ l) s.0 ∙ ap (λ (k : List A). value ∷ k) (made_same R f value h l q (subst (λ (p : P). FoldsTo R p l q) s.1 e))

-- a list whose part from number `from` on is the value throughout
pub rest_filled : {A : Type 0} (from : ℕ) (a l : List A) (value : A) → from ≤ length a → length l ≡ length a - from → l ≡ replicate (length l) value → put_mid from (length a - from) a l ≡ padded (length a) value (take from a)
rest_filled {A} from a l value h n e =
    ap (λ (k : List A). take from a ++ k)
    (ap (λ (k : List A). l ++ k) (drop_all (length a - from) (drop from a) (omega (arith, length-drop from a))) ∙ append-nil l
    ∙ e ∙ ap (λ (m : ℕ). replicate m value) (n ∙ ap (λ (m : ℕ). length a - m) (sym (length-take-le from a h))))
