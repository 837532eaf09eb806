-- A number by the kind that it is of, and a number of none. Assumes nothing.
use mathlib.Core.Path.{◌≡◌, refl, sym, ap, ◌∙◌}
use mathlib.Core.Bool.{Bool, true, false, cond}
use Prim.Native.Nat.{ℕ, suc}
use lib.Dec.{eqb, eqb-suc-suc}
use denote.Enum.Declared.{tag_of}
use borrow.Author.Tests.{eqb-true, eqb-false, ne_eqb}
use Rattle.std.specs.Prelude.{Option, Some, None}
use Rattle.std.specs.Option.{option_eq}
use Rattle.brep.specs.contracts.Kind.{the_type}
use Rattle.brep.specs.contracts.KindPartialEq.TheImpl.{eq-value}
use Rattle.brep.specs.declared.Kind.{Kind}
use Rattle.brep.specs.declared.Kind.TheVariants.{Line, Circle, Ellipse, Parabola, Polyline, Trimmed, Composite, Hyperbola}
use Rattle.brep.specs.Kind.{number_of, kind_numbered}

-- each kind is that of its number
pub kind_numbered-number_of : (k : Kind) → kind_numbered (number_of k) ≡ Some k
unfolding kind_numbered
kind_numbered-number_of Line = refl
kind_numbered-number_of Circle = refl
kind_numbered-number_of Ellipse = refl
kind_numbered-number_of Parabola = refl
kind_numbered-number_of Polyline = refl
kind_numbered-number_of Trimmed = refl
kind_numbered-number_of Composite = refl
kind_numbered-number_of Hyperbola = refl

-- none of the eight numbers
abbrev pub Unknown : ℕ → Type 0
Unknown k =
    (((((((Unit {0} × (k ≡ 1 → ⊥)) × (k ≡ 2 → ⊥)) × (k ≡ 3 → ⊥)) × (k ≡ 4 → ⊥)) × (k ≡ 5 → ⊥)) × (k ≡ 6 → ⊥)) × (k ≡ 7 → ⊥)) × (k ≡ 8 → ⊥)

module _ (n : ℕ) where
  -- one test of a number
  test : {k : Kind} (this : Kind) {rest : Option Kind} → (Some k ≡ rest → n ≡ number_of k) → Some k ≡ cond (eqb n (number_of this)) (Some this) rest → n ≡ number_of k
  test {k} this {rest} h = go (eqb n (number_of this)) refl
    where
      go : (b : Bool) → eqb n (number_of this) ≡ b → Some k ≡ cond b (Some this) rest → n ≡ number_of k
      go true e s = let same : this ≡ k = cc in eqb-true n (number_of this) e ∙ ap number_of same
      go false e s = h s

  fails : (this : Kind) {rest : Option Kind} → None ≡ cond (eqb n (number_of this)) (Some this) rest → (n ≡ number_of this → ⊥) × (None ≡ rest)
  fails this {rest} = go (eqb n (number_of this)) refl
    where
      go : (b : Bool) → eqb n (number_of this) ≡ b → None ≡ cond b (Some this) rest → (n ≡ number_of this → ⊥) × (None ≡ rest)
      go true e s = cc
      go false e s = (eqb-false n (number_of this) e, s)

-- what has a kind has that kind's number
pub numbered : {n : ℕ} {k : Kind} → Some k ≡ kind_numbered n → n ≡ number_of k
unfolding kind_numbered
numbered {n} =
    test n Line (test n Circle (test n Ellipse (test n Parabola (test n Polyline (test n Trimmed (test n Composite (test n Hyperbola (λ s. cc))))))))

-- the same of the kind k, as an arm of a match has it
pub numbered_as : {n : ℕ} {x k : Kind} → Some x ≡ kind_numbered n → x ≡ k → n ≡ number_of k
numbered_as e i = numbered e ∙ ap number_of i

-- what has none has none of the eight numbers
pub unnumbered : {n : ℕ} → None ≡ kind_numbered n → Unknown n
unfolding kind_numbered
unnumbered {n} s =
    let a = fails n Line s in
    let b = fails n Circle a.1 in
    let c = fails n Ellipse b.1 in
    let d = fails n Parabola c.1 in
    let e = fails n Polyline d.1 in
    let f = fails n Trimmed e.1 in
    let g = fails n Composite f.1 in
    let h = fails n Hyperbola g.1 in
    ((((((((tt, a.0), b.0), c.0), d.0), e.0), f.0), g.0), h.0)

-- the numbers are the tags, from 1 on
tagged : (k : Kind) → number_of k ≡ suc (tag_of the_type k)
tagged Line = refl
tagged Circle = refl
tagged Ellipse = refl
tagged Parabola = refl
tagged Polyline = refl
tagged Trimmed = refl
tagged Composite = refl
tagged Hyperbola = refl

-- a test of a number's kind is a test of the number
pub is_kind : (n : ℕ) (k : Kind) → option_eq eq-value.it (kind_numbered n) (Some k) ≡ eqb n (number_of k)
is_kind n k = go (kind_numbered n) refl
  where
    go : (o : Option Kind) → o ≡ kind_numbered n → option_eq eq-value.it o (Some k) ≡ eqb n (number_of k)
    go (Some j) e = rw (numbered e, tagged j, tagged k, eqb-suc-suc)
    go None e = sym (ne_eqb n (number_of k) (none k))
      where
        none : (k : Kind) → n ≡ number_of k → ⊥
        none Line = (unnumbered e).0.0.0.0.0.0.0.1
        none Circle = (unnumbered e).0.0.0.0.0.0.1
        none Ellipse = (unnumbered e).0.0.0.0.0.1
        none Parabola = (unnumbered e).0.0.0.0.1
        none Polyline = (unnumbered e).0.0.0.1
        none Trimmed = (unnumbered e).0.0.1
        none Composite = (unnumbered e).0.1
        none Hyperbola = (unnumbered e).1

-- what `==` told of a number's kind
module _ {n : ℕ} (k : Kind) {o : Option Kind} (e : o ≡ kind_numbered n) {b : Bool} (t : b ≡ option_eq eq-value.it o (Some k)) where
  pub is_numbered : b ≡ true → n ≡ number_of k
  is_numbered h = eqb-true n (number_of k) (sym (is_kind n k) ∙ ap (λ x. option_eq eq-value.it x (Some k)) (sym e) ∙ sym t ∙ h)

  pub not_numbered : b ≡ false → n ≡ number_of k → ⊥
  not_numbered h = eqb-false n (number_of k) (sym (is_kind n k) ∙ ap (λ x. option_eq eq-value.it x (Some k)) (sym e) ∙ sym t ∙ h)
