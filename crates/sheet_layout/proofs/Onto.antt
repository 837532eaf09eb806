-- A list that is read piece by piece: those that were read, in front of what is still to be read, are the whole. Assumes nothing.
use mathlib.Core.Path.{◌≡◌, refl, ap}
use mathlib.Core.List.{List, [], ◌∷◌, ◌++◌, append_assoc}
use Rattle.std.specs.Prelude.{Some, None}
use Rattle.text_format.specs.Format.{Parsed, and_then}

-- l in front of what is read
unfoldable pub onto : {A : Type 0} → List A → Parsed (List A) → Parsed (List A)
onto l None = None
onto l (Some (m, rest)) = Some (l ++ m, rest)

pub onto_onto : {A : Type 0} (l m : List A) (q : Parsed (List A)) → onto (l ++ m) q ≡ onto l (onto m q)
unfolding onto
onto_onto l m None = refl
onto_onto l m (Some (n, rest)) = ap (λ z. Some (z, rest)) (append_assoc l m n)

pub onto_nothing : {A : Type 0} (q : Parsed (List A)) → onto [] q ≡ q
unfolding onto
onto_nothing None = refl
onto_nothing (Some (n, rest)) = refl

pub onto_one : {A : Type 0} (a : A) (q : Parsed (List A)) → and_then q (λ l more. Some (a ∷ l, more)) ≡ onto (a ∷ []) q
unfolding onto and_then
onto_one a None = refl
onto_one a (Some (l, more)) = refl
