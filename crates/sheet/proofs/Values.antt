-- What was read, by what was told: a value stands for what was read. Assumes nothing.
use Rattle.std.proofs.Common.{◌≡◌, List, ℕ, refl, sym, ap, Some, None}
use Rattle.std.proofs.lemmas.Option.{some_pair_parts}
use Rattle.text_format.specs.Format.{Parsed}
use Rattle.sheet_edge.specs.Own.Answers.{parsed_as}

module _ {A B : Type 0} (value : A → B) where
  -- a was read, for which x stands, and `rest` is left
  pub record Stood (q : Parsed A) (x : B) (rest : List ℕ) : Type 0 where
    pub read : A
    pub is : q ≡ Some (read, rest)
    pub stands : x ≡ value read

  pub stood : (q : Parsed A) (x : B) (rest : List ℕ) → Some (x, rest) ≡ parsed_as value q → Stood q x rest
  stood None x rest e = absurd cc
  stood (Some (a, left)) x rest e =
      let p = some_pair_parts x (value a) rest left e in
      record { read = a; is = ap (λ r. Some (a, r)) (sym p.1); stands = p.0 }

  pub none_stood : (q : Parsed A) → None ≡ parsed_as value q → q ≡ None
  none_stood None e = refl
  none_stood (Some p) e = absurd cc
