-- A row's elements are put into their table, column by column. Assumes nothing.
use mathlib.Core.Logic.{◌⊎◌, inl, inr}
use mathlib.Core.Path.{◌≡◌, refl, sym, ap, ◌∙◌}
use mathlib.Core.Bool.{Bool, true, false}
use mathlib.Core.List.{List, [], ◌∷◌, map}
use Prim.Native.Nat.{ℕ, ◌+◌, ◌<◌, ◌≤◌}
use native.Mathlib.Omega.{arith}
use lib.ListN.{length, set}
use lib.Seq.{sets}
use Rattle.std.proofs.lemmas.List.{length-map, nil_from_length}
use Rattle.base_lists.specs.All.{All, none, more}
use Rattle.text_format.specs.Table.{Field}
use Rattle.text_format.proofs.Buffer.{Part, one_fits, one_written, as_left, all_written}
use Rattle.sheet_layout.specs.declared.Column.{Column}
use Rattle.sheet_layout.specs.Own.Columns.{field_of, shape_of}
use Rattle.sheet_row.specs.Rows.{chosen}

first_of : {A : Type 0} {P : A → Type 0} {a : A} {l : List A} → All P (a ∷ l) → P a
first_of (more h hs) = h

others_of : {A : Type 0} {P : A → Type 0} {a : A} {l : List A} → All P (a ∷ l) → All P l
others_of (more h hs) = hs

pub any_fit : (l : List ℕ) → All (λ _. Unit {0}) l
any_fit [] = none
any_fit (n ∷ l) = more tt (any_fit l)

module _ {E : Type 0} (holds : Field → Bool) (fits : ℕ → Type 0) (value : ℕ → E) where
  -- those numbers of a row that the table holds
  abbrev pub held : List Column → List ℕ → List ℕ
  held shape row = chosen holds (shape_of shape) row

  held_some : (c : Column) (n : ℕ) (cs columns : List Column) (ns row : List ℕ) → columns ≡ c ∷ cs → row ≡ n ∷ ns → true ≡ holds (field_of c)
      → held columns row ≡ n ∷ held cs ns
  unfolding chosen
  held_some c n cs columns ns row e f h = rw (e, f, sym h) refl

  held_other : (c : Column) (n : ℕ) (cs columns : List Column) (ns row : List ℕ) → columns ≡ c ∷ cs → row ≡ n ∷ ns → false ≡ holds (field_of c)
      → held columns row ≡ held cs ns
  unfolding chosen
  held_other c n cs columns ns row e f h = rw (e, f, sym h) refl

  held_none : (columns : List Column) (row : List ℕ) → (length columns ≡ 0) ⊎ (length row ≡ 0) → held columns row ≡ []
  unfolding chosen
  held_none columns row (inl e) = ap (λ l. held l row) (nil_from_length columns e)
  held_none columns row (inr e) = ap (held columns) (nil_from_length row e) ∙ never columns
    where
      never : (columns : List Column) → held columns [] ≡ []
      never [] = refl
      never (c ∷ cs) = refl

  -- `out` is `before` with some of the row's elements from `at` on; those of the columns that are left go to k
  pub record Left (before : List E) (at : ℕ) (shape : List Column) (row : List ℕ) (out : List E) (k : ℕ) (columns : List Column) (numbers : List ℕ) : Type 0 where
    pub part : Part before out at k (map value (held shape row)) (map value (held columns numbers))
    pub fit : All fits (held columns numbers)

  module _ (before : List E) (at : ℕ) (shape : List Column) (row : List ℕ) (out : List E) (k : ℕ) (columns : List Column) (numbers : List ℕ)
      (left : Left before at shape row out k columns numbers) where
    pub all_put : (length columns ≡ 0) ⊎ (length numbers ≡ 0) → (k ≡ at + length (held shape row)) × (out ≡ sets before at (map value (held shape row)))
    all_put h =
        let w = all_written before at _ out k _ left.part (ap (map value) (held_none columns numbers h)) in
        let l = length-map (held shape row) value in
        (omega (arith, w.0), w.1)

    module _ (c : Column) (n : ℕ) (cs : List Column) (ns : List ℕ) (e : columns ≡ c ∷ cs) (f : numbers ≡ n ∷ ns) where
      pub passed : false ≡ holds (field_of c) → Left before at shape row out k cs ns
      passed h =
          let s = held_other c n cs columns ns numbers e f h in
          record { part = as_left before at _ out k _ left.part _ (ap (map value) s); fit = rw s at left.fit }

      module _ (h : true ≡ holds (field_of c)) where
        pub fits_of : fits n
        fits_of = first_of (rw (held_some c n cs columns ns numbers e f h) at left.fit)

        pub room_of : at + length (held shape row) ≤ length before → k < length out
        room_of r =
            let l = length-map (held shape row) value in
            one_fits before at _ out k _ left.part (value n) _ (ap (map value) (held_some c n cs columns ns numbers e f h)) (omega arith)

        pub put_one : (x : E) → x ≡ value n → Left before at shape row (set out k x) (k + 1) cs ns
        put_one x is =
            let s = held_some c n cs columns ns numbers e f h in record {
              part = rw (sym is) at (one_written before at _ out k _ left.part (value n) _ (ap (map value) s));
              fit = others_of (rw s at left.fit);
            }
