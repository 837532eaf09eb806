-- Lines up to an empty one: lawful for a lawful line that is never empty; how many bytes they take at least. Assumes nothing.
use mathlib.Core.Path.{◌≡◌, refl, sym, ap, subst, ◌∙◌}
use mathlib.Core.Bool.{Bool, true, false, cond}
use mathlib.Core.List.{List, [], ◌∷◌, ◌++◌, append_assoc}
use Prim.Native.Nat.{ℕ, zero, suc, ◌*◌, ◌<◌, ◌≤◌}
use native.Mathlib.Omega.{arith}
use native.Mathlib.Nat.{mul-zero, mul-suc}
use lib.ListN.{length, length-append}
use lib.Dec.{eqb}
use borrow.Author.Tests.{eqb-true, ne_eqb}
use Rattle.base_lists.specs.All.{All, none, more}
use Rattle.text_format.specs.Format.{Parsed, Format, Lawful, and_then, write_lines, read_lines, lines}
use Rattle.std.specs.Prelude.{Some, None}
use Rattle.std.proofs.lemmas.Option.{none-some, some_pair_parts}
use Rattle.text_format.proofs.Laws.{then_parsed}

-- a text that begins with the newline is no line
abbrev pub NoLine : {A : Type 0} → Format A → Type 0
NoLine F = (bs : List ℕ) → F.read (10 ∷ bs) ≡ None

-- so a line has a first byte, and that is not the newline
record Starts {A : Type 0} (F : Format A) (a : A) : Type 0 where
  pub byte : ℕ
  pub more : List ℕ
  pub is : F.write a ≡ byte ∷ more
  pub other : byte ≡ 10 → ⊥

starts : {A : Type 0} (F : Format A) → Lawful F → NoLine F → (a : A) → F.valid a → Starts F a
starts {A} F L N a v = go (F.write a) refl
  where
    never : {X : Type 0} (t : List ℕ) (rest : List ℕ) → F.write a ++ rest ≡ 10 ∷ t → X
    never t rest e = absurd (none-some (a, rest) (sym (N t) ∙ ap F.read (sym e) ∙ L.back a rest v))

    go : (w : List ℕ) → F.write a ≡ w → Starts F a
    go [] e = never [] (10 ∷ []) (ap (λ z. z ++ (10 ∷ [])) e)
    go (c ∷ t) e = record { byte = c; more = t; is = e; other = λ q. never (t ++ []) [] (ap (λ z. z ++ []) e ∙ ap (λ z. z ∷ t ++ []) q) }

module _ {A : Type 0} (F : Format A) (L : Lawful F) (N : NoLine F) where
  line_step : (k : ℕ) (bs : List ℕ) (b : ℕ) (t : List ℕ) (a : A) (l : List A) (mid rest : List ℕ) → bs ≡ b ∷ t → (b ≡ 10 → ⊥)
      → F.read bs ≡ Some (a, mid) → read_lines k F mid ≡ Some (l, rest) → read_lines (suc k) F bs ≡ Some (a ∷ l, rest)
  unfolding read_lines and_then
  line_step k bs b t a l mid rest e n f g = ap (read_lines (suc k) F) e ∙ rw (ne_eqb b 10 n, ap F.read (sym e) ∙ f, g)

  pub lines_back : (k : ℕ) (l : List A) (rest : List ℕ) → length l < k → All F.valid l → read_lines k F (write_lines F l ++ rest) ≡ Some (l, rest)
  unfolding read_lines write_lines
  lines_back zero l rest h v = absurd (omega arith)
  lines_back (suc k) [] rest h v = refl
  lines_back (suc k) (a ∷ l) rest h (more p v) =
      let s = starts F L N a p in
      line_step k ((F.write a ++ write_lines F l) ++ rest) s.byte ((s.more ++ write_lines F l) ++ rest) a l (write_lines F l ++ rest) rest
      (ap (λ z. (z ++ write_lines F l) ++ rest) s.is) s.other
      (ap F.read (append_assoc (F.write a) (write_lines F l) rest) ∙ L.back a (write_lines F l ++ rest) p)
      (lines_back k l rest (omega arith) v)

  pub record Lines (bs : List ℕ) (l : List A) (rest : List ℕ) : Type 0 where
    pub each : All F.valid l
    pub text : write_lines F l ++ rest ≡ bs

  empty : (b : ℕ) (bs : List ℕ) (l : List A) (rest : List ℕ) → eqb b 10 ≡ true → ◌≡◌ {A = Parsed (List A)} (Some ([], bs)) (Some (l, rest)) → Lines (b ∷ bs) l rest
  unfolding write_lines
  empty b bs l rest t e =
      let s = some_pair_parts {A = List A} [] l bs rest e in
      subst (λ z. Lines (b ∷ bs) z rest) s.0 (record { each = none; text = cc (eqb-true b 10 t, s.1) })

  pub lines_was : (k : ℕ) (bs : List ℕ) (l : List A) (rest : List ℕ) → read_lines k F bs ≡ Some (l, rest) → Lines bs l rest
  unfolding read_lines write_lines
  lines_was zero bs l rest e = absurd (none-some (l, rest) e)
  lines_was (suc k) [] l rest e = absurd (none-some (l, rest) e)
  lines_was (suc k) (b ∷ bs) l rest e = go (eqb b 10) refl e (λ u m more f. lines_was k u m more f)
    where
      tail : A → List ℕ → Parsed (List A)
      tail a u = and_then (read_lines k F u) (λ m last. Some (a ∷ m, last))

      go : (t : Bool) → eqb b 10 ≡ t → cond t (Some ([], bs)) (and_then (F.read (b ∷ bs)) tail) ≡ Some (l, rest)
          → ((u : List ℕ) (m : List A) (last : List ℕ) → read_lines k F u ≡ Some (m, last) → Lines u m last) → Lines (b ∷ bs) l rest
      go true t e r = empty b bs l rest t e
      go false t e r =
          let x = then_parsed (F.read (b ∷ bs)) tail l rest e in
          let y = then_parsed (read_lines k F x.left) (λ m last. Some (x.value ∷ m, last)) l rest x.on in
          let s = some_pair_parts (x.value ∷ y.value) l y.left rest y.on in
          let f = L.was (b ∷ bs) x.value x.left x.first in
          let g = r x.left y.value y.left y.first in
          let w : Lines (b ∷ bs) (x.value ∷ y.value) y.left = record {
            each = more f.right g.each;
            text = append_assoc (F.write x.value) (write_lines F y.value) y.left ∙ ap (λ z. F.write x.value ++ z) g.text ∙ f.text;
          } in
          subst (λ z. Lines (b ∷ bs) z rest) s.0 (subst (λ z. Lines (b ∷ bs) (x.value ∷ y.value) z) s.1 w)

  -- each line takes a byte at least
  line_one : (a : A) → F.valid a → 1 ≤ length (F.write a)
  line_one a v = let i = ap length (starts F L N a v).is in omega arith

  pub line_some : (bs : List ℕ) (a : A) (rest : List ℕ) → F.read bs ≡ Some (a, rest) → length rest < length bs
  line_some bs a rest e =
      let w = L.was bs a rest e in
      let i = line_one a w.right in
      let l = simp length-append at (ap length w.text) in
      omega arith

  -- more turns than bytes change nothing
  pub turns : (k j : ℕ) (bs : List ℕ) → length bs ≤ k → length bs ≤ j → read_lines k F bs ≡ read_lines j F bs
  unfolding read_lines and_then
  turns zero zero bs h g = refl
  turns zero (suc j) [] h g = refl
  turns zero (suc j) (b ∷ bs) h g = absurd (omega arith)
  turns (suc k) zero [] h g = refl
  turns (suc k) zero (b ∷ bs) h g = absurd (omega arith)
  turns (suc k) (suc j) [] h g = refl
  turns (suc k) (suc j) (b ∷ bs) h g =
      ap (λ p. cond (eqb b 10) (Some ([], bs)) p) (same (F.read (b ∷ bs)) refl (λ rest x y. turns k j rest x y))
    where
      tail : ℕ → A → List ℕ → Parsed (List A)
      tail i a rest = and_then (read_lines i F rest) (λ l last. Some (a ∷ l, last))

      same : (p : Parsed A) → F.read (b ∷ bs) ≡ p → ((rest : List ℕ) → length rest ≤ k → length rest ≤ j → read_lines k F rest ≡ read_lines j F rest)
          → and_then p (tail k) ≡ and_then p (tail j)
      same None e r = refl
      same (Some (a, rest)) e r =
          let m = line_some (b ∷ bs) a rest e in
          ap (λ q. and_then q (λ l last. Some (a ∷ l, last))) (r rest (omega arith) (omega arith))

-- lines of w bytes and more, and the empty one
pub lines_long : {A : Type 0} (F : Format A) (w : ℕ) → ((a : A) → F.valid a → w ≤ length (F.write a))
    → (l : List A) → All F.valid l → w * length l < length (write_lines F l)
unfolding write_lines
lines_long F w h [] none = omega (arith, mul-zero w)
lines_long F w h (a ∷ l) (more p v) =
    let i = lines_long F w h l v in
    let j = h a p in
    let k = mul-suc w (length l) in
    simp length-append (omega arith)

pub lines_law : {A : Type 0} (F : Format A) → Lawful F → NoLine F → Lawful (lines F)
unfolding lines
lines_law F L N = record {
  back = λ l rest v.
      let h = lines_long F 1 (line_one F L N) l v in
      lines_back F L N (length (write_lines F l ++ rest)) l rest (simp length-append (omega arith)) v;
  was = λ bs l rest e. let x = lines_was F L N (length bs) bs l rest e in record { right = x.each; text = x.text };
}
