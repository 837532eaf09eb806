-- The loop over the rows of a table. Assumes nothing.
use mathlib.Core.Path.{◌≡◌, refl, sym, ap, ◌∙◌}
use mathlib.Core.Bool.{Bool, true, false, cond}
use mathlib.Core.List.{List, [], ◌∷◌, ◌++◌, map, append-nil}
use Prim.Native.Nat.{ℕ, ◌+◌, ◌*◌, ◌^◌, ◌<◌, ◌≤◌}
use native.Mathlib.Omega.{arith}
use native.Mathlib.Nat.{mul-zero, mul-add}
use lib.ListN.{length, take, length-append}
use lib.Dec.{eqb}
use lib.Ieee.{Float, binary64, of_bits}
use lib.Seq.{sets}
use borrow.Author.Tests.{eqb-true}
use Rattle.std.specs.Prelude.{Some, None}
use Rattle.std.proofs.lemmas.Option.{some_pair_parts}
use Rattle.base_lists.specs.All.{All, none, more}
use Rattle.base_lists.specs.Room.{padded}
use Rattle.text_format.specs.Format.{Parsed, Format, Lawful, when, and_then, expect, read_lines, lines}
use Rattle.text_format.specs.Table.{Field, line}
use Rattle.text_format.proofs.Laws.{expect_was}
use Rattle.text_format.proofs.Lines.{NoLine, line_some, turns}
use Rattle.text_format.proofs.Tables.{no_line}
use Rattle.text_format.specs.Own.Answers.{counted}
use Rattle.sheet_layout.specs.Layout.{size}
use Rattle.sheet_layout.specs.declared.Column.{Column}
use Rattle.sheet_layout.specs.Own.Columns.{field_of, shape_of, parsed_row}
use Rattle.sheet_layout.proofs.Columns.{column_good, shape_good, shape_law}
use Rattle.sheet_layout.proofs.Onto.{onto, onto_onto, onto_nothing, onto_one}
use Rattle.sheet_row.specs.Rows.{is_float, floats_of, wholes_of}
use Rattle.sheet_tables.specs.Flattened.{flattened}
use Rattle.sheet_tables.specs.Own.Answers.{numbers_of}
use Rattle.sheet_tables.specs.Own.Lists.{SameLists, Holds}
use Rattle.sheet_tables.specs.declared.Lists.{Lists}
use Rattle.sheet_tables.specs.Own.Room.{least, column_count, Roomy}
use Rattle.sheet_tables.proofs.Valid.{is_whole, row_length, chosen_padded, narrow as narrow_valid, line_long}
use Rattle.sheet_tables.proofs.Fits.{wholes_length, floats_length}
use Rattle.sheet_tables.proofs.Stores.{Put, none_put, one_put, put_length, padded_behind}

-- ---- lines, one by one
module _ {A : Type 0} (F : Format A) (L : Lawful F) (N : NoLine F) where
  -- no line, and no empty one
  pub lines_none : (bs : List ℕ) (n : ℕ) → F.read bs ≡ None → expect (10 ∷ []) n bs ≡ None → (lines F).read bs ≡ None
  unfolding lines read_lines and_then expect when
  lines_none [] n f e = refl
  lines_none (b ∷ bs) n f e = rw f (go (eqb b 10) e)
    where
      go : (t : Bool) → when t (Some (n, bs)) ≡ None → ◌≡◌ {A = Parsed (List A)} (cond t (Some ([], bs)) None) None
      go true e = cc
      go false e = refl

  -- the empty line
  pub lines_end : (bs : List ℕ) (n m : ℕ) (rest : List ℕ) → Some (m, rest) ≡ expect (10 ∷ []) n bs → (lines F).read bs ≡ Some ([], rest)
  unfolding lines read_lines
  lines_end bs n m rest e = let w = expect_was (10 ∷ []) n bs m rest (sym e) in ap (lines F).read (sym w.text)

  -- a line in front
  pub lines_turn : (bs : List ℕ) (a : A) (next : List ℕ) → F.read bs ≡ Some (a, next) → (lines F).read bs ≡ onto (a ∷ []) ((lines F).read next)
  unfolding lines read_lines and_then
  lines_turn [] a next f = let m = line_some F L N [] a next f in absurd (omega arith)
  lines_turn (b ∷ bs) a next f = go (eqb b 10) refl
    where
      go : (t : Bool) → eqb b 10 ≡ t → cond t (Some ([], bs)) (and_then (F.read (b ∷ bs)) (λ a rest. and_then (read_lines (length bs) F rest) (λ l last. Some (a ∷ l, last)))) ≡ onto (a ∷ []) (read_lines (length next) F next)
      go true t = let z = ap (λ c. F.read (c ∷ bs)) (eqb-true b 10 t) in absurd (let w : None ≡ Some (a, next) = sym (N bs) ∙ sym z ∙ f in cc)
      go false t =
          let m = line_some F L N (b ∷ bs) a next f in
          ap (λ q. and_then q (λ a rest. and_then (read_lines (length bs) F rest) (λ l last. Some (a ∷ l, last)))) f
          ∙ onto_one a (read_lines (length bs) F next) ∙ ap (onto (a ∷ [])) (turns F L N (length bs) (length next) next (omega arith) (omega arith))

-- what is left behind a text is no longer than all
pub behind_fits : {A : Type 0} (w : List ℕ) (a b : A) (bs rest : List ℕ) (k : ℕ) → Some (b, rest) ≡ expect w a bs → length bs ≤ k → length rest ≤ k
behind_fits w a b bs rest k e h =
    let t = simp length-append at (ap length (expect_was w a bs b rest (sym e)).text) in
    omega arith

-- ---- what was read of a line, by what was told
-- the line's numbers l, with zeros behind them in `row`
pub record Line (F : Format (List ℕ)) (s row next : List ℕ) : Type 0 where
  pub list : List ℕ
  pub held : row ≡ padded 9 0 list
  pub is : F.read s ≡ Some (list, next)

pub line_read : (F : Format (List ℕ)) (s row next : List ℕ) → Some (row, next) ≡ parsed_row (F.read s) → Line F s row next
line_read F s row next e = go (F.read s) refl e
  where
    go : (q : Parsed (List ℕ)) → F.read s ≡ q → Some (row, next) ≡ parsed_row q → Line F s row next
    go None f e = absurd cc
    go (Some (l, rest)) f e =
        let p = some_pair_parts row (padded 9 0 l) next rest e in
        record { list = l; held = p.0; is = f ∙ ap (λ r. Some (l, r)) (sym p.1) }

pub no_line_read : (F : Format (List ℕ)) (s : List ℕ) → None ≡ parsed_row (F.read s) → F.read s ≡ None
no_line_read F s e = go (F.read s) e
  where
    go : (q : Parsed (List ℕ)) → None ≡ parsed_row q → q ≡ None
    go None e = refl
    go (Some p) e = cc

-- ---- the loop
-- n rows were read of the text and put, and `rest` is left of it
pub record Rows (text : List ℕ) (columns : List Column) (wholes₀ : List ℕ) (floats₀ : List Float) (rest wholes : List ℕ) (floats : List Float) (n w f : ℕ) : Type 0 where
  pub fits : length text ≤ size
  pub taken : List (List ℕ)
  pub valid : All (line (shape_of columns)).valid taken
  pub count : n ≡ length taken
  pub bytes : least (shape_of columns) * n + length rest ≤ length text
  pub few : n + length rest ≤ length text
  pub whole : onto taken ((lines (line (shape_of columns))).read rest) ≡ (lines (line (shape_of columns))).read text
  pub wholes_put : Put (wholes_of (shape_of columns)) wholes₀ wholes taken w
  pub floats_put : Put (floats_of (shape_of columns)) floats₀ floats taken f

pub no_rows : (text : List ℕ) (columns : List Column) (wholes₀ : List ℕ) (floats₀ : List Float) → length text ≤ size → Rows text columns wholes₀ floats₀ text wholes₀ floats₀ 0 0 0
no_rows text columns wholes₀ floats₀ fits = record {
  fits = fits;
  taken = [];
  valid = none;
  count = refl;
  bytes = omega (arith, mul-zero (least (shape_of columns)));
  few = omega arith;
  whole = onto_nothing ((lines (line (shape_of columns))).read text);
  wholes_put = none_put (wholes_of (shape_of columns)) wholes₀;
  floats_put = none_put (floats_of (shape_of columns)) floats₀;
}

-- one more row is read, into the array `row`: what the calls that put it ask, and where the loop stands behind them
pub record Next (text : List ℕ) (columns : List Column) (wholes₀ : List ℕ) (floats₀ : List Float) (rest wholes : List ℕ) (floats : List Float) (n w f : ℕ) (row next : List ℕ) : Type 0 where
  pub later : length next < length rest
  pub wholes_fit : w + length (wholes_of (shape_of columns) row) ≤ length wholes
  pub floats_fit : f + length (floats_of (shape_of columns) row) ≤ length floats
  pub narrow : All (λ n. n < 2 ^ 32) (wholes_of (shape_of columns) row)
  pub turn : (wholes' : List ℕ) (w' : ℕ) (floats' : List Float) (f' : ℕ)
      → w' ≡ w + length (wholes_of (shape_of columns) row) → wholes' ≡ sets wholes w (wholes_of (shape_of columns) row)
      → f' ≡ f + length (floats_of (shape_of columns) row) → floats' ≡ sets floats f (floats_of (shape_of columns) row)
      → Rows text columns wholes₀ floats₀ next wholes' floats' (n + 1) w' f'

-- a row is no empty line
no_row : (columns : List Column) → 0 < length columns → NoLine (line (shape_of columns))
no_row [] h = absurd (omega arith)
no_row (c ∷ cs) h = no_line (field_of c) (shape_of cs) (column_good c)

module _ {text : List ℕ} {columns : List Column} {wholes₀ : List ℕ} {floats₀ : List Float} {rest wholes : List ℕ} {floats : List Float} {n w f : ℕ}
    (room : Roomy columns (length wholes₀) (length floats₀)) (r : Rows text columns wholes₀ floats₀ rest wholes floats n w f) where
  abbrev F : Format (List ℕ)
  F = line (shape_of columns)

  -- ---- the ways out
  pub rows_none : None ≡ parsed_row (F.read rest) → None ≡ expect (10 ∷ []) n rest → None ≡ counted ((lines F).read text)
  unfolding onto
  rows_none no_more e =
      let q = sym r.whole ∙ ap (onto r.taken) (lines_none F (shape_law columns) (no_row columns room.some) rest n (no_line_read F rest no_more) (sym e)) in
      sym (ap counted q)

  module _ (m : ℕ) (end : List ℕ) (e : Some (m, end) ≡ expect (10 ∷ []) n rest) where
    pub all_rows : (lines F).read text ≡ Some (r.taken, end)
    unfolding onto
    all_rows =
        sym r.whole ∙ ap (onto r.taken) (lines_end F (shape_law columns) (no_row columns room.some) rest n m end e) ∙ ap (λ l. Some (l, end)) (append-nil r.taken)

    pub rows_count : Some (m, end) ≡ counted ((lines F).read text)
    rows_count =
        let x = expect_was (10 ∷ []) n rest m end (sym e) in
        let same : m ≡ length r.taken = sym x.same ∙ r.count in
        ap (λ k. Some (k, end)) same ∙ sym (ap counted all_rows)

    few_bytes : least (shape_of columns) * n ≤ size
    few_bytes = let b = r.bytes in let h = r.fits in omega arith

    pub left_fits : length end ≤ size
    left_fits =
        let b = r.few in
        let h = r.fits in
        behind_fits (10 ∷ []) n m rest end size e (omega arith)

    pub w_fits : w ≤ length wholes₀
    w_fits =
        omega (arith, r.wholes_put.place, wholes_length (shape_of columns) r.taken r.valid, ap (λ k. column_count is_whole (shape_of columns) * k) r.count, room.wholes n few_bytes)

    pub f_fits : f ≤ length floats₀
    f_fits =
        omega (arith, r.floats_put.place, floats_length (shape_of columns) r.taken r.valid, ap (λ k. column_count is_float (shape_of columns) * k) r.count, room.floats n few_bytes)

    pub wholes_hold : (after : List ℕ) → after ≡ padded (length wholes) 0 (take w wholes)
        → after ≡ padded (length wholes₀) 0 (numbers_of (flattened (wholes_of (shape_of columns))) ((lines F).read text))
    unfolding numbers_of
    wholes_hold after g =
        padded_behind (wholes_of (shape_of columns)) wholes₀ wholes r.taken w r.wholes_put 0 after w_fits g
        ∙ ap (λ q. padded (length wholes₀) 0 (numbers_of (flattened (wholes_of (shape_of columns))) q)) (sym all_rows)

    pub floats_hold : (after : List Float) → after ≡ padded (length floats) (of_bits binary64 0) (take f floats)
        → after ≡ padded (length floats₀) (of_bits binary64 0) (numbers_of (flattened (floats_of (shape_of columns))) ((lines F).read text))
    unfolding numbers_of
    floats_hold after g =
        padded_behind (floats_of (shape_of columns)) floats₀ floats r.taken f r.floats_put (of_bits binary64 0) after f_fits g
        ∙ ap (λ q. padded (length floats₀) (of_bits binary64 0) (numbers_of (flattened (floats_of (shape_of columns))) q)) (sym all_rows)

  -- ---- one more row
  module _ (row next : List ℕ) (l : Line F rest row next) where
    valid_row : F.valid l.list
    valid_row = ((shape_law columns).was rest l.list next l.is).right

    as_many : length l.list ≡ length (shape_of columns)
    as_many = row_length (shape_of columns) l.list valid_row

    later : length next < length rest
    later = line_some F (shape_law columns) (no_row columns room.some) rest l.list next l.is

    farther : least (shape_of columns) + length next ≤ length rest
    farther =
        let t = simp length-append at (ap length ((shape_law columns).was rest l.list next l.is).text) in
        let m = line_long (shape_of columns) (shape_good columns) l.list valid_row in
        omega arith

    more_bytes : least (shape_of columns) * (n + 1) + length next ≤ length text
    more_bytes = let b = r.bytes in let x = farther in omega (arith, mul-add (least (shape_of columns)) n 1)

    rows_fit : least (shape_of columns) * (n + 1) ≤ size
    rows_fit = let b = more_bytes in let h = r.fits in omega arith

    more_rows : length (r.taken ++ (l.list ∷ [])) ≡ n + 1
    more_rows = let c = r.count in simp length-append (omega arith)

    valid_rows : All F.valid (r.taken ++ (l.list ∷ []))
    valid_rows = go r.taken r.valid
      where
        go : (rows : List (List ℕ)) → All F.valid rows → All F.valid (rows ++ (l.list ∷ []))
        go [] none = more valid_row none
        go (a ∷ rows) (more v vs) = more v (go rows vs)

    -- its numbers are those of what was read
    wholes_same : wholes_of (shape_of columns) row ≡ wholes_of (shape_of columns) l.list
    wholes_same = ap (wholes_of (shape_of columns)) l.held ∙ chosen_padded is_whole (shape_of columns) 9 l.list as_many

    floats_same : floats_of (shape_of columns) row ≡ floats_of (shape_of columns) l.list
    floats_same = ap (floats_of (shape_of columns)) l.held ∙ ap (map (of_bits binary64)) (chosen_padded is_float (shape_of columns) 9 l.list as_many)

    wholes_next : (next : List ℕ) (j : ℕ) → j ≡ w + length (wholes_of (shape_of columns) row) → next ≡ sets wholes w (wholes_of (shape_of columns) row)
        → Put (wholes_of (shape_of columns)) wholes₀ next (r.taken ++ (l.list ∷ [])) j
    wholes_next next j e g =
        one_put (wholes_of (shape_of columns)) wholes₀ wholes r.taken w r.wholes_put l.list next j (e ∙ ap (λ x. w + length x) wholes_same) (g ∙ ap (sets wholes w) wholes_same)

    floats_next : (next : List Float) (j : ℕ) → j ≡ f + length (floats_of (shape_of columns) row) → next ≡ sets floats f (floats_of (shape_of columns) row)
        → Put (floats_of (shape_of columns)) floats₀ next (r.taken ++ (l.list ∷ [])) j
    floats_next next j e g =
        one_put (floats_of (shape_of columns)) floats₀ floats r.taken f r.floats_put l.list next j (e ∙ ap (λ x. f + length x) floats_same) (g ∙ ap (sets floats f) floats_same)

    abbrev row_next : Next text columns wholes₀ floats₀ rest wholes floats n w f row next
    row_next = record {
      later = later;
      wholes_fit =
          omega (
            arith,
            (wholes_next _ _ refl refl).place,
            room.wholes (n + 1) rows_fit,
            wholes_length (shape_of columns) _ valid_rows,
            ap (λ k. column_count is_whole (shape_of columns) * k) more_rows,
            put_length (wholes_of (shape_of columns)) wholes₀ wholes r.taken w r.wholes_put,
          );
      floats_fit =
          omega (
            arith,
            (floats_next _ _ refl refl).place,
            room.floats (n + 1) rows_fit,
            floats_length (shape_of columns) _ valid_rows,
            ap (λ k. column_count is_float (shape_of columns) * k) more_rows,
            put_length (floats_of (shape_of columns)) floats₀ floats r.taken f r.floats_put,
          );
      narrow = rw wholes_same (narrow_valid columns l.list room.slim valid_row);
      turn = λ wholes' w' floats' f' wp ws fp ff. record {
        taken = r.taken ++ (l.list ∷ []);
        fits = r.fits;
        valid = valid_rows;
        count = sym more_rows;
        bytes = more_bytes;
        few = let b = r.few in let x = later in omega arith;
        whole =
            onto_onto r.taken (l.list ∷ []) ((lines F).read next)
            ∙ ap (onto r.taken) (sym (lines_turn F (shape_law columns) (no_row columns room.some) rest l.list next l.is)) ∙ r.whole;
        wholes_put = wholes_next wholes' w' wp ws;
        floats_put = floats_next floats' f' fp ff;
      };
    }

  pub next_row : (row next : List ℕ) → Some (row, next) ≡ parsed_row (F.read rest) → Next text columns wholes₀ floats₀ rest wholes floats n w f row next
  next_row row next told = row_next row next (line_read F rest row next told)

-- ---- the lists
pub same_lists : (l : Lists) → SameLists l l
same_lists l = record { wholes = refl; floats = refl; whole_room = refl; float_room = refl }

-- None was told of it, so both lists hold zeros alone
pub nothing_holds : {fs : List Field} (q : Parsed (List (List ℕ))) (old cleared new : Lists) → None ≡ counted q → SameLists old cleared
    → new.wholes.now ≡ padded (length cleared.wholes.now) 0 [] → new.floats.now ≡ padded (length cleared.floats.now) (of_bits binary64 0) [] → Holds fs q old new
unfolding numbers_of
nothing_holds None old cleared new told same w f = record {
  wholes = w ∙ ap (λ n. padded n 0 []) same.whole_room;
  floats = f ∙ ap (λ n. padded n (of_bits binary64 0) []) same.float_room;
}
nothing_holds (Some p) old cleared new told same w f = absurd cc
