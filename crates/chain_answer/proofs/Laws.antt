-- What is printed, by the way through reading and drawing. Assumes nothing but what its statements say.
use Rattle.std.specs.Prelude.{Err, Ok}
use mathlib.Core.Path.{◌≡◌, refl, sym, ap, subst, ◌∙◌}
use mathlib.Core.Bool.{Bool, true, false, cond}
use mathlib.Core.List.{List, []}
use Prim.Native.Nat.{ℕ, ◌+◌, ◌*◌, ◌-◌, ◌<◌, ◌≤◌}
use native.Mathlib.Omega.{arith}
use lib.ListN.{length, take, replicate, length-append, length-replicate}
use lib.Seq.{take_all, length-take-le}
use lib.Dec.{leb}
use lib.Ieee.{Float, binary64, of_bits}
use borrow.Author.Tests.{leb-true, leb-false, le-ltb}
use Rattle.base_lists.specs.Room.{filled}
use Rattle.sheet_layout.specs.Layout.{size, read_sheet}
use Rattle.sheet.specs.Sheet.{tables_of, leading}
use Rattle.sheet.proofs.Parts.{too_long}
use Rattle.sheet.proofs.Laws.{points_few, curves_few, segments_few, table_lengths, SheetRead}
use Rattle.brep.specs.Rows.{Tables, most_points, most_rows, most_segments}
use Rattle.options.specs.declared.Mode.TheVariants.{Reference}
use Rattle.causes.specs.Causes.{oversize}
use Rattle.brep.specs.declared.Edge.{Edge}
use Rattle.options.specs.declared.Mode.{Mode}
use Rattle.options.specs.declared.Options.{Options}
use Rattle.edge_record.specs.Chain.{width, flat, samples}
use Rattle.text_listing.specs.Listing.{float_bytes, line_bytes, refusal_bytes, listing, refusal, Put}
use Rattle.draw_spec.specs.Repair.{Got}
use Rattle.draw_spec.specs.Draw.{room_of, program_floats, drawn, answer_of, in_first, first_after, second_after, chain_in, chain_floats, Outcome}
use Rattle.draw_spec.proofs.Sound.{drawn_fits}
use Rattle.draw_spec.proofs.ReadBack.{read_back}
use Rattle.chain_answer.specs.Own.Shown.{shown}
use Rattle.chain_answer.specs.Printed.{last_bits, printed_drawn, drawn_of, printed_read, program_prints, ReadEnough, NeverOversize, first_after_sheet, second_after_sheet, Prints}
use Rattle.draw_spec.specs.declared.Drawn.{Drawn}
use Rattle.refusal.specs.Answer.{Answer}
use Rattle.refusal.specs.declared.Refusal.{Refusal}
use Rattle.refusal.specs.Refusal.{number_of}
use Rattle.edge_record.proofs.Leading.{leading as leads}
use Rattle.edge_record.specs.Own.Records.{records_of}
use Rattle.edge_record.specs.declared.Sample.{Sample}
use Rattle.sheet.specs.declared.Sheet.{Sheet}

-- ---- the listing of an answer
module _ (lo hi : ℕ) (d : Answer Drawn) (first second : List Float) (r : ℕ) (out out' : List ℕ) where
  pub show_refusal : (n : Refusal) → d ≡ Err n → Put (refusal (number_of n)) out r out' → Put (shown lo hi d (chain_in first second d)) out r out'
  unfolding shown
  show_refusal n e h = subst (λ (x : Answer Drawn). Put (shown lo hi x (chain_in first second x)) out r out') (sym e) h

  -- the chain is the leading part of one of the buffers
  one_long : (b : Bool) → chain_floats d ≤ length first → chain_floats d ≤ length second → chain_floats d ≤ length (cond b first second)
  one_long true f s = f
  one_long false f s = s

  pub show_chain : (chain : Drawn) (part : List Float) (last : ℕ) → d ≡ Ok chain → (chain_floats d ≤ length first) × (chain_floats d ≤ length second)
      → part ≡ take (width * chain.count) (cond (in_first chain.way) first second) → last ≡ last_bits chain.way lo hi
      → Put (listing lo last (records_of part)) out r out' → Put (shown lo hi d (chain_in first second d)) out r out'
  unfolding shown chain_in
  show_chain chain part last e l p b h =
      let c = cond (in_first chain.way) first second in
      let z = ap chain_floats e in
      let k = one_long (in_first chain.way) l.0 l.1 in
      let records : records_of part ≡ samples chain.count c = rw p (leads chain.count c (omega arith)) in
      rw e (subst (λ (s : List Sample). Put (listing lo (last_bits chain.way lo hi) s) out r out') records (subst (λ k. Put (listing lo k (records_of part)) out r out') b h))

-- no more than so many of a list's elements
pub taken_few : (n : ℕ) (l : List Float) → length (take n l) ≤ n
taken_few n l = go (leb n (length l)) refl
  where
    go : (b : Bool) → leb n (length l) ≡ b → length (take n l) ≤ n
    go true e = let k = length-take-le n l (leb-true n (length l) e) in omega arith
    go false e = let k = leb-false n (length l) e in rw (take_all n l (omega arith)) (omega arith)

-- ---- the room that a chain needs
filled_long : (n : ℕ) (l : List Float) → n ≤ length (filled n l)
filled_long n l =
    let a = length-append l (replicate (n - length l) (of_bits binary64 0)) in
    let b = length-replicate (n - length l) (of_bits binary64 0) in
    omega arith

module _ (mode : Mode) (t : Tables) (e : Edge) (o : Options) (first second : List Float) (d : Answer Drawn) (f s : List Float) (h : Outcome mode t e o first second d f s) where
  abbrev made : Answer Got
  made = drawn mode t e o (length first) (length second)

  pub floats_few : chain_floats d ≤ width * room_of (length first) (length second)
  unfolding answer_of
  floats_few = go made refl
    where
      go : (g : Answer Got) → made ≡ g → chain_floats d ≤ width * room_of (length first) (length second)
      go (Err n) q = let z = ap chain_floats (h.answered ∙ ap answer_of q) in omega arith
      go (Ok g) q = let z = ap chain_floats (h.answered ∙ ap answer_of q) in let k = drawn_fits mode t e o (length first) (length second) g q in omega arith

  -- both buffers are as long as before, so they hold the chain
  buffers_hold : (chain_floats d ≤ length f) × (chain_floats d ≤ length s)
  unfolding answer_of room_of first_after second_after
  buffers_hold = go made refl
    where
      go : (g : Answer Got) → made ≡ g → (chain_floats d ≤ length f) × (chain_floats d ≤ length s)
      go (Err n) q = let z = ap chain_floats (h.answered ∙ ap answer_of q) in (omega arith, omega arith)
      go (Ok g) q =
          let k = floats_few in
          let x = ap length (h.first_holds ∙ ap (first_after first) q) in
          let y = ap length (h.second_holds ∙ ap (second_after second) q) in
          let v = filled_long (length first) (cond (in_first g.way) (flat g.chain) []) in
          let w = filled_long (length second) (cond (in_first g.way) [] (flat g.chain)) in
          (omega arith, omega arith)

  pub held_in_room : (bytes : ℕ) → refusal_bytes + line_bytes * room_of (length first) (length second) ≤ bytes
      → (chain_floats d ≤ length f) × (chain_floats d ≤ length s) × (refusal_bytes + float_bytes * chain_floats d ≤ bytes)
  held_in_room bytes fits = let k = floats_few in (buffers_hold.0, buffers_hold.1, omega arith)

  -- what is shown of the answer and the buffers is what is printed for the drawing
  pub shown_is : (lo hi : ℕ) → shown lo hi d (chain_in f s d) ≡ printed_drawn lo hi made
  unfolding shown printed_drawn answer_of
  shown_is lo hi = go made refl
    where
      go : (g : Answer Got) → made ≡ g → shown lo hi d (chain_in f s d) ≡ printed_drawn lo hi g
      go (Err n) q = ap (λ (x : Answer Drawn). shown lo hi x (chain_in f s x)) (h.answered ∙ ap answer_of q)
      go (Ok g) q =
          rw (h.answered, h.first_holds, h.second_holds, q) (ap (listing lo (last_bits g.way lo hi)) (read_back first second g))

-- ---- the whole answer
module _ (mode : Mode) (text : List ℕ) (first second : List Float) (out : List ℕ) (r : ℕ) (out' : List ℕ) where
  -- no sheet was read
  pub no_sheet : (cause : Refusal) → read_sheet text ≡ Err cause → Put (refusal (number_of cause)) out r out' → Prints mode text first second out r first second out'
  unfolding printed_read first_after_sheet second_after_sheet
  no_sheet cause q h = record { put = rw q h; first_holds = rw q; second_holds = rw q }

  -- a sheet was read, and its edge was drawn
  module _ (sheet : Sheet) (t : Tables) (read : SheetRead text sheet t) (d : Answer Drawn) (f s : List Float)
      (h : Outcome mode (leading sheet.points sheet.curves sheet.segments t) sheet.edge sheet.options first second d f s) where
    made_is : drawn mode (leading sheet.points sheet.curves sheet.segments t) sheet.edge sheet.options (length first) (length second) ≡ drawn_of mode read.raw (length first) (length second)
    made_is = rw (read.tables_are, read.edge_is, read.options_is)

    bytes_are : shown sheet.lo sheet.hi d (chain_in f s d) ≡ printed_read mode (length first) (length second) (read_sheet text)
    unfolding printed_read
    bytes_are =
        rw read.is
        (shown_is mode (leading sheet.points sheet.curves sheet.segments t) sheet.edge sheet.options first second d f s h sheet.lo sheet.hi
        ∙ rw (read.lo_is, read.hi_is, made_is))

    pub sheet_drawn : Put (shown sheet.lo sheet.hi d (chain_in f s d)) out r out' → Prints mode text first second out r f s out'
    unfolding first_after_sheet second_after_sheet
    sheet_drawn p = record {
      put = subst (λ l. Put l out r out') bytes_are p;
      first_holds = rw read.is (h.first_holds ∙ ap (first_after first) made_is);
      second_holds = rw read.is (h.second_holds ∙ ap (second_after second) made_is);
    }

-- ---- an input of which no more is read than one byte too many
pub read_enough : ReadEnough
read_enough mode n h input first second = ap (printed_read mode first second) (go (leb (length input) n) refl)
  where
    go : (b : Bool) → leb (length input) n ≡ b → read_sheet (take n input) ≡ read_sheet input
    go true e = ap read_sheet (take_all n input (leb-true (length input) n e))
    go false e =
        let m = leb-false (length input) n e in
        let l = length-take-le n input (omega arith) in
        too_long (take n input) (omega arith) ∙ sym (too_long input (omega arith))

-- so what is printed for what was read is printed for the whole input
pub put_for_all : (n : ℕ) → size < n → (text input : List ℕ) → text ≡ take n input → {out : List ℕ} {r : ℕ} {out' : List ℕ}
    → Put (program_prints text) out r out' → Put (program_prints input) out r out'
put_for_all n h text input e {out} {r} {out'} p =
    subst (λ l. Put l out r out') (ap program_prints e ∙ read_enough Reference n h input program_floats program_floats) p

-- ---- a sheet's tables are within their sizes
pub never_oversize : NeverOversize
unfolding oversize
never_oversize text raw f =
    let p = points_few text raw f in
    let c = curves_few text raw f in
    let s = segments_few text raw f in
    let l = table_lengths text raw f in
    rw (le-ltb (3 * most_points) (length (tables_of raw).points) (omega (arith, l.0)), le-ltb (3 * most_rows) (length (tables_of raw).curves) (omega (arith, l.1)), le-ltb (2 * most_rows) (length (tables_of raw).reals) (omega (arith, l.2)), le-ltb (2 * most_segments) (length (tables_of raw).parts) (omega (arith, l.3)), le-ltb (2 * most_segments) (length (tables_of raw).ranges) (omega (arith, l.4)))
