-- Texts that are sheets, and texts that are not. By computation; assumes nothing.
use mathlib.Core.Path.{◌≡◌, refl}
use mathlib.Core.List.{List, [], ◌∷◌, ◌++◌, map}
use Prim.Native.Nat.{ℕ}
use Prim.Native.String.{String}
use Rattle.std.specs.Prelude.{Result, Ok, Err}
use Rattle.refusal.specs.declared.Refusal.{Refusal}
use Rattle.refusal.specs.declared.Refusal.TheVariants.{NoSheet}
use Rattle.text_format.specs.Bytes.{bytes}
use Rattle.text_format.specs.Format.{when, and_then, expect, char_of, digit_of, digits, read_digits, width_up_to, decimal, read_decimal, read_plain, read_word, ◌ending◌, ◌before◌, ◌then◌, no_items, write_cons, ◌and◌, as_of, write_lines, read_lines, lines, all, whole_text}
use Rattle.text_format.specs.Table.{fields, end_byte, names, cell, line}
use Rattle.sheet_layout.specs.Layout.{kinds, RawSheet, sheet, layout, read_sheet}

-- the sheet of the scope
abbrev its_points : List (List ℕ)
its_points = (0 ∷ 0 ∷ 0 ∷ []) ∷ (0x4000000000000000 ∷ 0 ∷ 0 ∷ []) ∷ (0x4024000000000000 ∷ 0 ∷ 0 ∷ []) ∷ []

abbrev example : RawSheet
example = record {
  points = its_points;
  curves = (1 ∷ 0 ∷ 2 ∷ 0 ∷ 0 ∷ []) ∷ [];
  segments = [];
  edge = 0 ∷ 0 ∷ 2 ∷ 1 ∷ 0 ∷ 0x4014000000000000 ∷ 0 ∷ 0 ∷ 2 ∷ [];
  options = 0x3ff0000000000000 ∷ 0x3ff0000000000000 ∷ 0 ∷ 1 ∷ 12 ∷ 0 ∷ [];
}

abbrev points : String
points = "x y z\n0000000000000000 0000000000000000 0000000000000000\n4000000000000000 0000000000000000 0000000000000000\n4024000000000000 0000000000000000 0000000000000000\n\n"

abbrev curves : String
curves = "kind first count p q\nline 0 2 0000000000000000 0000000000000000\n\n"

abbrev segments : String
segments = "curve lo hi sense\n\n"

abbrev edge : String
edge = "curve start end sense lo hi tolerance low high\n0 0 2 1 0000000000000000 4014000000000000 0000000000000000 0 2\n\n"

abbrev options : String
options = "deflection angle relative segments depth scale\n3ff0000000000000 3ff0000000000000 0 1 12 0000000000000000\n"

-- a text by its blocks
abbrev joined : String → String → String → String → String → List ℕ
joined a b c d e = bytes a ++ bytes b ++ bytes c ++ bytes d ++ bytes e

its_text : layout example ≡ joined points curves segments edge options
unfolding bytes char_of digits width_up_to decimal ◌ending◌ ◌before◌ ◌then◌ no_items write_cons ◌and◌ as_of write_lines lines fields end_byte names cell line kinds sheet
its_text = refl

is_read : read_sheet (joined points curves segments edge options) ≡ Ok example
unfolding bytes when and_then expect digit_of read_digits read_decimal read_plain read_word ◌ending◌ ◌before◌ ◌then◌ no_items ◌and◌ as_of read_lines lines all whole_text fields end_byte names cell line kinds sheet read_sheet
is_read = refl

-- empty tables, and the largest numbers of each width
least : read_sheet (joined "x y z\n\n" "kind first count p q\n\n" segments edge "deflection angle relative segments depth scale\n7ff0000000000001 ffffffffffffffff 4294967295 18446744073709551615 4294967295 0000000000000000\n")
    ≡ Ok (record {
      points = [];
      curves = [];
      segments = [];
      edge = example.edge;
      options = 0x7ff0000000000001 ∷ 0xffffffffffffffff ∷ 4294967295 ∷ 18446744073709551615 ∷ 4294967295 ∷ 0 ∷ [];
    })
unfolding bytes when and_then expect digit_of read_digits read_decimal read_plain read_word ◌ending◌ ◌before◌ ◌then◌ no_items ◌and◌ as_of read_lines lines all whole_text fields end_byte names cell line kinds sheet read_sheet
least = refl

-- with one curve line, and with one options line
abbrev with_curve : String → Result RawSheet Refusal
with_curve l = read_sheet (bytes points ++ bytes "kind first count p q\n" ++ bytes l ++ bytes "\n" ++ bytes segments ++ bytes edge ++ bytes options)

abbrev with_options : String → Result RawSheet Refusal
with_options l = read_sheet (bytes points ++ bytes curves ++ bytes segments ++ bytes edge ++ bytes "deflection angle relative segments depth scale\n" ++ bytes l)

-- each of these breaks the layout in one place
abbrev broken : List (Result RawSheet Refusal)
broken =
    with_curve "spline 0 2 0000000000000000 0000000000000000\n"
    ∷ with_curve "Line 0 2 0000000000000000 0000000000000000\n"
    ∷ with_curve "lines 0 2 0000000000000000 0000000000000000\n"
    ∷ with_curve "line 00 2 0000000000000000 0000000000000000\n"
    ∷ with_curve "line +0 2 0000000000000000 0000000000000000\n"
    ∷ with_curve "line -0 2 0000000000000000 0000000000000000\n"
    ∷ with_curve "line 0  2 0000000000000000 0000000000000000\n"
    ∷ with_curve " line 0 2 0000000000000000 0000000000000000\n"
    ∷ with_curve "line 0 2 0000000000000000 0000000000000000 \n"
    ∷ with_curve "line 0 2 0000000000000000 0000000000000000\r\n"
    ∷ with_curve "line 0 2 0000000000000000\n"
    ∷ with_curve "line 0 2 0000000000000000 00000000000000000\n"
    ∷ with_curve "line 0 2 0000000000000000 000000000000000\n"
    ∷ with_curve "line 0 2 0000000000000000 000000000000000A\n"
    ∷ with_curve "line 0 2 0000000000000000 000000000000000g\n"
    ∷ with_curve "line 4294967296 2 0000000000000000 0000000000000000\n"
    ∷ with_curve "line 0 2 0000000000000000 0000000000000000\n\n"
    ∷ with_options "3ff0000000000000 3ff0000000000000 0 1 12 0000000000000000"
    ∷ with_options "3ff0000000000000 3ff0000000000000 0 1 12 0000000000000000\n\n"
    ∷ with_options "3ff0000000000000 3ff0000000000000 0 1 12 0000000000000000\n0"
    ∷ with_options "3ff0000000000000 3ff0000000000000 0 18446744073709551616 12 0000000000000000\n"
    ∷ with_options "3ff0000000000000 3ff0000000000000 4294967296 1 12 0000000000000000\n"
    ∷ with_options "3ff0000000000000 3ff0000000000000 0 1 4294967296 0000000000000000\n"
    ∷ with_options ""
    ∷ read_sheet (joined points curves segments options edge)
    ∷ read_sheet (joined curves points segments edge options)
    ∷ read_sheet (joined "x y z t\n\n" curves segments edge options)
    ∷ read_sheet (joined "x y z\n" curves segments edge options)
    ∷ read_sheet []
    ∷ []

each_refused : broken ≡ map (λ _. Err NoSheet) broken
unfolding bytes when and_then expect digit_of read_digits read_decimal read_plain read_word ◌ending◌ ◌before◌ ◌then◌ no_items ◌and◌ as_of read_lines lines all whole_text fields end_byte names cell line kinds sheet read_sheet
each_refused = refl
