-- Listings written out. By computation; assumes nothing.
use mathlib.Core.Path.{◌≡◌, refl}
use mathlib.Core.List.{[], ◌∷◌, flat_map}
use Prim.Native.Nat.{ℕ}
use lib.Ieee.{is_nan, binary64, of_bits, nan_bits, to_bits}
use Rattle.text_format.specs.Bytes.{bytes}
use Rattle.text_format.specs.Format.{char_of, digits, width_up_to, decimal, ◌ending◌, ◌and◌, no_items, write_cons}
use Rattle.text_format.specs.Table.{fields, end_byte, names, cell, line}
use Rattle.math.specs.Math.{vec}
use Rattle.edge_record.specs.declared.Sample.{Sample}
use Rattle.text_listing.specs.Listing.{bits_or, own_of, rows_from, listing, refusal}

-- a sample on the x axis, by its floats' bits
abbrev on_axis_lem : ℕ → ℕ → Sample
on_axis_lem x t = record { point = vec (of_bits binary64 x) (of_bits binary64 0) (of_bits binary64 0); param = of_bits binary64 t }

-- the listing of the scope
its_listing : listing 0 0x4014000000000000 (on_axis_lem 0 0 ∷ on_axis_lem 0x4024000000000000 0x4014000000000000 ∷ [])
    ≡ bytes "x y z t\n0000000000000000 0000000000000000 0000000000000000 0000000000000000\n4024000000000000 0000000000000000 0000000000000000 4014000000000000\n"
unfolding bytes char_of digits ◌ending◌ ◌and◌ no_items write_cons fields end_byte names cell line flat_map is_nan of_bits nan_bits to_bits bits_or own_of rows_from listing
its_listing = refl

-- a NaN parameter has its own bits at either end; −0.0 and the infinities have theirs
own_bits : listing 0x7ff8000000000001 0xfff0000000000002 (on_axis_lem 0x8000000000000000 0x7ff8000000000001 ∷ on_axis_lem 0xfff0000000000000 0xfff0000000000002 ∷ [])
    ≡ bytes "x y z t\n8000000000000000 0000000000000000 0000000000000000 7ff8000000000001\nfff0000000000000 0000000000000000 0000000000000000 fff0000000000002\n"
unfolding bytes char_of digits ◌ending◌ ◌and◌ no_items write_cons fields end_byte names cell line flat_map is_nan of_bits nan_bits to_bits bits_or own_of rows_from listing
own_bits = refl

-- any other NaN has the bits of one that an operation makes: a coordinate, a parameter between, an end that is a copy of no NaN
quiet_bits : listing 1 0x7ff0000000000000 (on_axis_lem 0x7ff0000000000003 0x7ff0000000000003 ∷ on_axis_lem 0 0x7ff0000000000003 ∷ on_axis_lem 0 0x7ff0000000000003 ∷ [])
    ≡ bytes "x y z t\n7ff8000000000000 0000000000000000 0000000000000000 7ff8000000000000\n0000000000000000 0000000000000000 0000000000000000 7ff8000000000000\n0000000000000000 0000000000000000 0000000000000000 7ff8000000000000\n"
unfolding bytes char_of digits ◌ending◌ ◌and◌ no_items write_cons fields end_byte names cell line flat_map is_nan of_bits nan_bits to_bits bits_or own_of rows_from listing
quiet_bits = refl

ten : refusal 10 ≡ bytes "refusal\n10\n"
unfolding bytes char_of digits width_up_to decimal refusal
ten = refl
