-- The byte behind what stands on a line. Assumes nothing.
use mathlib.Core.Path.{◌≡◌, sym}
use mathlib.Core.List.{List}
use Prim.Native.Nat.{ℕ, ◌<◌, ◌≤◌}
use lib.ListN.{length, drop}
use Rattle.std.proofs.lemmas.List.{at_drop_all, at_drop_more}
use Rattle.text_format.specs.Table.{end_byte}

pub end_byte_more : {A : Type 0} (l : List A) (i : ℕ) (d : A) → i < length l → 32 ≡ end_byte (drop i l)
unfolding end_byte
end_byte_more l i d h = sym (at_drop_more end_byte l i d h)

pub end_byte_last : {A : Type 0} (l : List A) (i : ℕ) → length l ≤ i → 10 ≡ end_byte (drop i l)
unfolding end_byte
end_byte_last l i h = sym (at_drop_all end_byte l i h)
