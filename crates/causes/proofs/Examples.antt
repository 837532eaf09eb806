-- Verdicts of one drawing, a line and a trim of it, as one number of it is changed. Assumes nothing.
use Rattle.std.specs.Prelude.{⊤, Ok, Err}
use mathlib.Core.Path.{◌≡◌, refl}
use mathlib.Core.List.{[], ◌∷◌}
use Prim.Native.Nat.{ℕ}
use lib.Ieee.{Float, nan, lt, le, eq, ne, neg, of_bits}
use Rattle.arith.specs.Notation.{bits, plus_zero, one}
use Rattle.math.specs.Math.{interval}
use Rattle.brep.specs.declared.Edge.{Edge}
use Rattle.brep.specs.Kind.{kind_numbered}
use Rattle.brep.specs.Rows.{Tables, tables, segment_of, curve_of, kind_of, point_of, frame_of}
use Rattle.brep.specs.Tree.{tree, below, grown, segments, run}
use Rattle.causes_nesting.specs.Nest.{high_segment, not_lower, unordered_row, nesting, deep_row}
use Rattle.options.specs.declared.Options.{Options}
use Rattle.options.specs.Options.{preset, radians}
use Rattle.causes_bounds.specs.Some.{some_below}
use Rattle.causes_bounds.specs.Bounds.{within, beyond, finite_beyond, edge_beyond, options_beyond, unbounded}
use Rattle.causes_form.specs.Forms.{broken, uneven, wrong_count, spare_p, spare_q, unused_set, malformed, malformed_row, malformed_segment, ill_formed}
use Rattle.causes.specs.Causes.{oversize, missing, verdict}
use Rattle.refusal.specs.Answer.{Answer}
use Rattle.refusal.specs.declared.Refusal.TheVariants.{Unbounded, IllFormed, Unordered, Missing}

-- two points, the second at x; a line with this q; a trim of the row base
abbrev drawing : Float → Float → ℕ → Tables
drawing x q base =
    tables (plus_zero ∷ plus_zero ∷ plus_zero ∷ x ∷ plus_zero ∷ plus_zero ∷ [])
    (1 ∷ 0 ∷ 2 ∷ 6 ∷ base ∷ 1 ∷ [])
    (plus_zero ∷ q ∷ plus_zero ∷ one ∷ [])
    []
    []

-- of the trim, from 0 on without an end, between the points start and 1
abbrev edge : ℕ → ℕ → Edge
edge sense start =
    record {
      curve = 1;
      start = start;
      end = 1;
      sense = sense;
      range = interval plus_zero nan;
      tolerance = plus_zero;
      low = 0;
      high = 1;
    }

abbrev options : Options
options = preset one (radians one)

-- 1e9, and the next float
abbrev most : Float
most = bits 0x41CDCD6500000000

abbrev more : Float
more = bits 0x41CDCD6500000001

-- of this drawing, and of an edge of this sense and start
abbrev told : Float → Float → ℕ → ℕ → ℕ → Answer ⊤
told x q base sense start = verdict (drawing x q base) (edge sense start) options

examples : record {
  -- exactly 1e9 passes, and so does a NaN for the edge's hi
  exactly : told most plus_zero 0 1 0 ≡ Ok tt;
  -- 1e9 is passed by one float
  above : told more plus_zero 0 1 0 ≡ Err Unbounded;
  -- a sense of 2
  sense_2 : told most plus_zero 0 2 0 ≡ Err IllFormed;
  -- a q that a line does not use
  unused_q : told most one 0 1 0 ≡ Err IllFormed;
  -- a trim of its own row
  own_row : told most plus_zero 1 1 0 ≡ Err Unordered;
  -- a start past the end
  start : told most plus_zero 0 1 2 ≡ Err Missing;
  -- two causes: the lower
  lowest : told more plus_zero 1 2 2 ≡ Err Unbounded;
}
unfolding verdict oversize unbounded edge_beyond options_beyond finite_beyond beyond within ill_formed malformed_segment malformed_row malformed unused_set spare_q spare_p wrong_count uneven broken missing deep_row unordered_row not_lower high_segment some_below nesting tree below grown segments run curve_of kind_of kind_numbered point_of frame_of segment_of lt le eq ne neg of_bits
examples = record {
  exactly = refl;
  above = refl;
  sense_2 = refl;
  unused_q = refl;
  own_row = refl;
  start = refl;
  lowest = refl;
}
