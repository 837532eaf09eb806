-- The examples of the scope that are proved, and some of strict mode, as one list under one claim. Definitions only.
use Rattle.std.specs.Prelude.{◌≡◌, false, cond, List, [], ◌∷◌, ℕ, ◌+◌, ◌*◌, ◌^◌, length, Float, Some, Err, Ok}
use Rattle.std.specs.Float.Ieee.{eq, neg}
use Rattle.base_lists.specs.All.{All}
use Rattle.base_lists.specs.Room.{filled}
use Rattle.arith.specs.Notation.{◌⊗◌, plus_zero, half, one, two, count}
use Rattle.arith.specs.Constants.{nearest_float, ten, million, billion, hundredth}
use Rattle.math.specs.declared.Vec3.{Vec3}
use Rattle.math.specs.declared.Interval.{Interval}
use Rattle.math.specs.Math.{vec, interval}
use Rattle.brep.specs.declared.Edge.{Edge}
use Rattle.brep.specs.Rows.{Tables, tables}
use Rattle.brep.specs.Tree.{tree}
use Rattle.curve.specs.Eval.{point_at}
use Rattle.options.specs.declared.Mode.{Mode}
use Rattle.options.specs.declared.Mode.TheVariants.{Reference, Strict}
use Rattle.options.specs.declared.Options.{Options}
use Rattle.options.specs.declared.Resolved.{Resolved}
use Rattle.options.specs.Options.{radians, resolve, for_extent}
use Rattle.edge_record.specs.declared.Sample.{Sample}
use Rattle.edge_record.specs.Chain.{flat}
use Rattle.edge_merge.specs.Merge.{merge_floor}
use Rattle.edge_sample.specs.Sample.{sampled}
use Rattle.edge_thin_loop.specs.Loop.{Returns}
use Rattle.edge_range.specs.Usable.{usable_range}
use Rattle.draw_spec.specs.declared.Way.{Way}
use Rattle.draw_spec.specs.declared.Way.TheVariants.{AsDrawn, Chord, Runaway}
use Rattle.draw_spec.specs.Edge.{edge_curve, placed}
use Rattle.draw_spec.specs.Repair.{Got, by}
use Rattle.draw_spec.specs.Draw.{program_floats, local_options, drawn, in_first, first_after, second_after}
use Rattle.refusal.specs.Answer.{Answer}
use Rattle.refusal.specs.declared.Refusal.{Refusal}
use Rattle.refusal.specs.declared.Refusal.TheVariants.{Endless}

-- what an example says
pub data Example : Type 0 where
  -- the sag of resolved options for an extent
  sag : Options → Float → Float → Example
  -- the merge floor of an edge
  floor : Tables → Edge → Options → Float → Example
  -- the usable range of row 0 for an edge's range
  usable : Tables → Interval → Interval → Example
  -- row 0's point at a parameter
  point : Tables → Float → Vec3 → Example
  -- two floats that are not equal
  differ : Float → Float → Example
  -- an edge's chain and the way in which it is got, in a mode, in two buffers of 2,048 points
  draws : Mode → Tables → Edge → Options → Way → List Sample → Example
  -- a refusal with a number above 7, in the mode that is equal to the Rust and the same buffers
  refuses : Tables → Edge → Options → Refusal → Example
  -- the Rust never returns from `thin`, at the parameters that it takes of an edge's range
  never : Tables → Edge → Options → List Float → Example

-- what is drawn into two buffers of 2,048 points, whatever they held: these floats from the start of the first and of the second, and +0.0 behind them
pub record Leaves (d : Answer Got) (one two : List Float) : Type 0 where
  pub in_first : (first : List Float) → length first ≡ program_floats → first_after first d ≡ filled program_floats one
  pub in_second : (second : List Float) → length second ≡ program_floats → second_after second d ≡ filled program_floats two

-- a chain that is got this way, in its buffer
pub record DrawsChain (d : Answer Got) (way : Way) (chain : List Sample) : Type 0 where
  pub gets : d ≡ Ok (by way chain)
  pub buffers : Leaves d (cond (in_first way) (flat chain) []) (cond (in_first way) [] (flat chain))

-- this refusal, which leaves both buffers all +0.0
pub record RefusesLate (d : Answer Got) (n : Refusal) : Type 0 where
  pub refused : d ≡ Err n
  pub buffers : Leaves d [] []

-- sampling the edge's range comes to these parameters, and `thin` over the chain that is placed at them never returns
pub record NeverReturns (T : Tables) (e : Edge) (r : Resolved) (params : List Float) : Type 0 where
  pub usable : usable_range (edge_curve T e) e.range ≡ Some e.range
  pub comes_to : (sampled Reference (edge_curve T e) e.range r).end ≡ Ok params
  pub never : (l : List Sample) → Returns (r.sag ⊗ hundredth) r.angle (r.segments + 1) (placed T e params) l → ⊥

-- an example holds of the definitions
unfoldable pub ExampleHolds : Example → Type 0
ExampleHolds (sag o extent s) = (for_extent (resolve o) extent).sag ≡ s
ExampleHolds (floor T e o f) = merge_floor e.tolerance (local_options T e o).sag ≡ f
ExampleHolds (usable T range used) = usable_range (tree T 0) range ≡ Some used
ExampleHolds (point T t p) = point_at (tree T 0) t ≡ p
ExampleHolds (differ a b) = eq a b ≡ false
ExampleHolds (draws mode T e o way chain) = DrawsChain (drawn mode T e o program_floats program_floats) way chain
ExampleHolds (refuses T e o n) = RefusesLate (drawn Reference T e o program_floats program_floats) n
ExampleHolds (never T e o params) = NeverReturns T e (local_options T e o) params

-- ---- numbers
abbrev three : Float
three = count 3

abbrev four : Float
four = count 4

abbrev five : Float
five = count 5

abbrev six : Float
six = count 6

abbrev eight : Float
eight = count 8

abbrev hundred : Float
hundred = count 100

-- 6e8 plus n times 2^-23, which is the step from 6e8 to the next float
abbrev far : ℕ → Float
far n = nearest_float (6 * 10 ^ 8 * 2 ^ 23 + n) (2 ^ 23)

-- ---- tables, edges and options
-- one row of this kind with its points from the first on, and p
abbrev one_row : List Float → ℕ → ℕ → Float → Tables
one_row points kind count p = tables points (kind ∷ 0 ∷ count ∷ []) (p ∷ plus_zero ∷ []) [] []

-- an edge of row 0 with sense 1
abbrev row_edge : ℕ → ℕ → Float → Float → Float → ℕ → ℕ → Edge
row_edge start end lo hi tolerance low high = record {
  curve = 0;
  start = start;
  end = end;
  sense = 1;
  range = interval lo hi;
  tolerance = tolerance;
  low = low;
  high = high;
}

-- a sag that is not relative
abbrev absolute : Float → Float → ℕ → ℕ → Options
absolute deflection angle segments depth = record {
  deflection = deflection;
  angle = radians angle;
  relative = 0;
  segments = segments;
  depth = depth;
  scale = plus_zero;
}

-- 2^-10 of 1024
abbrev of_scale : Options
of_scale = record {
  deflection = nearest_float 1 1024;
  angle = radians one;
  relative = 1;
  segments = 1;
  depth = 12;
  scale = count 1024;
}

-- the line from 0 with direction (2,0,0), its points x = 0 and x = 10 being 0 and 2
abbrev straight : Tables
straight = one_row (plus_zero ∷ plus_zero ∷ plus_zero ∷ two ∷ plus_zero ∷ plus_zero ∷ ten ∷ plus_zero ∷ plus_zero ∷ []) 1 2 plus_zero

-- the edge between those points, with this range
abbrev along : Float → Float → Edge
along lo hi = row_edge 0 2 lo hi plus_zero 0 2

-- a parabola with focal distance 1
abbrev parabola : Tables
parabola = one_row (plus_zero ∷ plus_zero ∷ plus_zero ∷ plus_zero ∷ plus_zero ∷ one ∷ one ∷ plus_zero ∷ plus_zero ∷ []) 4 3 one

-- a parabola with focal distance 1, the point x = 100, and a box from 0 to 1 on each axis
abbrev dish : Tables
dish =
    one_row
    (plus_zero ∷ plus_zero ∷ plus_zero ∷ plus_zero ∷ plus_zero ∷ one ∷ one ∷ plus_zero ∷ plus_zero ∷ hundred ∷ plus_zero ∷ plus_zero ∷ plus_zero ∷ plus_zero ∷ plus_zero ∷ one ∷ one ∷ one ∷ [])
    4
    3
    one

-- a composite, row 3, of the lines from (0,0,0) to (2,0,0), on to (2,1,0) and on to (4,1,0), each over its own range 4 to 5; and both ends
abbrev legs : Tables
legs =
    tables
    (neg eight ∷ plus_zero ∷ plus_zero ∷ two ∷ plus_zero ∷ plus_zero
    ∷ two ∷ neg four ∷ plus_zero ∷ plus_zero ∷ one ∷ plus_zero
    ∷ neg six ∷ one ∷ plus_zero ∷ two ∷ plus_zero ∷ plus_zero
    ∷ plus_zero ∷ plus_zero ∷ plus_zero ∷ four ∷ one ∷ plus_zero
    ∷ [])
    (1 ∷ 0 ∷ 2 ∷ 1 ∷ 2 ∷ 2 ∷ 1 ∷ 4 ∷ 2 ∷ 7 ∷ 0 ∷ 3 ∷ [])
    (plus_zero ∷ plus_zero ∷ plus_zero ∷ plus_zero ∷ plus_zero ∷ plus_zero ∷ plus_zero ∷ plus_zero ∷ [])
    (0 ∷ 1 ∷ 1 ∷ 1 ∷ 2 ∷ 1 ∷ [])
    (four ∷ five ∷ four ∷ five ∷ four ∷ five ∷ [])

-- the edge along all three: its middle lies on its chord
abbrev along_legs : Edge
along_legs = record {
  curve = 3;
  start = 6;
  end = 7;
  sense = 1;
  range = interval plus_zero three;
  tolerance = plus_zero;
  low = 6;
  high = 7;
}

-- x = 1e9, then 0.1
abbrev far_apart : Tables
far_apart = one_row (billion ∷ plus_zero ∷ plus_zero ∷ nearest_float 1 10 ∷ plus_zero ∷ plus_zero ∷ []) 5 2 plus_zero

-- (0,0,0), (1,0,0), (1,1,0), and the edge over it with tolerance 0.25
abbrev corner : Tables
corner = one_row (plus_zero ∷ plus_zero ∷ plus_zero ∷ one ∷ plus_zero ∷ plus_zero ∷ one ∷ one ∷ plus_zero ∷ []) 5 3 plus_zero

-- the edge round it
abbrev round : Edge
round = row_edge 0 2 plus_zero two (nearest_float 1 4) 0 2

-- a line with direction (1,0,0), the point x = 100, and a box from 0 to 1 on each axis
abbrev pub boxed : Tables
boxed =
    one_row
    (plus_zero ∷ plus_zero ∷ plus_zero ∷ one ∷ plus_zero ∷ plus_zero ∷ hundred ∷ plus_zero ∷ plus_zero ∷ plus_zero ∷ plus_zero ∷ plus_zero ∷ one ∷ one ∷ one ∷ [])
    1
    2
    plus_zero

-- the edge from 0 to 100 along it
abbrev pub escaping : Edge
escaping = row_edge 0 2 plus_zero hundred plus_zero 3 4

-- an absolute sag of 0.01
abbrev pub close : Options
close = absolute hundredth one 1 12

-- a corner so small and so far out that no distance in it is above zero
abbrev pub tiny_corner : Tables
tiny_corner =
    one_row (far 0 ∷ far 0 ∷ plus_zero ∷ far 1 ∷ far 0 ∷ plus_zero ∷ far 10 ∷ far 3 ∷ plus_zero ∷ []) 5 3 plus_zero

-- the edge over it
abbrev pub over_corner : Edge
over_corner = row_edge 0 2 plus_zero two plus_zero 0 2

-- 0.14
abbrev narrow : Float
narrow = nearest_float 14 100

-- ---- samples
-- on the x axis, with a parameter
abbrev on_axis : Float → Float → Sample
on_axis x t = record { point = vec x plus_zero plus_zero; param = t }

-- the corner's three points, with their parameters
abbrev corner_start : Sample
corner_start = on_axis plus_zero plus_zero

abbrev corner_middle : Sample
corner_middle = on_axis one one

abbrev corner_end : Sample
corner_end = record { point = vec one one plus_zero; param = two }

-- both ends of the legs
abbrev legs_start : Sample
legs_start = on_axis plus_zero plus_zero

abbrev legs_end : Sample
legs_end = record { point = vec four one plus_zero; param = three }

-- ---- the list, in the scope's order, then strict mode's
abbrev pub examples : List Example
examples =
    sag of_scale (count 1024) one
    ∷ sag of_scale (count 128) half
    ∷ sag of_scale (count 16) (nearest_float 1 8)
    ∷ draws Reference straight (along plus_zero five) (absolute one one 1 12) AsDrawn (on_axis plus_zero plus_zero ∷ on_axis ten five ∷ [])
    ∷ draws Reference straight (along plus_zero five) (absolute one one 4 12) AsDrawn
    (on_axis plus_zero plus_zero
    ∷ on_axis (nearest_float 5 2) (nearest_float 5 4)
    ∷ on_axis five (nearest_float 5 2)
    ∷ on_axis (nearest_float 15 2) (nearest_float 15 4)
    ∷ on_axis ten five
    ∷ [])
    ∷ draws Reference straight (row_edge 2 0 plus_zero five plus_zero 0 2) (absolute one one 1 12) AsDrawn (on_axis ten five ∷ on_axis plus_zero plus_zero ∷ [])
    ∷ draws Reference straight (along three three) (absolute one one 1 12) Chord (on_axis plus_zero three ∷ on_axis ten three ∷ [])
    ∷ draws Reference straight (along five two) (absolute one one 1 12) Chord (on_axis plus_zero five ∷ on_axis ten two ∷ [])
    ∷ usable parabola (interval one one) (interval (neg million) million)
    -- 838861 / 8388608, not 0.1
    ∷ point far_apart one (vec (nearest_float 838861 8388608) plus_zero plus_zero)
    ∷ differ (nearest_float 838861 8388608) (nearest_float 1 10)
    ∷ draws Reference corner round (absolute one narrow 1 1) AsDrawn (corner_start ∷ corner_middle ∷ corner_end ∷ [])
    ∷ floor corner round (absolute two narrow 1 1) one
    ∷ draws Reference corner round (absolute two narrow 1 1) AsDrawn (corner_start ∷ corner_end ∷ [])
    ∷ draws Reference boxed escaping close Runaway (on_axis plus_zero plus_zero ∷ on_axis hundred plus_zero ∷ [])
    ∷ refuses tiny_corner over_corner (absolute one narrow 1 1) Endless
    ∷ never tiny_corner over_corner (absolute one narrow 1 1) (plus_zero ∷ one ∷ two ∷ [])
    -- strict mode: the parabola above, whose range is lost; one whose end vertex lies outside its box besides; and legs that the Rust cuts short
    ∷ draws Strict parabola (row_edge 0 2 one one plus_zero 0 2) close Chord (on_axis plus_zero one ∷ on_axis one one ∷ [])
    ∷ draws Strict dish (row_edge 0 3 three two plus_zero 4 5) close Chord (on_axis plus_zero three ∷ on_axis hundred two ∷ [])
    ∷ draws Reference legs along_legs (absolute hundredth four 1 1) AsDrawn (legs_start ∷ legs_end ∷ [])
    ∷ draws Strict legs along_legs (absolute hundredth four 1 1) AsDrawn
    (legs_start
    ∷ on_axis two one
    ∷ record { point = vec two one plus_zero; param = two }
    ∷ legs_end
    ∷ [])
    ∷ []

-- THE CLAIM: all of them hold
abbrev pub ExamplesHold : Type 0
ExamplesHold = All ExampleHolds examples
