-- One walk over an arc: what is known of it after each point. Definitions only.
use Rattle.std.specs.Prelude.{◌≡◌, Bool, false, not, ◌&&◌, ◌||◌, ℕ, suc, ◌<◌, List, [], ◌∷◌, length, take}
use Rattle.std.specs.Float.{nan}
use Rattle.std.specs.Float.Ieee.{lt, le}
use Rattle.math.specs.declared.Vec3.{Vec3}
use Rattle.math.specs.declared.Aabb.{Aabb}
use Rattle.math.specs.Math.{distance, centre}
use Rattle.brep.specs.declared.Edge.{Edge}
use Rattle.brep.specs.Rows.{Tables}
use Rattle.options.specs.declared.Resolved.{Resolved}
use Rattle.edge_record.specs.declared.Sample.{Sample}
use Rattle.edge_record.specs.Chain.{sample_point}
use Rattle.draw_spec.specs.Edge.{edge_start, edge_end}
use Rattle.draw_spec.specs.Repair.{reference, escape_limit, reach_limit, escapes, reaches, serves}
use Rattle.edge_short_arc.specs.declared.Seen.{Seen}
use Rattle.edge_short_arc.specs.declared.ArcTest.{ArcTest}

-- the answers of `escapes`, and of `reaches` for either vertex, for an arc or a part of one
abbrev pub seen_of : Aabb → Edge → Resolved → Vec3 → Vec3 → List Sample → Seen
seen_of box e r start end arc = record { escapes = escapes box r arc; reaches_start = reaches e r start arc; reaches_end = reaches e r end arc }

-- what each point is held to
abbrev pub test_of : Aabb → Edge → Resolved → Vec3 → Vec3 → ArcTest
test_of box e r start end = record {
  centre = centre box;
  limit = escape_limit box r;
  start = start;
  end = end;
  near = reach_limit e r;
}

-- before any point: no, no, no
abbrev pub unseen : Seen
unseen = record { escapes = false; reaches_start = false; reaches_end = false }

-- what is known with one point more
unfoldable pub taken : ArcTest → Seen → Vec3 → Seen
taken test seen p = record {
  escapes = seen.escapes || lt test.limit (distance p test.centre);
  reaches_start = seen.reaches_start || le (distance p test.start) test.near;
  reaches_end = seen.reaches_end || le (distance p test.end) test.near;
}

-- what is known behind all points of an arc, each taken once, in order
unfoldable pub seen_after : ArcTest → Seen → List Sample → Seen
seen_after test seen [] = seen
seen_after test seen (s ∷ arc) = seen_after test (taken test seen s.point) arc

-- an arc of which this was seen serves: it does not escape, and reaches both vertices
abbrev pub served : Seen → Bool
served seen = not seen.escapes && (seen.reaches_start && seen.reaches_end)

-- what holds of the walk, proved in proofs/Laws.antt
pub record OneWalk : Type 0 where
  -- after any leading part of any arc it has seen what the separate definitions answer for that part
  pub part : (box : Aabb) (e : Edge) (r : Resolved) (start end : Vec3) (arc : List Sample) (n : ℕ)
      → seen_after (test_of box e r start end) unseen (take n arc) ≡ seen_of box e r start end (take n arc)
  -- so an arc serves exactly where what was seen of the whole of it does
  pub whole : (T : Tables) (e : Edge) (r : Resolved) (arc : List Sample)
      → served (seen_after (test_of (reference T e) e r (edge_start T e) (edge_end T e)) unseen arc) ≡ serves T e r arc
  -- before the first point: no, no, no
  pub none : (test : ArcTest) → seen_after test unseen [] ≡ record { escapes = false; reaches_start = false; reaches_end = false }
  -- a point more is taken once, behind those before it, into what was seen of them
  pub more : (test : ArcTest) (arc : List Sample) (n : ℕ) → n < length arc
      → seen_after test unseen (take (suc n) arc) ≡ taken test (seen_after test unseen (take n arc)) (sample_point arc n)
  -- one whose distance from the box's centre is NaN does not escape
  pub nan_centre : (test : ArcTest) (seen : Seen) (p : Vec3) → distance p test.centre ≡ nan → (taken test seen p).escapes ≡ seen.escapes
  -- and one whose distance from a vertex is NaN does not reach it
  pub nan_start : (test : ArcTest) (seen : Seen) (p : Vec3) → distance p test.start ≡ nan → (taken test seen p).reaches_start ≡ seen.reaches_start
  pub nan_end : (test : ArcTest) (seen : Seen) (p : Vec3) → distance p test.end ≡ nan → (taken test seen p).reaches_end ≡ seen.reaches_end
