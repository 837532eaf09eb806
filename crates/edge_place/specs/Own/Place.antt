-- What a vertex needs of the tables, and the chord of two points. Definitions only.
use Rattle.std.specs.Prelude.{List, [], ◌∷◌, ◌/◌, length, Float}
use Rattle.math.specs.declared.Vec3.{Vec3}
use Rattle.brep.specs.Rows.{Tables, tables}
use Rattle.edge_record.specs.declared.Sample.{Sample}
use Rattle.edge_record.specs.Chain.{width, samples}

-- the points alone
abbrev pub of_points : List Float → Tables
of_points points = tables points [] [] [] []

-- the chord from a point to another with two parameters: `chord_of` has an edge's vertices for them
abbrev pub chord_between : Vec3 → Vec3 → Float → Float → List Sample
chord_between start end a b = record { point = start; param = a } ∷ record { point = end; param = b } ∷ []
