-- The nearest parameter so far, with how far its point lies from the target. Definitions only.
use Rattle.std.specs.Prelude.{cond, Float}
use Rattle.std.specs.Float.Ieee.{lt}
use Rattle.arith_root.specs.Root.{root_of}
use Rattle.math.specs.declared.Vec3.{Vec3}
use Rattle.math.specs.Math.{v_sub, v_length_squared}
use Rattle.edge_escape.specs.declared.Best.{Best}

-- a parameter and the point at it
unfoldable pub measured : Vec3 → Float → Vec3 → Best
measured target t p = record { param = t; square = v_length_squared (v_sub p target) }

-- the second where it is strictly nearer
unfoldable pub nearer_of : Best → Best → Best
nearer_of best next = cond (lt (root_of next.square) (root_of best.square)) next best
