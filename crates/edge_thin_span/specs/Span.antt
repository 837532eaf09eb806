-- What `thin` decides of a span: its worst point, its turn, and refusal 9. `points` gives a chain's points by their index. Definitions only.
use Rattle.std.specs.Prelude.{cond, ◌||◌, List, [], ◌∷◌, ℕ, zero, suc, ◌+◌, ◌-◌, leb, eqb, Float, Option, Some, None, Err, Ok}
use Rattle.std.specs.Float.Ieee.{lt}
use Rattle.arith.specs.Notation.{◌⊕◌, plus_zero}
use Rattle.math.specs.declared.Vec3.{Vec3}
use Rattle.math.specs.Math.{v_sub, v_length_squared, try_normalized, angle_between}
use Rattle.edge_record.specs.Chain.{last_of}
use Rattle.math_chord.specs.Chord.{span_distance}
use Rattle.edge_thin_span.specs.declared.Worst.{Worst}
use Rattle.refusal.specs.Answer.{Answer}
use Rattle.refusal.specs.declared.Refusal.TheVariants.{Endless}

-- a distance and its index in place of the worst so far, where it is larger
abbrev pub worse : Worst → Float → ℕ → Worst
worse w d i = cond (lt w.distance d) (record { distance = d; index = i }) w

-- the loop over n points from i on
unfoldable pub worst_from : (ℕ → Vec3) → Vec3 → Vec3 → ℕ → ℕ → Worst → Worst
worst_from points pa axis zero i w = w
worst_from points pa axis (suc n) i w =
    worst_from points pa axis n (suc i) (worse w (span_distance pa axis (v_length_squared axis) (points i)) i)

-- worst: the largest distance to the chord and its point, the first of several; 0.0 and a where none is above zero
unfoldable pub worst_of : (ℕ → Vec3) → ℕ → ℕ → Worst
worst_of points a b =
    worst_from points (points a) (v_sub (points b) (points a)) (b - (a + 1)) (a + 1)
    (record { distance = plus_zero; index = a })

-- a segment's direction before those of later ones; a segment without one is passed over
abbrev pub joined : Option Vec3 → List Vec3 → List Vec3
joined (Some v) l = v ∷ l
joined None l = l

-- ends: the directions of n segments from point a on
unfoldable pub directions : (ℕ → Vec3) → ℕ → ℕ → List Vec3
directions points zero a = []
directions points (suc n) a = joined (try_normalized (v_sub (points (suc a)) (points a))) (directions points n (suc a))

-- ends.next(): the first direction, if there is one
abbrev pub first_in : List Vec3 → Option Vec3
first_in [] = None
first_in (v ∷ l) = Some v

-- ends.last(): the last, if there is one
abbrev pub last_in : List Vec3 → Option Vec3
last_in [] = None
last_in (v ∷ l) = Some (last_of v l)

-- the angle from the first direction to the last, by way of the chord's; 0.0 where one of the three is missing
abbrev pub turn_by : Option Vec3 → Option Vec3 → Option Vec3 → Float
turn_by None first last = plus_zero
turn_by (Some chord) None last = plus_zero
turn_by (Some chord) (Some f) None = plus_zero
turn_by (Some chord) (Some f) (Some l) = angle_between f chord ⊕ angle_between chord l

-- turn: that of the span from a to b
unfoldable pub span_turn : (ℕ → Vec3) → ℕ → ℕ → Float
span_turn points a b =
    turn_by (try_normalized (v_sub (points b) (points a))) (first_in (directions points (b - a) a)) (last_in (directions points (b - a) a))

-- what becomes of a span: none of its points inside is kept; or it is split at its worst point, where that lies too far off or the span
-- turns too much; or refusal 9, where it would be split and no point in it has a distance above zero
unfoldable pub decision : (ℕ → Vec3) → Float → Float → ℕ → ℕ → Answer (Option ℕ)
decision points tolerance angle a b =
    cond (leb b (a + 1)) (Ok None)
    (cond (lt tolerance (worst_of points a b).distance || lt angle (span_turn points a b))
    (cond (eqb (worst_of points a b).index a) (Err Endless) (Ok (Some (worst_of points a b).index)))
    (Ok None))
