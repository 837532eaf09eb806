-- Chain::oriented of edge.rs: the points in the order of a walk, the walk step by step, and what walking means.
use Rattle.std.specs.Prelude.{◌≡◌, Bool, true, false, cond, List, ◌++◌, reverse, ℕ, zero, suc, ◌+◌, ◌-◌, ◌/◌, ◌<◌, min, length, eqb, ltb, Float, Some, None, slice_get}
use Rattle.std.specs.Borrow.{Bor}
use Rattle.edge_record.specs.declared.Sample.{Sample}
use Rattle.edge_record.specs.Chain.{width, flat, sample_at, samples}
use Rattle.edge_walker.specs.declared.Walker.{Walker}
use Rattle.edge_walker.specs.declared.Stepped.{Stepped}

-- how many whole points a chain has
abbrev pub whole_of : List Float → ℕ
whole_of c = length c / width

-- Chain::oriented: the points in the order of the chain, or in reverse
abbrev pub oriented : List Sample → Bool → List Sample
oriented points forward = cond forward points (reverse points)

-- THE MEANING: Chain::oriented of the whole points that a chain's floats hold
unfoldable pub oriented_chain : List Float → Bool → List Sample
oriented_chain c forward = oriented (samples (whole_of c) c) forward

-- where a walk begins: before the first point, or behind the last
unfoldable pub start_of : List Float → Bool → ℕ
start_of c true = 0
start_of c false = whole_of c

-- the step passes record i, and leaves the walker at a place
abbrev pub passes : List Float → ℕ → ℕ → Stepped
passes c i place = record { step = Some (sample_at c i); at = place }

-- no point is left, and the walker keeps its place
abbrev pub keeps_place : ℕ → Stepped
keeps_place place = record { step = None; at = place }

-- one step from a place, which counts the points before it; behind the last point backwards is the same as from there
unfoldable pub stepped : List Float → ℕ → Bool → Stepped
stepped c place true = cond (ltb place (whole_of c)) (passes c place (place + 1)) (keeps_place place)
stepped c place false =
    let before = min place (whole_of c) in
    cond (eqb before 0) (keeps_place place) (passes c (before - 1) (before - 1))

-- a walker at a place, and one of the whole chain
abbrev pub walker_at : Bor (List Float) → ℕ → Bool → Walker
walker_at chain place forward = record { chain = chain; at = place; forward = forward }

abbrev pub started : Bor (List Float) → Bool → Walker
started chain forward = walker_at chain (start_of chain.now forward) forward

-- a walker's step, and the walker after it
abbrev pub next : Walker → Stepped
next w = stepped w.chain.now w.at w.forward

abbrev pub moved : Walker → Walker
moved w = walker_at w.chain (next w).at w.forward

-- ---- what walking means
-- the walker after n steps
unfoldable pub after : Walker → ℕ → Walker
after w zero = w
after w (suc n) = after (moved w) n

-- WHAT WALKING MEANS: w walks the whole of a chain, whose floats are c
pub record Walks (c : List Float) (forward : Bool) (w : Walker) : Type 0 where
  -- stepping again and again answers the points of Chain::oriented, in order, and then none
  pub answers : (n : ℕ) → (next (after w n)).step ≡ slice_get (oriented_chain c forward) n
  -- a step that answers none keeps its place
  pub keeps : (n : ℕ) → (next (after w n)).step ≡ None → moved (after w n) ≡ after w n
  -- whole points only: those of the chain whose records c holds, with less than a record behind them
  pub whole : (points : List Sample) (rest : List Float) → c ≡ flat points ++ rest → length rest < width
      → oriented_chain c forward ≡ oriented points forward
