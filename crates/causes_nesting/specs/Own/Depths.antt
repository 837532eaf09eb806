-- Depths, from a table of the lower rows' depths. 0 to 8 are nestings, 9 stands for every deeper one,
-- and 10 for a reference that is not to a lower row. Definitions only.
use Rattle.std.specs.Prelude.{◌≡◌, cond, List, ℕ, zero, suc, ◌+◌, ◌-◌, ◌*◌, ◌/◌, ◌<◌, ◌≤◌, max, length, get_or, slice_set, ltb, eqb, Option, Some, None, Err, ⊤}
use Rattle.brep.specs.declared.Kind.{Kind}
use Rattle.brep.specs.declared.Kind.TheVariants.{Trimmed, Composite}
use Rattle.brep.specs.Kind.{kind_at}
use Rattle.refusal.specs.Answer.{Answer}
use Rattle.refusal.specs.declared.Refusal.TheVariants.{Unordered, TooDeep}

-- what depths are told from: the segments' whole numbers, the depths of the rows gone by, and how many rows those are
pub record Seen : Type 0 where
  pub parts : List ℕ
  pub rows : List ℕ
  pub row : ℕ

-- how many segments there are
abbrev pub segments_seen : Seen → ℕ
segments_seen seen = length seen.parts / 2

-- of row number base
unfoldable pub depth_below : Seen → ℕ → ℕ
depth_below seen base = cond (ltb base seen.row) (get_or seen.rows base 0) 10

-- of the curve of segment i
abbrev pub segment_depth : Seen → ℕ → ℕ
segment_depth seen i = depth_below seen (get_or seen.parts (i * 2) 0)

-- the largest of n segments from number first on; 0 where there is none
unfoldable pub deepest_of : Seen → ℕ → ℕ → ℕ
deepest_of seen first zero = 0
deepest_of seen first (suc n) = max (deepest_of seen first n) (segment_depth seen (first + n))

-- the depth of the segments from number from on, before number to, was told, and what depths are told from is as it was
pub record TellsRun (old new : Seen) (from to depth : ℕ) : Type 0 where
  pub value : depth ≡ deepest_of old from (to - from)
  pub same : new ≡ old

-- one deeper, where that can still be told
unfoldable pub one_deeper : ℕ → ℕ
one_deeper depth = cond (ltb depth 9) (depth + 1) depth

-- of a row of this kind, by its numbers
unfoldable pub depth_as : Seen → Option Kind → ℕ → ℕ → ℕ
depth_as seen (Some Trimmed) first count = one_deeper (depth_below seen first)
depth_as seen (Some Composite) first count = one_deeper (deepest_of seen first count)
depth_as seen _ first count = 0

-- of a row
abbrev pub row_depth : List ℕ → Seen → ℕ → ℕ
row_depth curves seen row =
    depth_as seen (kind_at curves row) (get_or curves (row * 3 + 1) 0) (get_or curves (row * 3 + 2) 0)

-- where a row is a composite, its run lies in the segments that there are
abbrev pub RunFits : List ℕ → Seen → ℕ → Type 0
RunFits curves seen row =
    kind_at curves row ≡ Some Composite
    → get_or curves (row * 3 + 1) 0 + get_or curves (row * 3 + 2) 0 ≤ segments_seen seen

-- past one row more, of this depth
abbrev pub passed : Seen → ℕ → Seen
passed seen depth = record { parts = seen.parts; rows = slice_set seen.rows seen.row depth; row = seen.row + 1 }

-- no row is passed yet, and there is room for each of so many
pub record IsStart (parts : List ℕ) (rows : ℕ) (seen : Seen) : Type 0 where
  pub same_parts : seen.parts ≡ parts
  pub none_passed : seen.row ≡ 0
  pub room : rows ≤ length seen.rows

-- what is kept of a block of so many segments is its depth, and is not 10
pub record Known (size : ℕ) (seen : Seen) (kept : List (Option ℕ)) : Type 0 where
  pub told : (b depth : ℕ) → get_or kept b None ≡ Some depth → (depth < 10) × (depth ≡ deepest_of seen (b * size) ((b + 1) * size - b * size))

-- the lowest cause so far, after a row of this depth, where it was none or 5
unfoldable pub cause_with : Answer ⊤ → ℕ → Answer ⊤
cause_with lowest depth = cond (eqb depth 10) (Err Unordered) (cond (eqb depth 9) (Err TooDeep) lowest)
