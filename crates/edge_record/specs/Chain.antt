-- A chain: its samples, and the records that a buffer holds of them. Definitions only.
use mathlib.Core.List.{List, [], ◌∷◌, ◌++◌, drop_last}
use Rattle.std.specs.Prelude.{ℕ, zero, suc, ◌+◌, ◌*◌, get_or, Float}
use Rattle.std.specs.Float.{nan}
use Rattle.math.specs.declared.Vec3.{Vec3}
use Rattle.math.specs.Math.{vec}
use Rattle.edge_record.specs.declared.Sample.{Sample}

-- how many floats a record has: x y z t
abbrev pub width : ℕ
width = 4

-- the fewest floats that a chain buffer must have: two records
abbrev pub shortest : ℕ
shortest = 2 * width

-- the most records that a chain can have
abbrev pub most : ℕ
most = 16384

-- the record of a sample
abbrev pub row : Sample → List Float
row s = s.point.x ∷ s.point.y ∷ s.point.z ∷ s.param ∷ []

-- a chain's records, one behind the other
unfoldable pub flat : List Sample → List Float
flat [] = []
flat (s ∷ l) = row s ++ flat l

-- the sample of a buffer's record i
unfoldable pub sample_at : List Float → ℕ → Sample
sample_at c i = record {
  point = vec (get_or c (width * i) nan) (get_or c (width * i + 1) nan) (get_or c (width * i + 2) nan);
  param = get_or c (width * i + 3) nan;
}

-- n samples from record i on
unfoldable pub samples_from : List Float → ℕ → ℕ → List Sample
samples_from c i zero = []
samples_from c i (suc n) = sample_at c i ∷ samples_from c (suc i) n

-- the first n samples of a buffer
abbrev pub samples : ℕ → List Float → List Sample
samples n c = samples_from c 0 n

-- a chain's points by their index, as `points[i]`; NaN past its end
abbrev pub sample_point : List Sample → ℕ → Vec3
sample_point l i = (get_or l i (record { point = vec nan nan nan; param = nan })).point

-- the last of d ∷ l
unfoldable pub last_of : {A : Type 0} → A → List A → A
last_of d [] = d
last_of d (a ∷ l) = last_of a l

-- a chain's samples between its first and its last
abbrev pub inner_samples : List Sample → List Sample
inner_samples [] = []
inner_samples (p ∷ l) = drop_last l
