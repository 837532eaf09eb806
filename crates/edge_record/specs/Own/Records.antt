-- The chain that a slice of nothing but records holds. Definitions only.
use Rattle.std.specs.Prelude.{List, ◌/◌, length, Float}
use Rattle.edge_record.specs.declared.Sample.{Sample}
use Rattle.edge_record.specs.Chain.{width, samples}

-- all whole records of a buffer
abbrev pub records_of : List Float → List Sample
records_of c = samples (length c / width) c
