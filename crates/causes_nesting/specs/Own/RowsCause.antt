-- Causes 3, 4 and 5 of the rows, which one pass tells. Definitions only.
use Rattle.std.specs.Prelude.{cond, ⊤, Ok, Err}
use Rattle.brep.specs.Rows.{Tables}
use Rattle.refusal.specs.Answer.{Answer}
use Rattle.refusal.specs.declared.Refusal.TheVariants.{IllFormed, Unordered, TooDeep}
use Rattle.causes_bounds.specs.Some.{some_below}
use Rattle.causes_form.specs.Forms.{curve_count, malformed_row}
use Rattle.causes_nesting.specs.Nest.{too_deep, unordered}

-- the lowest of the causes 3, 4 and 5 that a row has; accepted where none has one
unfoldable pub rows_cause : Tables → Answer ⊤
rows_cause T =
    cond (some_below (curve_count T) (malformed_row T)) (Err IllFormed)
    (cond (unordered T) (Err Unordered)
    (cond (too_deep T) (Err TooDeep)
    (Ok tt)))
