-- `causes::check_tables` meets its contract. Assumes nothing.
use Rattle.std.proofs.Common.{sym, ◌∙◌, arith}
use Rattle.std.proofs.lemmas.Bool.{or_left, or_right}
use Rattle.causes_form.specs.Forms.{malformed_segment}
use Rattle.causes.proofs.Laws.{sizes, segments_decide, rows_decide}
use Rattle.causes.proofs.check_tables.Goals as goal
use Rattle.causes.proofs.check_tables.Goals.{then-ragged-via-then-ragged, then-ragged-via-else-ragged+then-malformed_segments}

pub returns-then-ragged : goal.returns-then-ragged
unfolding malformed_segment
returns-then-ragged c =
    segments_decide _ (sym c.oversize.ensures ∙ c.if-oversize.false) (sym c.unbounded_tables.ensures ∙ c.if-unbounded_tables.false)
    (elim c.then-ragged.branch [
      | then-ragged-via-then-ragged w ↦ or_left _ _ (sym c.ragged.ensures ∙ w.if-ragged.true)
      | then-ragged-via-else-ragged+then-malformed_segments w ↦ or_right _ _ (sym w.malformed_segments.ensures ∙ w.if-malformed_segments.true)
    ])

pub rows_cause-requires : goal.rows_cause-requires
rows_cause-requires c = let z = sizes _ (sym c.oversize.ensures ∙ c.if-oversize.false) in (omega (arith, z.1), omega (arith, z.2))

pub returns : goal.returns
unfolding malformed_segment
returns c =
    c.rows_cause.ensures
    ∙ sym (rows_decide _ (sym c.oversize.ensures ∙ c.if-oversize.false) (sym c.unbounded_tables.ensures ∙ c.if-unbounded_tables.false) (sym c.ragged.ensures ∙ c.if-ragged.false) (sym c.malformed_segments.ensures ∙ c.if-malformed_segments.false))
