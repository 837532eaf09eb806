-- `causes_nesting::rows_cause_in` meets its contract. Assumes nothing.
use Rattle.std.proofs.Common.{sym, arith, ◌∙◌}
use Rattle.std.proofs.lemmas.Bool.{true≢false, false≢true}
use Rattle.brep.specs.declared.Kind.TheVariants.{Composite}
use Rattle.causes_form.proofs.Laws.{run_of_kind}
use Rattle.causes_nesting.proofs.Laws.{gone_none, gone_in_step, gone_on, gone_more, gone_malformed, gone_all}
use Rattle.causes_nesting.proofs.rows_cause_in.Goals as goal
use Rattle.causes_nesting.proofs.rows_cause_in.Goals.{then-ne, else-ne}

pub loop-row-init : goal.loop-row-init
loop-row-init g c = gone_none _ _ c.requires.start

pub returns-then-malformed_row : goal.returns-then-malformed_row
returns-then-malformed_row g c = gone_malformed _ _ _ _ c.loop-row.invariant c.loop-row-test.true (sym c.malformed_row.ensures ∙ c.if-malformed_row.true)

pub row_depth-depth-requires : goal.row_depth-depth-requires
row_depth-depth-requires g c =
    let s = gone_in_step _ _ _ _ c.loop-row.invariant (λ e. true≢false (sym c.if-ne.true ∙ rw e at c.ne.ensures)) in
    λ k. rw s.same_parts (run_of_kind _ _ Composite (sym c.malformed_row.ensures ∙ c.if-malformed_row.false) k)

pub loop-row-preserved : goal.loop-row-preserved
loop-row-preserved g c =
    let l = c.loop-row.invariant in
    let m = sym c.malformed_row.ensures ∙ c.if-malformed_row.false in
    elim c.if-ne.branch [
      | then-ne w ↦
          let s = w.row_depth-depth.ensures.same in
          rw (w.depths-is, w.lowest-is, w.pass.ensures, s)
          (gone_more _ _ _ _ l (λ e. true≢false (sym w.if-ne.true ∙ rw e at c.ne.ensures)) m c.loop-row-test.true _ w.row_depth-depth.ensures.value _ w.cause_with-lowest.ensures)
      | else-ne w ↦
          rw (w.depths-is, w.lowest-is)
          (gone_on _ _ _ _ l (λ e. false≢true (sym w.if-ne.false ∙ rw e at c.ne.ensures)) (λ e. false≢true (sym w.if-ne.false ∙ rw e at c.ne.ensures)) m)
    ]

pub returns : goal.returns
returns g c = gone_all _ _ _ _ c.loop-row.invariant (omega arith)
