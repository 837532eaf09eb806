-- `edge_asks::tell_by_count` meets its contract. Assumes nothing.
use Rattle.std.proofs.Common.{sym, ◌∙◌, arith}
use Rattle.std.proofs.lemmas.Result.{err_from_is_err_and}
use Rattle.edge_drawing.specs.Own.Drawing.{sampled_curve}
use Rattle.edge_asks.proofs.Telling.{refused_told, counted_told, floor_told, clear_told}
use Rattle.edge_asks.proofs.tell_by_count.Goals as goal
use Rattle.edge_asks.proofs.tell_by_count.Goals.{else-n-segments-via-then-n-segments+else-floor_far, else-n-segments-via-else-n-segments}

pub returns-in_err-n : goal.returns-in_err-n
returns-in_err-n c =
    let g = c.args.sampling.now in
    let p = err_from_is_err_and c.from_residual.result c.from_residual.ensures.1 in
    rw (p.1, p.2) (refused_told c.args.room g.drawing.now.mode (sampled_curve g) g.range g.options c.requires.1 _ (sym c.in_err-n.ensures))

pub returns-then-floor_far : goal.returns-then-floor_far
returns-then-floor_far c =
    let g = c.args.sampling.now in
    let k = sampled_curve g in
    floor_told c.args.room g.drawing.now.mode k g.range g.options c.requires.1 _ (counted_told c.args.room g.drawing.now.mode k g.range g.options c.requires.1 _ (sym c.in_ok-n.ensures)) (omega (arith, c.if-n-segments.true))
    (sym (c.floor_far.ensures g.drawing.now.tables.now.points.now g.drawing.now.tables.now.reals.now) ∙ c.if-floor_far.true)

pub returns : goal.returns
returns c =
    let g = c.args.sampling.now in
    let k = sampled_curve g in
    let f = counted_told c.args.room g.drawing.now.mode k g.range g.options c.requires.1 _ (sym c.in_ok-n.ensures) in
    clear_told c.args.room g.drawing.now.mode k g.range g.options c.requires.1 f.clear c.requires.0
    (λ few.
    elim c.else-n-segments.branch [
      | else-n-segments-via-then-n-segments+else-floor_far w ↦ sym (w.floor_far.ensures g.drawing.now.tables.now.points.now g.drawing.now.tables.now.reals.now) ∙ w.if-floor_far.false
      | else-n-segments-via-else-n-segments w ↦ absurd (omega (arith, w.if-n-segments.false, f.long))
    ])
