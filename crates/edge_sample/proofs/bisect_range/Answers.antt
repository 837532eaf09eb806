-- `edge_sample::bisect_range` meets its contract: without knots there are no breaks. Assumes nothing.
use mathlib.Core.Path.{sym, ◌∙◌}
use Rattle.edge_drawing.specs.Own.Drawing.{sampled_curve}
use Rattle.edge_sample.proofs.Broken.{no_breaks}
use Rattle.edge_sample.proofs.bisect_range.Goals as goal

pub walk-requires : goal.walk-requires
walk-requires c =
    let s = c.args.sampling.now in
    no_breaks s.drawing.now.mode (sampled_curve s) s.range.lo s.range.hi s.options.sag (sym c.if-knot_count-eq0.true ∙ c.knot_count.ensures)
