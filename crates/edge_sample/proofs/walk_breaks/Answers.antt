-- `edge_sample::walk_breaks` meets its contract: the knots fit the array, and its first floats are the breaks. Assumes nothing.
use mathlib.Core.Path.{refl, sym}
use lib.Seq.{length-take-le}
use Rattle.edge_drawing.specs.Own.Drawing.{sampled_curve}
use Rattle.knots_sort.specs.Own.Sortable.{most_knots}
use Rattle.edge_sample.proofs.Broken.{not_many, kept_room, kept_list}
use Rattle.edge_sample.proofs.walk_breaks.Goals as goal

pub returns-in_err-m : goal.returns-in_err-m
returns-in_err-m c =
    let s = c.args.sampling.now in
    absurd (not_many s.drawing.now.mode (sampled_curve s) s.range.lo s.range.hi s.options.sag most_knots c.kept_breaks.result s.drawing.now.sortable c.kept_breaks.ensures.0 c.in_err-m.was)

pub slice_bounds-breaks-end : goal.slice_bounds-breaks-end
slice_bounds-breaks-end c =
    let s = c.args.sampling.now in
    kept_room s.drawing.now.mode (sampled_curve s) s.range.lo s.range.hi s.options.sag most_knots c.kept_breaks.result s.drawing.now.sortable c.kept_breaks.ensures.0 _ _ refl c.kept_breaks.ensures.1 _ c.in_ok-m.was c.kept_breaks.auto.out

pub slice_bounds-walk-end : goal.slice_bounds-walk-end
slice_bounds-walk-end c =
    let s = c.args.sampling.now in
    sym (length-take-le _ _
    (kept_room s.drawing.now.mode (sampled_curve s) s.range.lo s.range.hi s.options.sag most_knots c.kept_breaks.result s.drawing.now.sortable c.kept_breaks.ensures.0 _ _ refl c.kept_breaks.ensures.1 _ c.in_ok-m.was c.kept_breaks.auto.out))

pub walk-requires : goal.walk-requires
walk-requires c =
    let s = c.args.sampling.now in
    kept_list s.drawing.now.mode (sampled_curve s) s.range.lo s.range.hi s.options.sag most_knots c.kept_breaks.result s.drawing.now.sortable c.kept_breaks.ensures.0 _ _ refl c.kept_breaks.ensures.1 _ c.in_ok-m.was
