-- `finish` meets its contract: what thinning leaves is merged. Assumes nothing.
use Rattle.std.proofs.Common.{refl, sym, ◌*◌, ◌/◌, length, length-take-le, arith}
use Rattle.std.proofs.lemmas.Result.{err_from_is_err_and}
use Rattle.std.specs.Prelude.{Ok}
use Rattle.draw_spec.specs.Edge.{thinned_if}
use Rattle.edge_merge.specs.Merge.{merge_floor}
use Rattle.edge_record.specs.Chain.{width, samples}
use Rattle.curve.specs.Eval.{is_sampled}
use Rattle.edge_drawing.specs.Own.Drawing.{sampled_curve}
use Rattle.edge_discretise.proofs.Thinning.{thin_some, thin_few, thin_room, finished_some, finished_none}
use Rattle.edge_discretise.proofs.finish.Goals as goal

pub returns-in_err-m : goal.returns-in_err-m
returns-in_err-m c =
    let a = c.args in
    let X = thinned_if (is_sampled (sampled_curve a.sampling.now)) a.sampling.now.options (samples (length a.chain.now / width) a.chain.now) in
    let p = err_from_is_err_and c.from_residual.result c.from_residual.ensures.1 in
    rw (p.1, p.2) (finished_none a.chain.now X (merge_floor a.sampling.now.drawing.now.edge.tolerance a.sampling.now.options.sag) c.in_err-m.field-0.0 _ c.in_err-m.ensures)

-- in the following, `t`: the buffer after thinning
pub overflow_mul-kept : goal.overflow_mul-kept
overflow_mul-kept c =
    let a = c.args in
    let sampled = is_sampled (sampled_curve a.sampling.now) in
    let t = thin_some sampled a.sampling.now.options a.chain.now (length a.chain.now / width) (Ok c.in_ok-m.m) c.in_ok-m.m _ c.requires.0 (omega arith) c.in_ok-m.ensures refl in
    omega (arith, thin_few t)

pub slice_bounds-kept-end : goal.slice_bounds-kept-end
slice_bounds-kept-end c =
    let a = c.args in
    let sampled = is_sampled (sampled_curve a.sampling.now) in
    let t = thin_some sampled a.sampling.now.options a.chain.now (length a.chain.now / width) (Ok c.in_ok-m.m) c.in_ok-m.m _ c.requires.0 (omega arith) c.in_ok-m.ensures refl in
    thin_room t

pub slice_bounds-kept-end-2 : goal.slice_bounds-kept-end-2
slice_bounds-kept-end-2 c =
    let a = c.args in
    let sampled = is_sampled (sampled_curve a.sampling.now) in
    let t = thin_some sampled a.sampling.now.options a.chain.now (length a.chain.now / width) (Ok c.in_ok-m.m) c.in_ok-m.m _ c.requires.0 (omega arith) c.in_ok-m.ensures refl in
    sym (length-take-le (width * c.in_ok-m.m) c.thin_sampled.new.chain (thin_room t))

pub returns : goal.returns
returns c =
    let a = c.args in
    let sampled = is_sampled (sampled_curve a.sampling.now) in
    let t = thin_some sampled a.sampling.now.options a.chain.now (length a.chain.now / width) (Ok c.in_ok-m.m) c.in_ok-m.m _ c.requires.0 (omega arith) c.in_ok-m.ensures refl in
    finished_some t c.merge_floor-floor.result _ c.merge_floor-floor.ensures c.merge.ensures _
