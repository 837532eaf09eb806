-- `draw_sampled` meets its contract: the parameters that scratch holds are placed and finished. Assumes nothing.
use mathlib.Core.List.{◌++◌}
use Rattle.std.specs.Prelude.{Option}
use mathlib.Core.Path.{sym, ap, ◌∙◌}
use Prim.Native.Nat.{◌*◌}
use native.Mathlib.Omega.{arith}
use lib.ListN.{length, drop}
use lib.Seq.{length-take-le}
use Rattle.edge_record.specs.Chain.{width}
use Rattle.edge_sample.specs.Own.Answered.{sampled_in, count_of, known_of}
use Rattle.edge_sample.specs.Own.Traced.{traced}
use Rattle.edge_sample.specs.declared.Sampled.{Sampled}
use Rattle.draw_spec.specs.Edge.{edge_curve}
use Rattle.brep.specs.Rows.{lent}
use Rattle.edge_discretise.proofs.Drawing.{records_room, records_length, sampling_some, part_room, part_length, cleared_used, placed_room, held, leads_over, leads_some, leads_none, none_listed, whole_length}
use Rattle.edge_discretise.proofs.draw_sampled.Goals as goal

pub slice_bounds-records-end-2 : goal.slice_bounds-records-end-2
slice_bounds-records-end-2 c = sym (records_length c.args.scratch.now c.args.chain.now c.requires.1)

pub sample_params-requires : goal.sample_params-requires
sample_params-requires c = records_room c.args.scratch.now c.args.chain.now c.requires.1

pub returns-in_default : goal.returns-in_default
returns-in_default c =
    let g = c.args.sampling.now in
    let T = lent g.drawing.now.tables.now in
    let sampling = sampled_in (length c.args.scratch.now) g.drawing.now.mode (edge_curve T g.drawing.now.edge) g.range g.options in
    let p = c.sample_params.ensures.0 in
    let e = ap count_of c.in_default.is in
    (leads_over g.drawing.now.mode T g.drawing.now.edge g.options g.range (length c.args.scratch.now) c.requires.2 (leads_none sampling _ _ _ p.0 e), none_listed _ sampling _ p.0 e p.1)

-- in the following, `s`: scratch after sampling, which did not refuse
pub slice_bounds-params-end : goal.slice_bounds-params-end
slice_bounds-params-end c =
    let g = c.args.sampling.now in
    let T = lent g.drawing.now.tables.now in
    let t = c.sample_params in
    let s = sampling_some (length c.args.scratch.now) g.drawing.now.mode (edge_curve T g.drawing.now.edge) g.range g.options (count_of t.result) c.in-Some.sampled.count _ t.ensures.0 (ap count_of c.in-Some.is) in
    part_room s

pub slice_bounds-params-end-2 : goal.slice_bounds-params-end-2
slice_bounds-params-end-2 c =
    let g = c.args.sampling.now in
    let T = lent g.drawing.now.tables.now in
    let t = c.sample_params in
    let s = sampling_some (length c.args.scratch.now) g.drawing.now.mode (edge_curve T g.drawing.now.edge) g.range g.options (count_of t.result) c.in-Some.sampled.count _ t.ensures.0 (ap count_of c.in-Some.is) in
    sym (part_length s)

pub place-requires : goal.place-requires
place-requires c =
    let g = c.args.sampling.now in
    let T = lent g.drawing.now.tables.now in
    let t = c.sample_params in
    let s = sampling_some (length c.args.scratch.now) g.drawing.now.mode (edge_curve T g.drawing.now.edge) g.range g.options (count_of t.result) c.in-Some.sampled.count _ t.ensures.0 (ap count_of c.in-Some.is) in
    let wide = width * length c.args.scratch.now in (
      omega (arith, s.two, part_length s),
      omega (arith, s.fits, part_length s, c.requires.1, whole_length wide t.new.chain c.args.chain.now t.auto.chain),
      held g.drawing.now.mode T g.drawing.now.edge g.options g.range s _ _ (drop wide c.args.chain.now) (omega (arith, records_length c.args.scratch.now c.args.chain.now c.requires.1)) (ap (λ (q : Option Sampled). traced (known_of q) t.new.chain) (sym c.in-Some.is) ∙ t.ensures.1),
    )

pub slice_bounds-used-end : goal.slice_bounds-used-end
slice_bounds-used-end c =
    let g = c.args.sampling.now in
    let T = lent g.drawing.now.tables.now in
    let t = c.sample_params in
    let s = sampling_some (length c.args.scratch.now) g.drawing.now.mode (edge_curve T g.drawing.now.edge) g.range g.options (count_of t.result) c.in-Some.sampled.count _ t.ensures.0 (ap count_of c.in-Some.is) in
    part_room s

pub slice_bounds-used-end-2 : goal.slice_bounds-used-end-2
slice_bounds-used-end-2 c =
    let g = c.args.sampling.now in
    let T = lent g.drawing.now.tables.now in
    let t = c.sample_params in
    let s = sampling_some (length c.args.scratch.now) g.drawing.now.mode (edge_curve T g.drawing.now.edge) g.range g.options (count_of t.result) c.in-Some.sampled.count _ t.ensures.0 (ap count_of c.in-Some.is) in
    sym (part_length s)

pub clear_from-requires : goal.clear_from-requires
clear_from-requires c =
    let g = c.args.sampling.now in
    let T = lent g.drawing.now.tables.now in
    let t = c.sample_params in
    let s = sampling_some (length c.args.scratch.now) g.drawing.now.mode (edge_curve T g.drawing.now.edge) g.range g.options (count_of t.result) c.in-Some.sampled.count _ t.ensures.0 (ap count_of c.in-Some.is) in
    omega (arith, part_length s)

pub slice_bounds-placed-end : goal.slice_bounds-placed-end
slice_bounds-placed-end c =
    let g = c.args.sampling.now in
    let T = lent g.drawing.now.tables.now in
    let t = c.sample_params in
    let s = sampling_some (length c.args.scratch.now) g.drawing.now.mode (edge_curve T g.drawing.now.edge) g.range g.options (count_of t.result) c.in-Some.sampled.count _ t.ensures.0 (ap count_of c.in-Some.is) in
    let wide = width * length c.args.scratch.now in
    let long = whole_length wide t.new.chain c.args.chain.now t.auto.chain in
    placed_room g.drawing.now.mode T g.drawing.now.edge g.options g.range s (t.new.chain ++ drop wide c.args.chain.now) _ (omega (arith, s.fits, c.requires.1, long)) c.place.ensures

pub slice_bounds-placed-end-2 : goal.slice_bounds-placed-end-2
slice_bounds-placed-end-2 c =
    let g = c.args.sampling.now in
    let T = lent g.drawing.now.tables.now in
    let t = c.sample_params in
    let s = sampling_some (length c.args.scratch.now) g.drawing.now.mode (edge_curve T g.drawing.now.edge) g.range g.options (count_of t.result) c.in-Some.sampled.count _ t.ensures.0 (ap count_of c.in-Some.is) in
    let wide = width * length c.args.scratch.now in
    let long = whole_length wide t.new.chain c.args.chain.now t.auto.chain in
    sym (length-take-le (width * c.in-Some.sampled.count) c.place.new.chain (placed_room g.drawing.now.mode T g.drawing.now.edge g.options g.range s (t.new.chain ++ drop wide c.args.chain.now) _ (omega (arith, s.fits, c.requires.1, long)) c.place.ensures))

pub finish-requires : goal.finish-requires
finish-requires c =
    let g = c.args.sampling.now in
    let T = lent g.drawing.now.tables.now in
    let t = c.sample_params in
    let s = sampling_some (length c.args.scratch.now) g.drawing.now.mode (edge_curve T g.drawing.now.edge) g.range g.options (count_of t.result) c.in-Some.sampled.count _ t.ensures.0 (ap count_of c.in-Some.is) in
    let wide = width * length c.args.scratch.now in
    let long = whole_length wide t.new.chain c.args.chain.now t.auto.chain in
    let r = placed_room g.drawing.now.mode T g.drawing.now.edge g.options g.range s (t.new.chain ++ drop wide c.args.chain.now) _ (omega (arith, s.fits, c.requires.1, long)) c.place.ensures in
    let l = length-take-le (width * c.in-Some.sampled.count) c.place.new.chain r in
    (omega (arith, s.two, l), omega (arith, s.fits, c.requires.0, l))

pub returns : goal.returns
returns c =
    let g = c.args.sampling.now in
    let T = lent g.drawing.now.tables.now in
    let t = c.sample_params in
    let s = sampling_some (length c.args.scratch.now) g.drawing.now.mode (edge_curve T g.drawing.now.edge) g.range g.options (count_of t.result) c.in-Some.sampled.count _ t.ensures.0 (ap count_of c.in-Some.is) in
    let wide = width * length c.args.scratch.now in
    let long = whole_length wide t.new.chain c.args.chain.now t.auto.chain in (
      leads_some g.drawing.now.mode T g.drawing.now.edge g.options g.range s (t.new.chain ++ drop wide c.args.chain.now) _ (omega (arith, s.fits, c.requires.1, long)) c.place.ensures c.requires.2 _ _ _ c.finish.ensures,
      cleared_used s c.clear_from.ensures,
    )
