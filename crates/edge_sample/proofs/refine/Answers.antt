-- `edge_sample::refine` meets its contract: its buffers are the recorder's. Assumes nothing.
use Rattle.std.specs.Prelude.{true, false, Option, None, Some}
use mathlib.Core.Path.{refl, ap, ◌∙◌}
use native.Mathlib.Omega.{arith}
use lib.ListN.{length}
use Rattle.edge_drawing.specs.Own.Drawing.{sampled_curve}
use Rattle.edge_params.specs.Own.InRoom.{refined_in}
use Rattle.edge_subdivide.specs.Own.Recorder.{count_if}
use Rattle.edge_sample.specs.Sample.{sampler}
use Rattle.edge_sample.specs.Own.Answered.{known_of}
use Rattle.edge_sample.specs.Own.Sampling.{sampler_of}
use Rattle.edge_sample.proofs.Settled.{counts, unknown, settle_room, settled, settled_back, length_back, some, refined_refused, refined_few, refined_enough, refused_short, few_short, enough_kept}
use Rattle.edge_sample.proofs.Ways.{refined_traced}
use Rattle.edge_sample.proofs.refine.Goals as goal

pub returns-in_default : goal.returns-in_default
unfolding sampler
returns-in_default c =
    let g = c.args.sampling.now in
    let room = length c.args.out.now in
    let s = sampler_of g in
    let same = c.bisect_range.ensures.same in
    let h = c.bisect_range.ensures.recorded in
    let e = ap (λ (w : Option (Unit {0})). count_if w c.bisect_range.new.to.len) c.in_default.is in (
      settled_back _ _ e h.listed room (refined_in room s g.range) refl (refined_refused s g.range _ h.listed e) _ (counts None false c.settle.ensures.0) c.settle.ensures.1 (grind arith),
      refined_traced room g.drawing.now.mode (sampled_curve g) g.range g.options c.args.chain.now ((grind arith) ∙ h.records) (unknown None false c.settle.ensures.0 refl ∙ refused_short s g.range _ h.listed e),
    )

pub overflow_sub-n : goal.overflow_sub-n
overflow_sub-n c =
    let g = c.args.sampling.now in
    let e = ap (λ (w : Option (Unit {0})). count_if w c.bisect_range.new.to.len) c.in-Some.is in
    let h = some (sampler_of g) g.range _ c.bisect_range.ensures.recorded.listed _ e in
    omega arith

pub settle-requires-then-n-floor : goal.settle-requires-then-n-floor
settle-requires-then-n-floor c = settle_room _ _ refl c.evenly-even.ensures

pub returns-then-n-floor : goal.returns-then-n-floor
unfolding sampler
returns-then-n-floor c =
    let g = c.args.sampling.now in
    let room = length c.args.out.now in
    let s = sampler_of g in
    let same = c.bisect_range.ensures.same in
    let h = c.bisect_range.ensures.recorded in
    let e = ap (λ (w : Option (Unit {0})). count_if w c.bisect_range.new.to.len) c.in-Some.is in (
      settled _ _ refl c.evenly-even.ensures room (refined_in room s g.range) (length_back h.listed (grind arith)) (refined_few s g.range _ h.listed _ e c.if-n-floor.true) _ _ (counts c.evenly-even.result false c.settle-then-n-floor.ensures.0) c.settle-then-n-floor.ensures.1,
      refined_traced room g.drawing.now.mode (sampled_curve g) g.range g.options c.args.chain.now ((grind arith) ∙ h.records) (unknown c.evenly-even.result false c.settle-then-n-floor.ensures.0 refl ∙ few_short s g.range _ h.listed _ e c.if-n-floor.true),
    )

pub returns : goal.returns
unfolding sampler
returns c =
    let g = c.args.sampling.now in
    let room = length c.args.out.now in
    let s = sampler_of g in
    let same = c.bisect_range.ensures.same in
    let h = c.bisect_range.ensures.recorded in
    let e = ap (λ (w : Option (Unit {0})). count_if w c.bisect_range.new.to.len) c.in-Some.is in (
      settled_back _ _ e h.listed room (refined_in room s g.range) refl (refined_enough s g.range _ h.listed _ e c.if-n-floor.false) _ (counts (Some c.bisect_range.new.to.len) true c.settle-2.ensures.0) c.settle-2.ensures.1 (grind arith),
      refined_traced room g.drawing.now.mode (sampled_curve g) g.range g.options c.args.chain.now ((grind arith) ∙ h.records) (ap known_of c.settle-2.ensures.0 ∙ enough_kept s g.range _ h.listed _ e c.if-n-floor.false),
    )
