-- `edge_sample::sample_params` meets its contract. Assumes nothing.
use Rattle.std.specs.Prelude.{true, false, Some}
use mathlib.Core.Path.{refl, sym, ap, ◌∙◌}
use native.Mathlib.Omega.{arith}
use lib.ListN.{length}
use lib.Seq.{length-take-le}
use borrow.Author.Rules.{rules}
use Rattle.brep.specs.Tree.{CurveTree}
use Rattle.edge_drawing.specs.Own.Drawing.{sampled_curve}
use Rattle.edge_params.specs.Own.InRoom.{refined_in}
use Rattle.edge_sample.specs.Own.Answered.{sampled_in, count_of, known_of}
use Rattle.edge_sample.specs.Own.Sampling.{sampler_of}
use Rattle.edge_sample.specs.Own.Traced.{traced}
use Rattle.edge_sample.proofs.Laws.{form_plain}
use Rattle.edge_sample.proofs.Settled.{counts, unknown, settle_room, settled}
use Rattle.edge_sample.proofs.Ways.{answered_as, no_form, no_form_traced, form_refused, refused_traced, form_meets, meets_traced, form_misses, misses_traced}
use Rattle.edge_sample.proofs.sample_params.Goals as goal

pub returns-in_default : goal.returns-in_default
returns-in_default c =
    let s = c.args.sampling.now in
    let curve : CurveTree = sampled_curve s in
    let is = c.analytic_segments-form.ensures in
    let none = c.in_default.is in (
      answered_as (count_of c.refine.result) _ _ _ refl (λ n. refined_in n (sampler_of s) s.range) (sampled_in (length c.args.out.now) s.drawing.now.mode curve s.range s.options) (no_form (length c.args.out.now) s.drawing.now.mode curve s.range s.options _ is none) c.refine.ensures.0,
      c.refine.ensures.1 ∙ no_form_traced (length c.args.out.now) s.drawing.now.mode curve s.range s.options c.args.chain.now _ is none,
    )

pub settle-requires : goal.settle-requires
settle-requires c = settle_room _ _ refl c.evenly-even.ensures

pub returns-in_default-even : goal.returns-in_default-even
returns-in_default-even c =
    let s = c.args.sampling.now in
    let curve : CurveTree = sampled_curve s in
    let e = c.in_default-even.is in (
      settled _ _ refl c.evenly-even.ensures (length c.args.out.now) (sampled_in (length c.args.out.now) s.drawing.now.mode curve s.range s.options) refl (form_refused (length c.args.out.now) s.drawing.now.mode curve s.range s.options _ c.analytic_segments-form.ensures _ c.in-Some.is refl _ c.evenly-even.ensures e) _ _ (counts c.evenly-even.result false c.settle.ensures.0) c.settle.ensures.1,
      ap (λ k. traced k c.args.chain.now) (unknown c.evenly-even.result false c.settle.ensures.0 refl) ∙ refused_traced (length c.args.out.now) s.drawing.now.mode curve s.range s.options _ c.analytic_segments-form.ensures _ c.in-Some.is refl _ c.evenly-even.ensures c.args.chain.now e,
    )

-- the parameters that the check is lent are in the buffer
pub slice_bounds-meets-end : goal.slice_bounds-meets-end
slice_bounds-meets-end c = settle_room _ _ c.in-Some-even.is c.evenly-even.ensures

pub slice_bounds-meets-end-2 : goal.slice_bounds-meets-end-2
slice_bounds-meets-end-2 c = sym (length-take-le _ _ (settle_room _ _ c.in-Some-even.is c.evenly-even.ensures))

pub meets-requires : goal.meets-requires
meets-requires c =
    let s = c.args.sampling.now in
    let curve : CurveTree = sampled_curve s in
    let room = settle_room _ _ c.in-Some-even.is c.evenly-even.ensures in (
      omega (arith, room, length-take-le _ _ room, c.evenly-even.auto.out, c.requires.wide),
      form_plain curve s.range s.options _ (sym c.analytic_segments-form.ensures ∙ c.in-Some.is),
    )

pub settle-requires-then-meets : goal.settle-requires-then-meets
settle-requires-then-meets c = settle_room _ _ c.in-Some-even.is c.evenly-even.ensures

pub returns-then-meets : goal.returns-then-meets
returns-then-meets c =
    let s = c.args.sampling.now in
    let curve : CurveTree = sampled_curve s in
    let m = c.meets.ensures in
    let e = c.in-Some-even.is in (
      settled _ _ e c.evenly-even.ensures (length c.args.out.now) (sampled_in (length c.args.out.now) s.drawing.now.mode curve s.range s.options) refl (form_meets (length c.args.out.now) s.drawing.now.mode curve s.range s.options _ c.analytic_segments-form.ensures _ c.in-Some.is refl _ c.evenly-even.ensures _ e _ m.0 c.if-meets.true) _ _ (counts (Some c.in-Some-even.m) true c.settle-then-meets.ensures.0) c.settle-then-meets.ensures.1,
      ap (λ k. traced k c.meets.new.chain) (ap known_of c.settle-then-meets.ensures.0) ∙ meets_traced (length c.args.out.now) s.drawing.now.mode curve s.range s.options _ c.analytic_segments-form.ensures _ c.in-Some.is refl _ c.evenly-even.ensures _ e _ m.0 c.args.chain.now m.1 c.if-meets.true,
    )

pub refine-requires-2 : goal.refine-requires-2
refine-requires-2 c =
    record { taken = search rules; wide = omega (arith, c.meets.auto.chain, c.requires.wide, c.evenly-even.auto.out) }

pub returns : goal.returns
returns c =
    let s = c.args.sampling.now in
    let curve : CurveTree = sampled_curve s in
    let m = c.meets.ensures in
    let e = c.in-Some-even.is in
    let long = c.evenly-even.auto.out in (
      answered_as (count_of c.refine-2.result) _ _ _ long (λ n. refined_in n (sampler_of s) s.range) (sampled_in (length c.args.out.now) s.drawing.now.mode curve s.range s.options) (form_misses (length c.args.out.now) s.drawing.now.mode curve s.range s.options _ c.analytic_segments-form.ensures _ c.in-Some.is refl _ c.evenly-even.ensures _ e _ m.0 c.if-meets.false) c.refine-2.ensures.0,
      c.refine-2.ensures.1 ∙ misses_traced (length c.args.out.now) s.drawing.now.mode curve s.range s.options _ c.analytic_segments-form.ensures _ c.in-Some.is refl _ c.evenly-even.ensures _ e _ m.0 c.args.chain.now m.1 _ long c.if-meets.false,
    )
