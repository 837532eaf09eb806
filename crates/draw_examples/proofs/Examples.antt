-- The examples hold, by computation. Assumes nothing.
use Rattle.std.specs.Prelude.{Some, Err, Ok}
use mathlib.Core.Path.{◌≡◌, refl, ap, ◌∙◌}
use mathlib.Core.Bool.{Bool, cond}
use mathlib.Core.List.{List, []}
use Prim.Native.Nat.{ℕ, ◌+◌, ◌<◌}
use native.Mathlib.Omega.{arith}
use lib.ListN.{length}
use borrow.Author.Tests.{lt-leb}
use lib.Ieee as ieee
use lib.Ieee.{Float}
use Rattle.base_lists.specs.Room.{filled}
use Rattle.base_lists.specs.All.{none, more}
use Rattle.arith.specs.Floor as arith-floor
use Rattle.arith_root.specs.Root as arith-root-root
use Rattle.arith_trig.specs.Own.SinCos as arith_trig-ownsincos
use Rattle.arith_trig.specs.Trig as arith-trig-trig
use Rattle.math.specs.Math as math-math
use Rattle.brep.specs.Kind as brep-kind
use Rattle.brep.specs.Rows as brep-rows
use Rattle.brep.specs.Tree as brep-tree
use Rattle.causes_nesting.specs.Nest as causes-nesting-nest
use Rattle.options.specs.Options as options-options
use Rattle.causes_bounds.specs.Bounds as causes-bounds-bounds
use Rattle.causes_bounds.specs.Some as causes-bounds-some
use Rattle.causes_form.specs.Forms as causes-form-forms
use Rattle.causes.specs.Causes as causes-causes
use Rattle.curve.specs.Eval as curve-eval
use Rattle.curve_tangent.specs.Derivative as curve-tangent-derivative
use Rattle.math_chord.specs.Chord as math-chord-chord
use Rattle.knots_inside.specs.Breaks as knots-inside-breaks
use Rattle.knots_sort.specs.Own.Merge as knots-sort-merge
use Rattle.knots_sort.specs.Sort as knots-sort-sort
use Rattle.knots.specs.Knots as knots-knots
use Rattle.knots_breaks.specs.Breaks as knots-breaks-breaks
use Rattle.knots_inside.specs.Thinned as knots-inside-thinned
use Rattle.knots_thin.specs.Thin as knots-thin-thin
use Rattle.curve_asks.specs.Asks as curve-asks-asks
use Rattle.edge_params.specs.Work as edge-params-work
use Rattle.edge_params.specs.Work.{Work, within}
use Rattle.edge_params.specs.Params as edge-params-params
use Rattle.edge_range.specs.Usable as edge-range-usable
use Rattle.edge_subdivide.specs.Own.Split as edge-subdivide-ownsplit
use Rattle.edge_subdivide.specs.Bisect as edge-subdivide-bisect
use Rattle.edge_sample.specs.Sample as edge-sample-sample
use Rattle.edge_record.specs.declared.Sample.{Sample}
use Rattle.edge_record.specs.Chain.{flat}
use Rattle.edge_record.specs.Chain as edge-record-chain
use Rattle.edge_merge.specs.Merge as edge-merge-merge
use Rattle.edge_thin_span.specs.Span as edge-thin-span-span
use Rattle.edge_thin_mark.specs.Spans as edge-thin-mark-spans
use Rattle.edge_thin.specs.Thin as edge-thin-thin
use Rattle.draw_spec.specs.Draw as draw-spec-draw
use Rattle.draw_spec.specs.Edge as draw-spec-edge
use Rattle.draw_spec.specs.Repair as draw-spec-repair
use Rattle.arith.specs.Notation.{◌⊗◌}
use Rattle.arith.specs.Constants.{hundredth}
use Rattle.brep.specs.declared.Edge.{Edge}
use Rattle.brep.specs.Rows.{Tables}
use Rattle.options.specs.declared.Resolved.{Resolved}
use Rattle.options.specs.declared.Mode.TheVariants.{Reference}
use Rattle.edge_range.specs.Usable.{usable_range}
use Rattle.edge_sample.specs.Sample.{sampled}
use Rattle.edge_thin.specs.Thin.{thinned}
use Rattle.draw_spec.specs.Edge.{edge_curve, placed}
use Rattle.draw_spec.specs.declared.Way.{Way}
use Rattle.draw_spec.specs.Repair.{Got, by}
use Rattle.draw_spec.specs.Draw.{program_points, local_options, in_first, after_refusal, first_after, second_after}
use Rattle.draw_examples.specs.Examples.{Leaves, DrawsChain, RefusesLate, NeverReturns, boxed, escaping, close}
use Rattle.draw_examples.specs.Examples as examples
use Rattle.edge_thin_loop.proofs.Laws.{thins}
use Rattle.draw_examples.proofs.Sweep.{runs_away}
use Rattle.refusal.specs.Answer.{Answer}
use Rattle.refusal.specs.declared.Refusal.TheVariants.{Endless}
use Rattle.refusal.specs.declared.Refusal.{Refusal}
use Rattle.refusal.specs.Refusal.{number_of}

-- ---- the buffers of a chain, and of a refusal above 7
draws_chain : (d : Answer Got) (way : Way) (chain : List Sample) → d ≡ Ok (by way chain) → DrawsChain d way chain
unfolding first_after second_after
draws_chain d way chain e = record {
  gets = e;
  buffers = record {
    in_first = λ first n. ap (first_after first) e ∙ ap (λ (m : ℕ). filled m (cond (in_first way) (flat chain) [])) n;
    in_second = λ second n. ap (second_after second) e ∙ ap (λ (m : ℕ). filled m (cond (in_first way) [] (flat chain))) n;
  };
}

refuses_late : (d : Answer Got) (n : Refusal) → 7 < number_of n → d ≡ Err n → RefusesLate d n
unfolding first_after second_after
refuses_late d n h e = record {
  refused = e;
  buffers = record {
    in_first = λ first m. ap (first_after first) e ∙ cleared first ∙ ap (λ (k : ℕ). filled k []) m;
    in_second = λ second m. ap (second_after second) e ∙ cleared second ∙ ap (λ (k : ℕ). filled k []) m;
  };
}
  where
    cleared : (entry : List Float) → after_refusal n entry ≡ filled (length entry) []
    cleared entry = ap (λ (b : Bool). cond b entry (filled (length entry) [])) (lt-leb (number_of n) 7 h)

-- where our thinning refuses, the Rust's never returns
never_returns : (T : Tables) (e : Edge) (r : Resolved) (params : List Float) → usable_range (edge_curve T e) e.range ≡ Some e.range
    → (sampled Reference (edge_curve T e) e.range r).end ≡ Ok params → thinned (r.sag ⊗ hundredth) r.angle (r.segments + 1) (placed T e params) ≡ Err Endless
    → NeverReturns T e r params
never_returns T e r params u s t = record { usable = u; comes_to = s; never = (thins _ _ _ _).never.0 t }

pub hold : examples.ExamplesHold
unfolding knots-sort-merge.before knots-sort-merge.merged_runs knots-sort-sort.inserted knots-sort-sort.sorted arith-floor.floor_of arith-root-root.isqrt arith-root-root.near_root arith-root-root.root_units arith-root-root.root_of arith-trig-trig.quarter arith-trig-trig.horner_steps arith-trig-trig.sin_kernel arith-trig-trig.cos_kernel arith-trig-trig.sin_by arith-trig-trig.cos_by arith-trig-trig.sin_of arith-trig-trig.cos_of arith_trig-ownsincos.sin_cos_of arith-trig-trig.halved arith-trig-trig.summed arith-trig-trig.arc_of arith-trig-trig.angle_of arith-trig-trig.acos_by arith-trig-trig.acos_of math-math.v_add math-math.v_sub math-math.v_scale math-math.v_dot math-math.v_cross math-math.v_length math-math.try_normalized math-math.angle_between math-math.v_lerp math-math.v_min math-math.v_max math-math.v_finite math-math.y_dir math-math.is_empty math-math.add_point math-math.box_size math-math.centre math-math.diagonal math-math.span_of math-math.at brep-rows.point_of brep-rows.frame_of brep-rows.segment_of brep-rows.kind_of brep-rows.curve_of brep-tree.run brep-tree.segments brep-tree.grown brep-tree.below brep-tree.tree options-options.is_clamped options-options.resolved_sag options-options.resolved_model options-options.resolved_relative options-options.resolve options-options.sag_for options-options.for_extent options-options.angle_step options-options.segments_for_arc causes-bounds-bounds.within causes-bounds-bounds.beyond causes-bounds-bounds.finite_beyond causes-bounds-bounds.edge_beyond causes-bounds-bounds.options_beyond causes-bounds-bounds.unbounded causes-bounds-some.some_below causes-form-forms.broken causes-form-forms.uneven causes-form-forms.wrong_count causes-form-forms.spare_p causes-form-forms.spare_q causes-form-forms.unused_set causes-form-forms.malformed causes-form-forms.malformed_row causes-form-forms.malformed_segment causes-form-forms.ill_formed causes-causes.oversize causes-nesting-nest.high_segment causes-nesting-nest.not_lower causes-nesting-nest.unordered_row causes-nesting-nest.deep_row causes-causes.missing causes-causes.verdict curve-eval.run_length curve-eval.natural_range curve-eval.closes curve-eval.is_closed curve-eval.every_span curve-eval.period curve-eval.polyline_parameter curve-eval.polyline_point curve-eval.own_parameter curve-eval.axes_point curve-eval.parabola_point curve-eval.is_sampled curve-eval.point_at curve-eval.segment_point curve-tangent-derivative.polyline_derivative curve-tangent-derivative.signed_span curve-tangent-derivative.ellipse_derivative curve-tangent-derivative.parabola_derivative math-chord-chord.chord_place math-chord-chord.chord_offset math-chord-chord.span_offset math-chord-chord.span_distance math-chord-chord.bisection_offset math-chord-chord.bisection_distance knots-inside-breaks.retained_knots knots-inside-breaks.apart knots-inside-breaks.deduped knots-inside-breaks.inside_upward knots-inside-breaks.inside_of knots-knots.segment_knots knots-knots.curve_knots knots-knots.curve_breaks knots-breaks-breaks.wholes knots-breaks-breaks.segments_under knots-breaks-breaks.breaks_in knots-inside-breaks.passing_upward knots-inside-breaks.passing_knots knots-knots.worst_of_three knots-knots.deviation knots-inside-thinned.thinned_from knots-inside-thinned.thin_breaks knots-thin-thin.thin_asks knots-thin-thin.thinning_asks edge-params-params.subdividing edge-params-params.forming edge-params-params.steps edge-params-work.joining edge-params-work.some_far edge-params-work.asking edge-params-work.overflows edge-params-params.breaks_along edge-params-params.unless_hi edge-params-params.walking edge-params-params.bisecting edge-params-params.floored edge-params-params.refined edge-params-params.sample_params edge-range-usable.own_range edge-range-usable.clamped_to_domain edge-range-usable.within_domain edge-range-usable.usable_range edge-range-usable.is_open_conic edge-range-usable.has_no_domain edge-range-usable.ellipse_radius edge-range-usable.analytic_segments edge-subdivide-bisect.end_at edge-subdivide-bisect.sag_of edge-subdivide-bisect.tangent_turn edge-subdivide-bisect.is_within edge-subdivide-bisect.within_budget edge-subdivide-ownsplit.split_of edge-sample-sample.miss_of edge-sample-sample.worst_miss edge-sample-sample.sampler edge-sample-sample.sampled edge-record-chain.flat edge-record-chain.sample_at edge-record-chain.samples_from edge-record-chain.last_of edge-merge-merge.merge_floor edge-merge-merge.spaced edge-merge-merge.with_end edge-merge-merge.merged edge-thin-span-span.worst_from edge-thin-span-span.worst_of edge-thin-span-span.directions edge-thin-span-span.span_turn edge-thin-span-span.decision edge-thin-mark-spans.kept_in edge-thin-mark-spans.flagged edge-thin-thin.flag_count edge-thin-thin.evens edge-thin-thin.restored edge-thin-thin.retained_by edge-thin-thin.thinned draw-spec-draw.local_options draw-spec-draw.first_way draw-spec-draw.probes draw-spec-draw.referenced draw-spec-draw.room_of draw-spec-draw.drawn draw-spec-edge.probed draw-spec-edge.extent_box draw-spec-edge.edge_extent draw-spec-edge.located draw-spec-edge.degenerate_ends draw-spec-edge.is_reversed draw-spec-edge.oriented draw-spec-edge.last_pinned draw-spec-edge.pinned draw-spec-edge.thinned_if draw-spec-edge.at_least_two draw-spec-edge.placed draw-spec-edge.finished draw-spec-edge.discretised draw-spec-repair.escapes draw-spec-repair.by_period draw-spec-repair.repaired ieee.add ieee.sub ieee.mul ieee.div ieee.rem ieee.neg ieee.lt ieee.le ieee.eq ieee.ne ieee.is_nan ieee.to_unsigned ieee.of_bits ieee.of_int ieee.round examples.ExampleHolds causes-nesting-nest.nesting causes-nesting-nest.deepest curve-tangent-derivative.derivative_at curve-tangent-derivative.segment_derivative curve-asks-asks.asks_far brep-kind.kind_numbered
hold =
    more refl (more refl (more refl
    (more (draws_chain _ _ _ refl) (more (draws_chain _ _ _ refl) (more (draws_chain _ _ _ refl)
    (more (draws_chain _ _ _ refl) (more (draws_chain _ _ _ refl)
    (more refl (more refl (more refl
    (more (draws_chain _ _ _ refl) (more refl (more (draws_chain _ _ _ refl)
    (more (draws_chain _ _ _ (ap (λ (w : Work Got). within program_points w) (runs_away Reference (local_options boxed escaping close))))
    (more (refuses_late _ Endless (omega arith) refl)
    (more (never_returns _ _ _ _ refl refl refl)
    (more (draws_chain _ _ _ refl) (more (draws_chain _ _ _ refl)
    (more (draws_chain _ _ _ refl) (more (draws_chain _ _ _ refl) none))))))))))))))))))))
