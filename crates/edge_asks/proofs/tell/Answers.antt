-- `edge_asks::tell` meets its contract. Assumes nothing.
use Rattle.std.specs.Prelude.{Some, None}
use Rattle.std.proofs.Common.{◌≡◌, ℕ, Bool, false, sym, ◌∙◌, arith, rules}
use lib.Ieee.{Float}
use Rattle.math.specs.declared.Interval.{Interval}
use Rattle.options.specs.declared.Mode.{Mode}
use Rattle.options.specs.declared.Resolved.{Resolved}
use Rattle.brep.specs.Tree.{CurveTree}
use Rattle.edge_drawing.specs.Own.Drawing.{sampled_curve}
use Rattle.curve_asks.specs.Asks.{asks_far}
use Rattle.edge_params.specs.Work.{some_far, asking, within}
use Rattle.edge_range.specs.Usable.{analytic_segments}
use Rattle.edge_sample.specs.Sample.{sampler}
use Rattle.edge_sample.proofs.Settled.{bisected_long}
use Rattle.edge_sample.specs.Own.Answered.{sampled_in}
use Rattle.draw_spec.specs.Edge.{listed}
use Rattle.draw_spec.proofs.Listed.{listed_never}
use Rattle.edge_params.proofs.Asks.{some_far-never}
use Rattle.edge_asks.specs.Own.Told.{asked_first}
use Rattle.edge_asks.proofs.Near.{may_open, near_clear}
use Rattle.edge_asks.proofs.Telling.{told_near, told_far, clear_told}
use Rattle.edge_asks.proofs.tell.Goals as goal
use Rattle.edge_asks.proofs.tell.Goals.{then-segments-lt2-via-then-segments-lt2, then-segments-lt2-via-else-segments-lt2+then-not-floor_far}

-- the way out where the curve asks for nothing that is too far
never : (room : ℕ) (mode : Mode) (k : CurveTree) (range : Interval) (r : Resolved) (first : Bool) → ((t : Float) → asks_far k t ≡ false)
    → within room (asking (asks_far k) (asked_first first (Some range)) (listed mode k range r)) ≡ sampled_in room mode k range r
never room mode k range r first h = told_near room mode k range r _ (some_far-never (asks_far k) h _) (listed_never room mode k range r h)

pub returns-then-never_asks : goal.returns-then-never_asks
returns-then-never_asks c =
    let g = c.args.sampling.now in
    let k = sampled_curve g in
    never c.args.room g.drawing.now.mode k g.range g.options c.args.probes_first (c.never_asks.ensures.1 g.drawing.now.tables.now.points.now g.drawing.now.tables.now.reals.now g.drawing.now.tables.now.parts.now g.drawing.now.tables.now.ranges.now c.if-never_asks.true)

pub returns-then-not-may_ask : goal.returns-then-not-may_ask
returns-then-not-may_ask c =
    let g = c.args.sampling.now in
    let k = sampled_curve g in
    never c.args.room g.drawing.now.mode k g.range g.options c.args.probes_first ((c.may_ask.ensures g.drawing.now.tables.now.points.now g.drawing.now.tables.now.reals.now).1 c.if-not-may_ask.true)

pub returns-then-probes_far : goal.returns-then-probes_far
returns-then-probes_far c =
    let g = c.args.sampling.now in
    let k = sampled_curve g in
    told_far c.args.room g.drawing.now.mode k g.range g.options _ (sym (c.probes_far.ensures g.drawing.now.tables.now.points.now g.drawing.now.tables.now.reals.now) ∙ c.if-probes_far.true)

-- in the following, `near`: none of the probes is too far, and `formless`: a curve that may ask has no closed form
pub returns-then-segments-lt2 : goal.returns-then-segments-lt2
returns-then-segments-lt2 c =
    let g = c.args.sampling.now in
    let k = sampled_curve g in
    let near : some_far (asks_far k) (asked_first c.args.probes_first (Some g.range)) ≡ false = sym (c.probes_far.ensures g.drawing.now.tables.now.points.now g.drawing.now.tables.now.reals.now) ∙ c.if-probes_far.false in
    let formless : analytic_segments k g.range g.options ≡ None = may_open _ k (sym (c.may_ask.ensures g.drawing.now.tables.now.points.now g.drawing.now.tables.now.reals.now).0 ∙ c.if-not-may_ask.false) g.range g.options in
    let is = sym (c.is_near_hyperbola.ensures.near g.drawing.now.tables.now.points.now g.drawing.now.tables.now.reals.now g.drawing.now.tables.now.parts.now g.drawing.now.tables.now.ranges.now) ∙ c.if-is_near_hyperbola.true in
    told_near c.args.room g.drawing.now.mode k g.range g.options _ near
    (clear_told c.args.room g.drawing.now.mode k g.range g.options formless (near_clear g.drawing.now.mode k g.range g.options c.is_near_hyperbola.ensures.ends.0 c.is_near_hyperbola.ensures.ends.1 is) c.requires
    (λ few.
    elim c.then-segments-lt2.branch [
      | then-segments-lt2-via-then-segments-lt2 w ↦ absurd (omega (arith, w.if-segments-lt2.true, bisected_long (sampler g.drawing.now.mode k g.range g.options) g.range))
      | then-segments-lt2-via-else-segments-lt2+then-not-floor_far w ↦ sym (w.floor_far.ensures g.drawing.now.tables.now.points.now g.drawing.now.tables.now.reals.now) ∙ w.if-not-floor_far.true
    ]))

pub tell_by_count-requires : goal.tell_by_count-requires
tell_by_count-requires c =
    let g = c.args.sampling.now in
    let k = sampled_curve g in
    (c.requires, may_open _ k (sym (c.may_ask.ensures g.drawing.now.tables.now.points.now g.drawing.now.tables.now.reals.now).0 ∙ c.if-not-may_ask.false) g.range g.options)

pub returns : goal.returns
returns c =
    let g = c.args.sampling.now in
    let k = sampled_curve g in
    told_near c.args.room g.drawing.now.mode k g.range g.options _ (sym (c.probes_far.ensures g.drawing.now.tables.now.points.now g.drawing.now.tables.now.reals.now) ∙ c.if-probes_far.false) c.tell_by_count.ensures
