-- `edge_subdivide::is_within` meets its contract. Assumes nothing.
use mathlib.Core.Path.{sym, ap, ◌∙◌}
use lib.Ieee.{Float, le}
use Rattle.edge_subdivide.proofs.Laws.{too_sharp, sag_within, near_enough, too_far}
use Rattle.edge_subdivide.proofs.is_within.Goals as goal

pub returns-then-is_over : goal.returns-then-is_over
returns-then-is_over c =
    let a = c.args in
    let r = a.limits.now.options in
    too_sharp r a.a a.b a.pm
    (ap (λ (x : Float). le x r.angle) (sym c.turn_cosine-cosine.ensures) ∙ ap (le _) (sym a.limits.now.own_turn) ∙ c.is_over.ensures.above c.if-is_over.true)

pub returns-then-is_root_within : goal.returns-then-is_root_within
returns-then-is_root_within c =
    let a = c.args in
    let r = a.limits.now.options in
    let s = sag_within a.a.point a.b.point a.pm r.sag a.limits.now.sag c.for_bisection.ensures c.foot-foot.ensures a.limits.now.own_sag in
    c.is_within.ensures ∙ ap (le _) a.limits.now.own_turn ∙ ap (λ (x : Float). le x r.angle) c.turn_cosine-cosine.ensures
    ∙ near_enough r a.a a.b a.pm (sym s ∙ sym c.is_root_within.ensures ∙ c.if-is_root_within.true)

pub returns : goal.returns
returns c =
    let a = c.args in
    let r = a.limits.now.options in
    let s = sag_within a.a.point a.b.point a.pm r.sag a.limits.now.sag c.for_bisection.ensures c.foot-foot.ensures a.limits.now.own_sag in
    too_far r a.a a.b a.pm (sym s ∙ sym c.is_root_within.ensures ∙ c.if-is_root_within.false)
