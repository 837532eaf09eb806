-- `edge_closed_form::worst_square` meets its contract: the last sample is of the curve, and what is left to measure, from some miss whose square the worst stands for, is the whole. Assumes nothing.
use mathlib.Core.Path.{refl, sym, ap, subst, ◌∙◌}
use Prim.Native.Nat.{◌+◌, ◌<◌, ◌≤◌}
use native.Mathlib.Omega.{arith}
use lib.ListN.{length}
use lib.Ieee.{Float}
use borrow.Author.Rules.{rules}
use Rattle.arith.specs.Notation.{plus_zero}
use Rattle.arith.specs.Pick.{max_of}
use Rattle.arith_root.specs.Root.{root_of}
use Rattle.brep.specs.Tree.{CurveTree}
use Rattle.curve_prepared.proofs.Laws.{plain_point_lem}
use Rattle.edge_closed_form.specs.Own.Worst.{Alike}
use Rattle.edge_closed_form.specs.Miss.{miss_of}
use Rattle.edge_closed_form.proofs.Squares.{Worst, worst_first, worst_next, miss_root}
use Rattle.edge_closed_form.proofs.Miss.{no_params, first_param, next_param, last_param}
use Rattle.edge_closed_form.proofs.Located.{rest_of, next_of, written_none, written_more, written_all}
use Rattle.edge_closed_form.proofs.worst_square.Goals as goal

pub returns-in_default : goal.returns-in_default
returns-in_default c = λ (k : CurveTree) e.
    let a = c.args in
    let none = c.in_default.ensures.cases in (
      subst (λ (x : Float). Alike (root_of plus_zero) x) (no_params k a.params.now none) worst_first.alike,
      written_all k a.chain.now a.params.now a.chain.now 0 (omega (arith, none)) (written_none k a.chain.now a.params.now a.chain.now refl),
    )

pub loop-i-init : goal.loop-i-init
loop-i-init c =
    let a = c.args in
    let s = c.sample_of-last in
    let is = c.in-Some.ensures.cases.0 in
    let some : 0 < length a.params.now = let n = ap length is in omega (arith, n) in (
      s.ensures.point,
      λ (k : CurveTree) e. (
        (plus_zero, first_param k a.params.now _ _ (rw s.ensures.param is), worst_first),
        written_more k a.chain.now a.params.now a.chain.now _ 0 _ _ some (written_none k a.chain.now a.params.now a.chain.now refl)
            (plain_point_lem k _ e c.requires.0 s.ensures.point) (rw is s.ensures.param) c.put.ensures,
      ),
    )

pub loop-i-preserved : goal.loop-i-preserved
loop-i-preserved c =
    let st = c in
    let a = st.args in
    let l = c.loop-i in
    let s = c.sample_of-next in
    let is = c.in-Some.ensures.cases.0 in
    let rest = rest_of is in
    let inside : l.i < length rest = omega arith in
    let more : l.i + 1 < length a.params.now = let n = ap length is in omega (arith, n) in
    let miss = c.miss_square in (
      s.ensures.point,
      λ (k : CurveTree) e.
          let h = l.invariant.1 k e in
          let m = h.0.0 in (
            (
              max_of m (root_of miss.result),
              next_param k a.params.now rest m l.last.param l.i h.0.1
                  (max_of m (root_of miss.result)) (miss_of k l.last.param _) _ inside s.ensures.param refl
                  (ap (max_of m) (ap root_of (miss.ensures k e) ∙ miss_root k l.last.param _)),
              subst (λ (x : Float). Worst x (max_of m (root_of miss.result))) (sym c.larger-worst.ensures) (worst_next l.worst m miss.result h.0.2 (search rules)),
            ),
            written_more k a.chain.now a.params.now l.chain _ (l.i + 1) _ _ more h.1 (plain_point_lem k _ e st.requires.0 s.ensures.point)
                (s.ensures.param ∙ next_of a.params.now rest _ l.i is) c.put-in-loop-i.ensures,
          ),
    )

pub returns : goal.returns
returns c = λ (k : CurveTree) e.
    let a = c.args in
    let l = c.loop-i in
    let is = c.in-Some.ensures.cases.0 in
    let rest = rest_of is in
    let end : length rest ≤ l.i = omega arith in
    let all : length a.params.now ≤ l.i + 1 = let n = ap length is in omega (arith, n) in
    let h = l.invariant.1 k e in (
      subst (λ (x : Float). Alike (root_of l.worst) x) (last_param k a.params.now rest h.0.0 l.last.param l.i h.0.1 end) h.0.2.alike,
      written_all k a.chain.now a.params.now _ (l.i + 1) all h.1,
    )
