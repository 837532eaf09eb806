-- `sheet_row::put` meets its contract. Assumes nothing.
use mathlib.Core.Logic.{inl, inr}
use mathlib.Core.Path.{sym, ◌∙◌}
use native.Mathlib.Omega.{arith}
use Prim.Native.Nat.{◌<◌}
use lib.ListN.{length}
use Rattle.sheet_row.proofs.Chosen.{fits_of, room_of, put_one, passed, all_put}
use Rattle.sheet_row.proofs.put.Goals as goal

pub from_number-requires : goal.from_number-requires
from_number-requires g c =
    let l = c.loop-column in
    let s = c.in-Some.ensures.steps in
    fits_of _ g.T.Element.fits g.T.Element.value _ _ _ _ _ _ _ _ l.invariant.left _ _ _ _ s.0 s.1 (sym c.if-is_of.true ∙ c.is_of.ensures)

pub bounds-out-k : goal.bounds-out-k
bounds-out-k g c =
    let l = c.loop-column in
    let s = c.in-Some.ensures.steps in
    room_of _ g.T.Element.fits g.T.Element.value _ _ _ _ _ _ _ _ l.invariant.left _ _ _ _ s.0 s.1 (sym c.if-is_of.true ∙ c.is_of.ensures) c.requires.room

pub overflow_add-k : goal.overflow_add-k
overflow_add-k g c =
    let l = c.loop-column in
    let s = c.in-Some.ensures.steps in
    let h : l.k < length l.out = room_of _ g.T.Element.fits g.T.Element.value _ _ _ _ _ _ _ _ l.invariant.left _ _ _ _ s.0 s.1 (sym c.if-is_of.true ∙ c.is_of.ensures) c.requires.room in
    let o = l.auto.out in
    record { fits = omega arith }

pub loop-column-preserved-then-is_of : goal.loop-column-preserved-then-is_of
loop-column-preserved-then-is_of g c =
    let l = c.loop-column in
    let s = c.in-Some.ensures.steps in record {
      can = (tt, tt);
      ends = tt;
      left = put_one _ g.T.Element.fits g.T.Element.value _ _ _ _ _ _ _ _ l.invariant.left _ _ _ _ s.0 s.1 (sym c.if-is_of.true ∙ c.is_of.ensures) _ c.from_number.ensures;
    }

pub loop-column-preserved : goal.loop-column-preserved
loop-column-preserved g c =
    let l = c.loop-column in
    let s = c.in-Some.ensures.steps in record {
      can = (tt, tt);
      ends = tt;
      left = passed _ g.T.Element.fits g.T.Element.value _ _ _ _ _ _ _ _ l.invariant.left _ _ _ _ s.0 s.1 (sym c.if-is_of.false ∙ c.is_of.ensures);
    }

pub returns : goal.returns
returns g c =
    let l = c.loop-column in
    let h = all_put _ g.T.Element.fits g.T.Element.value _ _ _ _ _ _ _ _ l.invariant.left (elim c.in-None.ensures.steps [ inl e ↦ inl e.1.0 | inr e ↦ inr e.1.0 ]) in
    record { place = h.0; written = h.1 }
