-- `sheet_row::put`: the elements of the columns that the iterator still has are to be written at k.
use Rattle.std.specs.Iterator.Adapters.{zip_first, zip_second}
use Rattle.std.specs.Slice.Iter.{iter_rest}
use Rattle.sheet_row.proofs.Chosen.{Left}
use Rattle.sheet_row.proofs.put.Given as goal

abbrev pub invariant-loop-column : goal.invariant-loop-column
invariant-loop-column g l =
    let T = g.T.Element in record {
      can : (goal.iterator-loop-column g).can_next l.column-iterator;
      ends : (goal.iterator-loop-column g).is_finite l.column-iterator;
      left : Left T.holds T.fits T.value l.initial.out l.at l.shape l.row l.out l.k (iter_rest (zip_first l.column-iterator)) (iter_rest (zip_second l.column-iterator));
    }
