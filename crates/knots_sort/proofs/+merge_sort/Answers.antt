-- `knots_sort::merge_sort` meets its contract: the halves are sorted, each shorter than the whole, and the sorted list of both is the two merged. Assumes nothing.
use Rattle.std.proofs.Common.{◌/◌, length, sym, ap, ◌∙◌, subst, arith}
use Rattle.base_lists.specs.All.{All}
use Rattle.base_lists.proofs.Parts.{all_take, all_drop}
use Rattle.knots_sort.specs.Own.Sortable.{Number}
use Rattle.knots_sort.specs.Sort.{sorted}
use Rattle.knots_sort.proofs.Sorted.{told_sorted, told_two}
use Rattle.knots_sort.proofs.Halves.{sorted_halves, sorted_whole}
use Rattle.knots_sort.proofs.+merge_sort.Goals as goal

pub returns-then-is_sorted : goal.returns-then-is_sorted
returns-then-is_sorted t c = told_sorted c.args.a.now _ c.is_sorted.ensures.cases c.if-is_sorted.true

pub merge_sort-requires : goal.merge_sort-requires
merge_sort-requires t c =
    let a = c.args.a.now in
    let two = told_two a _ c.is_sorted.ensures.cases c.if-is_sorted.false in
    let first = c.split_at_mut-first.ensures in
    (omega (arith, c.decreases, two, first.front_len), (omega (arith, c.requires.room, first.front_len), subst (All Number) (sym first.front) (all_take (length a / 2) a c.requires.numbers)))

pub merge_sort-requires-2 : goal.merge_sort-requires-2
merge_sort-requires-2 t c =
    let a = c.args.a.now in
    let two = told_two a _ c.is_sorted.ensures.cases c.if-is_sorted.false in
    let second = c.split_at_mut-first.ensures in
    (omega (arith, c.decreases, two, second.back_len), (omega (arith, c.requires.room, second.back_len, c.merge_sort.auto.scratch), subst (All Number) (sym second.back) (all_drop (length a / 2) a c.requires.numbers)))

pub join-requires : goal.join-requires
join-requires t c =
    let a = c.args.a.now in
    let two = told_two a _ c.is_sorted.ensures.cases c.if-is_sorted.false in
    let parts = c.split_at_mut-first.ensures in
    sorted_halves a c.merge_sort.new.a c.merge_sort-2.new.a (length a / 2) (omega arith) (omega arith) c.requires.numbers
    (c.merge_sort.ensures ∙ ap sorted parts.front) (c.merge_sort-2.ensures ∙ ap sorted parts.back)
    _ (omega (arith, c.requires.room, c.merge_sort.auto.scratch, c.merge_sort-2.auto.scratch))

pub returns : goal.returns
returns t c =
    let a = c.args.a.now in
    let two = told_two a _ c.is_sorted.ensures.cases c.if-is_sorted.false in
    let parts = c.split_at_mut-first.ensures in
    c.join.ensures
    ∙ sorted_whole a c.merge_sort.new.a c.merge_sort-2.new.a (length a / 2) (omega arith) (omega arith) c.requires.numbers
    (c.merge_sort.ensures ∙ ap sorted parts.front) (c.merge_sort-2.ensures ∙ ap sorted parts.back)
