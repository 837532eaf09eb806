-- `text_digits::decimal` meets its contract: the width is that of the number. Assumes nothing.
use Rattle.std.proofs.Common.{◌≡◌, ap, ◌∙◌, ◌+◌, ◌<◌, ◌++◌, length, take, arith, length-append, length-drop, length-take-le}
use Rattle.std.proofs.lemmas.List.{take_more_set, take_at}
use borrow.Rule.Slice.PartMut.{post_of}
use Rattle.text_format.specs.Format.{digits, decimal}
use Rattle.text_format.proofs.Digits.{digits_length}
use Rattle.text_digits.proofs.Last.{decimal_is}
use Rattle.text_digits.proofs.decimal.Goals as goal

pub returns : goal.returns
returns c =
    let o = c.checked_ilog10 in
    let n = c.unwrap_or.result + 1 in
    let v = c.args.v in
    let out = c.put_digits.new.out in
    let rest = post_of 0 n c.args.text.now in
    let width = decimal_is v o.result o.ensures.none o.ensures.power_le o.ensures.next_power_gt o.ensures.bound in
    let all : digits 10 n v ≡ decimal v = rw c.unwrap_or.ensures width.1 in
    let long : length (take n c.args.text.now) ≡ n = length-take-le n c.args.text.now (omega arith) in
    let is : out ≡ digits 10 n v = c.put_digits.ensures ∙ ap (λ k. digits 10 k v) long in
    let m : length out ≡ n = ap length is ∙ digits_length 10 n v in
    let room : n < length (out ++ rest) = simp (length-append, length-drop) (omega arith) in
    rw (take_more_set (out ++ rest) n c.args.end room, take_at out rest n m, is, all)
