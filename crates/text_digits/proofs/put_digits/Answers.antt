-- `text_digits::put_digits` meets its contract. Assumes nothing.
use Rattle.std.proofs.Common.{◌≡◌, ap, sym, ◌∙◌, ◌-◌, ◌++◌, drop, arith, length-set}
use Rattle.text_format.specs.Format.{digits}
use Rattle.text_digits.proofs.Last.{digit_put}
use Rattle.text_digits.proofs.put_digits.Goals as goal

pub loop-i-preserved : goal.loop-i-preserved
loop-i-preserved g c =
    let l = c.loop-i in
    let e = digit_put g.row.BASE (omega arith) (l.i - 1) l.i l.rest l.out _ (omega arith) (omega arith) l.invariant.few c.char_of.ensures in
    record { few = e.0; whole = rw length-set (e.1 ∙ l.invariant.whole) }

pub returns : goal.returns
unfolding digits
returns g c =
    let l = c.loop-i in
    let z : l.i ≡ 0 = omega arith in
    let n = l.auto.out in
    sym (ap (λ i. digits g.row.BASE i l.rest ++ drop i l.out) z) ∙ l.invariant.whole ∙ ap (λ k. digits g.row.BASE k c.args.v) n
