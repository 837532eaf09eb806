-- `text_format::hex` meets its contract. Assumes nothing.
use mathlib.Core.Path.{sym, ap, ◌∙◌}
use native.Mathlib.Omega.{arith}
use Rattle.text_format.specs.Own.Answers.{as_read}
use Rattle.text_format.proofs.Readers.{hex_stop, hex_on, hex_fits, hex_small}
use Rattle.text_format.proofs.hex.Goals as goal

pub overflow_mul-v : goal.overflow_mul-v
overflow_mul-v c =
    let l = c.loop-b in
    let h = hex_small l.v l.b-index 0 (omega arith) l.invariant.fits (omega arith) in
    record { fits = omega arith }

pub overflow_add-v : goal.overflow_add-v
overflow_add-v c =
    let l = c.loop-b in
    let h = hex_small l.v l.b-index c.from.result (omega arith) l.invariant.fits (omega arith) in
    record { fits = omega arith }

pub returns-in_err-digit_of : goal.returns-in_err-digit_of
returns-in_err-digit_of c =
    let l = c.loop-b in
    let front = c.in_ok-digits.ensures.cases in
    ap as_read c.from_residual-in_err-digit_of.ensures
    ∙ sym (sym l.invariant.left ∙ hex_stop c.args.s.now _ l.v l.b-index front.0 (omega arith) (omega arith) c.in_err-digit_of.ensures)

pub loop-b-preserved : goal.loop-b-preserved
loop-b-preserved c =
    let l = c.loop-b in
    let front = c.in_ok-digits.ensures.cases in
    let d = c.in_ok-digit_of.ensures in record {
      fits = hex_fits l.v l.b-index c.from.result (omega arith) l.invariant.fits (omega arith);
      left = hex_on c.args.s.now _ l.v l.b-index front.0 (omega arith) (omega arith) c.from.result (c.from.ensures ∙ d.0) (omega arith) ∙ l.invariant.left;
    }
