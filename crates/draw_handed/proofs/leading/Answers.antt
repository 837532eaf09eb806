-- `draw_handed::leading` meets its contract. Assumes nothing.
use Rattle.std.proofs.Common.{◌≡◌, ℕ, ◌*◌, min, length, take, refl, ap, ◌∙◌, arith}
use Rattle.std.proofs.lemmas.List.{take_min}
use Rattle.edge_record.specs.Chain.{width}
use Rattle.draw_handed.proofs.leading.Goals as goal

pub returns : goal.returns
returns c =
    let l = c.args.buffer.now in
    let least : c.min.result ≡ min (width * c.args.n) (length l) = omega arith in
    (ap (λ (m : ℕ). take m l) least ∙ take_min (width * c.args.n) l, refl)
