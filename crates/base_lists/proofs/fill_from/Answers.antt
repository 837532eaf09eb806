-- `base_lists::fill_from` meets its contract. Assumes nothing.
use Rattle.std.proofs.Common.{rules, arith, ◌-◌, length, drop, length-take, length-drop}
use Rattle.base_lists.proofs.Filling.{made_same, rest_filled}
use Rattle.base_lists.proofs.fill_from.Goals as goal

pub returns : goal.returns
returns g c =
    let a = c.args.a.now in
    rest_filled c.args.from a c.fill_with.new.self c.args.value c.requires (omega (arith, c.fill_with.ensures.len, length-take (length a - c.args.from) (drop c.args.from a), length-drop c.args.from a))
    (made_same _ _ c.args.value (λ x q r. (search rules, search rules)) _ _ c.fill_with.ensures.ran.1)
