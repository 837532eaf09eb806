-- `arith_root::is_nearest` meets its contract: no part wraps, so the parts make n * 2 ^ 52 - r * r (`accepted`). Assumes nothing.
use Rattle.std.proofs.Common.{◌+◌, ◌*◌, leb→le}
use Rattle.arith_root.proofs.Whole.{accepted}
use Rattle.arith_root.proofs.is_nearest.Goals as goal

pub returns-then-r-rest : goal.returns-then-r-rest
returns-then-r-rest c = λ t.
    accepted c.args.n c.args.q c.wrapping_sub_u64-r.result c.wrapping_sub_u64-d.result
    c.wrapping_sub_u64-e.result c.wrapping_sub_u64-rest.result
    c.requires c.wrapping_sub_u64-r.ensures.value c.if-r-ge-TWO_53.false
    c.wrapping_sub_u64-d.ensures.value c.if-d-ge-TWO_30.false
    c.wrapping_sub_u64-e.ensures.value c.if-e-ge-TWO_32.false
    c.wrapping_sub_u64-rest.ensures.value c.if-r-rest.true (leb→le c.wrapping_sub_u64-rest.result (3 * c.wrapping_sub_u64-r.result + 2) t)
