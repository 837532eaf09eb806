-- `bench_draw::cs_point_at` meets its contract. Assumes nothing.
use mathlib.Core.Path.{ap}
use Rattle.math.specs.declared.Vec3.{Vec3}
use Rattle.bench_draw.proofs.cs_point_at.Goals as goal

pub returns : goal.returns
returns c =
    let p = c.point_at-p.ensures in
    (ap (λ (v : Vec3). v.x) p, ap (λ (v : Vec3). v.y) p, ap (λ (v : Vec3). v.z) p)
