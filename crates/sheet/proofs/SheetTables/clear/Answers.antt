-- `sheet::SheetTables::clear` meets its contract: each table keeps its size. Assumes nothing.
use Rattle.std.proofs.Common.{◌≡◌, ◌*◌, length, arith}
use Rattle.sheet_layout.specs.Layout.{sheet_points, sheet_curves, sheet_segments}
use Rattle.sheet.specs.Sheet.{stored}
use Rattle.sheet.proofs.SheetTables.clear.Goals as goal

pub returns : goal.returns
unfolding stored
returns c =
    let t = c.args.self.now in
    let h1 : length t.points ≡ 3 * sheet_points = omega arith in
    let h2 : length t.curves ≡ 3 * sheet_curves = omega arith in
    let h3 : length t.reals ≡ 2 * sheet_curves = omega arith in
    let h4 : length t.parts ≡ 2 * sheet_segments = omega arith in
    let h5 : length t.ranges ≡ 2 * sheet_segments = omega arith in
    rw (c.fill_from.ensures, c.fill_from-2.ensures, c.fill_from-3.ensures, c.fill_from-4.ensures, c.fill_from-5.ensures, h1, h2, h3, h4, h5)
