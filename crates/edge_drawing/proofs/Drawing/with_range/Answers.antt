-- `edge_drawing::Drawing::with_range` meets its contract: the mode is that of the edge that was drawn first. Assumes nothing.
use Rattle.edge_drawing.proofs.Drawing.with_range.Goals as goal

pub returns-clause-in_mode : goal.returns-clause-in_mode
returns-clause-in_mode c = c.new.ensures.in_mode
