-- `sheet_edge::edge` meets its contract. Assumes nothing.
use Rattle.text_format.specs.Bytes.{bytes}
use Rattle.text_format.specs.Table.{fields, end_byte, names, single}
use Rattle.sheet_layout.specs.Layout.{edge_columns}
use Rattle.sheet_edge.proofs.Singles.{edge_as, edge_widths}
use Rattle.sheet_edge.proofs.edge.Goals as goal

pub returns-in_err-row : goal.returns-in_err-row
unfolding bytes fields end_byte names
returns-in_err-row c = rw (edge_as ((single edge_columns).read c.args.text.now), ← c.in_err-row.ensures) (rw c.from_residual.ensures)

pub raw_edge_of-requires : goal.raw_edge_of-requires
unfolding bytes fields end_byte names
raw_edge_of-requires c = edge_widths c.args.text.now c.in_ok-row.row c.in_ok-row.rest.now c.in_ok-row.ensures

pub returns : goal.returns
unfolding bytes fields end_byte names
returns c = rw (edge_as ((single edge_columns).read c.args.text.now), ← c.in_ok-row.ensures) (rw c.raw_edge_of.ensures)
