-- A row with other rows inside it.
use Rattle.std.proofs.Common.{Option, Some, None}
use Rattle.iris_rows.specs.Rows.{Rows, Taken}

-- a row with others inside
abbrev pub holding : Rows → Taken → Taken
holding rows row = record { id = row.id; file = row.file; inside = rows }

abbrev pub mapped : (Taken → Taken) → Option Taken → Option Taken
mapped f None = None
mapped f (Some row) = Some (f row)
