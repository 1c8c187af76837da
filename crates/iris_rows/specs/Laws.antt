-- The laws of the table that everything above stands on.
use Rattle.std.specs.Prelude.{◌+◌, ◌≤◌}
use Rattle.iris_name.specs.declared.request.Request.{Request}
use Rattle.iris_rows.specs.Rows.{Table, empty_table}
use Rattle.iris_rows.specs.Changes.{stepped}
use Rattle.iris_rows.specs.Sound.{IsSound, rows_in}

-- the table of the beginning is sound
abbrev pub BeginsSound : Type 0
BeginsSound = IsSound empty_table

-- each step from a sound table leads to a sound one
abbrev pub StaysSound : Type 0
StaysSound = (t : Table) (request : Request) → IsSound t → IsSound (stepped t request)

-- in a sound table no more rows stand than ids were given; the first id is 2
abbrev pub FewRows : Type 0
FewRows = (t : Table) → IsSound t → rows_in t.visible + rows_in t.trash + 2 ≤ t.next
