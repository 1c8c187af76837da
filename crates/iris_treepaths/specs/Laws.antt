-- Laws of a row in hand.
use Rattle.std.specs.Prelude.{◌≡◌, None, Some}
use Rattle.iris_name.specs.declared.name.Name.TheVariants as name
use Rattle.iris_node.specs.Trees.{Shown, node_name}
use Rattle.iris_node.specs.Unfolded.{id_of}
use Rattle.iris_cache.specs.Resident.{Resident}
use Rattle.iris_cache.specs.Drafted.{Drafted}
use Rattle.iris_cache.specs.Pictures.{Drafts}
use Rattle.iris_treepaths.specs.Hands.{Holding}
use Rattle.iris_treepaths.specs.Rows.{Row, below_row}

-- A row whose id is no node's and that has nothing below it is in hand over every table.
abbrev pub NewRowInHand : Type 0
NewRowInHand = (old new : Shown) (x : Row) (d : Drafted) (c : Resident)
    → Drafts old new d c → new (name.Entry (id_of x.id)) ≡ None → node_name (below_row x.content) ≡ None → Holding old new (Some x) d c

-- A row in hand that has nothing below it may be given up.
abbrev pub GivenUp : Type 0
GivenUp = (old new : Shown) (x : Row) (d : Drafted) (c : Resident) → Holding old new (Some x) d c → node_name (below_row x.content) ≡ None → Drafts old new d c
