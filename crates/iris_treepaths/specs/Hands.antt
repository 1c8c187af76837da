-- A row in hand: it was taken out of its directory and stands in none, so its entry is no node; what is below it stays.
use Rattle.std.specs.Prelude.{◌≡◌, Option, Some, None}
use Rattle.std.specs.Option.{option_map}
use Rattle.iris_name.specs.declared.name.Hash32.{Hash32}
use Rattle.iris_name.specs.declared.name.Name.{Name}
use Rattle.iris_name.specs.declared.name.Name.TheVariants as name
use Rattle.iris_node.specs.Fields.{EntryFields}
use Rattle.iris_node.specs.Local.{local, entry_local}
use Rattle.iris_node.specs.Trees.{Shown, node_name}
use Rattle.iris_node.specs.Unfolded.{Absent, id_of}
use Rattle.iris_cache.specs.Resident.{Resident}
use Rattle.iris_cache.specs.Drafted.{Drafted}
use Rattle.iris_cache.specs.Pictures.{Detached, IsBelowDetached, IsNoNode, DraftsBeside, WasHash, BodyHolds}
use Rattle.iris_treepaths.specs.Rows.{Row, row_entry}
pub use Rattle.iris_treepaths.specs.Rows.{below_row}

-- a row in hand as a detached subtree
abbrev pub detached_row : Row → Detached
detached_row x = record { entry = name.Entry (id_of x.id); below = node_name (below_row x.content) }

-- the second name is that of the node directly below the row in hand, if there is one, and the first is the row's
abbrev pub IsBelowHand : Option Row → Name → Name → Type 0
IsBelowHand hand p n = IsBelowDetached (option_map detached_row hand) p n

-- the row in hand, if there is one, is no node
abbrev pub IsOut : Option Row → Shown → Type 0
IsOut hand t = IsNoNode (option_map detached_row hand) t

-- A cache pictures the table before, and with a draft over it the table after, in which a row may be in hand.
abbrev pub Holding : Shown → Shown → Option Row → Drafted → Resident → Type 0
Holding old new hand d c = DraftsBeside old new (option_map detached_row hand) d c

-- the node of a row, but for its links beside it and for hashes
abbrev pub IsRowNode : Row → EntryFields → Type 0
IsRowNode x e = local (row_entry x Absent Absent) ≡ Some (entry_local (record { id = e.id; name = e.name; left = None; right = None; body = e.body }) e.body)

-- a hash that a row's node holds of the node below it was its true one before, or is the one that its resident parent holds
abbrev pub HoldsTrue : Shown → Resident → EntryFields → Type 0
HoldsTrue old c e = (m : Name) (h : Hash32) → BodyHolds e.id e.body m h → WasHash old c m h
