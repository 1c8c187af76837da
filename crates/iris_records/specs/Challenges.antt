-- The walk over all blocks of a table, and the reply to a challenge for a place of it.
use Rattle.std.specs.Prelude.{◌≡◌, ℕ, List, ◌++◌, Option, Some, None}
use Rattle.iris_name.specs.declared.request.PlainError.TheVariants.{NotFound}
use Rattle.iris_name.specs.declared.request.Reply.{Reply}
use Rattle.iris_name.specs.declared.request.Reply.TheVariants.{Probed, Plain}
use Rattle.iris_node.specs.Unfolded.{id_of}
use Rattle.iris_node.specs.Walk.{BlockAt, walk}
use Rattle.iris_rows.specs.Standing.{StandsInTable}
use Rattle.iris_rows.specs.Rows.{File, Table}
use Rattle.iris_records.specs.Shown.{root_entry, trash_entry}

-- the blocks below the visible root, then those in the trash, holes included
unfoldable pub table_walk : List ℕ → Table → List BlockAt
table_walk order t = walk (root_entry order t) ++ walk (trash_entry order t)

-- the reply to a challenge: the block that stands there, with the version of its place in its file, or that none is found
abbrev pub IsProbed : Table → Option BlockAt → Reply → Type 0
IsProbed t None reply = reply ≡ Plain NotFound
IsProbed t (Some b) reply = (f : File) × StandsInTable b.file f t × (reply ≡ Probed (id_of b.file) b.place (f.version b.place))
