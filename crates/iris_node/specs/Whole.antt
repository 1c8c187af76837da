-- Reading a whole record: the fields, nothing after them, and the rules kept.
use Rattle.std.specs.Prelude.{◌==◌, ◌&&◌, ℕ, List, [], ◌∷◌, length, Option, Some, None, if◌then◌else◌}
use Rattle.iris_node.specs.declared.node.Node.{Node}
use Rattle.iris_node.specs.declared.node.Node.TheVariants.{Entry, Part}
use Rattle.iris_node.specs.Fields.{EntryFields, PartFields}
use Rattle.iris_node.specs.Spelling.{entry_format, part_format}
use Rattle.iris_node.specs.Reading.{◌>>=◌, read_entry, part_at}
use Rattle.iris_node.specs.Tests.{is_entry, is_part}

-- the part that all of the bytes behind format and kind spell
unfoldable pub whole_part : ℕ → List ℕ → Option PartFields
whole_part format bytes = do
  p ← part_at bytes
  if (format == part_format p.0) && ((length p.1 == 0) && is_part p.0) then Some p.0 else None

-- the entry of this kind that all of the bytes behind format and kind spell
unfoldable pub whole_entry : ℕ → ℕ → List ℕ → Option EntryFields
whole_entry format kind bytes = do
  e ← read_entry kind bytes
  if (format == entry_format e.0) && ((length e.1 == 0) && is_entry e.0) then Some e.0 else None

-- the node that all of the bytes spell
unfoldable pub whole_node : List ℕ → Option Node
whole_node [] = None
whole_node (format ∷ []) = None
whole_node (format ∷ kind ∷ bytes) =
    if kind == 3 then (whole_part format bytes >>= λ p. Some (Part p)) else (whole_entry format kind bytes >>= λ e. Some (Entry e))
