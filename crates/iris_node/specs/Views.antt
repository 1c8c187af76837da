-- What has been read, as the fields of a node.
use Rattle.iris_node.specs.Fields.{EntryFields, PartFields}
use Rattle.iris_node.specs.Unfolded.{id_of}
use Rattle.iris_node.specs.declared.fields.EntryRead.{EntryRead}
use Rattle.iris_node.specs.declared.fields.PartRead.{PartRead}

-- an entry's fields
abbrev pub entry_read : EntryRead → EntryFields
entry_read e = record { id = id_of e.id; name = e.name.now; left = e.left; right = e.right; body = e.body }

-- a part's fields
abbrev pub part_read : PartRead → PartFields
part_read p = record { file = id_of p.file; level = p.level; index = p.index; low = p.low; high = p.high }
