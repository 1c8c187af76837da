-- Where a block lies below an entry, by counts.
use Rattle.std.specs.Prelude.{◌≡◌, ◌<◌, ◌+◌, ◌⊎◌, ℕ, Option}
use Rattle.std.specs.Option.{option_map}
use Rattle.iris_name.specs.declared.name.FileId.{FileId}
use Rattle.iris_node.specs.declared.node.Body.{Body}
use Rattle.iris_node.specs.declared.node.Body.TheVariants.{Dir, File}
use Rattle.iris_node.specs.declared.node.Link.{Link}
use Rattle.iris_node.specs.Fields.{EntryFields}
use Rattle.iris_node.specs.Walk.{BlockAt}
use Rattle.iris_treepaths.specs.Nodes.{own_blocks}
use Rattle.iris_node.specs.Unfolded.{link_blocks}
use Rattle.iris_dirtree.specs.declared.placing.Turn.{Turn}
use Rattle.iris_dirtree.specs.declared.placing.Turn.TheVariants.{Own, Under}
use Rattle.iris_node.specs.Rules.{IsFileBody}

abbrev pub IsDirOver : Body → Option Link → Type 0
IsDirOver (Dir top) link = link ≡ top
IsDirOver (File size counter versions) link = ⊥

-- The block at a place of the walk at and below an entry is its own, or is at a place of the walk under one of its links.
abbrev pub IsTurn : ℕ → EntryFields → Turn → Type 0
IsTurn at e (Own place) = IsFileBody e.body × (at ≡ link_blocks e.left + place) × (place < own_blocks e.body)
IsTurn at e (Under link rest) =
    ((link ≡ e.left) × (rest ≡ at) × (at < link_blocks e.left))
    ⊎ ((IsDirOver e.body link × (at ≡ link_blocks e.left + rest) × (rest < own_blocks e.body))
    ⊎ ((link ≡ e.right) × (at ≡ link_blocks e.left + own_blocks e.body + rest)))

-- a block that may be there, by its file and its place
abbrev pub block_found : Option (FileId × ℕ) → Option BlockAt
block_found = option_map (λ (b : FileId × ℕ). record { file = b.0.0; place = b.1 })
