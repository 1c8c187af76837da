-- Laws of a file system's histories, and of what its requests reach, as statements.
use Rattle.std.specs.Prelude.{◌≡◌, [], false, IsSome}
use Rattle.iris_mac.specs.declared.keys.Keys.{Keys}
use Rattle.iris_name.specs.declared.name.Hash32.{Hash32}
use Rattle.iris_name.specs.declared.name.Name.{Name}
use Rattle.iris_name.specs.declared.note.Expect.TheVariants.{Hash}
use Rattle.iris_name.specs.declared.request.Request.TheVariants.{Sync, Root}
use Rattle.iris_name.specs.History.{Past}
use Rattle.iris_history.specs.Kept.{is_block}
use Rattle.iris_rows.specs.Rows.{Table}
use Rattle.iris_records.specs.Shown.{shown}
use Rattle.iris_cache.specs.Pictures.{IsHashOf}
use Rattle.iris_invariant.specs.Agrees.{IsTrueOf}
use Rattle.iris_invariant.specs.Readings.{OneBlock, Spells}
use Rattle.iris_invariant.specs.Saves.{Saved}
use Rattle.iris_file_rules.specs.FileTable.{files, is_root_name}
use Rattle.iris_node.specs.Spelling.{SpellsNode}
use Rattle.iris_file_rules.specs.Rules.{file_rules}

-- a sync and a root hash reach no name
abbrev pub UpkeepReachesNothing : Type 0
UpkeepReachesNothing = (keys : Keys) (past : Past) (n : Name) → ((file_rules keys).reaches past Sync n → ⊥) × ((file_rules keys).reaches past Root n → ⊥)

-- in one history a block's name and version stand for one block
abbrev pub VersionsStandForOneBlock : Type 0
VersionsStandForOneBlock = (keys : Keys) → OneBlock (files keys)

-- in a legal history a node's true record spells a node of its name, and a block's passes for its version
abbrev pub TrueRecordsPass : Type 0
TrueRecordsPass = (keys : Keys) → Spells (files keys) (file_rules keys) SpellsNode

-- the true hash of a live node, as plans over a cache expect it, is the expectation that a history speaks of
abbrev pub TrueHashesAreExpected : Type 0
TrueHashesAreExpected = (keys : Keys) (t : Table) (n : Name) (x : Hash32) → is_block n ≡ false → IsSome (shown keys.order t n) → IsHashOf (shown keys.order t n) x → IsTrueOf (files keys) n (Hash x) (shown keys.order t n)

-- a state that holds the entries of the two roots, and nothing else, saves the empty history
abbrev pub FreshIsSaved : Type 0
FreshIsSaved = (keys : Keys) (n : Name) → Saved (files keys) n [] (is_root_name n) false
