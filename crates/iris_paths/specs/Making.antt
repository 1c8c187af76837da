-- New rows.
use Rattle.std.specs.Prelude.{◌≡◌, ℕ, List, Bool, None, if◌then◌else◌}
use Rattle.iris_name.specs.declared.name.FileId.{FileId}
use Rattle.iris_name.specs.declared.name.Name.TheVariants as name
use Rattle.iris_node.specs.declared.node.Side.TheVariants.{Fold}
use Rattle.iris_node.specs.declared.node.Body.{Body}
use Rattle.iris_node.specs.declared.node.Body.TheVariants as body
use Rattle.iris_node.specs.Trees.{Shown}
use Rattle.iris_node.specs.Unfolded.{Absent, Even}
use Rattle.iris_cache.specs.Laws.{AreFormed}
use Rattle.iris_treepaths.specs.Rows.{Row, Content, Directory, File, IsRooted}

-- an empty directory, or an empty file
abbrev pub empty_content : Bool → Content
empty_content dir = if dir then Directory Absent else File 0 0 (Even 0)

-- the row of an empty directory or file
abbrev pub new_row : ℕ → List ℕ → Bool → Row
new_row id label dir = record { id = id; name = label; content = empty_content dir }

-- a table that a change begins with: each live node but the roots has a parent, and what stands below a node is of its kind
abbrev pub IsWhole : Shown → Type 0
IsWhole old = IsRooted old × AreFormed old

-- an id is new in a table: it stands for nothing
abbrev pub IsNew : FileId → Shown → Shown → Type 0
IsNew id old new = IsWhole old × (new (name.Entry id) ≡ None)

-- the same as the body of an entry
abbrev pub fresh_body : Bool → Body
fresh_body dir = if dir then body.Dir None else body.File 0 0 (Fold 0)
