-- Resolving: it goes from the root by the names from the left.
use Rattle.std.specs.Prelude.{◌≡◌, ℕ, List, [], ◌∷◌, Option, Some, None}
use Rattle.iris_name.specs.declared.name.FileId.{FileId}
use Rattle.iris_name.specs.declared.name.Name.TheVariants as name
use Rattle.iris_node.specs.Trees.{Shown}
use Rattle.iris_node.specs.Unfolded.{Unfolded, Absent, Folder, Leaf, Even, Split, Stored, id_of}
use Rattle.iris_plain.specs.declared.checks.Seen.{Seen}
use Rattle.iris_plain.specs.declared.checks.Seen.TheVariants.{ADirectory, AFile, Nothing, AFileBefore}
use Rattle.iris_treepaths.specs.Rows.{Row, HasRows}
use Rattle.iris_treepaths.specs.Ways.{IsNamed}
use Rattle.iris_paths.specs.declared.resolving.Found.{Found}
use Rattle.iris_paths.specs.declared.resolving.Found.TheVariants.{At, Missing, ThroughFile}

-- what an entry is seen as
abbrev pub standing : Option Unfolded → Seen
standing (Some (Folder id label less more inside)) = ADirectory
standing (Some (Leaf id label less more size counter versions)) = AFile size
standing (Some Absent) = Nothing
standing (Some (Even version)) = Nothing
standing (Some (Split file level index low high)) = Nothing
standing (Some (Stored version bytes)) = Nothing
standing None = Nothing

-- what the entry of an id is seen as in a table
abbrev pub standing_at : Shown → FileId → Seen
standing_at t id = standing (t (name.Entry id))

-- Going on by names from the entry of an id, which stands in the directory of the other id, comes to this.
pub data Leads (t : Shown) (key : List ℕ) : FileId → FileId → List (List ℕ) → Found → Type 0 where
  -- no name is left
  here : (id parent : FileId) → Leads t key id parent [] (At id parent)
  -- only a directory leads on
  file : (id parent : FileId) (n : List ℕ) (ns : List (List ℕ)) (size : ℕ) → standing_at t id ≡ AFile size → Leads t key id parent (n ∷ ns) ThroughFile
  -- no row of the directory has the name
  none : (id parent : FileId) (n : List ℕ) (ns : List (List ℕ)) (rows : List Row) → HasRows t key id rows → IsNamed rows n None → Leads t key id parent (n ∷ ns) Missing
  -- a row has it
  onward : (id parent next : FileId) (n : List ℕ) (ns : List (List ℕ)) (rows : List Row) (found : Found)
      → HasRows t key id rows → IsNamed rows n (Some next.0) → Leads t key next id ns found → Leads t key id parent (n ∷ ns) found

-- the id of the visible root
abbrev pub root_id : FileId
root_id = id_of 0

-- resolving a path comes to this
abbrev pub Resolves : Shown → List ℕ → List (List ℕ) → Found → Type 0
Resolves t key names found = Leads t key root_id root_id names found

-- what resolving meets where it comes to this
abbrev pub met_by : Shown → Found → Seen
met_by t (At id parent) = standing_at t id
met_by t Missing = Nothing
met_by t ThroughFile = AFileBefore

-- `met` says of each path what resolving it meets
abbrev pub Meets : Shown → List ℕ → (List (List ℕ) → Seen) → Type 0
Meets t key met = (names : List (List ℕ)) → (found : Found) × Resolves t key names found × (met names ≡ met_by t found)
