-- Pages of the names of a directory.
use Rattle.std.specs.Prelude.{◌≡◌, ◌⊎◌, ℕ, List, map}
use Rattle.iris_name.specs.declared.name.FileId.{FileId}
use Rattle.iris_name.specs.declared.name.Name.{Name}
use Rattle.iris_name.specs.declared.request.Reply.{Reply}
use Rattle.iris_name.specs.declared.request.Reply.TheVariants.{Names}
use Rattle.iris_node.specs.Trees.{Shown}
use Rattle.iris_treepaths.specs.Rows.{Row, row_name, HasRows}
use Rattle.iris_treepaths.specs.Ways.{following, along_page}
use Rattle.iris_treepaths.specs.Needs.{IsMet}
use Rattle.iris_paths.specs.declared.resolving.Found.TheVariants.{At}
use Rattle.iris_paths.specs.Resolving.{Resolves}
use Rattle.iris_paths.specs.Pictured.{IsOnTrail}

-- how many names a page has at most
abbrev pub most_names : ℕ
most_names = 64

-- the reply is the page of names that follows a name in the directory at a path
abbrev pub IsListing : Shown → List ℕ → List (List ℕ) → List ℕ → Reply → Type 0
IsListing t key names after reply = (dir above : FileId) (rows : List Row) → Resolves t key names (At dir above) → HasRows t key dir rows
    → reply ≡ Names (map row_name (following after most_names rows))

-- a name met on going down towards each row of a page, in the directory at a path
pub record IsAlongPage (key : List ℕ) (names : List (List ℕ)) (after : List ℕ) (t : Shown) (n : Name) : Type 0 where
  pub dir : FileId
  pub above : FileId
  pub rows : List Row
  pub leads : Resolves t key names (At dir above)
  pub has : HasRows t key dir rows
  pub met : IsMet dir (along_page after most_names key rows) n

-- what a page of the directory at a path reaches
abbrev pub IsListed : List ℕ → List (List ℕ) → List ℕ → Shown → Name → Type 0
IsListed key names after t n = IsOnTrail key names t n ⊎ IsAlongPage key names after t n
