-- The plain state as the program keeps it: a list of paths with what stands there.
use Rattle.std.specs.Prelude.{ℕ, List, [], ◌∷◌, Option, Some, None, if◌then◌else◌}
use Rattle.iris_plain.specs.Routes.{is_path}
use Rattle.iris_plain.specs.Files.{PlainState}
use Rattle.iris_plain.specs.declared.files.Kind.{Kind}
use Rattle.iris_plain.specs.declared.files.Entry.{Entry}

-- the paths in the list, and the age
pub record ListedEntries : Type 0 where
  pub entries : List Entry
  pub age : ℕ

-- what stands at a path by the list
abbrev pub kind_at : List Entry → List (List ℕ) → Option Kind
kind_at [] q = None
kind_at (e ∷ es) q = if is_path e.path q then Some e.kind else kind_at es q

-- the plain state that the list stands for
abbrev pub state_of_list : ListedEntries → PlainState
state_of_list p = record { files = kind_at p.entries; age = p.age }
