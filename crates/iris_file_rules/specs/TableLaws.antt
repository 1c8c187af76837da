-- What the table of a file system keeps in every history, and in a legal one, as statements.
use Rattle.iris_mac.specs.declared.keys.Keys.{Keys}
use Rattle.iris_name.specs.History.{Past}
use Rattle.iris_node.specs.Trees.{Shown, IsTree}
use Rattle.iris_cache.specs.Laws.{AreFormed, HaveApart}
use Rattle.iris_rows.specs.Sound.{IsSound}
use Rattle.iris_table_laws.specs.Texts.{HasTexts}
use Rattle.iris_file_rules.specs.Rules.{files_after, shown_after, LegalFiles}

-- What names stand for is a tree, in which links lead to entries and sides to parts, and the places below a node to different names.
pub record IsWellFormed (t : Shown) : Type 0 where
  pub tree : IsTree t
  pub formed : AreFormed t
  pub apart : HaveApart t

-- whatever a past holds, the table after it is sound
abbrev pub TablesAreSound : Type 0
TablesAreSound = (keys : Keys) (past : Past) → IsSound (files_after keys past)

-- and what it shows is well formed
abbrev pub TablesAreWellFormed : Type 0
TablesAreWellFormed = (keys : Keys) (past : Past) → IsWellFormed (shown_after keys past)

-- after a legal past its names are UTF-8
abbrev pub TablesHaveTexts : Type 0
TablesHaveTexts = (keys : Keys) (past : Past) → LegalFiles keys past → HasTexts (files_after keys past)
