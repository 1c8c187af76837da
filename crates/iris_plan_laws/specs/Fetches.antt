-- A node that is fetched under the hash that its resident parent holds fits the table, and goes into the cache.
use Rattle.std.specs.Prelude.{◌≡◌, ◌≢◌, ◌⊎◌, ℕ, List, if◌then◌else◌, Some, None, IsSomeAnd}
use Rattle.sha2.specs.Sha256.{sha256}
use Rattle.iris_name.specs.Names.{same_name}
use Rattle.iris_name.specs.declared.name.Hash32.{Hash32}
use Rattle.iris_name.specs.declared.name.Name.{Name}
use Rattle.iris_node.specs.declared.node.Node.{Node}
use Rattle.iris_node.specs.Nodes.{IsNode}
use Rattle.iris_node.specs.Spelling.{spelling}
use Rattle.iris_node.specs.Trees.{IsNodeName}
use Rattle.iris_node.specs.Unfolded.{Unfolded}
use Rattle.iris_cache.specs.declared.held.Held.{Held}
use Rattle.iris_cache.specs.Held.{points, kid_more, newcomer_node}
use Rattle.iris_cache.specs.Pictures.{Holds, Pictures}
use Rattle.iris_cache.specs.Resident.{Resident, held_node, map_if}
use Rattle.iris_rows.specs.Rows.{Table}
use Rattle.iris_rows.specs.Sound.{IsSound}
use Rattle.iris_records.specs.Records.{spelled}
use Rattle.iris_records.specs.Shown.{shown}
use Rattle.iris_table_laws.specs.Texts.{HasTexts}
use Rattle.iris_forest.specs.Truths.{IsTrueNode}

-- A resident node holds this hash of a child that is absent.
pub record IsLinkedAbsent (c : Resident) (p n : Name) (x : Hash32) : Type 0 where
  pub absent : held_node c n ≡ None
  pub parent : Held
  pub resident : held_node c p ≡ Some parent
  pub holds : Holds parent.node n x

-- bytes that aren't the record of what a name stands for, and have its SHA-256
abbrev pub CollidesIn : List ℕ → List ℕ → Table → Name → List ℕ → Type 0
CollidesIn order key t n bytes = IsSomeAnd (shown order t n) (λ u. (bytes ≢ spelled key n u) × (sha256 bytes ≡ sha256 (spelled key n u)))

-- a node whose spelling is the record of what its name stands for may be inserted
abbrev pub RecordsFit : Type 0
RecordsFit = (order key : List ℕ) (t : Table) (n : Name) (u : Unfolded) (node : Node) → IsSound t → HasTexts t → IsNodeName n → shown order t n ≡ Some u
    → IsNode node → spelling node ≡ spelled key n u → IsTrueNode (shown order t) n node

-- so may one whose spelling has the hash that its resident parent holds, unless SHA-256 collides
abbrev pub FetchesFit : Type 0
FetchesFit = (order key : List ℕ) (t : Table) (c : Resident) (p n : Name) (x : Hash32) (node : Node) → IsSound t → HasTexts t → Pictures (shown order t) c
    → IsLinkedAbsent c p n x → IsNode node → sha256 (spelling node) ≡ x.0 → CollidesIn order key t n (spelling node) ⊎ IsTrueNode (shown order t) n node

-- inserted below that parent, the cache goes on picturing the table
abbrev pub FetchesKeep : Type 0
FetchesKeep = (order : List ℕ) (t : Table) (c e : Resident) (p n : Name) (x : Hash32) (node : Node) (who kids : ℕ) → IsSound t → Pictures (shown order t) c
    → IsLinkedAbsent c p n x → IsTrueNode (shown order t) n node
    → ((q : Name) → held_node e q ≡ map_if (points (Some p) q) kid_more (if same_name n q then Some (newcomer_node (Some p) node who kids) else held_node c q)) → Pictures (shown order t) e
