-- What a plan makes of the nodes of a directory's rows, before the counts above the directory are set right.
use Rattle.std.specs.Prelude.{◌≡◌, ◌⊎◌, List, Option, Some, None, IsSome}
use Rattle.iris_name.specs.declared.name.FileId.{FileId}
use Rattle.iris_name.specs.declared.name.Hash32.{Hash32}
use Rattle.iris_name.specs.declared.name.Name.{Name}
use Rattle.iris_name.specs.declared.name.Name.TheVariants as name
use Rattle.iris_node.specs.declared.node.Body.{Body}
use Rattle.iris_node.specs.declared.node.Body.TheVariants.{Dir, File}
use Rattle.iris_node.specs.declared.node.Link.{Link}
use Rattle.iris_node.specs.declared.node.Node.{Node}
use Rattle.iris_node.specs.declared.node.Node.TheVariants as node
use Rattle.iris_node.specs.Fields.{EntryFields}
use Rattle.iris_node.specs.Local.{led, led_by}
use Rattle.iris_node.specs.Trees.{Shown, IsParent}
use Rattle.iris_node.specs.Unfolded.{id_of}
use Rattle.iris_shape.specs.Treap.{Treap, Empty, Over, rows}
use Rattle.iris_cache.specs.declared.draft.Change.{Change}
use Rattle.iris_cache.specs.Resident.{Resident, held_node}
use Rattle.iris_cache.specs.Drafted.{Drafted, drafted, seen, set_to, taken_away}
use Rattle.iris_cache.specs.Pictures.{IsLike, WasHash, Holds, parent_after}
use Rattle.iris_treepaths.specs.Rows.{Row, unfolded_rows, row_entry}
use Rattle.iris_treepaths.specs.Ways.{Any}

-- a name is that of one of these rows
abbrev pub IsRowName : List Row → Name → Type 0
IsRowName rows n = Any (λ (r : Row). n ≡ name.Entry (id_of r.id)) rows

-- what is seen of each row's name, if anything is, says what the row's entry in this treap says
abbrev pub Likes : (Name → Option Node) → Treap Row → Type 0
Likes s Empty = Unit {0}
Likes s (Over y l m) = ((node : Node) → s (name.Entry (id_of y.id)) ≡ Some node → IsLike (Some (row_entry y (unfolded_rows l) (unfolded_rows m))) node) × Likes s l × Likes s m

-- each row that is seen hangs from the row above it in this treap, the topmost from p, and that is seen too
abbrev pub Hang : (Name → Option Node) → (Name → Option Name) → Name → Treap Row → Type 0
Hang s over p Empty = Unit {0}
Hang s over p (Over y l m) = ((node : Node) → s (name.Entry (id_of y.id)) ≡ Some node → (over (name.Entry (id_of y.id)) ≡ Some p) × IsSome (s p)) × Hang s over (name.Entry (id_of y.id)) l × Hang s over (name.Entry (id_of y.id)) m

abbrev pub topped : Option Link → Body → Body
topped top (Dir old) = Dir top
topped top (File size counter versions) = File size counter versions

-- a directory's entry with another link inside
abbrev pub with_top : Option Link → EntryFields → EntryFields
with_top top e = record { id = e.id; name = e.name; left = e.left; right = e.right; body = topped top e.body }

-- a treap is one of those in another
abbrev pub IsSubtreap : Treap Row → Treap Row → Type 0
IsSubtreap v Empty = ⊥
IsSubtreap v (Over y l m) = (v ≡ Over y l m) ⊎ (IsSubtreap v l ⊎ IsSubtreap v m)

-- a row of the second treap that isn't seen stands over what it stood over in the first
abbrev pub StaysBelow : (Name → Option Node) → Treap Row → Treap Row → Type 0
StaysBelow s t Empty = Unit {0}
StaysBelow s t (Over y l m) = (s (name.Entry (id_of y.id)) ≡ None → IsSubtreap (Over y l m) t) × StaysBelow s t l × StaysBelow s t m

-- Of the treap t of a directory's rows a draft made the treap u, and its entry leads to it.
pub record Planted (old : Shown) (dir : FileId) (t u : Treap Row) (d e : Drafted) (c : Resident) : Type 0 where
  pub top : Option Link
  pub leads : led_by top ≡ led (unfolded_rows u)
  pub entry : (x : EntryFields) → seen d c (name.Entry dir) ≡ Some (node.Entry x) → drafted e (name.Entry dir) ≡ Some (set_to (parent_after d c (name.Entry dir)) (node.Entry (with_top top x)))
  pub likes : Likes (seen e c) u
  pub hang : Hang (seen e c) (parent_after e c) (name.Entry dir) u
  pub stays : StaysBelow (seen e c) t u
  -- a hash that a row's node or the directory's holds of another node was its true one before, or is the one that its resident parent holds
  pub hashes : (n m : Name) (node : Node) (h : Hash32) → IsRowName (rows u) n ⊎ (n ≡ name.Entry dir) → seen e c n ≡ Some node → Holds node m h → WasHash old c m h
  -- nothing else is changed
  pub others : (n : Name) → (IsRowName (rows t) n → ⊥) → (IsRowName (rows u) n → ⊥) → (n ≡ name.Entry dir → ⊥) → drafted e n ≡ drafted d n
  -- what is known of a row that is in both treaps stays known
  pub kept : (n : Name) → IsRowName (rows t) n → IsRowName (rows u) n → IsSome (seen d c n) → IsSome (seen e c n)
  -- a row that is in both and missing stays so
  pub missing : (n : Name) → IsRowName (rows t) n → IsRowName (rows u) n → seen d c n ≡ None → drafted e n ≡ drafted d n
  -- a row that comes is seen, and one that goes is taken away
  pub came : (n : Name) → IsRowName (rows u) n → (IsRowName (rows t) n → ⊥) → IsSome (seen e c n)
  pub went : (n : Name) → IsRowName (rows t) n → (IsRowName (rows u) n → ⊥) → drafted e n ≡ Some taken_away
  pub resident : (n : Name) (change : Change) → drafted e n ≡ Some change → IsSome (held_node c n) ⊎ (old n ≡ None)

-- a name stands above another
pub data IsOver (t : Shown) : Name → Name → Type 0 where
  next : (p n : Name) → IsParent t p n → IsOver t p n
  far : (p q n : Name) → IsParent t q n → IsOver t p q → IsOver t p n
