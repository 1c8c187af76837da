-- Laws of caches that picture a table, and of drafts over them.
use Rattle.std.specs.Prelude.{◌≡◌, ◌⊎◌, ◌-◌, ◌*◌, ◌+◌, ℕ, true, if◌then◌else◌, Option, Some, None, IsSome}
use Rattle.iris_name.specs.Names.{same_name}
use Rattle.iris_name.specs.declared.name.Hash32.{Hash32}
use Rattle.iris_name.specs.declared.name.Name.{Name}
use Rattle.iris_name.specs.declared.name.Name.TheVariants as name
use Rattle.iris_node.specs.declared.node.Node.{Node}
use Rattle.iris_node.specs.Unfolded.{Unfolded, Absent, Folder, Leaf, Even, Split, Stored, id_of}
use Rattle.iris_cache.specs.declared.held.Held.{Held}
use Rattle.iris_cache.specs.Applied.{Lands, arrived_node}
use Rattle.iris_cache.specs.Held.{points, kid_less, kid_more, moved_node, newcomer_node, settled_so, stay_of}
use Rattle.iris_cache.specs.Rehash.{top_part, with_hash}
use Rattle.iris_cache.specs.Resident.{Resident, held_node, map_if, resident_parent, IsSoundCache}
use Rattle.iris_cache.specs.Drafted.{Drafted, drafted, known, seen}
use Rattle.iris_node.specs.Trees.{Shown, IsTree, IsParent, IsNodeName, node_name}
use Rattle.iris_cache.specs.Pictures.{Holds, IsHashOf, IsLike, Pictures, Detached, DraftsBeside, Drafts}

-- what a link leads to: an entry, or nothing
abbrev pub IsLinked : Unfolded → Type 0
IsLinked Absent = Unit {0}
IsLinked (Folder id label less more inside) = Unit {0}
IsLinked (Leaf id label less more size counter versions) = Unit {0}
IsLinked (Even version) = ⊥
IsLinked (Split file level index low high) = ⊥
IsLinked (Stored version bytes) = ⊥

-- what lies on a side: one version, or the part of this name
abbrev pub IsSide : Name → Unfolded → Type 0
IsSide n (Even version) = Unit {0}
IsSide n (Split file level index low high) = name.Part (id_of file) level index ≡ n
IsSide n Absent = ⊥
IsSide n (Folder id label less more inside) = ⊥
IsSide n (Leaf id label less more size counter versions) = ⊥
IsSide n (Stored version bytes) = ⊥

-- links lead to entries, and sides to the parts of what they cover
abbrev pub IsFormed : Unfolded → Type 0
IsFormed (Folder id label less more inside) = IsLinked less × (IsLinked more × IsLinked inside)
IsFormed (Leaf id label less more size counter versions) = IsLinked less × (IsLinked more × IsSide (top_part (id_of id)) versions)
IsFormed (Split file level index low high) = IsSide (name.Part (id_of file) (level - 1) (2 * index)) low × IsSide (name.Part (id_of file) (level - 1) (2 * index + 1)) high
IsFormed Absent = Unit {0}
IsFormed (Even version) = Unit {0}
IsFormed (Stored version bytes) = Unit {0}

-- each live node of a table is formed so
abbrev pub AreFormed : Shown → Type 0
AreFormed t = (n : Name) (u : Unfolded) → t n ≡ Some u → IsFormed u

-- two places below a node don't lead to one name
abbrev pub AreApart : Unfolded → Unfolded → Type 0
AreApart u w = (n : Name) → node_name u ≡ Some n → node_name w ≡ Some n → ⊥

-- the places below a node lead to different names
abbrev pub IsApart : Unfolded → Type 0
IsApart (Folder id label less more inside) = AreApart less more × (AreApart less inside × AreApart more inside)
IsApart (Leaf id label less more size counter versions) = AreApart less more
IsApart (Split file level index low high) = Unit {0}
IsApart Absent = Unit {0}
IsApart (Even version) = Unit {0}
IsApart (Stored version bytes) = Unit {0}

-- each live node of a table has its children apart
abbrev pub HaveApart : Shown → Type 0
HaveApart t = (n : Name) (u : Unfolded) → t n ≡ Some u → IsApart u

-- A draft without a change, over a cache that pictures a formed tree, pictures that tree.
abbrev pub DraftBegins : Type 0
DraftBegins = (t : Shown) (d : Drafted) (c : Resident) → Pictures t c → IsTree t → AreFormed t → ((n : Name) → drafted d n ≡ None) → Drafts t t d c

-- A missing child of a node that is seen was live before, with the hash that the node holds of it, and its parent is resident.
abbrev pub ChildWasLive : Type 0
ChildWasLive = (old new : Shown) (detached : Option Detached) (d : Drafted) (c : Resident) (n m : Name) (node : Node) (x : Hash32)
    → DraftsBeside old new detached d c → IsTree old → IsTree new → seen d c n ≡ Some node → Holds node m x → IsParent new n m → known d c m ≡ None
    → IsSome (old m) × (IsHashOf (old m) x × ((p : Name) → IsParent old p m → IsSome (held_node c p)))

-- A cache goes on picturing a table where a settled node goes that nothing keeps.
abbrev pub EvictKeeps : Type 0
EvictKeeps = (t : Shown) (c e : Resident) (n : Name) (h : Held)
    → Pictures t c → IsSoundCache c → held_node c n ≡ Some h → stay_of h ≡ None → h.settled ≡ true
    → ((q : Name) → held_node e q ≡ map_if (points (resident_parent c n) q) kid_less (if same_name n q then None else held_node c q)) → Pictures t e

-- A cache goes on picturing a table where a node of it comes with its true hashes, and its parent, if it has one, is resident.
abbrev pub InsertKeeps : Type 0
InsertKeeps = (t : Shown) (c e : Resident) (n : Name) (parent : Option Name) (node : Node) (who kids : ℕ)
    → Pictures t c → held_node c n ≡ None → IsLike (t n) node
    → ((m : Name) (x : Hash32) → Holds node m x → IsHashOf (t m) x)
    → ((p : Name) → IsParent t p n → (parent ≡ Some p) × IsSome (held_node c p))
    → ((p : Name) → parent ≡ Some p → IsParent t p n)
    → ((q : Name) → held_node e q ≡ map_if (points parent q) kid_more (if same_name n q then Some (newcomer_node parent node who kids) else held_node c q)) → Pictures t e

-- A cache goes on picturing a table where a node whose resident children are settled is settled with its true hash.
abbrev pub SetHashKeeps : Type 0
SetHashKeeps = (t : Shown) (c e : Resident) (n : Name) (x : Hash32)
    → Pictures t c → AreFormed t → IsHashOf (t n) x → ((q : Name) (h : Held) → held_node c q ≡ Some h → h.parent ≡ Some n → h.settled ≡ true)
    → ((q : Name) → held_node e q ≡ map_if (points (resident_parent c n) q) (with_hash n x) (map_if (same_name n q) settled_so (held_node c q))) → Pictures t e

-- What a draft makes of a cache pictures the table after.
abbrev pub ApplyKeeps : Type 0
ApplyKeeps = (old new : Shown) (d : Drafted) (c e : Resident)
    → Drafts old new d c → IsTree old → IsTree new → AreFormed old → AreFormed new → ((q : Name) → Lands d c e q) → Pictures new e

-- a node keeps its pins, its marks and what is out
abbrev pub KeepsMarks : Held → Held → Type 0
KeepsMarks g h = h ≡ record g { node = h.node; parent = h.parent; kids = h.kids }

-- a node stays as it is, but for its place in the tree
abbrev pub KeepsNode : Held → Held → Type 0
KeepsNode g h = h ≡ record g { parent = h.parent; kids = h.kids }

-- What a draft leaves of what was held of a name. It keeps its node and its marks, and then stands for the same; or it is dirty, unsettled, and touched where something is out, and then stands for something else.
abbrev pub Left : Type 0 → Option Held → Option Held → Type 0
Left same None None = same
Left same None (Some h) = (same → ⊥) × KeepsMarks (arrived_node h.parent h.node) h
Left same (Some g) None = same → ⊥
Left same (Some g) (Some h) = (same × KeepsNode g h) ⊎ ((same → ⊥) × KeepsMarks (moved_node g) h)

-- A draft marks whatever stands for something else, and nothing more.
abbrev pub ApplyMarks : Type 0
ApplyMarks = (old new : Shown) (d : Drafted) (c e : Resident)
    → Drafts old new d c → IsTree old → IsTree new → AreFormed old → AreFormed new → HaveApart old → ((q : Name) → Lands d c e q)
    → (n : Name) → IsNodeName n → Left (new n ≡ old n) (held_node c n) (held_node e n)

-- two that may be held are alike: the same node under the same parent, settled or not
abbrev pub AreAlike : Option Held → Option Held → Type 0
AreAlike None None = Unit {0}
AreAlike None (Some h) = ⊥
AreAlike (Some g) None = ⊥
AreAlike (Some g) (Some h) = (h.node ≡ g.node) × ((h.parent ≡ g.parent) × (h.settled ≡ g.settled))

-- What a cache pictures rests on nodes, parents and what is settled alone: not on pins, dirty marks or what is out.
abbrev pub AlikeKeeps : Type 0
AlikeKeeps = (t : Shown) (c e : Resident) → Pictures t c → ((q : Name) → AreAlike (held_node c q) (held_node e q)) → Pictures t e
