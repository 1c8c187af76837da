-- The rules that entries and parts keep, apart from how they are spelled.
use Rattle.std.specs.Prelude.{◌≡◌, ◌≢◌, ◌==◌, ◌≤◌, ◌<◌, ◌-◌, ◌^◌, ◌&&◌, ℕ, List, [], length, not, codes, Bool, Option, Some, None, IsTrue}
use Rattle.std.specs.Str.{IsUtf8}
use Rattle.std.specs.List.{list_all}
use Rattle.iris_node.specs.declared.node.Side.{Side}
use Rattle.iris_node.specs.declared.node.Side.TheVariants.{Fold, Below}
use Rattle.iris_node.specs.declared.node.Link.{Link}
use Rattle.iris_node.specs.declared.node.Body.{Body}
use Rattle.iris_node.specs.declared.node.Body.TheVariants.{Dir, File}
use Rattle.iris_node.specs.Fields.{EntryFields, PartFields}

-- the greatest length of a file in bytes
abbrev pub most_length : ℕ
most_length = 268435456

-- the level of the part that covers all places of a file
abbrev pub most_level : ℕ
most_level = 16

-- a byte that may stand in a file's name: neither a slash nor zero
abbrev pub in_name : ℕ → Bool
in_name b = not (b == 47) && not (b == 0)

-- a name of a file or a directory: one step of a path
pub record IsFileName (name : List ℕ) : Type 0 where
  pub text : IsUtf8 name
  pub some : 1 ≤ length name
  pub short : length name ≤ 255
  pub dot : name ≢ codes "."
  pub dots : name ≢ codes ".."
  pub bytes : IsTrue (list_all in_name name)

-- where a link is there, it leads to an entry that has a name
abbrev pub IsLinkToNamed : Option Link → Type 0
IsLinkToNamed None = Unit {0}
IsLinkToNamed (Some l) = 2 ≤ l.id.0

-- a directory's link inside leads to a named entry; a file isn't too long
abbrev pub IsBody : Body → Type 0
IsBody (Dir top) = IsLinkToNamed top
IsBody (File size counter versions) = size ≤ most_length

-- this is a directory
abbrev pub IsDir : Body → Type 0
IsDir (Dir top) = Unit {0}
IsDir (File size counter versions) = ⊥

-- The visible root has id 0 and the trash id 1: directories without a name, that stand in no directory.
pub record IsRoot (e : EntryFields) : Type 0 where
  pub name : e.name ≡ []
  pub left : e.left ≡ None
  pub right : e.right ≡ None
  pub body : IsDir e.body

-- an entry of the tree
pub record IsEntry (e : EntryFields) : Type 0 where
  pub root : e.id.0 < 2 → IsRoot e
  pub name : 2 ≤ e.id.0 → IsFileName e.name
  pub left : IsLinkToNamed e.left
  pub right : IsLinkToNamed e.right
  pub body : IsBody e.body

-- all versions on this side are equal
abbrev pub IsFold : Side → Type 0
IsFold (Fold v) = Unit {0}
IsFold (Below h) = ⊥

-- two sides that aren't folds of one version
abbrev pub AreUnequalSides : Side → Side → Type 0
AreUnequalSides (Fold v) (Fold w) = v ≢ w
AreUnequalSides (Fold v) (Below h) = Unit {0}
AreUnequalSides (Below h) other = Unit {0}

-- a part of a version tree: at level 1 its halves are single places
pub record IsPart (p : PartFields) : Type 0 where
  pub file : 2 ≤ p.file.0
  pub level : 1 ≤ p.level
  pub height : p.level ≤ most_level
  pub index : p.index < 2 ^ (most_level - p.level)
  pub places : p.level ≡ 1 → IsFold p.low × IsFold p.high
  pub split : AreUnequalSides p.low p.high

-- what the entry of a file says
abbrev pub IsFileBody : Body → Type 0
IsFileBody (Dir top) = ⊥
IsFileBody (File size counter versions) = Unit {0}
