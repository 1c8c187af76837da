-- One step of resolving, as a plan takes it.
use Rattle.std.proofs.Common.{◌≡◌, ◌⊎◌, ℕ, List, [], ◌∷◌, Option, Some, None, refl, sym, ◌∙◌, inl, inr}
use Rattle.iris_name.specs.declared.name.FileId.{FileId}
use Rattle.iris_node.specs.declared.node.Body.{Body}
use Rattle.iris_node.specs.declared.node.Body.TheVariants as body
use Rattle.iris_node.specs.declared.node.Node.{Node}
use Rattle.iris_node.specs.declared.node.Node.TheVariants as node
use Rattle.iris_node.specs.Fields.{EntryFields}
use Rattle.iris_node.specs.Local.{Lead, Local, FolderAt, LeafAt, SplitAt, entry_local}
use Rattle.iris_node.specs.Trees.{Shown}
use Rattle.iris_node.specs.Unfolded.{Unfolded, Absent, Folder, Leaf, Even, Split, Stored}
use Rattle.iris_cache.specs.Pictures.{IsLike}
use Rattle.iris_plain.specs.declared.checks.Seen.{Seen}
use Rattle.iris_plain.specs.declared.checks.Seen.TheVariants.{ADirectory, AFile}
use Rattle.iris_treepaths.specs.Rows.{Row, HasRows, IsFolderOf}
use Rattle.iris_treepaths.specs.Ways.{IsNamed}
use Rattle.iris_treepaths.specs.Needs.{IsDirNode, IsDirBody}
use Rattle.iris_paths.specs.declared.resolving.Found.{Found}
use Rattle.iris_paths.specs.declared.resolving.Found.TheVariants.{At, Missing, ThroughFile}
use Rattle.iris_paths.specs.Resolving.{Leads, standing, standing_at, here, file, none, onward}
use Rattle.iris_paths.specs.Following.{standing_body, standing_node}

-- the parts of one step: a file, or a directory without the name, or with it
abbrev pub Step : Shown → List ℕ → FileId → List ℕ → List (List ℕ) → Found → Type 0
Step t key id n ns found = ((size : ℕ) × (standing_at t id ≡ AFile size) × (found ≡ ThroughFile))
    ⊎ ((rows : List Row) × HasRows t key id rows × ((IsNamed rows n None × (found ≡ Missing)) ⊎ ((next : FileId) × IsNamed rows n (Some next.0) × Leads t key next id ns found)))

pub step : (t : Shown) (key : List ℕ) (id parent : FileId) (n : List ℕ) (ns : List (List ℕ)) (found : Found) → Leads t key id parent (n ∷ ns) found → Step t key id n ns found
step t key id parent n ns found (file _ _ _ _ size e) = inl (size, e, refl)
step t key id parent n ns found (none _ _ _ _ rows h e) = inr (rows, h, inl (e, refl))
step t key id parent n ns found (onward _ _ next _ _ rows _ h e l) = inr (rows, h, inr (next, e, l))

pub ended : (t : Shown) (key : List ℕ) (id parent : FileId) (found : Found) → Leads t key id parent [] found → found ≡ At id parent
ended t key id parent found (here _ _) = refl

some_is : (x y : Local) → Some x ≡ Some y → x ≡ y
some_is x y h = cc

split_body : (e : EntryFields) (b : Body) (f level index : ℕ) (low high : Option ℕ) → SplitAt f level index low high ≡ entry_local e b → ⊥
split_body e (body.Dir top) f level index low high h = cc
split_body e (body.File a b v) f level index low high h = cc

-- a node says of its entry what it is seen as
folder_like : (e : EntryFields) (b : Body) (id : ℕ) (label : List ℕ) (less more inside : Option Lead) → FolderAt id label less more inside ≡ entry_local e b → standing_body b ≡ ADirectory
folder_like e (body.Dir top) id label less more inside h = refl
folder_like e (body.File a b v) id label less more inside h = cc

leaf_like : (e : EntryFields) (b : Body) (id : ℕ) (label : List ℕ) (less more : Option Lead) (size counter : ℕ) (even : Option ℕ) → LeafAt id label less more size counter even ≡ entry_local e b → standing_body b ≡ AFile size
leaf_like e (body.Dir top) id label less more size counter even h = cc
leaf_like e (body.File a b v) id label less more size counter even h = cc

pub like_stands : (o : Option Unfolded) (n : Node) → IsLike o n → standing o ≡ standing_node n
like_stands None n h = absurd h
like_stands (Some (Folder id label less more inside)) (node.Entry e) h = sym (folder_like e e.body _ _ _ _ _ (some_is _ _ h))
like_stands (Some (Folder id label less more inside)) (node.Part p) h = cc
like_stands (Some (Leaf id label less more size counter versions)) (node.Entry e) h = sym (leaf_like e e.body _ _ _ _ _ _ _ (some_is _ _ h))
like_stands (Some (Leaf id label less more size counter versions)) (node.Part p) h = cc
like_stands (Some Absent) n h = cc
like_stands (Some (Even version)) n h = cc
like_stands (Some (Split f level index low high)) (node.Entry e) h = absurd (split_body e e.body _ _ _ _ _ (some_is _ _ h))
like_stands (Some (Split f level index low high)) (node.Part p) h = refl
like_stands (Some (Stored version bytes)) n h = cc

body_stands : (b : Body) → IsDirBody b → standing_body b ≡ ADirectory
body_stands (body.Dir top) d = refl
body_stands (body.File a b v) d = absurd d

body_seen : (b : Body) → standing_body b ≡ ADirectory → IsDirBody b
body_seen (body.Dir top) e = tt
body_seen (body.File a b v) e = cc

node_stands : (n : Node) → IsDirNode (Some n) → standing_node n ≡ ADirectory
node_stands (node.Entry e) d = body_stands e.body d
node_stands (node.Part p) d = absurd d

node_seen : (n : Node) → standing_node n ≡ ADirectory → IsDirNode (Some n)
node_seen (node.Entry e) h = body_seen e.body h
node_seen (node.Part p) h = cc

-- what a directory's node is like is a directory, and the other way round
pub dir_stands : (o : Option Unfolded) (n : Node) → IsLike o n → IsDirNode (Some n) → standing o ≡ ADirectory
dir_stands o n h d = like_stands o n h ∙ node_stands n d

pub dir_seen : (o : Option Unfolded) (n : Node) → standing o ≡ ADirectory → IsLike o n → IsDirNode (Some n)
dir_seen o n e h = node_seen n (sym (like_stands o n h) ∙ e)

pub folder_stands : (i : ℕ) (inside : Unfolded) (o : Option Unfolded) → IsFolderOf i inside o → standing o ≡ ADirectory
folder_stands i inside None f = absurd f
folder_stands i inside (Some (Folder id label less more kept)) f = refl
folder_stands i inside (Some (Leaf id label less more size counter versions)) f = absurd f
folder_stands i inside (Some Absent) f = absurd f
folder_stands i inside (Some (Even version)) f = absurd f
folder_stands i inside (Some (Split g level index low high)) f = absurd f
folder_stands i inside (Some (Stored version bytes)) f = absurd f

-- a directory is no file
pub differ : (size : ℕ) (s : Seen) → s ≡ ADirectory → s ≡ AFile size → ⊥
differ size s a b = cc
