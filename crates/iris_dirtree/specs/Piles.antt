-- Rows that a walk over a directory has passed on its way down and not yet listed.
use Rattle.std.specs.Prelude.{◌≡◌, ◌++◌, ℕ, List, [], ◌∷◌, map, Option, Some}
use Rattle.iris_name.specs.declared.name.FileId.{FileId}
use Rattle.iris_name.specs.declared.name.Name.{Name}
use Rattle.iris_name.specs.declared.name.Name.TheVariants as name
use Rattle.iris_name.specs.declared.note.Expect.{Expect}
use Rattle.iris_node.specs.declared.node.Link.{Link}
use Rattle.iris_node.specs.declared.node.Node.TheVariants as node
use Rattle.iris_node.specs.Fields.{EntryFields}
use Rattle.iris_node.specs.Trees.{Shown, IsTree}
use Rattle.iris_node.specs.Unfolded.{id_of}
use Rattle.iris_shape.specs.Treap.{Treap, Over, rows, high, way, Each}
use Rattle.iris_cache.specs.declared.held.Short.{Short}
use Rattle.iris_cache.specs.Needs.{Lacks, StopsShort}
use Rattle.iris_cache.specs.Resident.{Resident}
use Rattle.iris_cache.specs.Drafted.{Drafted, seen}
use Rattle.iris_cache.specs.Pictures.{Drafts}
use Rattle.iris_treepaths.specs.Rows.{Row, row_entry, unfolded_rows}
use Rattle.iris_treepaths.specs.Ways.{Any, up_to}
use Rattle.iris_treepaths.specs.Reached.{Way}

-- a part of a treap
pub data Sub {A : Type 0} (t : Treap A) : Treap A → Type 0 where
  whole : Sub t t
  left : (y : A) (l m : Treap A) → Sub t (Over y l m) → Sub t l
  right : (y : A) (l m : Treap A) → Sub t (Over y l m) → Sub t m

-- a row that was passed, with the treaps on both its sides and its entry as it is seen
pub record Passed : Type 0 where
  pub row : Row
  pub less : Treap Row
  pub more : Treap Row
  pub entry : EntryFields

abbrev pub passed_id : Passed → FileId
passed_id z = id_of z.row.id

-- the rows that are still to be listed, the last that was passed first
abbrev pub to_list : List Passed → List Row
to_list [] = []
to_list (z ∷ zs) = to_list zs ++ z.row ∷ rows z.more

-- a row that was passed is a row of the treap, in its place in the table, and is seen
pub record IsPassed (new : Shown) (d : Drafted) (c : Resident) (all : Treap Row) (z : Passed) : Type 0 where
  pub part : Sub all (Over z.row z.less z.more)
  pub live : new (name.Entry (id_of z.row.id)) ≡ Some (row_entry z.row (unfolded_rows z.less) (unfolded_rows z.more))
  pub is_seen : seen d c (name.Entry (id_of z.row.id)) ≡ Some (node.Entry z.entry)

-- A cache with a draft pictures a table.
pub record Tables (d : Drafted) (c : Resident) (old new : Shown) : Type 0 where
  pub was : IsTree old
  pub is : IsTree new
  pub drafts : Drafts old new d c

-- The rows left to list are those that were passed.
pub record Piled (new : Shown) (d : Drafted) (c : Resident) (all : Treap Row) (left : List Row) (ids : List FileId) : Type 0 where
  pub pile : List Passed
  pub ids_are : ids ≡ map passed_id pile
  pub passed : Each (IsPassed new d c all) pile
  pub left_are : left ≡ to_list pile

-- The rows left to list are those of greater names under a link, and then those that were passed.
-- Going on down meets rows met on going down from the link where this began.
pub record Piling (old new : Shown) (d : Drafted) (c : Resident) (after : List ℕ) (all begin : Treap Row) (left : List Row) (ids : List FileId) (at : Option Link) (k : ℕ) : Type 0 where
  pub under : Treap Row
  pub pile : List Passed
  pub ids_are : ids ≡ map passed_id pile
  pub passed : Each (IsPassed new d c all) pile
  pub left_are : left ≡ rows (high (up_to after) under) ++ to_list pile
  pub part : Sub all under
  pub leads : Way old new d c (unfolded_rows under) at k
  pub meets : (n : Name) → Any (λ (r : Row). n ≡ name.Entry (id_of r.id)) (way (up_to after) under) → Any (λ (r : Row). n ≡ name.Entry (id_of r.id)) (way (up_to after) begin)

-- What a walk down goes over: the whole treap, the treap under the link where it began, and the rows left to list.
pub record WalkOver : Type 0 where
  pub all : Treap Row
  pub begin : Treap Row
  pub left : List Row

-- a walk down lacks a name that it meets
abbrev pub LacksUnder : Drafted → Resident → List ℕ → List FileId → Option Link → Name → Expect → Type 0
LacksUnder d c after ids at =
    Lacks {W = WalkOver} (λ old new g. Tables d c old new × Piling old new d c after g.all g.begin g.left ids at 1) (λ new g n. Any (λ (r : Row). n ≡ name.Entry (id_of r.id)) (way (up_to after) g.begin)) d c

-- why a walk down stops
abbrev pub IsUnderShort : Drafted → Resident → List ℕ → List FileId → Option Link → Short → Type 0
IsUnderShort d c after ids at = StopsShort (LacksUnder d c after ids at)
