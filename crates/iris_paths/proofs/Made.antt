-- A new row as a row in hand.
use Rattle.std.proofs.Common.{◌≡◌, ◌∙◌, ℕ, List, Bool, true, false, Some, None, refl, sym, ap, subst}
use Rattle.iris_name.specs.declared.name.FileId.{FileId}
use Rattle.iris_name.specs.declared.name.Hash32.{Hash32}
use Rattle.iris_name.specs.declared.name.Name.{Name}
use Rattle.iris_name.specs.declared.name.Name.TheVariants as name
use Rattle.iris_node.specs.declared.node.Body.{Body}
use Rattle.iris_node.specs.Fields.{EntryFields}
use Rattle.iris_node.specs.Trees.{Shown, IsTree, node_name}
use Rattle.iris_shape.specs.Treap.{rows_with}
use Rattle.iris_cache.specs.declared.held.Short.{Short}
use Rattle.iris_cache.specs.declared.held.Short.TheVariants.{Need, NoMemory}
use Rattle.iris_cache.specs.Resident.{Resident}
use Rattle.iris_cache.specs.Drafted.{Drafted}
use Rattle.iris_cache.specs.Pictures.{Drafts, BodyHolds}
use Rattle.iris_plain.specs.declared.checks.Seen.{Seen}
use Rattle.iris_plain.specs.Routes.{parent, last}
use Rattle.iris_treepaths.specs.Rows.{Row, HasRows, Rearranges, IsCountable}
use Rattle.iris_treepaths.proofs.Handed.{beside_other, none_below}
use Rattle.iris_treepaths.specs.Hands.{detached_row, Holding, IsRowNode, HoldsTrue, below_row}
use Rattle.iris_treepaths.specs.Ways.{is_row_before, along_name}
use Rattle.iris_treepaths.specs.Needs.{ListedInHand, IsMetShort, IsMet}
use Rattle.iris_paths.specs.declared.resolving.Found.TheVariants.{At}
use Rattle.iris_paths.specs.declared.entering.Place.TheVariants.{In}
use Rattle.iris_paths.specs.Resolving.{Resolves}
use Rattle.iris_paths.specs.Pictured.{Pictured, IsOnTrail, IsPathShort}
use Rattle.iris_paths.specs.Making.{empty_content, fresh_body, new_row, IsNew}
use Rattle.iris_paths.specs.Entering.{IsDestination}

-- the node of a new row
abbrev pub new_entry : FileId → List ℕ → Bool → EntryFields
new_entry id label dir = record { id = id; name = label; left = None; right = None; body = fresh_body dir }

pub entry_is : (e : EntryFields) (id : FileId) (label label2 : List ℕ) (b : Body) (dir : Bool) → e ≡ record { id = id; name = label; left = None; right = None; body = b } → label ≡ label2 → b ≡ fresh_body dir → e ≡ new_entry id label2 dir
entry_is e id label label2 b dir is l m = is ∙ (ap (λ n. record { id = id; name = n; left = None; right = None; body = b }) l ∙ ap (λ v. record { id = id; name = label2; left = None; right = None; body = v }) m)

pub new_like : (id : FileId) (label : List ℕ) (dir : Bool) → IsRowNode (new_row id.0 label dir) (new_entry id label dir)
new_like id label true = refl
new_like id label false = refl

nothing_held : (id : FileId) (dir : Bool) (m : Name) (h : Hash32) → BodyHolds id (fresh_body dir) m h → ⊥
nothing_held id true m h k = k
nothing_held id false m h k = k

pub new_holds : (old : Shown) (c : Resident) (id : FileId) (label : List ℕ) (dir : Bool) → HoldsTrue old c (new_entry id label dir)
new_holds old c id label dir = λ m h k. absurd (nothing_held id dir m h k)

nothing_below : (dir : Bool) (n : Name) → node_name (below_row (empty_content dir)) ≡ Some n → ⊥
nothing_below true n e = cc
nothing_below false n e = cc

-- a cache with a draft holds a new row: nothing is below it
pub holds_new : (old new : Shown) (id : FileId) (label : List ℕ) (dir : Bool) (d : Drafted) (c : Resident) → new (name.Entry id) ≡ None → Drafts old new d c → Holding old new (Some (new_row id.0 label dir)) d c
holds_new old new id label dir d c free p = beside_other old new None (Some (detached_row (new_row id.0 label dir))) d c p none_below (λ q n below. nothing_below dir n below.1) free

pub new_in_hand : (key : List ℕ) (met : List (List ℕ) → Seen) (d : Drafted) (c : Resident) (old new : Shown) (id folder : FileId) (label : List ℕ) (dir : Bool) (rows : List Row)
    → Pictured key met d c old new → IsNew id old new → HasRows new key folder rows → ListedInHand key folder (new_row id.0 label dir) d c old new rows
new_in_hand key met d c old new id folder label dir rows pic empty_content has = record {
  was = pic.was;
  rooted = empty_content.0.0;
  formed = empty_content.0.1;
  is = pic.is;
  hand = holds_new old new id label dir d c empty_content.1 pic.drafts;
  rows_are = has;
}

-- two ways to a path come to one
pub one_end : (key : List ℕ) (met : List (List ℕ) → Seen) (names : List (List ℕ)) (d : Drafted) (c : Resident) (old new : Shown) (dir : FileId) → IsDestination d c names (In dir) → Pictured key met d c old new
    → (folder above : FileId) → Resolves new key (parent names) (At folder above) → folder ≡ dir
one_end key met names d c old new dir place pic folder above r =
    let at = place.2 key met old new pic in
    at.one folder above r

-- what an insertion of a new row makes, and what it lacks
module _ (key : List ℕ) (d : Drafted) (c : Resident) (names : List (List ℕ)) (id dir : FileId) (isdir : Bool) (place : IsDestination d c names (In dir)) where
  pub makes : (e : Drafted) (node : EntryFields) → node ≡ new_entry id (last names) isdir
      → ((old new made : Shown) (x : Row) (rows : List Row) → ListedInHand key dir x d c old new rows → IsRowNode x node → HoldsTrue old c node → IsTree made → IsCountable made → Rearranges new made key dir rows (rows_with (is_row_before x.name) x rows) → Drafts old made e c)
      → (met : List (List ℕ) → Seen) (old new made : Shown) (folder above : FileId) (rows : List Row) → Pictured key met d c old new → IsNew id old new → Resolves new key (parent names) (At folder above) → HasRows new key folder rows → IsTree made → IsCountable made
      → Rearranges new made key folder rows (rows_with (is_row_before (last names)) (new_row id.0 (last names) isdir) rows) → Drafts old made e c
  makes e node is inserted met old new made folder above rows pic empty_content leads has tree countable arranges =
      let same = one_end key met names d c old new dir place pic folder above leads in
      let x = new_row id.0 (last names) isdir in
      inserted old new made x rows (new_in_hand key met d c old new id dir (last names) isdir rows pic empty_content (subst (λ i. HasRows new key i rows) same has))
      (subst (IsRowNode x) (sym is) (new_like id (last names) isdir)) (subst (HoldsTrue old c) (sym is) (new_holds old c id (last names) isdir)) tree countable
      (subst (λ i. Rearranges new made key i rows (rows_with (is_row_before (last names)) x rows)) same arranges)

  pub make_lacks : (label : List ℕ) (e : Short) → label ≡ last names → ((x : Row) → IsMetShort (ListedInHand key dir x d c) (along_name label key) d c dir e) → IsPathShort key (IsNew id) (IsOnTrail key names) d c e
  make_lacks label (Need n w) is short =
      let h = short (new_row id.0 (last names) isdir) in
      record {
        unset = h.unset;
        absent = h.absent;
        needed = λ old new met pic.
            let at = place.2 key met old new pic.0 in
            let k = h.needed old new at.rows (new_in_hand key met d c old new id dir (last names) isdir at.rows pic.0 pic.1 at.has) in
            (at.along at.rows n at.has (subst (λ l. IsMet dir (along_name l key at.rows) n) is k.0), k.1);
      }
  make_lacks label NoMemory is short = tt
