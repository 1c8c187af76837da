-- The file at a path of a table that a cache shows.
use Rattle.std.proofs.Common.{◌≡◌, ℕ, List, Option, Some, None, refl, sym, ◌∙◌, ap, subst, inl}
use Rattle.iris_blocks.specs.Paged.{Paged}
use Rattle.iris_cache.specs.Drafted.{Drafted, seen}
use Rattle.iris_cache.specs.Resident.{Resident}
use Rattle.iris_file_rules.specs.Reach.{IsFileAt}
use Rattle.iris_forest.specs.Places.{IsTableFile}
use Rattle.iris_forest.proofs.PathsInTable.{leads_at}
use Rattle.iris_name.specs.declared.name.FileId.{FileId}
use Rattle.iris_name.specs.declared.name.Name.TheVariants as name
use Rattle.iris_node.specs.declared.node.Body.{Body}
use Rattle.iris_node.specs.declared.node.Body.TheVariants as body
use Rattle.iris_node.specs.declared.node.Node.{Node}
use Rattle.iris_node.specs.declared.node.Node.TheVariants as node
use Rattle.iris_node.specs.Rules.{IsFileBody}
use Rattle.iris_node.specs.Trees.{Shown}
use Rattle.iris_node.specs.Unfolded.{id_of}
use Rattle.iris_paths.specs.declared.resolving.Found.{Found as Come}
use Rattle.iris_paths.specs.declared.resolving.Found.TheVariants.{At}
use Rattle.iris_paths.specs.Following.{standing_seen, standing_node, standing_body, met_seen}
use Rattle.iris_paths.specs.Pictured.{Pictured}
use Rattle.iris_paths.specs.Resolving.{Resolves, standing_at, met_by}
use Rattle.iris_plain.specs.declared.checks.Seen.{Seen}
use Rattle.iris_plain.specs.declared.checks.Seen.TheVariants.{AFile}
use Rattle.iris_plan_laws.specs.Begun.{IsAtFile}
use Rattle.iris_records.specs.Shown.{shown}
use Rattle.iris_requests.specs.declared.planned.Counters.{Counters}
use Rattle.iris_requests.specs.Planned.{IsShownBy}
use Rattle.iris_requests.proofs.ShownTables.{no_changes, paths_pictured}
use Rattle.iris_rows.specs.Changes.{seen_in, seen_row, seen_file}
use Rattle.iris_rows.specs.Rows.{File, Rows, Table, Taken, Found, Here, Missing, Through, met, root_row}
use Rattle.iris_version_tree.specs.Needs.{IsFile, IsFileNode}
use Rattle.iris_name.specs.Paths.{names_of}

-- ---- what is seen of it

-- a node that is seen as a file is a file's entry
file_body : (b : Body) (size : ℕ) → standing_body b ≡ AFile size → IsFileBody b
file_body (body.Dir top) size e = absurd (cc)
file_body (body.File s k v) size e = tt

file_node : (o : Option Node) (size : ℕ) → standing_seen o ≡ AFile size → IsFileNode o
file_node None size e = absurd (cc)
file_node (Some (node.Part p)) size e = absurd (cc)
file_node (Some (node.Entry n)) size e = file_body n.body size e

-- where a file is seen, resolving came to its entry
pub sees_file : (d : Drafted) (c : Resident) (id dir : FileId) (size : ℕ) → met_seen d c (At id dir) ≡ AFile size → IsFile d c id
sees_file d c id dir size e = file_node (seen d c (name.Entry id)) size e

-- ---- the row at a path

-- A file stands at names of a table: its row, and that what resolving came to is it.
pub record StandsAt (order : List ℕ) (t : Table) (names : List (List ℕ)) (id : FileId) (size : ℕ) : Type 0 where
  pub i : ℕ
  pub f : File
  pub inside : Rows
  pub is : id ≡ id_of i
  pub leads : met t names ≡ Here (record { id = i; file = Some f; inside = inside })
  pub stands : IsTableFile t i f
  pub sized : f.size ≡ size
  pub at : IsFileAt (shown order t) order names (id_of i) size

file_row : (row : Taken) (size : ℕ) → seen_file row.file ≡ AFile size → (f : File) × (row.file ≡ Some f) × (f.size ≡ size)
file_row row size e = by row.file e where
  sized : (a b : ℕ) → AFile a ≡ AFile b → a ≡ b
  sized a b e = cc

  by : (file : Option File) → seen_file file ≡ AFile size → (f : File) × (file ≡ Some f) × (f.size ≡ size)
  by None e = absurd (cc)
  by (Some f) e = (f, refl, sized f.size size e)

file_met : (found : Found) (size : ℕ) → seen_row found ≡ AFile size → (row : Taken) × (found ≡ Here row) × (seen_file row.file ≡ AFile size)
file_met (Here row) size e = (row, refl, e)
file_met Missing size e = absurd (cc)
file_met Through size e = absurd (cc)

same_id : (a b c d : FileId) → At a b ≡ At c d → c ≡ a
same_id a b c d e = cc

module _ (order : List ℕ) (t : Table) (c : Resident) (b : Paged) (k : Counters) (s : IsShownBy order t c b k) where
  file_stands : (names : List (List ℕ)) (id dir : FileId) (size : ℕ) → Resolves (shown order t) order names (At id dir) → ((other : Come) → Resolves (shown order t) order names other → other ≡ At id dir)
      → seen_in t names ≡ AFile size → StandsAt order t names id size
  file_stands names id dir size leads one sees =
      let m = file_met (met t names) size sees in
      let row = m.0 in
      let f = file_row row size m.2 in
      let here : met t names ≡ Here (record { id = row.id; file = Some f.0; inside = row.inside }) = m.1 ∙ ap (λ z. Here (record { id = row.id; file = z; inside = row.inside })) f.1 in
      let l = leads_at order t names (root_row t) (record { id = row.id; file = Some f.0; inside = row.inside }) (id_of 0) s.sound (inl (refl, refl)) here in
      let is = same_id (id_of row.id) l.above id dir (one (At (id_of row.id) l.above) l.leads) in
      let come = (paths_pictured order t c b k s no_changes refl).meets names in
      record {
        i = row.id;
        f = f.0;
        inside = row.inside;
        is = is;
        leads = here;
        stands = l.stands;
        sized = f.2;
        at = record {
          dir = dir;
          leads = subst (λ j. Resolves (shown order t) order names (At j dir)) is leads;
          file = subst (λ j. standing_at (shown order t) j ≡ AFile size) is
              (sym (ap (met_by (shown order t)) (one come.0 come.1)) ∙ (sym come.2 ∙ sees));
        };
      }

  -- so it is where a look at a path finds a file
  pub looked_file : (d : Drafted) (none : d ≡ no_changes) (names : List (List ℕ)) (found : Come) (here : Seen) (id dir : FileId) (size : ℕ)
      → ((key : List ℕ) (met : List (List ℕ) → Seen) (old new : Shown) → Pictured key met d c old new → Resolves new key names found)
      → ((key : List ℕ) (met : List (List ℕ) → Seen) (old new : Shown) → Pictured key met d c old new → (other : Come) → Resolves new key names other → other ≡ found)
      → ((key : List ℕ) (met : List (List ℕ) → Seen) (old new : Shown) → Pictured key met d c old new → met names ≡ here)
      → found ≡ At id dir → here ≡ AFile size → StandsAt order t names id size
  looked_file d none names found here id dir size comes one sees is sized =
      let pic = paths_pictured order t c b k s d none in
      let u = shown order t in
      file_stands names id dir size (subst (Resolves u order names) is (comes order (seen_in t) u u pic)) (λ other l. one order (seen_in t) u u pic other l ∙ is) (sees order (seen_in t) u u pic ∙ sized)

-- in the words of the laws of writing and cutting
pub at_file : (order : List ℕ) (t : Table) (path : List ℕ) (names : List (List ℕ)) (id : FileId) (size : ℕ) → names_of path ≡ Some names → (s : StandsAt order t names id size) → IsAtFile t path s.i s.f
at_file order t path names id size e s = record { names = names; spelled = e; inside = s.inside; leads = s.leads }
