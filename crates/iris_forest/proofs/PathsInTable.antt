-- Paths meet in what a table shows what they meet in the table.
use Rattle.std.proofs.Common.{◌≡◌, ◌≢◌, ◌⊎◌, inl, inr, ℕ, List, [], ◌∷◌, Bool, true, false, cond, Option, Some, None, refl, sym, ◌∙◌, ap, subst}
use Rattle.std.specs.Str.{bytes_eq}
use Rattle.iris_name.specs.declared.name.FileId.{FileId}
use Rattle.iris_node.specs.Unfolded.{id_of}
use Rattle.iris_plain.specs.declared.checks.Seen.TheVariants.{ADirectory, AFile}
use Rattle.iris_shape.specs.Treap.{Each}
use Rattle.iris_treepaths.specs.Rows as tree
use Rattle.iris_treepaths.specs.Ways.{Any, IsNamed}
use Rattle.iris_paths.specs.declared.resolving.Found.{Found}
use Rattle.iris_paths.specs.declared.resolving.Found.TheVariants.{At, Missing, ThroughFile}
use Rattle.iris_paths.specs.Resolving.{Leads, here as leads_here, file as leads_file, none as leads_none, onward as leads_on, standing, standing_at, met_by}
use Rattle.iris_plain.specs.Routes.{parent}
use Rattle.iris_rows.specs.Rows.{File, Rows, End, Row, Table, Taken, Here, find, followed, entered, resolved}
use Rattle.iris_rows.specs.Changes.{seen_row}
use Rattle.iris_records.specs.Shown.{shown}
use Rattle.iris_rows.specs.Sound.{IsSound}
use Rattle.iris_rows.proofs.RowsByName.{same_tells}
use Rattle.iris_forest.specs.Places.{rows_of, DirectoryIn, FileIn, IsTableDirectory, IsTableFile, PathsMeet}
use Rattle.iris_forest.proofs.Ids.{taken_eq, missing_here, through_here}
use Rattle.iris_forest.proofs.RowsInTable.{file_owned, own_shown}
use Rattle.iris_forest.proofs.RowsOfDirectory.{folder_shown, have_rows}

-- a row stands among rows, or in a table
abbrev pub InBy : ℕ → Option File → Rows → Rows → Type 0
InBy id None inside rows = DirectoryIn id inside rows
InBy id (Some f) inside rows = FileIn id f rows

abbrev pub StandsBy : Table → ℕ → Option File → Rows → Type 0
StandsBy t id None inside = IsTableDirectory t id inside
StandsBy t id (Some f) inside = IsTableFile t id f

head_in : (id : ℕ) (name : List ℕ) (file : Option File) (inside next : Rows) → InBy id file inside (Row id name file inside next)
head_in id name None inside next = inl (refl, refl)
head_in id name (Some f) inside next = inl (refl, refl)

next_in : (i : ℕ) (kind : Option File) (inner : Rows) (id : ℕ) (name : List ℕ) (file : Option File) (inside next : Rows) → InBy i kind inner next → InBy i kind inner (Row id name file inside next)
next_in i None inner id name None inside next h = inr (inr h)
next_in i None inner id name (Some f) inside next h = h
next_in i (Some g) inner id name None inside next h = inr h
next_in i (Some g) inner id name (Some f) inside next h = inr h

inside_in : (i : ℕ) (kind : Option File) (inner : Rows) (id : ℕ) (name : List ℕ) (inside next : Rows) → InBy i kind inner inside → InBy i kind inner (Row id name None inside next)
inside_in i None inner id name inside next h = inr (inl h)
inside_in i (Some g) inner id name inside next h = inl h

-- the row that is found stands there
find_in : (n : List ℕ) (rows : Rows) (below : Taken) → find n rows ≡ Some below → InBy below.id below.file below.inside rows
find_in n End below e = absurd (cc)
find_in n (Row id name file inside next) below e = by (bytes_eq n name) e (λ h. find_in n next below h) where
  by : (b : Bool) → cond b (Some (record { id = id; file = file; inside = inside })) (find n next) ≡ Some below → (find n next ≡ Some below → InBy below.id below.file below.inside next) → InBy below.id below.file below.inside (Row id name file inside next)
  by true e ih = let h : record { id = id; file = file; inside = inside } ≡ below = cc in subst (λ (z : Taken). InBy z.id z.file z.inside (Row id name file inside next)) h (head_in id name file inside next)
  by false e ih = next_in below.id below.file below.inside id name file inside next (ih e)

-- what stands in a directory stands where that does
through : (i : ℕ) (inner rows : Rows) (j : ℕ) (kind : Option File) (inside : Rows) → DirectoryIn i inner rows → InBy j kind inside inner → InBy j kind inside rows
through i inner End j kind inside h g = absurd h
through i inner (Row id name None ins next) j kind inside h g = elim h [
  | inl a ↦ inside_in j kind inside id name ins next (subst (InBy j kind inside) a.1 g)
  | inr r ↦ elim r [
    | inl a ↦ inside_in j kind inside id name ins next (through i inner ins j kind inside a g)
    | inr a ↦ next_in j kind inside id name None ins next (through i inner next j kind inside a g)
  ]
]
through i inner (Row id name (Some f) ins next) j kind inside h g = next_in j kind inside id name (Some f) ins next (through i inner next j kind inside h g)

-- what names lead to stands among the rows
pub met_in : (n : List ℕ) (ns : List (List ℕ)) (from row : Taken) → resolved (n ∷ ns) from ≡ Here row → InBy row.id row.file row.inside from.inside
met_in n [] from row e = by from.file (find n from.inside) refl e where
  by : (file : Option File) (o : Option Taken) → find n from.inside ≡ o → entered file (followed o (λ below. Here below)) ≡ Here row → InBy row.id row.file row.inside from.inside
  by (Some f) o g e = absurd (through_here row e)
  by None None g e = absurd (missing_here row e)
  by None (Some below) g e = find_in n from.inside row (g ∙ ap Some (taken_eq below row e))
met_in n (m ∷ ms) from row e = by from.file (find n from.inside) refl e (λ below q. met_in m ms below row q) where
  inner : (below : Taken) (file : Option File) → InBy below.id file below.inside from.inside → entered file (followed (find m below.inside) (λ z. resolved ms z)) ≡ Here row → InBy row.id row.file row.inside below.inside → InBy row.id row.file row.inside from.inside
  inner below None g e h = through below.id below.inside from.inside row.id row.file row.inside g h
  inner below (Some f) g e h = absurd (through_here row e)

  by : (file : Option File) (o : Option Taken) → find n from.inside ≡ o → entered file (followed o (λ below. resolved (m ∷ ms) below)) ≡ Here row
      → ((below : Taken) → resolved (m ∷ ms) below ≡ Here row → InBy row.id row.file row.inside below.inside) → InBy row.id row.file row.inside from.inside
  by (Some f) o g e ih = absurd (through_here row e)
  by None None g e ih = absurd (missing_here row e)
  by None (Some below) g e ih = inner below below.file (find_in n from.inside below g) e (ih below e)

visible_stands : (t : Table) (j : ℕ) (kind : Option File) (inside : Rows) → InBy j kind inside t.visible → StandsBy t j kind inside
visible_stands t j None inside h = inr (inr (inl h))
visible_stands t j (Some f) inside h = inl h

trash_stands : (t : Table) (j : ℕ) (kind : Option File) (inside : Rows) → InBy j kind inside t.trash → StandsBy t j kind inside
trash_stands t j None inside h = inr (inr (inr h))
trash_stands t j (Some f) inside h = inr h

stands_below : (t : Table) (i : ℕ) (rows : Rows) (j : ℕ) (kind : Option File) (inside : Rows) → IsTableDirectory t i rows → InBy j kind inside rows → StandsBy t j kind inside
stands_below t i rows j kind inside h g = elim h [
  | inl a ↦ visible_stands t j kind inside (subst (InBy j kind inside) a.1 g)
  | inr r ↦ elim r [
    | inl a ↦ trash_stands t j kind inside (subst (InBy j kind inside) a.1 g)
    | inr q ↦ elim q [
      | inl a ↦ visible_stands t j kind inside (through i rows t.visible j kind inside a g)
      | inr a ↦ trash_stands t j kind inside (through i rows t.trash j kind inside a g)
    ]
  ]
]

-- ---- names

none_named : (order n : List ℕ) (rows : Rows) → find n rows ≡ None → IsNamed (rows_of order rows) n None
none_named order n End e = tt
none_named order n (Row id name file inside next) e = by (bytes_eq n name) e (same_tells n name) (λ h. none_named order n next h) where
  by : (b : Bool) → cond b (Some (record { id = id; file = file; inside = inside })) (find n next) ≡ None
      → ((b ≡ true) × (n ≡ name)) ⊎ ((b ≡ false) × (n ≢ name)) → (find n next ≡ None → Each (λ (r : tree.Row). r.name ≢ n) (rows_of order next)) → (name ≢ n) × Each (λ (r : tree.Row). r.name ≢ n) (rows_of order next)
  by true e h ih = absurd (cc)
  by false e h ih = elim h [ inl a ↦ absurd (let z = a.0 in cc) | inr a ↦ (λ q. a.1 (sym q), ih e) ]

some_named : (order n : List ℕ) (rows : Rows) (below : Taken) → find n rows ≡ Some below → IsNamed (rows_of order rows) n (Some below.id)
some_named order n End below e = absurd (cc)
some_named order n (Row id name file inside next) below e = by (bytes_eq n name) e (same_tells n name) (λ h. some_named order n next below h) where
  by : (b : Bool) → cond b (Some (record { id = id; file = file; inside = inside })) (find n next) ≡ Some below
      → ((b ≡ true) × (n ≡ name)) ⊎ ((b ≡ false) × (n ≢ name)) → (find n next ≡ Some below → Any (λ (r : tree.Row). (r.id ≡ below.id) × (r.name ≡ n)) (rows_of order next)) → ((id ≡ below.id) × (name ≡ n)) ⊎ Any (λ (r : tree.Row). (r.id ≡ below.id) × (r.name ≡ n)) (rows_of order next)
  by true e h ih = elim h [
    | inl a ↦ (let q : record { id = id; file = file; inside = inside } ≡ below = cc in inl (ap (λ (z : Taken). z.id) q, sym a.1))
    | inr a ↦ absurd (let z = a.0 in cc)
  ]
  by false e h ih = inr (ih e)

-- ---- going on by names

folder_stands : (order : List ℕ) (t : Table) (i : ℕ) (rows : Rows) → IsSound t → IsTableDirectory t i rows → standing_at (shown order t) (id_of i) ≡ ADirectory
folder_stands order t i rows s h = let f = folder_shown order t i rows s h in ap standing f.is

file_stands : (order : List ℕ) (t : Table) (i : ℕ) (f : File) → IsSound t → IsTableFile t i f → standing_at (shown order t) (id_of i) ≡ AFile f.size
file_stands order t i f s h = elim h [
  | inl a ↦ (let q = file_owned order i f t.visible a in let r = own_shown order t _ s (inl q.within) in ap standing r.shown_is)
  | inr a ↦ (let q = file_owned order i f t.trash a in let r = own_shown order t _ s (inr q.within) in ap standing r.shown_is)
]

-- where the names lead, and that this is met
pub record Meeting (order : List ℕ) (t : Table) (id : ℕ) (file : Option File) (inside : Rows) (parent : FileId) (names : List (List ℕ)) : Type 0 where
  pub found : Found
  pub leads : Leads (shown order t) order (id_of id) parent names found
  pub is : seen_row (resolved names (record { id = id; file = file; inside = inside })) ≡ met_by (shown order t) found

stands_here : (order : List ℕ) (t : Table) (id : ℕ) (file : Option File) (inside : Rows) → IsSound t → StandsBy t id file inside
    → seen_row (resolved [] (record { id = id; file = file; inside = inside })) ≡ standing_at (shown order t) (id_of id)
stands_here order t id None inside s h = sym (folder_stands order t id inside s h)
stands_here order t id (Some f) inside s h = sym (file_stands order t id f s h)

meeting : (order : List ℕ) (t : Table) (names : List (List ℕ)) (id : ℕ) (kind : Option File) (inside : Rows) (parent : FileId) → IsSound t → StandsBy t id kind inside → Meeting order t id kind inside parent names
meeting order t [] id kind inside parent s h = record { found = At (id_of id) parent; leads = leads_here (id_of id) parent; is = stands_here order t id kind inside s h }
meeting order t (n ∷ ns) id (Some f) inside parent s h =
    record { found = ThroughFile; leads = leads_file (id_of id) parent n ns f.size (file_stands order t id f s h); is = refl }
meeting order t (n ∷ ns) id None inside parent s h = by (find n inside) refl (λ below g. meeting order t ns below.id below.file below.inside (id_of id) s g) where
  has : tree.HasRows (shown order t) order (id_of id) (rows_of order inside)
  has = have_rows order t id inside s h

  lost : find n inside ≡ None → Meeting order t id None inside parent (n ∷ ns)
  lost e = record {
    found = Missing;
    leads = leads_none (id_of id) parent n ns (rows_of order inside) has (none_named order n inside e);
    is = ap (λ z. seen_row (followed z (λ below. resolved ns below))) e;
  }

  on : (below : Taken) → find n inside ≡ Some below → Meeting order t below.id below.file below.inside (id_of id) ns → Meeting order t id None inside parent (n ∷ ns)
  on below e m = record {
    found = m.found;
    leads = leads_on (id_of id) parent (id_of below.id) n ns (rows_of order inside) m.found has (some_named order n inside below e) m.leads;
    is = ap (λ z. seen_row (followed z (λ below. resolved ns below))) e ∙ m.is;
  }

  by : (o : Option Taken) → find n inside ≡ o → ((below : Taken) → StandsBy t below.id below.file below.inside → Meeting order t below.id below.file below.inside (id_of id) ns) → Meeting order t id None inside parent (n ∷ ns)
  by None e ih = lost e
  by (Some below) e ih = on below e (ih below (stands_below t id inside below.id below.file below.inside h (find_in n inside below e)))

pub paths_meet : PathsMeet
paths_meet order t s = (
  λ names. (let m = meeting order t names 0 None t.visible (id_of 0) s (inl (refl, refl)) in (m.found, m.leads, m.is)),
  folder_stands order t 0 t.visible s (inl (refl, refl)),
)

-- ---- where names lead that lead to a row

-- names that lead to a directory lead there in what is shown
pub record LeadsAt (order : List ℕ) (t : Table) (from row : Taken) (up : FileId) (names : List (List ℕ)) : Type 0 where
  pub above : FileId
  pub leads : Leads (shown order t) order (id_of from.id) up names (At (id_of row.id) above)
  pub stands : StandsBy t row.id row.file row.inside

pub leads_at : (order : List ℕ) (t : Table) (names : List (List ℕ)) (from row : Taken) (up : FileId) → IsSound t → StandsBy t from.id from.file from.inside → resolved names from ≡ Here row → LeadsAt order t from row up names
leads_at order t [] from row up s h e =
    subst (λ z. LeadsAt order t from z up []) (taken_eq from row e) (record { above = up; leads = leads_here (id_of from.id) up; stands = h })
leads_at order t (n ∷ ns) from row up s h e = by from.file h (find n from.inside) refl e (λ below g q. leads_at order t ns below row (id_of from.id) s g q) where
  by : (file : Option File) → StandsBy t from.id file from.inside → (o : Option Taken) → find n from.inside ≡ o → entered file (followed o (λ below. resolved ns below)) ≡ Here row
      → ((below : Taken) → StandsBy t below.id below.file below.inside → resolved ns below ≡ Here row → LeadsAt order t below row (id_of from.id) ns) → LeadsAt order t from row up (n ∷ ns)
  by (Some f) h o g e ih = absurd (cc)
  by None h None g e ih = absurd (cc)
  by None h (Some below) g e ih =
      let r = ih below (stands_below t from.id from.inside below.id below.file below.inside h (find_in n from.inside below g)) e in
      record {
        above = r.above;
        leads = leads_on (id_of from.id) up (id_of below.id) n ns (rows_of order from.inside) (At (id_of row.id) r.above) (have_rows order t from.id from.inside s h) (some_named order n from.inside below g) r.leads;
        stands = r.stands;
      }

-- a path leads to its row, in the directory at its parent
pub child_leads : (order : List ℕ) (t : Table) (n : List ℕ) (ns : List (List ℕ)) (from dir x : Taken) (up : FileId) → IsSound t → StandsBy t from.id from.file from.inside → resolved (parent (n ∷ ns)) from ≡ Here dir → resolved (n ∷ ns) from ≡ Here x
    → Leads (shown order t) order (id_of from.id) up (n ∷ ns) (At (id_of x.id) (id_of dir.id))
child_leads order t n [] from dir x up s h d e = subst (λ (z : Taken). Leads (shown order t) order (id_of from.id) up (n ∷ []) (At (id_of x.id) (id_of z.id))) (taken_eq from dir d) (by from.file h (find n from.inside) refl e) where
  by : (file : Option File) → StandsBy t from.id file from.inside → (o : Option Taken) → find n from.inside ≡ o → entered file (followed o (λ below. Here below)) ≡ Here x
      → Leads (shown order t) order (id_of from.id) up (n ∷ []) (At (id_of x.id) (id_of from.id))
  by (Some f) h o g e = absurd (cc)
  by None h None g e = absurd (cc)
  by None h (Some below) g e =
      subst (λ (z : Taken). Leads (shown order t) order (id_of from.id) up (n ∷ []) (At (id_of z.id) (id_of from.id))) (taken_eq below x e)
      (leads_on (id_of from.id) up (id_of below.id) n [] (rows_of order from.inside) (At (id_of below.id) (id_of from.id)) (have_rows order t from.id from.inside s h) (some_named order n from.inside below g) (leads_here (id_of below.id) (id_of from.id)))
child_leads order t n (m ∷ ms) from dir x up s h d e = by from.file h (find n from.inside) refl d e (λ below g q r. child_leads order t m ms below dir x (id_of from.id) s g q r) where
  by : (file : Option File) → StandsBy t from.id file from.inside → (o : Option Taken) → find n from.inside ≡ o → entered file (followed o (λ below. resolved (parent (m ∷ ms)) below)) ≡ Here dir
      → entered file (followed o (λ below. resolved (m ∷ ms) below)) ≡ Here x
      → ((below : Taken) → StandsBy t below.id below.file below.inside → resolved (parent (m ∷ ms)) below ≡ Here dir → resolved (m ∷ ms) below ≡ Here x → Leads (shown order t) order (id_of below.id) (id_of from.id) (m ∷ ms) (At (id_of x.id) (id_of dir.id)))
      → Leads (shown order t) order (id_of from.id) up (n ∷ m ∷ ms) (At (id_of x.id) (id_of dir.id))
  by (Some f) h o g d e ih = absurd (cc)
  by None h None g d e ih = absurd (cc)
  by None h (Some below) g d e ih =
      leads_on (id_of from.id) up (id_of below.id) n (m ∷ ms) (rows_of order from.inside) (At (id_of x.id) (id_of dir.id)) (have_rows order t from.id from.inside s h) (some_named order n from.inside below g)
      (ih below (stands_below t from.id from.inside below.id below.file below.inside h (find_in n from.inside below g)) d e)
