-- A row taken out of a directory, and put into another.
use Rattle.std.proofs.Common.{◌≡◌, ◌⊎◌, inl, inr, ℕ, ◌+◌, ◌≤◌, List, [], ◌∷◌, Bool, true, false, ◌&&◌, cond, Option, Some, None, refl, sym, ◌∙◌, ap, subst, arith}
use Rattle.std.specs.Prelude.{◌==◌, nat_le, nat_lt}
use Rattle.std.specs.Option.{option_map}
use Rattle.std.specs.Str.{bytes_eq}
use Rattle.std.proofs.lemmas.Bool.{cases_lt, eqb-true}
use Rattle.std.proofs.lemmas.Bool.Decides.{nat_tests}
use Rattle.iris_name.specs.declared.name.FileId.{FileId}
use Rattle.iris_name.specs.declared.name.Name.{Name}
use Rattle.iris_name.specs.declared.name.Name.TheVariants.{Entry, Part, Block}
use Rattle.iris_node.specs.Unfolded.{id_of}
use Rattle.iris_plain.specs.Routes.{is_name_before as name_before}
use Rattle.iris_shape.specs.Local.{either}
use Rattle.iris_shape.specs.Treap.{rows_with as tree_put}
use Rattle.iris_treepaths.specs.Rows.{has_id, IsElsewhere, Rearranges}
use Rattle.iris_treepaths.specs.Rows as tree
use Rattle.iris_treepaths.specs.Ways.{is_row_before}
use Rattle.iris_paths.specs.Moving.{renamed_row}
use Rattle.iris_rows.specs.Rows.{File, Rows, End, Row, Table, Taken, root_row, find, with_row, without_row, at}
use Rattle.iris_records.specs.Shown.{directory, in_directory, in_file, inside_rows, root_entry, trash_entry, shown}
use Rattle.iris_rows.specs.Sound.{times_given}
use Rattle.iris_table_laws.proofs.NamesByNumber.{number}
use Rattle.iris_forest.specs.Hands.{IsHeld}
use Rattle.iris_forest.specs.Places.{LeadsToDirectory, rows_of, IsTableDirectory}
use Rattle.iris_forest.proofs.Ids.{one_of, at_most, given, either_first, either_last, taken_eq}
use Rattle.iris_forest.proofs.NamesElsewhere.{elsewhere, not_there}
use Rattle.iris_forest.proofs.RowsInTable.{directory_times}
use Rattle.iris_forest.proofs.NamesNowhere.{inside_none, below_none, shown_rows}
use Rattle.iris_forest.proofs.RowsOfDirectory.{arranged_same, held_rows, level, times_parts}
use Rattle.iris_plan_laws.specs.Blocks.{SameBlocks}
use Rattle.iris_plan_laws.specs.Takes.{tree_row, TakesOut, PutsIn, TakesAreRows, PutsAreRows}
use Rattle.iris_plan_laws.proofs.DirectoryById.{redir, redir_none, redir_in, lead_in, path_redirs, fi, fi_keeps, fi_rows, fi_shown}
use Rattle.iris_plan_laws.proofs.MappedShown.{same_block}
use Rattle.iris_plan_laws.proofs.NewRow.{Place, place, kept, put_rows, still_there}
use Rattle.iris_plan_laws.proofs.RowByName.{RowAt, alone, row_times, row_insides, find_row, row_through, put_row, tops_has, rows_of_without, went, any_found, found_has, put_has}

-- a row, and those after it
head_split : (order : List ℕ) (m : Name) (id : ℕ) (name other : List ℕ) (file : Option File) (inside next : Rows) → inside_rows order m (Row id name file inside next) ≡ either (inside_rows order m (Row id other file inside End)) (inside_rows order m next)
head_split order m id name other None inside next = ap (λ z. either z (inside_rows order m next)) (sym (either_last (either (in_directory m (directory order inside)) (inside_rows order m inside)) None refl))
head_split order m id name other (Some f) inside next = ap (λ z. either z (inside_rows order m next)) (sym (either_last (in_file m id f) None refl))

module _ (order : List ℕ) (m : Name) (k : ℕ) (kind : Option File) (ins : Rows) (other : m ≡ Entry (id_of k) → ⊥) (counts : 1 ≤ times_given (number m) (alone k kind ins)) where
  -- what counts in a row but isn't the row itself isn't an entry beside it
  not_beside : (rows : Rows) → RowAt k kind ins rows → times_given (number m) rows ≤ 1 → in_directory m (directory order rows) ≡ None
  not_beside rows h o = by m other counts o where
    off : (j : FileId) → (Entry j ≡ Entry (id_of k) → ⊥) → cond (j.0 == k) 1 0 ≤ 0
    off j n = by (j.0 == k) refl where
      by : (b : Bool) → (j.0 == k) ≡ b → cond b 1 0 ≤ 0
      by true e = absurd (n (ap (λ z. Entry (id_of z)) (eqb-true j.0 k e)))
      by false e = omega arith

    by : (m : Name) → (m ≡ Entry (id_of k) → ⊥) → 1 ≤ times_given (number m) (alone k kind ins) → times_given (number m) rows ≤ 1 → in_directory m (directory order rows) ≡ None
    by (Entry j) n c o =
        let z = off j n in let i = row_insides j.0 k kind ins rows h in let p = times_parts j.0 rows in
        not_there order j.0 rows (tops_has order j.0 rows (omega (arith, c, z, i, p, o)))
    by (Part f l i) n c o = refl
    by (Block f p) n c o = refl

  -- it is found in the row alone
  found_in : (rows : Rows) → RowAt k kind ins rows → times_given (number m) rows ≤ 1 → inside_rows order m rows ≡ inside_rows order m (alone k kind ins)
  found_in End h o = absurd h
  found_in (Row id name file inside next) h o = elim h [
    | inl a ↦ (let x = row_times (number m) k kind ins (Row id name file inside End) (inl a) in
        head_split order m id name [] file inside next ∙ either_last (inside_rows order m (Row id [] file inside End)) (inside_rows order m next) (inside_none order m next (omega (arith, counts, x, o)))
        ∙ sym (ap (λ z. inside_rows order m (Row z [] kind ins End)) a.0 ∙ ap (λ z. inside_rows order m (Row id [] z ins End)) a.1 ∙ ap (λ z. inside_rows order m (Row id [] file z End)) a.2))
    | inr r ↦ elim r [
      | inl a ↦ (let x = row_times (number m) k kind ins inside a.1 in
          ap (λ z. inside_rows order m (Row id name z inside next)) a.0
          ∙ either_last (either (in_directory m (directory order inside)) (inside_rows order m inside)) (inside_rows order m next) (inside_none order m next (omega (arith, counts, x, o)))
          ∙ either_first (in_directory m (directory order inside)) (inside_rows order m inside) (not_beside inside a.1 (omega (arith, o)))
          ∙ found_in inside a.1 (omega (arith, o)))
      | inr a ↦ (let x = row_times (number m) k kind ins next a in
          head_split order m id name [] file inside next ∙ either_first (inside_rows order m (Row id [] file inside End)) (inside_rows order m next) (inside_none order m (Row id [] file inside End) (omega (arith, counts, x, o)))
          ∙ found_in next a (omega (arith, o)))
    ]
  ]

-- ---- a table with a row in hand

all_once : (t : Table) (i : ℕ) → IsHeld t → times_given i t.visible + (times_given i t.trash + times_given i t.hand) ≤ 1
all_once t i s = at_most (times_given i t.visible + (times_given i t.trash + times_given i t.hand)) _ (s.once i)

big : (t : Table) (m : Name) → IsHeld t → 1 ≤ times_given (number m) t.visible + (times_given (number m) t.trash + times_given (number m) t.hand) → 2 ≤ number m
big t m s c = given (number m) t.next (times_given (number m) t.visible + (times_given (number m) t.trash + times_given (number m) t.hand)) c (s.once (number m))

-- what counts in hand
shown_hand : (order : List ℕ) (t : Table) (m : Name) → IsHeld t → 1 ≤ times_given (number m) t.hand → shown order t m ≡ inside_rows order m t.hand
shown_hand order t m s c =
    let o = all_once t (number m) s in
    shown_rows order t m (big t m s (omega (arith, c)))
    ∙ either_first _ _ (below_none order m t.visible (omega (arith, o, c))) ∙ either_first _ _ (below_none order m t.trash (omega (arith, o, c)))

-- what counts in a row that stands in a directory
shown_row : (order : List ℕ) (t : Table) (m : Name) (k : ℕ) (kind : Option File) (ins : Rows) → IsHeld t → (m ≡ Entry (id_of k) → ⊥) → 1 ≤ times_given (number m) (alone k kind ins) → RowAt k kind ins t.visible
    → shown order t m ≡ inside_rows order m (alone k kind ins)
shown_row order t m k kind ins s n c r =
    let o = all_once t (number m) s in
    let x = row_times (number m) k kind ins t.visible r in
    let trash = below_none order m t.trash (omega (arith, o, c, x)) in
    let hand = inside_none order m t.hand (omega (arith, o, c, x)) in
    shown_rows order t m (big t m s (omega (arith, c, x)))
    ∙ either_last _ _ (either_first _ _ trash ∙ hand)
    ∙ either_first _ _ (not_beside order m k kind ins n c t.visible r (omega (arith, o))) ∙ found_in order m k kind ins n c t.visible r (omega (arith, o))

-- a table with nothing in hand
abbrev handless : Table → Table
handless t = record { visible = t.visible; trash = t.trash; hand = End; next = t.next; age = t.age }

handless_held : (t : Table) → IsHeld t → IsHeld (handless t)
handless_held t s = record {
  once = λ i. (let o = s.once i in omega (arith, o));
  ordered = s.ordered;
  trash_ordered = s.trash_ordered;
  short = s.short;
  trash_short = s.trash_short;
  hand_short = tt;
  few = let f = s.few in omega (arith, f);
}

shown_handless : (order : List ℕ) (t : Table) (m : Name) → inside_rows order m t.hand ≡ None → shown order t m ≡ shown order (handless t) m
unfolding shown
shown_handless order t m e =
    ap (λ z. either (in_directory m (root_entry order t)) (either (in_directory m (trash_entry order t)) (either (either (in_directory m (directory order t.visible)) (inside_rows order m t.visible)) (either (either (in_directory m (directory order t.trash)) (inside_rows order m t.trash)) z)))) e

-- a directory that doesn't stand in a row changes nothing there
row_stays : (order : List ℕ) (i : ℕ) (new : Rows) (m : Name) (rows : Rows) → times_given i rows ≤ 0 → inside_rows order m rows ≡ option_map (fi order i new) (inside_rows order m rows)
row_stays order i new m rows z =
    sym (ap (inside_rows order m) (redir_none i new rows z)) ∙ fi_rows order i new m rows (λ y g. absurd (let c = directory_times i y rows g in omega (arith, c, z)))

few_or : (a : ℕ) → (a ≤ 0) ⊎ (1 ≤ a)
few_or a = elim (cases_lt 0 a) [ inl x ↦ inr (omega (arith, x)) | inr x ↦ inl x ]

-- what is left finds the same, but for the row
left_finds : (order : List ℕ) (m : Name) (n : List ℕ) (rows : Rows) (x : Taken) → find n rows ≡ Some x → times_given (number m) (alone x.id x.file x.inside) ≤ 0 → inside_rows order m (without_row n rows) ≡ inside_rows order m rows
left_finds order m n End x e z = absurd (cc)
left_finds order m n (Row id name file inside next) x e z = by (bytes_eq n name) e (λ g. left_finds order m n next x g z) where
  by : (b : Bool) → cond b (Some (record { id = id; file = file; inside = inside })) (find n next) ≡ Some x → (find n next ≡ Some x → inside_rows order m (without_row n next) ≡ inside_rows order m next)
      → inside_rows order m (cond b next (Row id name file inside (without_row n next))) ≡ inside_rows order m (Row id name file inside next)
  by true e ih =
      let q : x ≡ record { id = id; file = file; inside = inside } = sym (let w : record { id = id; file = file; inside = inside } ≡ x = cc in w) in
      let y : times_given (number m) (alone id file inside) ≤ 0 = subst (λ (v : Taken). times_given (number m) (alone v.id v.file v.inside) ≤ 0) q z in
      sym (head_split order m id name [] file inside next ∙ either_first _ _ (inside_none order m (alone id file inside) y))
  by false e ih =
      head_split order m id name [] file inside (without_row n next) ∙ ap (either (inside_rows order m (Row id [] file inside End))) (ih e) ∙ sym (head_split order m id name [] file inside next)

-- a row more that finds nothing
more_finds : (order : List ℕ) (m : Name) (n : List ℕ) (x : Taken) (rows : Rows) → times_given (number m) (alone x.id x.file x.inside) ≤ 0 → inside_rows order m (with_row n x rows) ≡ inside_rows order m rows
more_finds order m n x End z = head_split order m x.id n [] x.file x.inside End ∙ either_first _ _ (inside_none order m (alone x.id x.file x.inside) z)
more_finds order m n x (Row id name file inside next) z = by (name_before n name) (more_finds order m n x next z) where
  by : (b : Bool) → inside_rows order m (with_row n x next) ≡ inside_rows order m next → inside_rows order m (cond b (Row x.id n x.file x.inside (Row id name file inside next)) (Row id name file inside (with_row n x next))) ≡ inside_rows order m (Row id name file inside next)
  by true ih = head_split order m x.id n [] x.file x.inside (Row id name file inside next) ∙ either_first _ _ (inside_none order m (alone x.id x.file x.inside) z)
  by false ih =
      head_split order m id name [] file inside (with_row n x next) ∙ ap (either (inside_rows order m (Row id [] file inside End))) ih ∙ sym (head_split order m id name [] file inside next)

-- ---- where the directory at a path stands

pub folder_of : (t : Table) (names : List (List ℕ)) (i : ℕ) (inner : Rows) → LeadsToDirectory t names i inner → IsTableDirectory t i inner
folder_of t [] i inner e =
    let q = taken_eq (root_row t) (record { id = i; file = None; inside = inner }) e in inl (sym (ap (λ (z : Taken). z.id) q), sym (ap (λ (z : Taken). z.inside) q))
folder_of t (n ∷ ns) i inner e = inr (inr (inl (lead_in n ns t.visible i inner e)))

entry_alone : (order : List ℕ) (k : ℕ) (kind : Option File) (ins : Rows) → times_given k ins ≤ 0 → inside_rows order (Entry (id_of k)) (alone k kind ins) ≡ None
entry_alone order k None ins z = either_last _ _ refl ∙ below_none order (Entry (id_of k)) ins z
entry_alone order k (Some f) ins z = refl

row_visible : (t : Table) (names : List (List ℕ)) (i : ℕ) (inner : Rows) (k : ℕ) (kind : Option File) (ins : Rows) → LeadsToDirectory t names i inner → RowAt k kind ins inner → RowAt k kind ins t.visible
row_visible t [] i inner k kind ins e r = let q = taken_eq (root_row t) (record { id = i; file = None; inside = inner }) e in subst (RowAt k kind ins) (sym (ap (λ (z : Taken). z.inside) q)) r
row_visible t (n ∷ ns) i inner k kind ins e r = row_through i inner t.visible k kind ins (lead_in n ns t.visible i inner e) r

row_placed : (t u : Table) (change : Rows → Rows) (names : List (List ℕ)) (i : ℕ) (inner : Rows) (k : ℕ) (kind : Option File) (ins : Rows) → IsHeld t → LeadsToDirectory t names i inner
    → u.visible ≡ at names change t.visible → RowAt k kind ins (change inner) → RowAt k kind ins u.visible
row_placed t u change [] i inner k kind ins s e v r =
    let q = taken_eq (root_row t) (record { id = i; file = None; inside = inner }) e in
    subst (RowAt k kind ins) (sym (v ∙ ap (λ (z : Taken). change z.inside) q)) r
row_placed t u change (n ∷ ns) i inner k kind ins s e v r =
    let f = lead_in n ns t.visible i inner e in
    let o : times_given i t.visible ≤ 1 = (let a = all_once t i s in omega (arith, a)) in
    subst (RowAt k kind ins) (sym (v ∙ path_redirs change n ns t.visible i inner e o))
    (row_through i (change inner) (redir i (change inner) t.visible) k kind ins (redir_in i inner (change inner) t.visible f o) r)

-- a directory's id doesn't count in hand
not_in_hand : (t : Table) (names : List (List ℕ)) (i : ℕ) (inner : Rows) → IsHeld t → LeadsToDirectory t names i inner → times_given i t.hand ≤ 0
not_in_hand t [] i inner s e =
    let q = taken_eq (root_row t) (record { id = i; file = None; inside = inner }) e in
    subst (λ z. times_given z t.hand ≤ 0) (ap (λ (z : Taken). z.id) q) (zero (nat_le 2 0) refl (nat_lt 0 t.next) (s.once 0)) where
      zero : (a : Bool) → nat_le 2 0 ≡ a → (b : Bool) → times_given 0 t.visible + (times_given 0 t.trash + times_given 0 t.hand) ≤ cond (a && b) 1 0 → times_given 0 t.hand ≤ 0
      zero true e b h = absurd (let k : 2 ≤ 0 = grind (arith, nat_tests) in omega (arith, k))
      zero false e b h = omega (arith, h)
not_in_hand t (n ∷ ns) i inner s e = let c = directory_times i inner t.visible (lead_in n ns t.visible i inner e) in let o = all_once t i s in omega (arith, c, o)

-- ---- taking out

hand_finds : (order : List ℕ) (m : Name) (k : ℕ) (n : List ℕ) (kind : Option File) (ins hand : Rows) → hand ≡ Row k n kind ins End → inside_rows order m hand ≡ inside_rows order m (alone k kind ins)
hand_finds order m k n kind ins hand e = ap (inside_rows order m) e ∙ head_split order m k n [] kind ins End ∙ either_last (inside_rows order m (alone k kind ins)) None refl

-- an id that stands among rows isn't elsewhere
not_self : (m : Name) (k : ℕ) (a b : List tree.Row) → IsElsewhere a b m → (has_id k a ≡ true) ⊎ (has_id k b ≡ true) → m ≡ Entry (id_of k) → ⊥
not_self m k a b o h e = by (subst (IsElsewhere a b) e o) h where
  by : (has_id k a ≡ false) × (has_id k b ≡ false) → (has_id k a ≡ true) ⊎ (has_id k b ≡ true) → ⊥
  by o h = elim h [ inl x ↦ (let y = sym o.0 ∙ x in cc) | inr x ↦ (let y = sym o.1 ∙ x in cc) ]

not_block : (file : FileId) (p k : ℕ) → Block file p ≡ Entry (id_of k) → ⊥
not_block file p k e = cc

module _ (order : List ℕ) (t u : Table) (names : List (List ℕ)) (n : List ℕ) (i : ℕ) (inner : Rows) (x : Taken) (h : TakesOut t u names n i inner x) where
  at_place : Place t (handless u) i inner (without_row n inner)
  at_place = place t (handless u) (without_row n) names i inner h.was h.empty h.leads h.visible h.trash (sym h.empty)

  stands : RowAt x.id x.file x.inside inner
  stands = find_row n inner x h.named

  in_hand_is : (m : Name) → inside_rows order m u.hand ≡ inside_rows order m (alone x.id x.file x.inside)
  in_hand_is m = hand_finds order m x.id n x.file x.inside u.hand h.hand

  hand_times : (j : ℕ) → times_given j u.hand ≡ times_given j (alone x.id x.file x.inside)
  hand_times j = ap (times_given j) h.hand

  gone : (j : FileId) → j.0 ≡ x.id → shown order u (Entry j) ≡ None
  gone j q = subst (λ z. shown order u (Entry (id_of z)) ≡ None) (sym q) (
      shown_hand order u (Entry (id_of x.id)) h.is (let a = hand_times x.id in let d = one_of x.id x.id refl in omega (arith, a, d)) ∙ in_hand_is (Entry (id_of x.id))
      ∙ entry_alone order x.id x.file x.inside (let a = hand_times x.id in let o = all_once u x.id h.is in let d = one_of x.id x.id refl in omega (arith, a, o, d)))

  -- what isn't an entry of the directory
  others : (m : Name) → in_directory m (directory order inner) ≡ None → in_directory m (directory order (without_row n inner)) ≡ None → (m ≡ Entry (id_of x.id) → ⊥)
      → (times_given (number m) (alone x.id x.file x.inside) ≤ 0) ⊎ (1 ≤ times_given (number m) (alone x.id x.file x.inside)) → shown order u m ≡ option_map (fi order i (without_row n inner)) (shown order t m)
  others m a b o (inl z) =
      shown_handless order u m (in_hand_is m ∙ inside_none order m (alone x.id x.file x.inside) z)
      ∙ fi_shown order i (without_row n inner) t (handless u) m at_place.visible at_place.trash at_place.hand (kept order t (handless u) i inner (without_row n inner) m at_place a b (left_finds order m n inner x h.named z))
  others m a b o (inr d) =
      let y = shown_row order t m x.id x.file x.inside h.was o d (row_visible t names i inner x.id x.file x.inside h.leads stands) in
      let w : times_given i (alone x.id x.file x.inside) ≤ 0 = (let q = at_place.none in let a = row_times i x.id x.file x.inside inner stands in omega (arith, q, a)) in
      shown_hand order u m h.is (let a = hand_times (number m) in omega (arith, a, d)) ∙ in_hand_is m
      ∙ row_stays order i (without_row n inner) m (alone x.id x.file x.inside) w ∙ ap (option_map (fi order i (without_row n inner))) (sym y)

  taken_rows : Rearranges (shown order t) (shown order u) order (id_of i) (rows_of order inner) (rows_of order (without_row n inner))
  taken_rows = record {
    rows = held_rows order u i (without_row n inner) h.is at_place.folder;
    gone = λ j has hasnt. gone j (went order n j.0 inner x h.named has hasnt);
    others = λ m o. (let w = elsewhere order m inner (without_row n inner) o in
        others m w.0 w.1 (not_self m x.id (rows_of order inner) (rows_of order (without_row n inner)) o (inl (found_has order n inner x h.named))) (few_or (times_given (number m) (alone x.id x.file x.inside)))
        ∙ ap (λ w. option_map (tree.refilled i w) (shown order t m)) (sym (arranged_same order (without_row n inner))));
  }

  pub taken_blocks : SameBlocks (shown order t) (shown order u)
  taken_blocks file p =
      same_block (fi order i (without_row n inner)) (fi_keeps order i (without_row n inner)) order t u file p
      (others (Block file p) refl refl (not_block file p x.id) (few_or (times_given file.0 (alone x.id x.file x.inside))))

pub takes_are_rows : TakesAreRows
takes_are_rows order t u names n i inner x h = (
  any_found order n inner x h.named,
  subst (Rearranges (shown order t) (shown order u) order (id_of i) (rows_of order inner)) (rows_of_without order n inner (level t i inner h.was (folder_of t names i inner h.leads)).rises)
      (taken_rows order t u names n i inner x h),
)

-- ---- putting in

tree_row_renamed : (order label n : List ℕ) (x : Taken) → tree_row order label x ≡ renamed_row label (tree_row order n x)
tree_row_renamed order label n x = by x.file where
  by : (file : Option File) → tree_row order label (record { id = x.id; file = file; inside = x.inside }) ≡ renamed_row label (tree_row order n (record { id = x.id; file = file; inside = x.inside }))
  by None = refl
  by (Some f) = refl

module _ (order : List ℕ) (t u : Table) (names : List (List ℕ)) (n label : List ℕ) (i : ℕ) (inner : Rows) (x : Taken) (h : PutsIn t u names n label i inner x) where
  put_place : Place (handless t) u i inner (with_row label x inner)
  put_place = place (handless t) u (with_row label x) names i inner (handless_held t h.was) refl h.leads h.visible h.trash h.empty

  was_hand : (m : Name) → inside_rows order m t.hand ≡ inside_rows order m (alone x.id x.file x.inside)
  was_hand m = hand_finds order m x.id n x.file x.inside t.hand h.hand

  was_times : (j : ℕ) → times_given j t.hand ≡ times_given j (alone x.id x.file x.inside)
  was_times j = ap (times_given j) h.hand

  beyond : (m : Name) → in_directory m (directory order inner) ≡ None → in_directory m (directory order (with_row label x inner)) ≡ None → (m ≡ Entry (id_of x.id) → ⊥)
      → (times_given (number m) (alone x.id x.file x.inside) ≤ 0) ⊎ (1 ≤ times_given (number m) (alone x.id x.file x.inside)) → shown order u m ≡ option_map (fi order i (with_row label x inner)) (shown order t m)
  beyond m a b o (inl z) =
      fi_shown order i (with_row label x inner) (handless t) u m put_place.visible put_place.trash put_place.hand (kept order (handless t) u i inner (with_row label x inner) m put_place a b (more_finds order m label x inner z))
      ∙ ap (option_map (fi order i (with_row label x inner))) (sym (shown_handless order t m (was_hand m ∙ inside_none order m (alone x.id x.file x.inside) z)))
  beyond m a b o (inr d) =
      let y = shown_hand order t m h.was (let a = was_times (number m) in omega (arith, a, d)) ∙ was_hand m in
      let w : times_given i (alone x.id x.file x.inside) ≤ 0 = (let q = not_in_hand t names i inner h.was h.leads in let a = was_times i in omega (arith, q, a)) in
      shown_row order u m x.id x.file x.inside h.is o d (row_placed t u (with_row label x) names i inner x.id x.file x.inside h.was h.leads h.visible (put_row label x inner))
      ∙ row_stays order i (with_row label x inner) m (alone x.id x.file x.inside) w ∙ ap (option_map (fi order i (with_row label x inner))) (sym y)

  put_in_rows : Rearranges (shown order t) (shown order u) order (id_of i) (rows_of order inner) (rows_of order (with_row label x inner))
  put_in_rows = record {
    rows = held_rows order u i (with_row label x inner) h.is put_place.folder;
    gone = λ j has hasnt. absurd (let y = still_there order label x j.0 inner has in cc);
    others = λ m o. (let w = elsewhere order m inner (with_row label x inner) o in
        beyond m w.0 w.1 (not_self m x.id (rows_of order inner) (rows_of order (with_row label x inner)) o (inr (put_has order label x inner))) (few_or (times_given (number m) (alone x.id x.file x.inside)))
        ∙ ap (λ w. option_map (tree.refilled i w) (shown order t m)) (sym (arranged_same order (with_row label x inner))));
  }

  pub put_blocks : SameBlocks (shown order t) (shown order u)
  put_blocks file p =
      same_block (fi order i (with_row label x inner)) (fi_keeps order i (with_row label x inner)) order t u file p
      (beyond (Block file p) refl refl (not_block file p x.id) (few_or (times_given file.0 (alone x.id x.file x.inside))))

pub puts_are_rows : PutsAreRows
puts_are_rows order t u names n label i inner x h =
    subst (Rearranges (shown order t) (shown order u) order (id_of i) (rows_of order inner))
    (put_rows order label x inner h.free ∙ ap (λ z. tree_put (is_row_before label) z (rows_of order inner)) (tree_row_renamed order label n x)) (put_in_rows order t u names n label i inner x h)
