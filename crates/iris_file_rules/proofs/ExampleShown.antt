-- What a small file system shows, over which the examples of reaching stand: in `/` the file `a` with id 2, of which places 0
-- and 2 are written and place 1 is a hole, and the file `b` with id 6 where the test says so; in the trash one row, or none: the
-- file with id 3, of which places 0 and 1 are written, or the directory with id 4, in which the file `c` with id 5 stands.
-- Of parts those alone are there that the examples speak of.
use Rattle.std.proofs.Common.{◌≡◌, inl, inr, ◌==◌, ◌&&◌, ◌||◌, ◌+◌, ◌/◌, ◌≤◌, ◌<◌, ℕ, nat_lt, List, [], ◌∷◌, Bool, true, false, cond, Option, Some, None, refl, sym, ◌∙◌, ap, subst, arith}
use Rattle.std.specs.Prelude.{codes}
use Rattle.iris_name.specs.Paths.{names_of}
use Rattle.iris_name.specs.declared.name.FileId.{FileId}
use Rattle.iris_name.specs.declared.name.Name.{Name}
use Rattle.iris_name.specs.declared.name.Name.TheVariants as name
use Rattle.iris_node.specs.Trees.{Shown}
use Rattle.iris_node.specs.Unfolded.{Unfolded, Absent, Folder, Even, Stored, id_of}
use Rattle.iris_name.specs.declared.request.Request.{Request}
use Rattle.iris_paths.specs.declared.resolving.Found.TheVariants.{At}
use Rattle.iris_paths.specs.Pictured.{IsAlong, nearby, further, IsOnTrail}
use Rattle.iris_paths.specs.Resolving.{here, onward, root_id, standing_at, Resolves}
use Rattle.iris_plain.specs.declared.checks.Seen.TheVariants.{AFile}
use Rattle.iris_plain.specs.Steps.{OnNames}
use Rattle.iris_shape.specs.Treap.{Treap, Empty, Over, treap, Each, Every}
use Rattle.iris_shape.proofs.Treaps.{every_treap}
use Rattle.iris_treepaths.specs.Needs.{IsMet}
use Rattle.iris_treepaths.specs.Ways.{Any, IsNamed, along, along_name, is_row_before, has_name}
use Rattle.iris_version_tree.specs.Needs.{Covers}
use Rattle.iris_file_rules.specs.Reach.{IsFileAt, InFile, Reaches}
use Rattle.iris_rows.specs.Changes.{trash_name}
use Rattle.iris_treepaths.specs.Rows.{Row, Directory, File, row_entry, treap_of_rows, HasRows, up}

-- the rows
abbrev pub label : ℕ → List ℕ
label c = c ∷ []

abbrev pub file_row : ℕ → List ℕ → ℕ → Row
file_row id name size = record { id = id; name = name; content = File size 9 (Even 0) }

abbrev pub row_a : ℕ → Row
row_a size = file_row 2 (label 97) size

abbrev pub row_c : Row
row_c = file_row 5 (label 99) 10

abbrev pub thrown_file : Row
thrown_file = file_row 3 (trash_name 3) 8192

abbrev pub thrown_directory : Row
thrown_directory = record { id = 4; name = trash_name 4; content = Directory (row_entry row_c Absent Absent) }

-- an entry with none beside it
abbrev pub alone : Row → Unfolded
alone r = row_entry r Absent Absent

abbrev pub inside_of : List Row → Unfolded
inside_of [] = Absent
inside_of (r ∷ rows) = alone r

abbrev pub live_if : Bool → Unfolded → Option Unfolded
live_if b u = cond b (Some u) None

-- with the file `a` of this length in `/`, and these rows in the trash
abbrev pub shows : ℕ → List Row → Shown
shows size trash (name.Entry i) =
    cond (i.0 == 0) (Some (Folder 0 [] Absent Absent (alone (row_a size))))
    (cond (i.0 == 1) (Some (Folder 1 [] Absent Absent (inside_of trash)))
    (cond (i.0 == 2) (Some (alone (row_a size)))
    (cond (i.0 == 3) (Some (alone thrown_file))
    (cond (i.0 == 4) (Some (alone thrown_directory)) (live_if (i.0 == 5) (alone row_c))))))
shows size trash (name.Part f l i) = live_if ((f.0 == 2) && (((l == 2) && (i == 0)) || ((l == 1) && (i == 1)))) (Even 0)
shows size trash (name.Block f p) = live_if (((f.0 == 2) && ((p == 0) || (p == 2))) || ((f.0 == 3) && nat_lt p 2)) (Stored 1 [])

-- ---- names

abbrev pub entry : ℕ → Name
entry i = name.Entry (id_of i)

abbrev pub part : ℕ → ℕ → Name
part l i = name.Part (id_of 2) l i

abbrev pub block : ℕ → ℕ → Name
block f p = name.Block (id_of f) p

-- ---- paths

pub top : names_of (codes "/") ≡ Some []
unfolding names_of
top = refl

pub at_a : names_of (codes "/a") ≡ Some (label 97 ∷ [])
unfolding names_of
at_a = refl

pub at_b : names_of (codes "/b") ≡ Some (label 98 ∷ [])
unfolding names_of
at_b = refl

pub no_path : names_of (codes "a") ≡ None
unfolding names_of
no_path = refl

-- what holds of the names of a path text
pub by_names : (text : List ℕ) (names : List (List ℕ)) (P : List (List ℕ) → Type 0) → names_of text ≡ Some names → P names → OnNames (names_of text) P
by_names text names P e h = subst (λ o. OnNames o P) (sym e) h

pub of_names : (text : List ℕ) (names : List (List ℕ)) (P : List (List ℕ) → Type 0) → names_of text ≡ Some names → OnNames (names_of text) P → P names
of_names text names P e h = subst (λ o. OnNames o P) e h

pub off_names : (text : List ℕ) (P : List (List ℕ) → Type 0) → names_of text ≡ None → OnNames (names_of text) P → ⊥
off_names text P e h = subst (λ o. OnNames o P) e h

-- ---- directories

pub treap_of_one : (key : List ℕ) (r : Row) → treap_of_rows key (r ∷ []) ≡ alone r
unfolding treap_of_rows
treap_of_one key r = refl

pub treap_of_none : (key : List ℕ) → treap_of_rows key [] ≡ Absent
unfolding treap_of_rows
treap_of_none key = refl

-- an empty trash, a file in it, or a directory in it
pub rows_of_trash : (key : List ℕ) (size : ℕ) → HasRows (shows size []) key (id_of 1) []
rows_of_trash key size = record { entry = (refl, sym (treap_of_none key)); rising = tt; distinct = tt; named = tt; apart = tt }

pub thrown_file_there : (key : List ℕ) (size : ℕ) → HasRows (shows size (thrown_file ∷ [])) key (id_of 1) (thrown_file ∷ [])
thrown_file_there key size = record { entry = (refl, sym (treap_of_one key thrown_file)); rising = (tt, tt); distinct = (tt, tt); named = (omega arith, tt); apart = ((λ e. absurd (let z = e in cc), tt), tt) }

abbrev pub number_of : Name → ℕ
number_of (name.Entry i) = i.0
number_of (name.Part f l i) = 0
number_of (name.Block f p) = 0

-- another number is another name
pub another : (a b : ℕ) → (a ≡ b → ⊥) → Some (name.Entry (id_of a)) ≡ Some (name.Entry (id_of b)) → ⊥
another a b ne e = let z : name.Entry (id_of a) ≡ name.Entry (id_of b) = cc in ne (ap number_of z)

pub thrown_directory_there : (key : List ℕ) (size : ℕ) → HasRows (shows size (thrown_directory ∷ [])) key (id_of 1) (thrown_directory ∷ [])
thrown_directory_there key size = record { entry = (refl, sym (treap_of_one key thrown_directory)); rising = (tt, tt); distinct = (tt, tt); named = (omega arith, tt); apart = ((λ e. another 5 4 (λ z. absurd (omega (arith, z))) e, tt), tt) }

pub child_there : (key : List ℕ) (size : ℕ) (trash : List Row) → HasRows (shows size trash) key (id_of 4) (row_c ∷ [])
child_there key size trash = record { entry = (refl, sym (treap_of_one key row_c)); rising = (tt, tt); distinct = (tt, tt); named = (omega arith, tt); apart = ((λ e. absurd (let z = e in cc), tt), tt) }

module _ (key : List ℕ) (size : ℕ) (trash : List Row) where
  pub rows_of_root : HasRows (shows size trash) key (id_of 0) (row_a size ∷ [])
  rows_of_root = record { entry = (refl, sym (treap_of_one key (row_a size))); rising = (tt, tt); distinct = (tt, tt); named = (omega arith, tt); apart = ((λ e. absurd (let z = e in cc), tt), tt) }

  pub leads_to_a : Resolves (shows size trash) key (label 97 ∷ []) (At (id_of 2) (id_of 0))
  leads_to_a = onward (id_of 0) (id_of 0) (id_of 2) (label 97) [] (row_a size ∷ []) (At (id_of 2) (id_of 0)) rows_of_root (inl (refl, refl)) (here (id_of 2) (id_of 0))

  pub file_at_a : IsFileAt (shows size trash) key (label 97 ∷ []) (id_of 2) size
  file_at_a = record { dir = id_of 0; leads = leads_to_a; file = refl }

  -- the length of the file `a` is that one
  pub size_is : (id : FileId) (s : ℕ) → id_of 2 ≡ id → standing_at (shows size trash) id ≡ AFile s → size ≡ s
  size_is id s i e = let e2 : AFile size ≡ AFile s = subst (λ z. standing_at (shows size trash) z ≡ AFile s) (sym i) e in cc

  -- what is reached of a range of bytes of a file is a block in it, or a part over it
  pub block_in_range : (names : List (List ℕ)) (from to : ℕ → ℕ) (p : ℕ) → InFile (shows size trash) key names from to (block 2 p) → (from size < to size) × (from size / 4096 ≤ p) × (p < (to size + 4095) / 4096)
  block_in_range names from to p h = elim h.over.1 [
    | inl over ↦ absurd over
    | inr over ↦ subst (λ s. (from s < to s) × (from s / 4096 ≤ p) × (p < (to s + 4095) / 4096)) (sym (size_is h.id h.size over.0 h.at.file)) (h.some, over.1, over.2)
  ]

  pub part_in_range : (names : List (List ℕ)) (from to : ℕ → ℕ) (l i : ℕ) → InFile (shows size trash) key names from to (part l i) → Covers l i (from size / 4096) ((to size + 4095) / 4096)
  part_in_range names from to l i h = elim h.over.1 [
    | inl over ↦ subst (λ s. Covers l i (from s / 4096) ((to s + 4095) / 4096)) (sym (size_is h.id h.size over.0 h.at.file)) over.1
    | inr over ↦ absurd over
  ]

pub differ : true ≡ false → ⊥
differ e = cc

-- what a trail meets is an entry, and not the trash's
abbrev pub is_entry : Name → Bool
is_entry (name.Entry i) = true
is_entry (name.Part f l i) = false
is_entry (name.Block f p) = false

any_entry : (n : Name) (rows : List Row) → Any (λ (r : Row). n ≡ name.Entry (id_of r.id)) rows → is_entry n ≡ true
any_entry n [] h = absurd h
any_entry n (r ∷ rows) (inl e) = ap is_entry e
any_entry n (r ∷ rows) (inr h) = any_entry n rows h

pub met_entry : (dir : FileId) (rows : List Row) (n : Name) → IsMet dir rows n → is_entry n ≡ true
met_entry dir rows n (inl e) = ap is_entry e
met_entry dir rows n (inr h) = any_entry n rows h

along_entry : (t : Shown) (key : List ℕ) (dir : FileId) (names : List (List ℕ)) (n : Name) → IsAlong t key dir names n → is_entry n ≡ true
along_entry t key dir names n (nearby d m ns rows q has met) = met_entry d _ n met
along_entry t key dir names n (further d next m ns rows q has named rest) = along_entry t key next ns n rest

pub trail_entry : (t : Shown) (key : List ℕ) (names : List (List ℕ)) (n : Name) → IsOnTrail key names t n → is_entry n ≡ true
trail_entry t key names n (inl e) = ap is_entry e
trail_entry t key names n (inr h) = along_entry t key root_id names n h

pub no_file_on_trail : (t : Shown) (key : List ℕ) (names : List (List ℕ)) (n : Name) → is_entry n ≡ false → IsOnTrail key names t n → ⊥
no_file_on_trail t key names n e h = differ (sym (trail_entry t key names n h) ∙ e)

any_along : (P Q : Row → Type 0) (p e : Row → Bool) (w : Treap Row) → Every P w → ((r : Row) → P r → Q r → ⊥) → Any Q (along p e w) → ⊥
any_along P Q p e Empty h never a = a
any_along P Q p e (Over y l m) h never (inl q) = never y h.0 q
any_along P Q p e (Over y l m) h never (inr a) = either (e y) (p y) (any_along P Q p e m h.2 never) (any_along P Q p e l h.1 never) a where
  either : (b c : Bool) → (Any Q (along p e m) → ⊥) → (Any Q (along p e l) → ⊥) → Any Q (cond b [] (cond c (along p e m) (along p e l))) → ⊥
  either true c f g a = a
  either false true f g a = f a
  either false false f g a = g a

not_met : (t : Shown) (key : List ℕ) (dir : FileId) (n : List ℕ) (rows : List Row) → HasRows t key dir rows → (dir.0 ≡ 1 → ⊥) → IsMet dir (along_name n key rows) (entry 1) → ⊥
not_met t key dir n rows has off (inl e) = off (sym (ap number_of e))
not_met t key dir n rows has off (inr a) =
    any_along (λ r. 2 ≤ r.id) (λ r. entry 1 ≡ name.Entry (id_of r.id)) (is_row_before n) (has_name n) (treap (up key) rows) (every_treap (λ r. 2 ≤ r.id) (up key) rows has.named)
    (λ r le e. let z : 1 ≡ r.id = ap number_of e in absurd (omega (arith, z, le))) a

at_least_two : (rows : List Row) (n : List ℕ) (i : ℕ) → Each (λ (r : Row). 2 ≤ r.id) rows → IsNamed rows n (Some i) → 2 ≤ i
at_least_two [] n i each h = absurd h
at_least_two (r ∷ rows) n i each (inl h) = subst (λ z. 2 ≤ z) h.0 each.0
at_least_two (r ∷ rows) n i each (inr h) = at_least_two rows n i each.1 h

not_along : (t : Shown) (key : List ℕ) (dir : FileId) (names : List (List ℕ)) (q : Name) → q ≡ entry 1 → (dir.0 ≡ 1 → ⊥) → IsAlong t key dir names q → ⊥
not_along t key dir names q is off (nearby d m ns rows r has met) = not_met t key d m rows has off (subst (IsMet d (along_name m key rows)) is met)
not_along t key dir names q is off (further d next m ns rows r has named rest) =
    not_along t key next ns q is (λ e. let le = at_least_two rows m next.0 has.named named in absurd (omega (arith, e, le))) rest

pub no_trash_on_trail : (t : Shown) (key : List ℕ) (names : List (List ℕ)) → IsOnTrail key names t (entry 1) → ⊥
no_trash_on_trail t key names (inl e) = absurd (let z : 1 ≡ 0 = ap number_of e in omega (arith, z))
no_trash_on_trail t key names (inr h) = not_along t key root_id names (entry 1) refl (λ e. absurd (omega (arith, e))) h

pub some_names : (n : List ℕ) (ns : List (List ℕ)) → n ∷ ns ≡ [] → ⊥
some_names n ns e = cc

-- reaching, where changes are taken and nothing is in the trash
abbrev pub reaches : List ℕ → Shown → Request → Name → Type 0
reaches key t request n = Reaches key t false (λ f p. ⊥) (λ at. None) request n
