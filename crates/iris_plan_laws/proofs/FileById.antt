-- A change of one file, by its id and by its path, and what names stand for then.
use Rattle.std.proofs.Common.{◌≡◌, ◌⊎◌, inl, inr, ℕ, ◌≤◌, List, [], ◌∷◌, map, Bool, true, false, cond, Option, Some, None, refl, sym, ◌∙◌, ap, subst, arith}
use Rattle.std.specs.Prelude.{◌==◌}
use Rattle.std.specs.Option.{option_map}
use Rattle.std.specs.Str.{bytes_eq}
use Rattle.std.proofs.lemmas.Bool.{eqb-true, eq-eqb}
use Rattle.iris_name.specs.declared.name.FileId.{FileId}
use Rattle.iris_name.specs.declared.name.Name.{Name}
use Rattle.iris_name.specs.declared.name.Name.TheVariants.{Entry, Part, Block}
use Rattle.iris_node.specs.Unfolded.{Unfolded, Absent, Folder, Leaf, id_of}
use Rattle.iris_plain.specs.Routes.{parent, last}
use Rattle.iris_shape.specs.Local.{either}
use Rattle.iris_version_tree.specs.Versions.{IsOfOtherFile}
use Rattle.iris_rows.specs.Rows.{File, Rows, End, Row, Table, Taken, Here, root_row, resolved, find, followed, at, file_at, on_file}
use Rattle.iris_rows.specs.Changes.{filed}
use Rattle.iris_records.specs.Shown.{Own, entry_above, treap_of_entries, owns, directory, in_directory, in_file, inside_rows, root_entry, trash_entry, roots, shown, versions}
use Rattle.iris_rows.specs.Sound.{IsSound, times_given}
use Rattle.iris_table_laws.proofs.NamesByNumber.{number}
use Rattle.iris_files.specs.Refiles.{refiled}
use Rattle.iris_forest.specs.Places.{FileIn, IsTableFile}
use Rattle.iris_forest.proofs.FilesInTable.{stands_once, file_times}
use Rattle.iris_forest.proofs.Ids.{one_of, other_id, taken_eq, missing_here, through_here}
use Rattle.iris_forest.proofs.NamesNowhere.{no_file}
use Rattle.iris_forest.proofs.PathsInTable.{met_in}
use Rattle.iris_forest.proofs.VersionsOfFile.{have_versions}
use Rattle.iris_plan_laws.specs.Steps.{FilesAreRefiled}
use Rattle.iris_plan_laws.proofs.MappedShown.{KeepsPlaces, both, found, file_stays, shown_by, arranged}

-- ---- the file of an id changed

abbrev pub new_file : ℕ → File → ℕ → Option File → Option File
new_file i g id None = None
new_file i g id (Some f) = Some (cond (i == id) g f)

abbrev pub refile : ℕ → File → Rows → Rows
refile i g End = End
refile i g (Row id name file inside next) = Row id name (new_file i g id file) (refile i g inside) (refile i g next)

file_none : (i : ℕ) (g : File) (id : ℕ) (file : Option File) → (i == id) ≡ false → new_file i g id file ≡ file
file_none i g id None e = refl
file_none i g id (Some f) e = ap (λ b. Some (cond b g f)) e

refile_none : (i : ℕ) (g : File) (rows : Rows) → times_given i rows ≤ 0 → refile i g rows ≡ rows
refile_none i g End o = refl
refile_none i g (Row id name file inside next) o =
    ap (λ z. Row id name z (refile i g inside) (refile i g next)) (file_none i g id file (other_id i id (omega (arith, o))))
    ∙ ap (λ z. Row id name file z (refile i g next)) (refile_none i g inside (omega (arith, o))) ∙ ap (Row id name file inside) (refile_none i g next (omega (arith, o)))

-- ---- by path it is the same

-- what resolving names from a directory comes to counts there
abbrev pub Reaches : List (List ℕ) → Rows → ℕ → File → Type 0
Reaches names rows i f = (inside : Rows) × (resolved names (record { id = 0; file = None; inside = rows }) ≡ Here (record { id = i; file = Some f; inside = inside }))

-- one name on: the row of the name is the file, or leads on
abbrev Onward : List (List ℕ) → Taken → ℕ → File → Type 0
Onward ns below i f = (inside : Rows) × (resolved ns below ≡ Here (record { id = i; file = Some f; inside = inside }))

on_same : (i : ℕ) (f : File) (id : ℕ) (file : Option File) (inside : Rows) → Onward [] (record { id = id; file = file; inside = inside }) i f → (i ≡ id) × (file ≡ Some f)
on_same i f id file inside h =
    let e = taken_eq (record { id = id; file = file; inside = inside }) (record { id = i; file = Some f; inside = h.0 }) h.1 in (sym (ap (λ (z : Taken). z.id) e), ap (λ (z : Taken). z.file) e)

dir_only : (m : List ℕ) (ms : List (List ℕ)) (i : ℕ) (f : File) (id : ℕ) (file : Option File) (inside : Rows) → Onward (m ∷ ms) (record { id = id; file = file; inside = inside }) i f
    → (file ≡ None) × Reaches (m ∷ ms) inside i f
dir_only m ms i f id None inside h = (refl, (h.0, h.1))
dir_only m ms i f id (Some g) inside h = absurd (through_here (record { id = i; file = Some f; inside = h.0 }) h.1)

-- the change at a path, inside a directory's rows
abbrev change_at : List (List ℕ) → (File → File) → Rows → Rows
change_at names change rows = at (parent names) (file_at (last names) change) rows

found_by : (n : List ℕ) (ns : List (List ℕ)) (i : ℕ) (f : File) (id : ℕ) (name : List ℕ) (file : Option File) (inside next : Rows) (b : Bool) (inner : Rows)
    → followed (cond b (Some (record { id = id; file = file; inside = inside })) (find n next)) (λ below. resolved ns below) ≡ Here (record { id = i; file = Some f; inside = inner })
    → ((b ≡ true) × Onward ns (record { id = id; file = file; inside = inside }) i f) ⊎ ((b ≡ false) × Reaches (n ∷ ns) next i f)
found_by n ns i f id name file inside next true inner e = inl (refl, (inner, e))
found_by n ns i f id name file inside next false inner e = inr (refl, (inner, e))

-- the file stands among the rows
reach_in : (n : List ℕ) (ns : List (List ℕ)) (rows : Rows) (i : ℕ) (f : File) → Reaches (n ∷ ns) rows i f → FileIn i f rows
reach_in n ns rows i f h = met_in n ns (record { id = 0; file = None; inside = rows }) (record { id = i; file = Some f; inside = h.0 }) h.1

reach_times : (n : List ℕ) (ns : List (List ℕ)) (rows : Rows) (i : ℕ) (f : File) → Reaches (n ∷ ns) rows i f → 1 ≤ times_given i rows
reach_times n ns rows i f h = file_times i f rows (reach_in n ns rows i f h)

skip : (i : ℕ) (g : File) (id : ℕ) (name : List ℕ) (file : Option File) (inside next : Rows) → times_given i (Row id name file inside next) ≤ 1 → 1 ≤ times_given i next
    → Row id name file inside (refile i g next) ≡ refile i g (Row id name file inside next)
skip i g id name file inside next o c =
    let z : times_given i inside ≤ 0 = omega (arith, o, c) in let y : cond (i == id) 1 0 ≤ 0 = omega (arith, o, c) in
    ap (λ y. Row id name file y (refile i g next)) (sym (refile_none i g inside z)) ∙ ap (λ y. Row id name y (refile i g inside) (refile i g next)) (sym (file_none i g id file (other_id i id y)))

here : (change : File → File) (i : ℕ) (f : File) (id : ℕ) (name : List ℕ) (file : Option File) (inside next : Rows) → times_given i (Row id name file inside next) ≤ 1 → i ≡ id → file ≡ Some f
    → Row id name (on_file change file) inside next ≡ refile i (change f) (Row id name file inside next)
here change i f id name None inside next o e g = absurd (cc)
here change i f id name (Some k) inside next o e g =
    let q : k ≡ f = cc in let c = one_of i id e in let z : times_given i next ≤ 0 = omega (arith, o, c) in let y : times_given i inside ≤ 0 = omega (arith, o, c) in
    ap (λ y. Row id name (Some (change y)) inside next) q ∙ ap (Row id name (Some (change f)) inside) (sym (refile_none i (change f) next z))
    ∙ ap (λ w. Row id name (Some (change f)) w (refile i (change f) next)) (sym (refile_none i (change f) inside y))
    ∙ ap (λ b. Row id name (Some (cond b (change f) k)) (refile i (change f) inside) (refile i (change f) next)) (sym (eq-eqb i id e))

into : (i : ℕ) (g : File) (id : ℕ) (name : List ℕ) (file : Option File) (inside next : Rows) → times_given i (Row id name file inside next) ≤ 1 → 1 ≤ times_given i inside
    → Row id name file (refile i g inside) next ≡ refile i g (Row id name file inside next)
into i g id name file inside next o c =
    let z : times_given i next ≤ 0 = omega (arith, o, c) in let y : cond (i == id) 1 0 ≤ 0 = omega (arith, o, c) in
    ap (Row id name file (refile i g inside)) (sym (refile_none i g next z)) ∙ ap (λ y. Row id name y (refile i g inside) (refile i g next)) (sym (file_none i g id file (other_id i id y)))

end_by : (change : File → File) (n : List ℕ) (i : ℕ) (f : File) (id : ℕ) (name : List ℕ) (file : Option File) (inside next : Rows) (b : Bool) → times_given i (Row id name file inside next) ≤ 1
    → (Reaches (n ∷ []) next i f → file_at n change next ≡ refile i (change f) next)
    → ((b ≡ true) × Onward [] (record { id = id; file = file; inside = inside }) i f) ⊎ ((b ≡ false) × Reaches (n ∷ []) next i f)
    → cond b (Row id name (on_file change file) inside next) (Row id name file inside (file_at n change next)) ≡ refile i (change f) (Row id name file inside next)
end_by change n i f id name file inside next true o ih h = elim h [ inl a ↦ (let e = on_same i f id file inside a.1 in here change i f id name file inside next o e.0 e.1) | inr a ↦ absurd (let z = a.0 in cc) ]
end_by change n i f id name file inside next false o ih h = elim h [
  | inl a ↦ absurd (let z = a.0 in cc)
  | inr a ↦ ap (Row id name file inside) (ih a.1) ∙ skip i (change f) id name file inside next o (reach_times n [] next i f a.1)
]

on_by : (change : File → File) (n m : List ℕ) (ms : List (List ℕ)) (i : ℕ) (f : File) (id : ℕ) (name : List ℕ) (file : Option File) (inside next : Rows) (b : Bool) → times_given i (Row id name file inside next) ≤ 1
    → (Reaches (m ∷ ms) inside i f → change_at (m ∷ ms) change inside ≡ refile i (change f) inside)
    → (Reaches (n ∷ m ∷ ms) next i f → change_at (n ∷ m ∷ ms) change next ≡ refile i (change f) next)
    → ((b ≡ true) × Onward (m ∷ ms) (record { id = id; file = file; inside = inside }) i f) ⊎ ((b ≡ false) × Reaches (n ∷ m ∷ ms) next i f)
    → cond b (Row id name file (change_at (m ∷ ms) change inside) next) (Row id name file inside (change_at (n ∷ m ∷ ms) change next)) ≡ refile i (change f) (Row id name file inside next)
on_by change n m ms i f id name file inside next true o ih ih2 h = elim h [
  | inl a ↦ (let d = dir_only m ms i f id file inside a.1 in
      ap (λ z. Row id name file z next) (ih d.1) ∙ into i (change f) id name file inside next o (reach_times m ms inside i f d.1))
  | inr a ↦ absurd (let z = a.0 in cc)
]
on_by change n m ms i f id name file inside next false o ih ih2 h = elim h [
  | inl a ↦ absurd (let z = a.0 in cc)
  | inr a ↦ ap (Row id name file inside) (ih2 a.1) ∙ skip i (change f) id name file inside next o (reach_times n (m ∷ ms) next i f a.1)
]

pub path_refiles : (change : File → File) (n : List ℕ) (ns : List (List ℕ)) (rows : Rows) (i : ℕ) (f : File) → Reaches (n ∷ ns) rows i f → times_given i rows ≤ 1 → change_at (n ∷ ns) change rows ≡ refile i (change f) rows
path_refiles change n ns End i f h o = absurd (missing_here (record { id = i; file = Some f; inside = h.0 }) h.1)
path_refiles change n [] (Row id name file inside next) i f h o =
    end_by change n i f id name file inside next (bytes_eq n name) o (λ r. path_refiles change n [] next i f r (omega (arith, o))) (found_by n [] i f id name file inside next (bytes_eq n name) h.0 h.1)
path_refiles change n (m ∷ ms) (Row id name file inside next) i f h o =
    on_by change n m ms i f id name file inside next (bytes_eq n name) o (λ r. path_refiles change m ms inside i f r (omega (arith, o)))
    (λ r. path_refiles change n (m ∷ ms) next i f r (omega (arith, o))) (found_by n (m ∷ ms) i f id name file inside next (bytes_eq n name) h.0 h.1)

-- ---- what names stand for then

-- a name that is no part or block of a file
abbrev pub IsBeside : FileId → Name → Type 0
IsBeside file (Entry id) = Unit {0}
IsBeside file (Part g l j) = g ≡ file → ⊥
IsBeside file (Block g p) = g ≡ file → ⊥

pub other_beside : (file : FileId) (n : Name) → IsOfOtherFile file n → IsBeside file n
other_beside file (Entry id) o = o
other_beside file (Part g l j) o = o
other_beside file (Block g p) o = absurd o

module _ (order : List ℕ) (i : ℕ) (g : File) where
  abbrev pub re : Unfolded → Unfolded
  re = refiled i g.size g.counter (versions i g)

  pub re_keeps : KeepsPlaces re
  re_keeps = record {
    folder = λ id name less more inside. (re inside, refl);
    leaf = λ id name less more size counter vs. (cond (i == id) g.size size, cond (i == id) g.counter counter, cond (i == id) (versions i g) vs, refl);
    absent = refl;
    even = λ v. refl;
    split = λ file level index low high. refl;
    stored = λ v bytes. refl;
  }

  abbrev re_own : Own → Own
  re_own o = record { id = o.id; name = o.name; file = new_file i g o.id o.file; inside = re o.inside }

  re_leaf : (o : Own) (f : File) (a b : Unfolded) (t : Bool) → (i == o.id) ≡ t
      → Leaf o.id o.name a b (cond t g f).size (cond t g f).counter (versions o.id (cond t g f)) ≡ Leaf o.id o.name a b (cond t g.size f.size) (cond t g.counter f.counter) (cond t (versions i g) (versions o.id f))
  re_leaf o f a b true e = ap (λ z. Leaf o.id o.name a b g.size g.counter (versions z g)) (sym (eqb-true i o.id e))
  re_leaf o f a b false e = refl

  re_entry : (o : Own) (file : Option File) (a b : Unfolded) → entry_above (record { id = o.id; name = o.name; file = new_file i g o.id file; inside = re o.inside }) (new_file i g o.id file) (re a) (re b) ≡ re (entry_above o file a b)
  re_entry o None a b = refl
  re_entry o (Some f) a b = re_leaf o f (re a) (re b) (i == o.id) refl

  re_arranged : (os : List Own) → treap_of_entries order (map re_own os) ≡ re (treap_of_entries order os)
  re_arranged os = arranged order re refl re_own (λ o. refl) (λ o a b. re_entry o o.file a b) os

  re_owns : (rows : Rows) → owns order (refile i g rows) ≡ map re_own (owns order rows)
  re_owns End = refl
  re_owns (Row id name file inside next) =
      let e : treap_of_entries order (owns order (refile i g inside)) ≡ re (treap_of_entries order (owns order inside)) = ap (treap_of_entries order) (re_owns inside) ∙ re_arranged (owns order inside) in
      ap (λ z. record { id = id; name = name; file = new_file i g id file; inside = z } ∷ owns order (refile i g next)) e
      ∙ ap (λ z. record { id = id; name = name; file = new_file i g id file; inside = re (treap_of_entries order (owns order inside)) } ∷ z) (re_owns next)

  re_directory : (rows : Rows) → directory order (refile i g rows) ≡ re (directory order rows)
  unfolding directory
  re_directory rows = ap (treap_of_entries order) (re_owns rows) ∙ re_arranged (owns order rows)

  -- of another number the changed file has nothing, as the old one
  re_off : (n : Name) (id : ℕ) (f : File) (b : Bool) → (i == id) ≡ b → (number n ≡ i → ⊥) → in_file n id (cond b g f) ≡ option_map re (in_file n id f)
  re_off n id f false e o = file_stays re re_keeps n id f
  re_off n id f true e o = let z = other n id e o in no_file n id g z ∙ sym (ap (option_map re) (no_file n id f z)) where
    other : (n : Name) (id : ℕ) → (i == id) ≡ true → (number n ≡ i → ⊥) → (number n == id) ≡ false
    other n id e o = by (number n == id) refl where
      by : (b : Bool) → (number n == id) ≡ b → b ≡ false
      by true q = absurd (o (eqb-true (number n) id q ∙ sym (eqb-true i id e)))
      by false q = refl

  re_file : (n : Name) (id : ℕ) (f : File) → IsBeside (id_of i) n → in_file n id (cond (i == id) g f) ≡ option_map re (in_file n id f)
  re_file (Entry j) id f o = refl
  re_file (Part h l j) id f o = re_off (Part h l j) id f (i == id) refl (λ q. o (ap id_of q))
  re_file (Block h p) id f o = re_off (Block h p) id f (i == id) refl (λ q. o (ap id_of q))

  re_inside : (n : Name) (rows : Rows) → IsBeside (id_of i) n → inside_rows order n (refile i g rows) ≡ option_map re (inside_rows order n rows)
  re_inside n End o = refl
  re_inside n (Row id name None inside next) o =
      let d : in_directory n (directory order (refile i g inside)) ≡ option_map re (in_directory n (directory order inside)) = ap (in_directory n) (re_directory inside) ∙ found re re_keeps n (directory order inside) in
      both re re_keeps (either (in_directory n (directory order inside)) (inside_rows order n inside)) (inside_rows order n next)
      (either (in_directory n (directory order (refile i g inside))) (inside_rows order n (refile i g inside))) (inside_rows order n (refile i g next))
      (both re re_keeps (in_directory n (directory order inside)) (inside_rows order n inside) (in_directory n (directory order (refile i g inside))) (inside_rows order n (refile i g inside)) d (re_inside n inside o))
      (re_inside n next o)
  re_inside n (Row id name (Some f) inside next) o =
      both re re_keeps (in_file n id f) (inside_rows order n next) (in_file n id (cond (i == id) g f)) (inside_rows order n (refile i g next)) (re_file n id f o) (re_inside n next o)

  -- of a table whose file is another
  pub re_shown : (t u : Table) (n : Name) → u.visible ≡ refile i g t.visible → u.trash ≡ refile i g t.trash → u.hand ≡ refile i g t.hand → IsBeside (id_of i) n → shown order u n ≡ option_map re (shown order t n)
  re_shown t u n a b c o =
      shown_by re re_keeps order t u n
      (ap (λ z. in_directory n (Folder 0 [] Absent Absent z)) (ap (directory order) a ∙ re_directory t.visible) ∙ found re re_keeps n (root_entry order t))
      (ap (λ z. in_directory n (Folder 1 [] Absent Absent z)) (ap (directory order) b ∙ re_directory t.trash) ∙ found re re_keeps n (trash_entry order t))
      (ap (λ z. inside_rows order n (Row 0 [] None z (Row 1 [] None u.trash u.hand))) a ∙ ap (λ z. inside_rows order n (Row 0 [] None (refile i g t.visible) (Row 1 [] None z u.hand))) b
      ∙ ap (λ z. inside_rows order n (Row 0 [] None (refile i g t.visible) (Row 1 [] None (refile i g t.trash) z))) c ∙ re_inside n (roots t) o)

-- ---- the step

refile_in : (i : ℕ) (f g : File) (rows : Rows) → FileIn i f rows → FileIn i g (refile i g rows)
refile_in i f g End h = absurd h
refile_in i f g (Row id name None inside next) h = elim h [ inl a ↦ inl (refile_in i f g inside a) | inr a ↦ inr (refile_in i f g next a) ]
refile_in i f g (Row id name (Some k) inside next) h = elim h [
  | inl a ↦ inl (a.0, sym (ap (λ b. cond b g k) (eq-eqb i id a.0)))
  | inr a ↦ inr (refile_in i f g next a)
]

refile_end : (i : ℕ) (g : File) (rows : Rows) → rows ≡ End → rows ≡ refile i g rows
refile_end i g rows e = e ∙ sym (ap (refile i g) e)

-- the file at a path changed, by its id
pub record ByFileId (t u : Table) (i : ℕ) (f g : File) : Type 0 where
  pub visible : u.visible ≡ refile i g t.visible
  pub trash : u.trash ≡ refile i g t.trash
  pub hand : u.hand ≡ refile i g t.hand
  pub was : IsTableFile t i f
  pub is : IsTableFile u i g

pub by_file_id : (t : Table) (change : File → File) (names : List (List ℕ)) (i : ℕ) (f : File) (inside : Rows)
    → IsSound t → resolved names (root_row t) ≡ Here (record { id = i; file = Some f; inside = inside }) → ByFileId t (filed change names t) i f (change f)
by_file_id t change [] i f inside s e = absurd (let q = ap (λ (z : Taken). z.file) (taken_eq (root_row t) (record { id = i; file = Some f; inside = inside }) e) in cc)
by_file_id t change (n ∷ ns) i f inside s e =
    let r : Reaches (n ∷ ns) t.visible i f = (inside, e) in
    let o = stands_once t i s in
    let c = reach_times n ns t.visible i f r in
    let p = path_refiles change n ns t.visible i f r (omega (arith, o)) in
    let w : times_given i t.trash ≤ 0 = omega (arith, o, c) in
    let h = reach_in n ns t.visible i f r in
    record {
      visible = p;
      trash = sym (refile_none i (change f) t.trash w);
      hand = refile_end i (change f) t.hand s.hand;
      was = inl h;
      is = inl (subst (FileIn i (change f)) (sym p) (refile_in i f (change f) t.visible h));
    }

pub files_refiled : FilesAreRefiled
files_refiled order t change names i f inside s v e =
    let b = by_file_id t change names i f inside s e in
    record {
      versions = have_versions order (filed change names t) i (change f) v b.is;
      others = λ m x. re_shown order i (change f) t (filed change names t) m b.visible b.trash b.hand (other_beside (id_of i) m x);
    }
