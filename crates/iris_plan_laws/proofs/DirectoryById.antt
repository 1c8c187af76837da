-- The rows of one directory changed, by its id and by its path, and what names stand for then.
use Rattle.std.proofs.Common.{◌≡◌, ◌⊎◌, inl, inr, ℕ, ◌≤◌, List, [], ◌∷◌, map, Bool, true, false, cond, Option, Some, None, refl, sym, ◌∙◌, ap, subst, arith}
use Rattle.std.specs.Prelude.{◌==◌}
use Rattle.std.specs.Option.{option_map}
use Rattle.std.specs.Str.{bytes_eq}
use Rattle.std.proofs.lemmas.Bool.{eqb-true, eq-eqb}
use Rattle.iris_name.specs.declared.name.Name.{Name}
use Rattle.iris_node.specs.Unfolded.{Unfolded, Absent, Folder}
use Rattle.iris_shape.specs.Local.{either}
use Rattle.iris_treepaths.specs.Rows.{refilled}
use Rattle.iris_rows.specs.Rows.{File, Rows, End, Row, Table, Taken, Here, resolved, find, followed, at}
use Rattle.iris_records.specs.Shown.{Own, entry_above, treap_of_entries, owns, directory, in_directory, in_file, inside_rows, root_entry, trash_entry, roots, shown}
use Rattle.iris_rows.specs.Sound.{times_given}
use Rattle.iris_forest.specs.Places.{DirectoryIn}
use Rattle.iris_forest.proofs.Ids.{one_of, other_id, turned, taken_eq, missing_here, through_here}
use Rattle.iris_forest.proofs.PathsInTable.{met_in}
use Rattle.iris_forest.proofs.RowsInTable.{directory_times}
use Rattle.iris_plan_laws.proofs.MappedShown.{KeepsPlaces, both, found, file_stays, shown_by, arranged}

-- ---- the directory of an id with other rows

abbrev pub redir : ℕ → Rows → Rows → Rows
redir i inner End = End
redir i inner (Row id name None inside next) = Row id name None (cond (id == i) inner (redir i inner inside)) (redir i inner next)
redir i inner (Row id name (Some f) inside next) = Row id name (Some f) inside (redir i inner next)

off_turned : (i id : ℕ) → cond (i == id) 1 0 ≤ 0 → (id == i) ≡ false
off_turned i id e = turned i id (other_id i id e)

pub redir_none : (i : ℕ) (inner rows : Rows) → times_given i rows ≤ 0 → redir i inner rows ≡ rows
redir_none i inner End o = refl
redir_none i inner (Row id name None inside next) o =
    ap (λ b. Row id name None (cond b inner (redir i inner inside)) (redir i inner next)) (off_turned i id (omega (arith, o)))
    ∙ ap (λ z. Row id name None z (redir i inner next)) (redir_none i inner inside (omega (arith, o))) ∙ ap (Row id name None inside) (redir_none i inner next (omega (arith, o)))
redir_none i inner (Row id name (Some f) inside next) o = ap (Row id name (Some f) inside) (redir_none i inner next (omega (arith, o)))

-- it stands there with its other rows
pub redir_in : (i : ℕ) (inner new rows : Rows) → DirectoryIn i inner rows → times_given i rows ≤ 1 → DirectoryIn i new (redir i new rows)
redir_in i inner new End h o = absurd h
redir_in i inner new (Row id name None inside next) h o = elim h [
  | inl a ↦ inl (a.0, sym (ap (λ b. cond b new (redir i new inside)) (eq-eqb id i (sym a.0))))
  | inr r ↦ elim r [
    | inl a ↦ (let p = directory_times i inner inside a in
        let z : (id == i) ≡ false = off_turned i id (omega (arith, o, p)) in
        inr (inl (subst (λ b. DirectoryIn i new (cond b new (redir i new inside))) (sym z) (redir_in i inner new inside a (omega (arith, o))))))
    | inr a ↦ inr (inr (redir_in i inner new next a (omega (arith, o))))
  ]
]
redir_in i inner new (Row id name (Some f) inside next) h o = redir_in i inner new next h (omega (arith, o))

-- ---- by path it is the same

-- names lead from rows to a directory
abbrev pub Leads : List (List ℕ) → Rows → ℕ → Rows → Type 0
Leads names rows i inner = resolved names (record { id = 0; file = None; inside = rows }) ≡ Here (record { id = i; file = None; inside = inner })

abbrev Onward : List (List ℕ) → Taken → ℕ → Rows → Type 0
Onward ns below i inner = resolved ns below ≡ Here (record { id = i; file = None; inside = inner })

record IsDir (i : ℕ) (inner : Rows) (k : ℕ) (kind : Option File) (rows : Rows) : Type 0 where
  pub id : i ≡ k
  pub file : kind ≡ None
  pub inside : inner ≡ rows

on_same : (i : ℕ) (inner : Rows) (k : ℕ) (kind : Option File) (rows : Rows) → Onward [] (record { id = k; file = kind; inside = rows }) i inner → IsDir i inner k kind rows
on_same i inner k kind rows h =
    let e = taken_eq (record { id = k; file = kind; inside = rows }) (record { id = i; file = None; inside = inner }) h in
    record { id = sym (ap (λ (z : Taken). z.id) e); file = ap (λ (z : Taken). z.file) e; inside = sym (ap (λ (z : Taken). z.inside) e) }

dir_only : (m : List ℕ) (ms : List (List ℕ)) (i : ℕ) (inner : Rows) (id : ℕ) (file : Option File) (inside : Rows) → Onward (m ∷ ms) (record { id = id; file = file; inside = inside }) i inner → (file ≡ None) × Leads (m ∷ ms) inside i inner
dir_only m ms i inner id None inside h = (refl, h)
dir_only m ms i inner id (Some g) inside h = absurd (through_here (record { id = i; file = None; inside = inner }) h)

found_by : (n : List ℕ) (ns : List (List ℕ)) (i : ℕ) (inner : Rows) (id : ℕ) (name : List ℕ) (file : Option File) (inside next : Rows) (b : Bool)
    → followed (cond b (Some (record { id = id; file = file; inside = inside })) (find n next)) (λ below. resolved ns below) ≡ Here (record { id = i; file = None; inside = inner })
    → ((b ≡ true) × Onward ns (record { id = id; file = file; inside = inside }) i inner) ⊎ ((b ≡ false) × Leads (n ∷ ns) next i inner)
found_by n ns i inner id name file inside next true e = inl (refl, e)
found_by n ns i inner id name file inside next false e = inr (refl, e)

-- the directory stands among the rows
pub lead_in : (n : List ℕ) (ns : List (List ℕ)) (rows : Rows) (i : ℕ) (inner : Rows) → Leads (n ∷ ns) rows i inner → DirectoryIn i inner rows
lead_in n ns rows i inner h = met_in n ns (record { id = 0; file = None; inside = rows }) (record { id = i; file = None; inside = inner }) h

skip : (i : ℕ) (new : Rows) (id : ℕ) (name : List ℕ) (file : Option File) (inside next : Rows) → times_given i (Row id name file inside next) ≤ 1 → 1 ≤ times_given i next
    → Row id name file inside (redir i new next) ≡ redir i new (Row id name file inside next)
skip i new id name None inside next o c =
    let z : times_given i inside ≤ 0 = omega (arith, o, c) in let y : cond (i == id) 1 0 ≤ 0 = omega (arith, o, c) in
    ap (λ y. Row id name None y (redir i new next)) (sym (redir_none i new inside z)) ∙ ap (λ b. Row id name None (cond b new (redir i new inside)) (redir i new next)) (sym (off_turned i id y))
skip i new id name (Some f) inside next o c = refl

here : (i : ℕ) (new : Rows) (id : ℕ) (name : List ℕ) (file : Option File) (inside next : Rows) → times_given i (Row id name file inside next) ≤ 1 → i ≡ id → file ≡ None
    → Row id name file new next ≡ redir i new (Row id name file inside next)
here i new id name None inside next o e g =
    let c = one_of i id e in let z : times_given i next ≤ 0 = omega (arith, o, c) in
    ap (Row id name None new) (sym (redir_none i new next z)) ∙ ap (λ b. Row id name None (cond b new (redir i new inside)) (redir i new next)) (sym (eq-eqb id i (sym e)))
here i new id name (Some f) inside next o e g = absurd (cc)

into : (i : ℕ) (new : Rows) (id : ℕ) (name : List ℕ) (file : Option File) (inside next : Rows) → times_given i (Row id name file inside next) ≤ 1 → file ≡ None → 1 ≤ times_given i inside
    → Row id name file (redir i new inside) next ≡ redir i new (Row id name file inside next)
into i new id name None inside next o e c =
    let z : times_given i next ≤ 0 = omega (arith, o, c) in let y : cond (i == id) 1 0 ≤ 0 = omega (arith, o, c) in
    ap (Row id name None (redir i new inside)) (sym (redir_none i new next z)) ∙ ap (λ b. Row id name None (cond b new (redir i new inside)) (redir i new next)) (sym (off_turned i id y))
into i new id name (Some f) inside next o e c = absurd (cc)

end_by : (change : Rows → Rows) (n : List ℕ) (i : ℕ) (inner : Rows) (id : ℕ) (name : List ℕ) (file : Option File) (inside next : Rows) (b : Bool) → times_given i (Row id name file inside next) ≤ 1
    → (Leads (n ∷ []) next i inner → at (n ∷ []) change next ≡ redir i (change inner) next)
    → ((b ≡ true) × Onward [] (record { id = id; file = file; inside = inside }) i inner) ⊎ ((b ≡ false) × Leads (n ∷ []) next i inner)
    → cond b (Row id name file (change inside) next) (Row id name file inside (at (n ∷ []) change next)) ≡ redir i (change inner) (Row id name file inside next)
end_by change n i inner id name file inside next true o ih h = elim h [
  | inl a ↦ (let e = on_same i inner id file inside a.1 in ap (λ z. Row id name file (change z) next) (sym e.inside) ∙ here i (change inner) id name file inside next o e.id e.file)
  | inr a ↦ absurd (let z = a.0 in cc)
]
end_by change n i inner id name file inside next false o ih h = elim h [
  | inl a ↦ absurd (let z = a.0 in cc)
  | inr a ↦ ap (Row id name file inside) (ih a.1) ∙ skip i (change inner) id name file inside next o (directory_times i inner next (lead_in n [] next i inner a.1))
]

on_by : (change : Rows → Rows) (n m : List ℕ) (ms : List (List ℕ)) (i : ℕ) (inner : Rows) (id : ℕ) (name : List ℕ) (file : Option File) (inside next : Rows) (b : Bool) → times_given i (Row id name file inside next) ≤ 1
    → (Leads (m ∷ ms) inside i inner → at (m ∷ ms) change inside ≡ redir i (change inner) inside)
    → (Leads (n ∷ m ∷ ms) next i inner → at (n ∷ m ∷ ms) change next ≡ redir i (change inner) next)
    → ((b ≡ true) × Onward (m ∷ ms) (record { id = id; file = file; inside = inside }) i inner) ⊎ ((b ≡ false) × Leads (n ∷ m ∷ ms) next i inner)
    → cond b (Row id name file (at (m ∷ ms) change inside) next) (Row id name file inside (at (n ∷ m ∷ ms) change next)) ≡ redir i (change inner) (Row id name file inside next)
on_by change n m ms i inner id name file inside next true o ih ih2 h = elim h [
  | inl a ↦ (let d = dir_only m ms i inner id file inside a.1 in
      ap (λ z. Row id name file z next) (ih d.1) ∙ into i (change inner) id name file inside next o d.0 (directory_times i inner inside (lead_in m ms inside i inner d.1)))
  | inr a ↦ absurd (let z = a.0 in cc)
]
on_by change n m ms i inner id name file inside next false o ih ih2 h = elim h [
  | inl a ↦ absurd (let z = a.0 in cc)
  | inr a ↦ ap (Row id name file inside) (ih2 a.1) ∙ skip i (change inner) id name file inside next o (directory_times i inner next (lead_in n (m ∷ ms) next i inner a.1))
]

pub path_redirs : (change : Rows → Rows) (n : List ℕ) (ns : List (List ℕ)) (rows : Rows) (i : ℕ) (inner : Rows) → Leads (n ∷ ns) rows i inner → times_given i rows ≤ 1 → at (n ∷ ns) change rows ≡ redir i (change inner) rows
path_redirs change n ns End i inner h o = absurd (missing_here (record { id = i; file = None; inside = inner }) h)
path_redirs change n [] (Row id name file inside next) i inner h o =
    end_by change n i inner id name file inside next (bytes_eq n name) o (λ r. path_redirs change n [] next i inner r (omega (arith, o))) (found_by n [] i inner id name file inside next (bytes_eq n name) h)
path_redirs change n (m ∷ ms) (Row id name file inside next) i inner h o =
    on_by change n m ms i inner id name file inside next (bytes_eq n name) o (λ r. path_redirs change m ms inside i inner r (omega (arith, o)))
    (λ r. path_redirs change n (m ∷ ms) next i inner r (omega (arith, o))) (found_by n (m ∷ ms) i inner id name file inside next (bytes_eq n name) h)

-- ---- what names stand for then

module _ (order : List ℕ) (i : ℕ) (new : Rows) where
  abbrev pub fi : Unfolded → Unfolded
  fi = refilled i (directory order new)

  pub fi_keeps : KeepsPlaces fi
  fi_keeps = record {
    folder = λ id name less more inside. (cond (id == i) (directory order new) (fi inside), refl);
    leaf = λ id name less more size counter vs. (size, counter, vs, refl);
    absent = refl;
    even = λ v. refl;
    split = λ file level index low high. refl;
    stored = λ v bytes. refl;
  }

  abbrev fi_inside : ℕ → Option File → Unfolded → Unfolded
  fi_inside id None inside = cond (id == i) (directory order new) (fi inside)
  fi_inside id (Some f) inside = inside

  abbrev fi_own : Own → Own
  fi_own o = record { id = o.id; name = o.name; file = o.file; inside = fi_inside o.id o.file o.inside }

  fi_entry : (o : Own) (file : Option File) (a b : Unfolded) → entry_above (record { id = o.id; name = o.name; file = file; inside = fi_inside o.id file o.inside }) file (fi a) (fi b) ≡ fi (entry_above o file a b)
  fi_entry o None a b = refl
  fi_entry o (Some f) a b = refl

  fi_arranged : (os : List Own) → treap_of_entries order (map fi_own os) ≡ fi (treap_of_entries order os)
  fi_arranged os = arranged order fi refl fi_own (λ o. refl) (λ o a b. fi_entry o o.file a b) os

  -- the entries inside a directory
  inside_cond : (b : Bool) (x y : Rows) (u : Unfolded) → treap_of_entries order (owns order y) ≡ u → treap_of_entries order (owns order (cond b x y)) ≡ cond b (treap_of_entries order (owns order x)) u
  inside_cond true x y u e = refl
  inside_cond false x y u e = e

  fi_owns : (rows : Rows) → owns order (redir i new rows) ≡ map fi_own (owns order rows)
  unfolding directory
  fi_owns End = refl
  fi_owns (Row id name None inside next) =
      let e : treap_of_entries order (owns order (redir i new inside)) ≡ fi (treap_of_entries order (owns order inside)) = ap (treap_of_entries order) (fi_owns inside) ∙ fi_arranged (owns order inside) in
      ap (λ z. record { id = id; name = name; file = None; inside = z } ∷ owns order (redir i new next)) (inside_cond (id == i) new (redir i new inside) (fi (treap_of_entries order (owns order inside))) e)
      ∙ ap (λ z. record { id = id; name = name; file = None; inside = cond (id == i) (treap_of_entries order (owns order new)) (fi (treap_of_entries order (owns order inside))) } ∷ z) (fi_owns next)
  fi_owns (Row id name (Some f) inside next) = ap (λ z. record { id = id; name = name; file = Some f; inside = treap_of_entries order (owns order inside) } ∷ z) (fi_owns next)

  fi_directory : (rows : Rows) → directory order (redir i new rows) ≡ fi (directory order rows)
  unfolding directory
  fi_directory rows = ap (treap_of_entries order) (fi_owns rows) ∙ fi_arranged (owns order rows)

  -- what is found inside a directory
  abbrev pub within : Name → Rows → Option Unfolded
  within n rows = either (in_directory n (directory order rows)) (inside_rows order n rows)

  -- what is found inside the directory itself is told apart
  abbrev pub Kept : Name → Rows → Type 0
  Kept n rows = (z : Rows) → DirectoryIn i z rows → within n new ≡ option_map fi (within n z)

  within_cond : (n : Name) (x y : Rows) (b : Bool) → (b ≡ true → within n new ≡ option_map fi (within n x)) → within n y ≡ option_map fi (within n x) → within n (cond b new y) ≡ option_map fi (within n x)
  within_cond n x y true h g = h refl
  within_cond n x y false h g = g

  pub fi_rows : (n : Name) (rows : Rows) → Kept n rows → inside_rows order n (redir i new rows) ≡ option_map fi (inside_rows order n rows)
  fi_rows n End k = refl
  fi_rows n (Row id name None inside next) k =
      let d : within n (redir i new inside) ≡ option_map fi (within n inside)
      = both fi fi_keeps (in_directory n (directory order inside)) (inside_rows order n inside) (in_directory n (directory order (redir i new inside))) (inside_rows order n (redir i new inside))
      (ap (in_directory n) (fi_directory inside) ∙ found fi fi_keeps n (directory order inside)) (fi_rows n inside (λ z h. k z (inr (inl h)))) in
      both fi fi_keeps (within n inside) (inside_rows order n next) (within n (cond (id == i) new (redir i new inside))) (inside_rows order n (redir i new next))
      (within_cond n inside (redir i new inside) (id == i) (λ e. k inside (inl (sym (eqb-true id i e), refl))) d) (fi_rows n next (λ z h. k z (inr (inr h))))
  fi_rows n (Row id name (Some f) inside next) k =
      both fi fi_keeps (in_file n id f) (inside_rows order n next) (in_file n id f) (inside_rows order n (redir i new next)) (file_stays fi fi_keeps n id f) (fi_rows n next k)

  root_cond : (id : ℕ) (x y : Rows) (b : Bool) → (id == i) ≡ b → y ≡ cond b new (redir i new x) → Folder id [] Absent Absent (directory order y) ≡ fi (Folder id [] Absent Absent (directory order x))
  root_cond id x y true e h = ap (λ z. Folder id [] Absent Absent (directory order z)) h ∙ ap (λ b. Folder id [] Absent Absent (cond b (directory order new) (fi (directory order x)))) (sym e)
  root_cond id x y false e h =
      ap (λ z. Folder id [] Absent Absent (directory order z)) h ∙ ap (Folder id [] Absent Absent) (fi_directory x) ∙ ap (λ b. Folder id [] Absent Absent (cond b (directory order new) (fi (directory order x)))) (sym e)

  -- of a table whose directory has other rows
  pub fi_shown : (t u : Table) (n : Name) → u.visible ≡ cond (0 == i) new (redir i new t.visible) → u.trash ≡ cond (1 == i) new (redir i new t.trash) → u.hand ≡ redir i new t.hand
      → Kept n (roots t) → shown order u n ≡ option_map fi (shown order t n)
  fi_shown t u n a b c k =
      shown_by fi fi_keeps order t u n
      (ap (in_directory n) (root_cond 0 t.visible u.visible (0 == i) refl a) ∙ found fi fi_keeps n (root_entry order t))
      (ap (in_directory n) (root_cond 1 t.trash u.trash (1 == i) refl b) ∙ found fi fi_keeps n (trash_entry order t))
      (ap (λ z. inside_rows order n (Row 0 [] None z (Row 1 [] None u.trash u.hand))) a ∙ ap (λ z. inside_rows order n (Row 0 [] None (cond (0 == i) new (redir i new t.visible)) (Row 1 [] None z u.hand))) b
      ∙ ap (λ z. inside_rows order n (Row 0 [] None (cond (0 == i) new (redir i new t.visible)) (Row 1 [] None (cond (1 == i) new (redir i new t.trash)) z))) c ∙ fi_rows n (roots t) k)
