-- A new row in a directory.
use Rattle.std.proofs.Common.{◌≡◌, inl, inr, ℕ, ◌+◌, ◌<◌, ◌≤◌, List, [], ◌∷◌, ◌++◌, Bool, true, false, ◌&&◌, ◌||◌, cond, Option, Some, None, refl, sym, ◌∙◌, ap, subst, arith}
use Rattle.std.specs.Prelude.{◌==◌, is_none, nat_le, nat_lt}
use Rattle.std.specs.Option.{option_map}
use Rattle.std.specs.Str.{bytes_eq}
use Rattle.std.proofs.lemmas.Bool.Decides.{nat_tests}
use Rattle.std.proofs.lemmas.Bool.{or_right}
use Rattle.iris_name.specs.declared.name.Name.{Name}
use Rattle.iris_name.specs.declared.name.Name.TheVariants.{Entry, Part, Block}
use Rattle.iris_node.specs.Unfolded.{Unfolded, Even, id_of}
use Rattle.iris_plain.specs.Routes.{parent, last, is_name_before as name_before}
use Rattle.iris_shape.specs.Local.{either}
use Rattle.iris_shape.specs.Order.{less_name}
use Rattle.iris_shape.specs.Sides.{unfolded_side}
use Rattle.iris_shape.specs.Treap.{rows_with as tree_put, keep, skip}
use Rattle.iris_shape.proofs.FoldProofs.{folded_even}
use Rattle.iris_shape.proofs.Orders.{less_not, less_through}
use Rattle.iris_treepaths.specs.Rows.{has_id, IsElsewhere, Rearranges}
use Rattle.iris_treepaths.specs.Rows as tree
use Rattle.iris_treepaths.specs.Ways.{is_row_before}
use Rattle.iris_paths.specs.Making.{new_row}
use Rattle.iris_rows.specs.Rows.{File, Rows, End, Row, Table, Taken, find, with_row, at, empty_file}
use Rattle.iris_rows.specs.Changes.{made}
use Rattle.iris_records.specs.Shown.{treap_of_entries, owns, directory, part_in, in_directory, in_file, inside_rows, roots, shown, versions}
use Rattle.iris_rows.specs.Sound.{IsSound, times_given}
use Rattle.iris_records.proofs.TreapOfRows.{less_before}
use Rattle.iris_rows.proofs.RowsByName.{past}
use Rattle.iris_rows.proofs.RisingNames.{before_other}
use Rattle.iris_forest.specs.Hands.{IsHeld}
use Rattle.iris_forest.specs.Places.{row_of_own, rows_of, DirectoryIn, IsTableDirectory}
use Rattle.iris_forest.proofs.Ids.{one_of, smaller_id, given, taken_eq}
use Rattle.iris_forest.proofs.NamesElsewhere.{elsewhere}
use Rattle.iris_forest.proofs.RowsInTable.{directory_times, one_directory}
use Rattle.iris_forest.proofs.RowsOfDirectory.{arranged_same, have_rows, held_of}
use Rattle.iris_plan_laws.specs.Blocks.{SameBlocks}
use Rattle.iris_plan_laws.specs.Steps.{IsEmptyContent, MakesAreRows}
use Rattle.iris_forest.specs.Places.{LeadsToDirectory}
use Rattle.iris_plan_laws.proofs.DirectoryById.{redir, redir_none, redir_in, Leads, lead_in, path_redirs, fi, fi_keeps, within, Kept, fi_rows, fi_shown}
use Rattle.iris_plan_laws.proofs.MappedShown.{same_block}

-- ---- the rows with one more, in both words

order_not : (a b : List ℕ) → less_name a b ≡ true → less_name b a ≡ false
order_not a b e = by (less_name b a) refl where
  by : (x : Bool) → less_name b a ≡ x → x ≡ false
  by true f = absurd (let g = less_through a b a e f in let h = less_not a in cc)
  by false f = refl

pub put_rows : (order n : List ℕ) (new : Taken) (rows : Rows) → find n rows ≡ None
    → rows_of order (with_row n new rows) ≡ tree_put (is_row_before n) (row_of_own (record { id = new.id; name = n; file = new.file; inside = treap_of_entries order (owns order new.inside) })) (rows_of order rows)
put_rows order n new End e = refl
put_rows order n new (Row id name file inside next) e =
    let p = past (bytes_eq n name) _ _ e in by (name_before n name) refl p.0 (put_rows order n new next p.1) where
      x : tree.Row
      x = row_of_own (record { id = new.id; name = n; file = new.file; inside = treap_of_entries order (owns order new.inside) })

      y : tree.Row
      y = row_of_own (record { id = id; name = name; file = file; inside = treap_of_entries order (owns order inside) })

      first : (b : Bool) → b ≡ false → x ∷ (y ∷ rows_of order next) ≡ cond b (y ∷ keep (is_row_before n) (rows_of order next)) [] ++ x ∷ cond b (skip (is_row_before n) (rows_of order next)) (y ∷ rows_of order next)
      first true e = absurd (cc)
      first false e = refl

      later : (b : Bool) → b ≡ true → y ∷ tree_put (is_row_before n) x (rows_of order next) ≡ cond b (y ∷ keep (is_row_before n) (rows_of order next)) [] ++ x ∷ cond b (skip (is_row_before n) (rows_of order next)) (y ∷ rows_of order next)
      later true e = refl
      later false e = absurd (cc)

      by : (b : Bool) → name_before n name ≡ b → bytes_eq n name ≡ false → rows_of order (with_row n new next) ≡ tree_put (is_row_before n) x (rows_of order next)
          → rows_of order (cond b (Row new.id n new.file new.inside (Row id name file inside next)) (Row id name file inside (with_row n new next)))
          ≡ tree_put (is_row_before n) x (rows_of order (Row id name file inside next))
      by true f g ih = first (less_name name n) (order_not n name (sym (less_before n name) ∙ f))
      by false f g ih = ap (λ z. y ∷ z) ih ∙ later (less_name name n) (sym (less_before name n) ∙ before_other n name f g)

-- ---- what the new row brings

no_directory : (order : List ℕ) (n : Name) → in_directory n (directory order End) ≡ None
unfolding directory
no_directory order (Entry j) = refl
no_directory order (Part f l j) = refl
no_directory order (Block f p) = refl

empty_versions : (id : ℕ) → versions id empty_file ≡ Even 0
empty_versions id = ap (unfolded_side id 16 0) (folded_even (λ p. 0) 16 0 0 (λ p u. refl))

none_cond : (b : Bool) → cond {A = Option Unfolded} b None None ≡ None
none_cond true = refl
none_cond false = refl

no_file : (n : Name) (id : ℕ) → in_file n id empty_file ≡ None
no_file (Entry j) id = refl
no_file (Part h l j) id = ap (λ u. either (cond (h.0 == id) (part_in l j u) None) None) (empty_versions id) ∙ ap (λ z. either z None) (none_cond (h.0 == id))
no_file (Block h p) id = none_cond (h.0 == id)

-- nothing is found inside a new row
new_brings : (order : List ℕ) (n : Name) (id : ℕ) (name : List ℕ) (kind : Option File) (rows : Rows) → IsEmptyContent kind → inside_rows order n (Row id name kind End rows) ≡ inside_rows order n rows
new_brings order n id name None rows f = ap (λ z. either (either z None) (inside_rows order n rows)) (no_directory order n)
new_brings order n id name (Some f) rows e = ap (λ z. either z (inside_rows order n rows)) (ap (in_file n id) e ∙ no_file n id)

put_inside : (order : List ℕ) (n : Name) (name : List ℕ) (id : ℕ) (kind : Option File) (rows : Rows) → IsEmptyContent kind
    → inside_rows order n (with_row name (record { id = id; file = kind; inside = End }) rows) ≡ inside_rows order n rows
put_inside order n name id kind End f = new_brings order n id name kind End f
put_inside order n name id kind (Row i m file inside next) f = by (name_before name m) (put_inside order n name id kind next f) where
  more : (file : Option File) (x y : Rows) → inside_rows order n x ≡ inside_rows order n y → inside_rows order n (Row i m file inside x) ≡ inside_rows order n (Row i m file inside y)
  more None x y e = ap (either (either (in_directory n (directory order inside)) (inside_rows order n inside))) e
  more (Some g) x y e = ap (either (in_file n i g)) e

  by : (b : Bool) → inside_rows order n (with_row name (record { id = id; file = kind; inside = End }) next) ≡ inside_rows order n next
      → inside_rows order n (cond b (Row id name kind End (Row i m file inside next)) (Row i m file inside (with_row name (record { id = id; file = kind; inside = End }) next))) ≡ inside_rows order n (Row i m file inside next)
  by true ih = new_brings order n id name kind (Row i m file inside next) f
  by false ih = more file (with_row name (record { id = id; file = kind; inside = End }) next) next ih

-- rows that were there are there
or_mono : (a b c : Bool) → (b ≡ true → c ≡ true) → (a || b) ≡ true → (a || c) ≡ true
or_mono true b c f e = refl
or_mono false b c f e = f e

pub still_there : (order n : List ℕ) (new : Taken) (j : ℕ) (rows : Rows) → has_id j (rows_of order rows) ≡ true → has_id j (rows_of order (with_row n new rows)) ≡ true
still_there order n new j End e = absurd (cc)
still_there order n new j (Row id name file inside next) e = by (name_before n name) (λ h. still_there order n new j next h) where
  by : (b : Bool) → (has_id j (rows_of order next) ≡ true → has_id j (rows_of order (with_row n new next)) ≡ true)
      → has_id j (rows_of order (cond b (Row new.id n new.file new.inside (Row id name file inside next)) (Row id name file inside (with_row n new next)))) ≡ true
  by true ih = or_right (new.id == j) ((id == j) || has_id j (rows_of order next)) e
  by false ih = or_mono (id == j) (has_id j (rows_of order next)) (has_id j (rows_of order (with_row n new next))) ih e

-- ---- the step

-- a directory that is changed by its path, and the table then
pub record Place (t u : Table) (i : ℕ) (inner new : Rows) : Type 0 where
  pub visible : u.visible ≡ cond (0 == i) new (redir i new t.visible)
  pub trash : u.trash ≡ cond (1 == i) new (redir i new t.trash)
  pub hand : u.hand ≡ redir i new t.hand
  pub folder : IsTableDirectory u i new
  pub only : (z : Rows) → DirectoryIn i z (roots t) → z ≡ inner
  pub none : times_given i inner ≤ 0

zero_times : (i next a b : ℕ) → i < 2 → a + b ≤ cond (nat_le 2 i && nat_lt i next) 1 0 → (a ≤ 0) × (b ≤ 0)
zero_times i next a b l h = by (nat_le 2 i) refl (nat_lt i next) h where
  by : (x : Bool) → nat_le 2 i ≡ x → (y : Bool) → a + b ≤ cond (x && y) 1 0 → (a ≤ 0) × (b ≤ 0)
  by true e y h = absurd (let k : 2 ≤ i = grind (arith, nat_tests) in omega (arith, k, l))
  by false e y h = (omega (arith, h), omega (arith, h))

end_redir : (i : ℕ) (new rows : Rows) → rows ≡ End → rows ≡ redir i new rows
end_redir i new rows e = e ∙ sym (ap (redir i new) e)

-- an id stands once in the table, what is in hand aside
held_at : (a b z : ℕ) (c : Bool) → a + (b + z) ≤ cond c 1 0 → a + b ≤ 1
held_at a b z true h = omega (arith, h)
held_at a b z false h = omega (arith, h)

held_once : (t : Table) (i : ℕ) → IsHeld t → times_given i t.visible + times_given i t.trash ≤ 1
held_once t i s = held_at (times_given i t.visible) (times_given i t.trash) (times_given i t.hand) _ (s.once i)

-- the root
root_place : (t u : Table) (change : Rows → Rows) (i : ℕ) (inner : Rows) → IsHeld t → t.hand ≡ End → Leads [] t.visible i inner → u.visible ≡ change t.visible → u.trash ≡ t.trash → u.hand ≡ t.hand → Place t u i inner (change inner)
root_place t u change i inner s g e a b c = subst (λ z. Place t u z inner (change inner)) zero_is (subst (λ z. Place t u 0 z (change z)) inner_is at_root) where
  was : Taken
  was = record { id = 0; file = None; inside = t.visible }

  now : Taken
  now = record { id = i; file = None; inside = inner }

  same : was ≡ now
  same = taken_eq was now e

  zero_is : 0 ≡ i
  zero_is = ap (λ (z : Taken). z.id) same

  inner_is : t.visible ≡ inner
  inner_is = ap (λ (z : Taken). z.inside) same

  zeros_are : (times_given 0 t.visible ≤ 0) × (times_given 0 t.trash ≤ 0)
  zeros_are = let o = s.once 0 in zero_times 0 t.next (times_given 0 t.visible) (times_given 0 t.trash) (omega arith) (omega (arith, o))

  only : (z : Rows) → DirectoryIn 0 z (roots t) → z ≡ t.visible
  only z h = elim h [
    | inl x ↦ x.1
    | inr r ↦ elim r [
      | inl x ↦ absurd (let p = directory_times 0 z t.visible x in let q = zeros_are.0 in omega (arith, p, q))
      | inr y ↦ elim y [
        | inl x ↦ absurd (let p : 0 ≡ 1 = x.0 in omega (arith, p))
        | inr w ↦ elim w [
          | inl x ↦ absurd (let p = directory_times 0 z t.trash x in let q = zeros_are.1 in omega (arith, p, q))
          | inr x ↦ absurd (subst (DirectoryIn 0 z) g x)
        ]
      ]
    ]
  ]

  at_root : Place t u 0 t.visible (change t.visible)
  at_root = record {
    visible = a;
    trash = b ∙ sym (redir_none 0 (change t.visible) t.trash zeros_are.1);
    hand = c ∙ end_redir 0 (change t.visible) t.hand g;
    folder = inl (refl, sym a);
    only = only;
    none = zeros_are.0;
  }

-- what a directory has inside doesn't have it
pub below_none : (i : ℕ) (inner rows : Rows) → DirectoryIn i inner rows → times_given i rows ≤ 1 → times_given i inner ≤ 0
below_none i inner End h o = absurd h
below_none i inner (Row id name None inside next) h o = elim h [
  | inl a ↦ (let p = one_of i id a.0 in let e = ap (times_given i) a.1 in omega (arith, o, p, e))
  | inr r ↦ elim r [ inl a ↦ below_none i inner inside a (omega (arith, o)) | inr a ↦ below_none i inner next a (omega (arith, o)) ]
]
below_none i inner (Row id name (Some f) inside next) h o = below_none i inner next h (omega (arith, o))

-- a directory below the root
path_place : (t u : Table) (change : Rows → Rows) (n : List ℕ) (ns : List (List ℕ)) (i : ℕ) (inner : Rows) → IsHeld t → t.hand ≡ End → Leads (n ∷ ns) t.visible i inner → u.visible ≡ at (n ∷ ns) change t.visible → u.trash ≡ t.trash → u.hand ≡ t.hand
    → Place t u i inner (change inner)
path_place t u change n ns i inner s g e a b c = record {
  visible = v ∙ sym (ap (λ b. cond b (change inner) (redir i (change inner) t.visible)) (smaller_id 0 i (omega arith) big));
  trash = b ∙ sym (redir_none i (change inner) t.trash trash_none) ∙ sym (ap (λ b. cond b (change inner) (redir i (change inner) t.trash)) (smaller_id 1 i (omega arith) big));
  hand = c ∙ end_redir i (change inner) t.hand g;
  folder = inr (inr (inl (subst (DirectoryIn i (change inner)) (sym v) (redir_in i inner (change inner) t.visible within_is few))));
  only = only;
  none = below_none i inner t.visible within_is few;
}
  where
    within_is : DirectoryIn i inner t.visible
    within_is = lead_in n ns t.visible i inner e

    some : 1 ≤ times_given i t.visible
    some = directory_times i inner t.visible within_is

    few : times_given i t.visible ≤ 1
    few = let o = held_once t i s in omega (arith, o)

    trash_none : times_given i t.trash ≤ 0
    trash_none = let o = held_once t i s in let p = some in omega (arith, o, p)

    big : 2 ≤ i
    big = given i t.next (times_given i t.visible + (times_given i t.trash + times_given i t.hand)) (let p = some in omega (arith, p)) (s.once i)

    v : u.visible ≡ redir i (change inner) t.visible
    v = a ∙ path_redirs change n ns t.visible i inner e few

    only : (z : Rows) → DirectoryIn i z (roots t) → z ≡ inner
    only z h = elim h [
      | inl x ↦ absurd (let p : i ≡ 0 = x.0 in let q = big in omega (arith, p, q))
      | inr r ↦ elim r [
        | inl x ↦ one_directory i z inner t.visible few x within_is
        | inr y ↦ elim y [
          | inl x ↦ absurd (let p : i ≡ 1 = x.0 in let q = big in omega (arith, p, q))
          | inr w ↦ elim w [
            | inl x ↦ absurd (let p = directory_times i z t.trash x in let q = trash_none in omega (arith, p, q))
            | inr x ↦ absurd (subst (DirectoryIn i z) g x)
          ]
        ]
      ]
    ]

pub place : (t u : Table) (change : Rows → Rows) (names : List (List ℕ)) (i : ℕ) (inner : Rows) → IsHeld t → t.hand ≡ End → Leads names t.visible i inner → u.visible ≡ at names change t.visible → u.trash ≡ t.trash → u.hand ≡ t.hand → Place t u i inner (change inner)
place t u change [] i inner s g e a b c = root_place t u change i inner s g e a b c
place t u change (n ∷ ns) i inner s g e a b c = path_place t u change n ns i inner s g e a b c

-- a name that is no entry of the directory, and is found inside its other rows as inside the old ones
pub kept : (order : List ℕ) (t u : Table) (i : ℕ) (inner new : Rows) (n : Name) → Place t u i inner new → in_directory n (directory order inner) ≡ None → in_directory n (directory order new) ≡ None
    → inside_rows order n new ≡ inside_rows order n inner → Kept order i new n (roots t)
kept order t u i inner new n p a b e z h = subst (λ q. within order i new n new ≡ option_map (fi order i new) (within order i new n q)) (sym (p.only z h)) here where
  same : inside_rows order n (redir i new inner) ≡ inside_rows order n inner
  same = ap (inside_rows order n) (redir_none i new inner p.none)

  none : (z : Rows) → DirectoryIn i z inner → within order i new n new ≡ option_map (fi order i new) (within order i new n z)
  none z h = absurd (let a = directory_times i z inner h in let b = p.none in omega (arith, a, b))

  here : within order i new n new ≡ option_map (fi order i new) (within order i new n inner)
  here = ap (λ q. either q (inside_rows order n new)) b ∙ e ∙ sym same ∙ fi_rows order i new n inner none ∙ ap (λ q. option_map (fi order i new) (either q (inside_rows order n inner))) (sym a)

fresh_row : (order : List ℕ) (id : ℕ) (name : List ℕ) (kind : Option File) → IsEmptyContent kind → row_of_own (record { id = id; name = name; file = kind; inside = treap_of_entries order (owns order End) }) ≡ new_row id name (is_none kind)
fresh_row order id name None f = refl
fresh_row order id name (Some f) e =
    ap (λ z. row_of_own (record { id = id; name = name; file = Some z; inside = treap_of_entries order (owns order End) })) e ∙ ap (λ v. record { id = id; name = name; content = tree.File 0 0 v }) (empty_versions id)

module _ (order : List ℕ) (t : Table) (kind : Option File) (fresh : IsEmptyContent kind) (names : List (List ℕ)) (i : ℕ) (inner : Rows) (s : IsSound t) (e : LeadsToDirectory t (parent names) i inner) where
  abbrev new : Rows
  new = with_row (last names) (record { id = t.next; file = kind; inside = End }) inner

  at_place : Place t (made kind names t) i inner new
  at_place = place t (made kind names t) (with_row (last names) (record { id = t.next; file = kind; inside = End })) (parent names) i inner (held_of t s) s.hand e refl refl refl

  others : (n : Name) → in_directory n (directory order inner) ≡ None → in_directory n (directory order new) ≡ None
      → shown order (made kind names t) n ≡ option_map (fi order i new) (shown order t n)
  others n a b =
      fi_shown order i new t (made kind names t) n at_place.visible at_place.trash at_place.hand
      (kept order t (made kind names t) i inner new n at_place a b (put_inside order n (last names) t.next kind inner fresh))

  pub made_rearranges : IsSound (made kind names t) → Rearranges (shown order t) (shown order (made kind names t)) order (id_of i) (rows_of order inner) (rows_of order new)
  made_rearranges v = record {
    rows = have_rows order (made kind names t) i new v at_place.folder;
    gone = λ j a b. absurd (let c = still_there order (last names) (record { id = t.next; file = kind; inside = End }) j.0 inner a in cc);
    others = λ n o. (let w = elsewhere order n inner new o in
        others n w.0 w.1 ∙ ap (λ w. option_map (tree.refilled i w) (shown order t n)) (sym (arranged_same order new)));
  }

  pub made_blocks : SameBlocks (shown order t) (shown order (made kind names t))
  made_blocks file p =
      same_block (fi order i new) (fi_keeps order i new) order t (made kind names t) file p
      (others (Block file p) refl refl)

pub made_rows : MakesAreRows
made_rows order t kind fresh names i inner s v e f =
    subst (Rearranges (shown order t) (shown order (made kind names t)) order (id_of i) (rows_of order inner))
    (put_rows order (last names) (record { id = t.next; file = kind; inside = End }) inner f ∙ ap (λ x. tree_put (is_row_before (last names)) x (rows_of order inner)) (fresh_row order t.next (last names) kind fresh))
    (made_rearranges order t kind fresh names i inner s e v)
