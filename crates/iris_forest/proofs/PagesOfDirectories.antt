-- A page of a directory's names.
use Rattle.std.proofs.Common.{◌≡◌, ◌⊎◌, inl, inr, ℕ, zero, suc, List, map, take, Bool, true, false, not, cond, Option, Some, None, refl, sym, ◌∙◌, ap, subst}
use Rattle.std.specs.Prelude.{is_some}
use Rattle.std.specs.Str.{bytes_eq}
use Rattle.iris_node.specs.Unfolded.{id_of}
use Rattle.iris_plain.specs.Pages.{IsNext, IsPage}
use Rattle.iris_plain.specs.Routes.{is_name_before}
use Rattle.iris_plain.specs.Steps.{has_entry_named}
use Rattle.iris_plain.proofs.PageLaws.{before_trans, before_self}
use Rattle.iris_shape.specs.Order.{less_name}
use Rattle.iris_shape.specs.Treap.{skip}
use Rattle.iris_treepaths.specs.Rows.{row_name}
use Rattle.iris_treepaths.specs.Ways.{up_to, following}
use Rattle.iris_paths.specs.Listing.{most_names}
use Rattle.iris_rows.specs.Rows.{File, Rows, End, Row, root_row, find}
use Rattle.iris_rows.specs.View.{view}
use Rattle.iris_rows.specs.Sound.{PrecedesFirst}
use Rattle.iris_records.specs.Walks.{IsRising}
use Rattle.iris_records.proofs.TreapOfRows.{less_before}
use Rattle.iris_rows.proofs.RowsByName.{same_tells}
use Rattle.iris_table.specs.Stops.{is_name_of}
use Rattle.iris_table.proofs.PageOfNames.{page_names, page_alike}
use Rattle.iris_forest.specs.Places.{rows_of, RowsMakePages}
use Rattle.iris_forest.proofs.PathsInTable.{leads_at}
use Rattle.iris_forest.proofs.RowsOfDirectory.{above_through, level, held_of}

-- a name among rows is the first, or among the others
name_first : (m : List ℕ) (id : ℕ) (name : List ℕ) (file : Option File) (inside next : Rows) → is_name_of (Row id name file inside next) m ≡ true → (m ≡ name) ⊎ (is_name_of next m ≡ true)
name_first m id name file inside next e = by (bytes_eq m name) (same_tells m name) e where
  by : (b : Bool) → ((b ≡ true) × (m ≡ name)) ⊎ ((b ≡ false) × (m ≡ name → ⊥)) → is_some (cond b (Some (record { id = id; file = file; inside = inside })) (find m next)) ≡ true → (m ≡ name) ⊎ (is_name_of next m ≡ true)
  by true (inl t) e = inl t.1
  by true (inr t) e = absurd (let z = t.0 in cc)
  by false t e = inr e

is_first : (id : ℕ) (name : List ℕ) (file : Option File) (inside next : Rows) → is_name_of (Row id name file inside next) name ≡ true
is_first id name file inside next = by (bytes_eq name name) (same_tells name name) where
  by : (b : Bool) → ((b ≡ true) × (name ≡ name)) ⊎ ((b ≡ false) × (name ≡ name → ⊥)) → is_some (cond b (Some (record { id = id; file = file; inside = inside })) (find name next)) ≡ true
  by true t = refl
  by false (inl t) = absurd (let z = t.0 in cc)
  by false (inr t) = absurd (t.1 refl)

is_later : (m : List ℕ) (id : ℕ) (name : List ℕ) (file : Option File) (inside next : Rows) → is_name_of next m ≡ true → is_name_of (Row id name file inside next) m ≡ true
is_later m id name file inside next e = by (bytes_eq m name) where
  by : (b : Bool) → is_some (cond b (Some (record { id = id; file = file; inside = inside })) (find m next)) ≡ true
  by true = refl
  by false = e

-- a name before the first of rising rows is before each
before_each : (a m : List ℕ) (rows : Rows) → PrecedesFirst a rows → IsRising rows → is_name_of rows m ≡ true → is_name_before a m ≡ true
before_each a m End h r e = absurd (cc)
before_each a m (Row id name file inside next) h r e = elim (name_first m id name file inside next e) [
  | inl q ↦ ap (is_name_before a) q ∙ h
  | inr q ↦ before_each a m next (above_through a name next h r.0) r.1 q
]

not_before : (b : Bool) → (b ≡ true → ⊥) → b ≡ false
not_before true f = absurd (f refl)
not_before false f = refl

-- the rows that are left have exactly the names that are greater
pub record AreLeft (there : List ℕ → Bool) (after : List ℕ) (rows : Rows) : Type 0 where
  pub rises : IsRising rows
  pub past : PrecedesFirst after rows
  pub all : (m : List ℕ) → there m ≡ true → is_name_before after m ≡ true → is_name_of rows m ≡ true
  pub only : (m : List ℕ) → is_name_of rows m ≡ true → there m ≡ true

next_left : (there : List ℕ → Bool) (after : List ℕ) (id : ℕ) (name : List ℕ) (file : Option File) (inside next : Rows) → AreLeft there after (Row id name file inside next) → AreLeft there name next
next_left there after id name file inside next l = record {
  rises = l.rises.1;
  past = l.rises.0;
  all = λ m h k. elim (name_first m id name file inside next (l.all m h (before_trans after name m l.past k))) [
    | inl q ↦ absurd (let x = sym (ap (is_name_before name) q ∙ before_self name) ∙ k in cc)
    | inr q ↦ q
  ];
  only = λ m h. l.only m (is_later m id name file inside next h);
}

first_left : (there : List ℕ → Bool) (after : List ℕ) (id : ℕ) (name : List ℕ) (file : Option File) (inside next : Rows) → AreLeft there after (Row id name file inside next) → IsNext there after name
first_left there after id name file inside next l = record {
  here = l.only name (is_first id name file inside next);
  later = l.past;
  least = λ m h k. elim (name_first m id name file inside next (l.all m h k)) [
    | inl q ↦ ap (λ z. is_name_before z name) q ∙ before_self name
    | inr q ↦ not_before (is_name_before m name) (λ e. (let x = before_each name m next l.rises.0 l.rises.1 q in let y = before_trans name m name x e in let z = before_self name in absurd (let w = sym z ∙ y in cc)))
  ];
}

paged : (order : List ℕ) (room : ℕ) (there : List ℕ → Bool) (after : List ℕ) (rows : Rows) → AreLeft there after rows → IsPage there room after (map row_name (take room (rows_of order rows)))
paged order zero there after rows l = refl
paged order (suc room) there after End l = λ m h k. (let x = l.all m h k in absurd (cc))
paged order (suc room) there after (Row id name file inside next) l =
    (first_left there after id name file inside next l, paged order room there name next (next_left there after id name file inside next l))

-- the rows that follow a name
record Follow (order after : List ℕ) (rows : Rows) : Type 0 where
  pub left : Rows
  pub is : skip (up_to after) (rows_of order rows) ≡ rows_of order left
  pub rest : AreLeft (is_name_of rows) after left

follow : (order after : List ℕ) (rows : Rows) → IsRising rows → Follow order after rows
follow order after End r = record { left = End; is = refl; rest = record { rises = tt; past = tt; all = λ m h k. h; only = λ m h. h } }
follow order after (Row id name file inside next) r = by (less_name after name) refl (follow order after next r.1) where
  skipped : (b : Bool) → less_name after name ≡ b → skip (up_to after) (rows_of order (Row id name file inside next)) ≡ cond (not b) (skip (up_to after) (rows_of order next)) (rows_of order (Row id name file inside next))
  skipped b e = ap (λ z. cond (not z) (skip (up_to after) (rows_of order next)) (rows_of order (Row id name file inside next))) e

  by : (b : Bool) → less_name after name ≡ b → Follow order after next → Follow order after (Row id name file inside next)
  by true e f = record {
    left = Row id name file inside next;
    is = skipped true e;
    rest = record { rises = r; past = less_before after name ∙ e; all = λ m h k. h; only = λ m h. h };
  }
  by false e f = record {
    left = f.left;
    is = skipped false e ∙ f.is;
    rest = record {
      rises = f.rest.rises;
      past = f.rest.past;
      all = λ m h k. elim (name_first m id name file inside next h) [
        | inl q ↦ absurd (let y = sym (ap (is_name_before after) q ∙ less_before after name ∙ e) ∙ k in cc)
        | inr q ↦ f.rest.all m q k
      ];
      only = λ m h. is_later m id name file inside next (f.rest.only m h);
    };
  }

pub rows_make_pages : RowsMakePages
rows_make_pages order t names after i rows s e =
    let at = leads_at order t names (root_row t) (record { id = i; file = None; inside = rows }) (id_of 0) s (inl (refl, refl)) e in
    let f = follow order after rows (level t i rows (held_of t s) at.stands).rises in
    let page = map row_name (following after most_names (rows_of order rows)) in
    let named : (m : List ℕ) → is_name_of rows m ≡ has_entry_named (view t).files names m = page_names names (root_row t) (record { id = i; file = None; inside = rows }) e refl in
    page_alike (is_name_of rows) (has_entry_named (view t).files names) most_names after page named
    (subst (λ z. IsPage (is_name_of rows) most_names after (map row_name (take most_names z))) (sym f.is) (paged order most_names (is_name_of rows) after f.left f.rest))
