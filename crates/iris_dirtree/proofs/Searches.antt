-- The search for the row of a name.
use Rattle.std.proofs.Common.{◌≡◌, ◌+◌, ◌≤◌, ◌&&◌, not, inl, ℕ, suc, List, ◌∷◌, true, false, Option, Some, None, IsSome, refl, ap, sym, ◌∙◌, subst, arith, length}
use Rattle.iris_name.specs.declared.name.FileId.{FileId}
use Rattle.iris_name.specs.declared.name.Name.TheVariants as name
use Rattle.iris_name.specs.declared.note.Expect.TheVariants.{Hash}
use Rattle.iris_node.specs.declared.node.Link.{Link}
use Rattle.iris_node.specs.Fields.{EntryFields}
use Rattle.iris_node.specs.Local.{led_by}
use Rattle.iris_node.specs.Trees.{Shown}
use Rattle.iris_node.specs.Unfolded.{id_of}
use Rattle.iris_shape.specs.Treap.{Treap, Empty, Over, treap, Each}
use Rattle.iris_shape.specs.Treap as shape
use Rattle.iris_shape.specs.Order.{less_name, Rising}
use Rattle.iris_shape.proofs.Treaps.{rows_treap}
use Rattle.iris_cache.specs.Resident.{Resident}
use Rattle.iris_cache.specs.Drafted.{Drafted, seen, known}
use Rattle.iris_treepaths.specs.Rows.{Row, row_name, unfolded_rows, up}
use Rattle.iris_treepaths.specs.Ways.{Any, along, along_name, is_row_before, has_name, IsNamed}
use Rattle.iris_cache.specs.Needs.{IsWanted}
use Rattle.iris_treepaths.specs.Needs.{Listed}
use Rattle.iris_treepaths.specs.Reached.{Way}
use Rattle.iris_dirtree.specs.Found.{entry_of_node, inside}
use Rattle.iris_treepaths.proofs.Sees.{Sees, sees_holding}
use Rattle.iris_treepaths.proofs.Likes.{leads_empty, leads_over}
use Rattle.iris_dirtree.proofs.Pasts.{past_bound}
use Rattle.iris_dirtree.proofs.Stands.{Here, here, no_entry, top_way}
use Rattle.iris_treepaths.proofs.Downs.{Down, here as at_top, less, more, down_along, down_rows, down_none, less_same, any_right}

-- how far a search has come: the row, if there is one, stands below a link
pub record Search (key : List ℕ) (n : List ℕ) (old new : Shown) (d : Drafted) (c : Resident) (rows : List Row) (at : Option Link) (k : ℕ) : Type 0 where
  pub rest : Treap Row
  pub way : Way old new d c (unfolded_rows rest) at k
  pub down : Down (is_row_before n) (has_name n) (treap (up key) rows) rest

pub search_top : (key n : List ℕ) (dir : FileId) (d : Drafted) (c : Resident) (old new : Shown) (rows : List Row) (top : Option Link) → Listed key dir d c old new rows → IsSome (known d c (name.Entry dir))
    → top ≡ inside (entry_of_node (seen d c (name.Entry dir))) → Search key n old new d c rows top 1
search_top key n dir d c old new rows top pic some e =
    record { rest = treap (up key) rows; way = top_way old new d c (sees_holding old new None d c pic.was pic.is pic.drafts) key dir rows top pic.rows_are some e; down = at_top }

module _ (key n : List ℕ) (dir : FileId) (d : Drafted) (c : Resident) (old new : Shown) (rows : List Row) (pic : Listed key dir d c old new rows) where
  see : Sees old new d c
  see = sees_holding old new None d c pic.was pic.is pic.drafts

  rises : Rising row_name (shape.rows (treap (up key) rows))
  rises = subst (Rising row_name) (sym (rows_treap (up key) rows)) pic.rows_are.rising

  none_below : (w : Treap Row) → Down (is_row_before n) (has_name n) (treap (up key) rows) w → w ≡ Empty → IsNamed rows n None
  none_below w down e =
      subst (Each (λ r. r.name ≡ n → ⊥)) (rows_treap (up key) rows) (down_none n (treap (up key) rows) w down rises (subst (λ w. Each (λ (r : Row). r.name ≡ n → ⊥) (shape.rows w)) (sym e) tt))

  -- where no link leads on, no row has the name
  pub search_none : (at : Option Link) (k : ℕ) → at ≡ None → Search key n old new d c rows at k → IsNamed rows n None
  search_none at k e s = none_below s.rest s.down (leads_empty s.rest (ap led_by (sym e) ∙ s.way.leads))

  -- no way is longer than there are names
  pub search_long : {P : Type 0} (at : Option Link) (k : ℕ) → length d.changes + length c.nodes ≤ k → Search key n old new d c rows at (suc k) → P
  search_long at k le s = let b = past_bound new d c (suc k) _ s.way.past in absurd (omega arith)

  pub search_gone : {P : Type 0} (l : Link) (k : ℕ) → Search key n old new d c rows (Some l) k → IsSome (known d c (name.Entry l.id)) → None ≡ entry_of_node (seen d c (name.Entry l.id)) → P
  search_gone l k s some none = absurd (no_entry old new d c see s.rest l k s.way some none)

  -- what is missing is met
  pub search_lacks : (l : Link) (k : ℕ) → Search key n old new d c rows (Some l) k → known d c (name.Entry l.id) ≡ None
      → Any (λ (r : Row). name.Entry l.id ≡ name.Entry (id_of r.id)) (along_name n key rows) × IsWanted old new c (name.Entry l.id) (Hash l.hash)
  search_lacks l k s missing =
      let t = leads_over s.rest l s.way.leads in
      let P : Row → Type 0 = λ r. name.Entry l.id ≡ name.Entry (id_of r.id) in
      (down_along P (is_row_before n) (has_name n) (treap (up key) rows) s.rest s.down (subst (λ w. Any P (along (is_row_before n) (has_name n) w)) (sym t.is) (inl (ap (λ i. name.Entry i) t.id_is))), (s.way.stands l refl).wanted missing)

  module _ (l : Link) (k : ℕ) (e : EntryFields) (s : Search key n old new d c rows (Some l) k) (at : Some e ≡ entry_of_node (seen d c (name.Entry l.id))) where
    h : Here old new d c s.rest l e k
    h = here old new d c see s.rest l e k s.way at

    -- the row of the name is met
    pub search_here : less_name e.name n ≡ false → less_name n e.name ≡ false → IsNamed rows n (Some l.id.0)
    search_here a b =
        let same : h.row.name ≡ n = sym h.like.name_is ∙ less_same e.name n a b in
        let P : Row → Type 0 = λ r. (r.id ≡ l.id.0) × (r.name ≡ n) in
        let id : h.row.id ≡ l.id.0 = ap (λ (i : FileId). i.0) (sym h.id_is) in
        subst (Any P) (rows_treap (up key) rows)
        (down_rows P (is_row_before n) (has_name n) (treap (up key) rows) s.rest s.down (subst (λ w. Any P (shape.rows w)) (sym h.is) (any_right P (shape.rows h.less) (h.row ∷ shape.rows h.more) (inl (id, same)))))

    there : Down (is_row_before n) (has_name n) (treap (up key) rows) (Over h.row h.less h.more)
    there = subst (Down (is_row_before n) (has_name n) (treap (up key) rows)) h.is s.down

    pub search_right : less_name e.name n ≡ true → Search key n old new d c rows e.right (suc k)
    search_right a =
        let p : is_row_before n h.row ≡ true = ap (λ m. less_name m n) (sym h.like.name_is) ∙ a in
        record { rest = h.more; way = h.right; down = more h.row h.less h.more there (ap (λ t. not t && not (less_name n h.row.name)) p) p }

    pub search_left : less_name e.name n ≡ false → less_name n e.name ≡ true → Search key n old new d c rows e.left (suc k)
    search_left a b =
        let p : is_row_before n h.row ≡ false = ap (λ m. less_name m n) (sym h.like.name_is) ∙ a in
        let q : less_name n h.row.name ≡ true = ap (less_name n) (sym h.like.name_is) ∙ b in
        record { rest = h.less; way = h.left; down = less h.row h.less h.more there (ap (λ t. not t && not (less_name n h.row.name)) p ∙ ap (λ t. not t) q) p }
