-- A walk down to the first name after one, over the rows that it passes.
use Rattle.std.proofs.Common.{◌≡◌, ◌+◌, ◌≤◌, not, ◌++◌, inl, inr, ℕ, suc, List, [], ◌∷◌, true, false, map, Option, Some, None, IsSome, refl, ap, sym, ◌∙◌, subst, length, arith, append_assoc}
use Rattle.std.proofs.lemmas.Bool.{cond-true, cond-false}
use Rattle.std.proofs.lemmas.List.{map-append}
use Rattle.iris_name.specs.declared.name.FileId.{FileId}
use Rattle.iris_name.specs.declared.name.Name.{Name}
use Rattle.iris_name.specs.declared.name.Name.TheVariants as name
use Rattle.iris_name.specs.declared.note.Expect.TheVariants.{Hash}
use Rattle.iris_node.specs.declared.node.Link.{Link}
use Rattle.iris_node.specs.declared.node.Node.TheVariants as node
use Rattle.iris_node.specs.Fields.{EntryFields}
use Rattle.iris_node.specs.Local.{led_by}
use Rattle.iris_node.specs.Trees.{Shown}
use Rattle.iris_node.specs.Unfolded.{id_of}
use Rattle.iris_shape.specs.Treap.{Treap, Over, rows, high, way}
use Rattle.iris_shape.specs.Order.{less_name}
use Rattle.iris_shape.proofs.Treaps.{each_both}
use Rattle.iris_cache.specs.declared.held.Short.{Short}
use Rattle.iris_cache.specs.declared.held.Short.TheVariants.{Need}
use Rattle.iris_cache.specs.Resident.{Resident}
use Rattle.iris_cache.specs.Drafted.{Drafted, known, seen}
use Rattle.iris_cache.specs.Needs.{IsWanted}
use Rattle.iris_treepaths.specs.Rows.{Row, row_entry, unfolded_rows}
use Rattle.iris_treepaths.specs.Ways.{Any, up_to}
use Rattle.iris_dirtree.specs.Found.{entry_of_node}
use Rattle.iris_dirtree.specs.Piles.{Sub, left as left_part, right as right_part, Passed, passed_id, to_list, IsPassed, Tables, Piled, Piling, LacksUnder, IsUnderShort}
use Rattle.iris_cache.proofs.Lacking.{unknown}
use Rattle.iris_treepaths.proofs.Sees.{Sees, sees_holding}
use Rattle.iris_treepaths.proofs.Likes.{leads_empty, leads_over}
use Rattle.iris_dirtree.proofs.Pasts.{past_bound}
use Rattle.iris_dirtree.proofs.Stands.{Here, here, no_entry, is_entry}

-- the pile is listed from its end
pub to_list_append : (a b : List Passed) → to_list (a ++ b) ≡ to_list b ++ to_list a
to_list_append [] b = sym (append_nil_ (to_list b))
  where
    append_nil_ : (xs : List Row) → xs ++ [] ≡ xs
    append_nil_ [] = refl
    append_nil_ (x ∷ xs) = ap (λ xs. x ∷ xs) (append_nil_ xs)
to_list_append (z ∷ a) b = ap (λ xs. xs ++ z.row ∷ rows z.more) (to_list_append a b) ∙ append_assoc (to_list b) (to_list a) (z.row ∷ rows z.more)

module _ (after : List ℕ) (d : Drafted) (c : Resident) (old new : Shown) (all begin : Treap Row) (left : List Row) (tab : Tables d c old new) where
  see : Sees old new d c
  see = sees_holding old new None d c tab.was tab.is tab.drafts

  -- at the end of the way
  pub piling_none : (ids : List FileId) (at : Option Link) (k : ℕ) → at ≡ None → Piling old new d c after all begin left ids at k → Piled new d c all left ids
  piling_none ids at k e s =
      let empty = leads_empty s.under (ap led_by (sym e) ∙ s.leads.leads) in
      record { pile = s.pile; ids_are = s.ids_are; passed = s.passed; left_are = s.left_are ∙ ap (λ w. rows (high (up_to after) w) ++ to_list s.pile) empty }

  pub piling_long : {P : Type 0} (ids : List FileId) (at : Option Link) (k : ℕ) → length d.changes + length c.nodes ≤ k → Piling old new d c after all begin left ids at (suc k) → P
  piling_long ids at k le s = let b = past_bound new d c (suc k) _ s.leads.past in absurd (omega arith)

  module _ (ids : List FileId) (l : Link) (k : ℕ) (s : Piling old new d c after all begin left ids (Some l) k) where
    pub piling_gone : {P : Type 0} → IsSome (known d c (name.Entry l.id)) → None ≡ entry_of_node (seen d c (name.Entry l.id)) → P
    piling_gone some none = absurd (no_entry old new d c see s.under l k s.leads some none)

    pub piling_lacks : known d c (name.Entry l.id) ≡ None → Any (λ (r : Row). name.Entry l.id ≡ name.Entry (id_of r.id)) (way (up_to after) begin) × IsWanted old new c (name.Entry l.id) (Hash l.hash)
    piling_lacks missing =
        let t = leads_over s.under l s.leads.leads in
        let P : Row → Type 0 = λ r. name.Entry l.id ≡ name.Entry (id_of r.id) in
        (s.meets (name.Entry l.id) (subst (λ w. Any P (way (up_to after) w)) (sym t.is) (inl (ap (λ i. name.Entry i) t.id_is))), (s.leads.stands l refl).wanted missing)

    module _ (e : EntryFields) (at : Some e ≡ entry_of_node (seen d c (name.Entry l.id))) where
      h : Here old new d c s.under l e k
      h = here old new d c see s.under l e k s.leads at

      there : Sub all (Over h.row h.less h.more)
      there = subst (Sub all) h.is s.part

      lists : left ≡ rows (high (up_to after) (Over h.row h.less h.more)) ++ to_list s.pile
      lists = s.left_are ∙ ap (λ w. rows (high (up_to after) w) ++ to_list s.pile) h.is

      met : (n : Name) → Any (λ (r : Row). n ≡ name.Entry (id_of r.id)) (way (up_to after) (Over h.row h.less h.more)) → Any (λ (r : Row). n ≡ name.Entry (id_of r.id)) (way (up_to after) begin)
      met n a = s.meets n (subst (λ w. Any (λ (r : Row). n ≡ name.Entry (id_of r.id)) (way (up_to after) w)) (sym h.is) a)

      -- past a row of a lesser name, or of that name
      pub piling_right : less_name after e.name ≡ false → Piling old new d c after all begin left ids e.right (suc k)
      piling_right f =
          let p = up_to after in
          let y = h.row in
          let b : p y ≡ true = ap (λ n. not (less_name after n)) (sym h.like.name_is) ∙ ap (λ t. not t) f in
          record {
            under = h.more;
            pile = s.pile;
            ids_are = s.ids_are;
            passed = s.passed;
            left_are = lists ∙ ap (λ w. rows w ++ to_list s.pile) (cond-true (p y) (high p h.more) (Over y (high p h.less) h.more) b);
            part = right_part h.row h.less h.more there;
            leads = h.right;
            meets = λ n a. met n (inr (subst (Any (λ (r : Row). n ≡ name.Entry (id_of r.id))) (sym (cond-true (p y) (way p h.more) (way p h.less) b)) a));
          }

      passed_here : Passed
      passed_here = record { row = h.row; less = h.less; more = h.more; entry = e }

      -- past a row of a greater name, which waits
      pub piling_left : less_name after e.name ≡ true → Piling old new d c after all begin left (ids ++ l.id ∷ []) e.left (suc k)
      unfolding passed_here
      piling_left f =
          let p = up_to after in
          let y = h.row in
          let z = passed_here in
          let b : p y ≡ false = ap (λ n. not (less_name after n)) (sym h.like.name_is) ∙ ap (λ t. not t) f in
          let live : new (name.Entry (id_of y.id)) ≡ Some (row_entry y (unfolded_rows h.less) (unfolded_rows h.more)) =
          ap (λ i. new (name.Entry i)) (sym h.id_is) ∙ (s.leads.stands l refl).live ∙ ap (λ w. Some (unfolded_rows w)) h.is in
          let sees : seen d c (name.Entry (id_of y.id)) ≡ Some (node.Entry e) = ap (λ i. seen d c (name.Entry i)) (sym h.id_is) ∙ is_entry (seen d c (name.Entry l.id)) e at in
          let one : IsPassed new d c all z = record { part = there; live = live; is_seen = sees } in
          record {
            under = h.less;
            pile = s.pile ++ z ∷ [];
            ids_are = ap (λ a. a ++ l.id ∷ []) s.ids_are ∙ ap (λ i. map passed_id s.pile ++ i ∷ []) h.id_is ∙ sym (map-append passed_id s.pile (z ∷ []));
            passed = each_both (IsPassed new d c all) s.pile (z ∷ []) s.passed (one, tt);
            left_are =
                lists ∙ ap (λ w. rows w ++ to_list s.pile) (cond-false (p y) (high p h.more) (Over y (high p h.less) h.more) b)
                ∙ append_assoc (rows (high p h.less)) (y ∷ rows h.more) (to_list s.pile)
                ∙ ap (λ xs. rows (high p h.less) ++ xs) (sym (to_list_append s.pile (z ∷ [])));
            part = left_part h.row h.less h.more there;
            leads = h.left;
            meets = λ n a. met n (inr (subst (Any (λ (r : Row). n ≡ name.Entry (id_of r.id))) (sym (cond-false (p y) (way p h.more) (way p h.less) b)) a));
          }

-- why a walk down stops at a link
pub under_short : (after : List ℕ) (d : Drafted) (c : Resident) (ids : List FileId) (at : Option Link) (l : Link) (e : Short) → e ≡ Need (name.Entry l.id) (Hash l.hash) → known d c (name.Entry l.id) ≡ None
    → ((old new : Shown) (all begin : Treap Row) (left : List Row) → Tables d c old new → Piling old new d c after all begin left ids at 1 → Any (λ (r : Row). name.Entry l.id ≡ name.Entry (id_of r.id)) (way (up_to after) begin) × IsWanted old new c (name.Entry l.id) (Hash l.hash))
    → IsUnderShort d c after ids at e
under_short after d c ids at l e is missing needed =
    let u = unknown d c (name.Entry l.id) missing in
    let lacks : LacksUnder d c after ids at (name.Entry l.id) (Hash l.hash) = record { unset = u.0; absent = u.1; needed = λ old new g pic. needed old new g.all g.begin g.left pic.0 pic.1 } in
    subst (λ e. IsUnderShort d c after ids at e) (sym is) lacks
