-- A page of names, row by row.
use Rattle.std.proofs.Common.{◌≡◌, ◌<◌, ◌≤◌, ◌++◌, inl, inr, ℕ, suc, List, [], ◌∷◌, false, map, Option, Some, None, IsSome, refl, ap, sym, ◌∙◌, subst, length, take, arith, append_assoc, append-nil, length-append}
use Rattle.std.proofs.lemmas.List.{map-append, take_all}
use Rattle.std.proofs.Math.Seq.{take-append_seam}
use Rattle.iris_name.specs.declared.name.FileId.{FileId}
use Rattle.iris_name.specs.declared.name.Name.{Name}
use Rattle.iris_name.specs.declared.name.Name.TheVariants as name
use Rattle.iris_node.specs.declared.node.Link.{Link}
use Rattle.iris_node.specs.declared.node.Node.TheVariants as node
use Rattle.iris_node.specs.Fields.{EntryFields}
use Rattle.iris_node.specs.Trees.{Shown}
use Rattle.iris_node.specs.Unfolded.{id_of}
use Rattle.iris_shape.specs.Treap.{Treap, treap, rows, high, skip, way, Each, Falls}
use Rattle.iris_shape.specs.Order.{Rising}
use Rattle.iris_shape.proofs.Treaps.{rows_treap, each_left, each_right, every_of, rows_high}
use Rattle.iris_cache.specs.declared.held.Short.{Short}
use Rattle.iris_cache.specs.declared.held.Short.TheVariants.{Need, NoMemory}
use Rattle.iris_cache.specs.Pictures.{IsLike}
use Rattle.iris_cache.specs.Resident.{Resident}
use Rattle.iris_cache.specs.Drafted.{Drafted, known, seen}
use Rattle.iris_treepaths.specs.Needs.{IsMetShort, Listed}
use Rattle.iris_treepaths.specs.Rows.{Row, row_name, row_entry, unfolded_rows, up}
use Rattle.iris_treepaths.specs.Ways.{Any, up_to, along_name, along_each, along_page, following}
use Rattle.iris_dirtree.specs.Found.{entry_of_node, inside}
use Rattle.iris_dirtree.specs.Piles.{whole, right as right_part, Passed, passed_id, to_list, IsPassed, Tables, Piled, Piling, IsUnderShort}
use Rattle.iris_treepaths.proofs.Sees.{Sees, sees_holding}
use Rattle.iris_treepaths.proofs.Likes.{like_row, above_more}
use Rattle.iris_dirtree.proofs.Stands.{top_way, way_down, is_entry, link_holds}
use Rattle.iris_dirtree.proofs.Pages.{falls_up_to, skip_false, high_all, sub_rising, sub_along, spine, way_next, page_has}
use Rattle.iris_treepaths.proofs.Downs.{any_left, any_right}
use Rattle.iris_dirtree.proofs.PassedRows.{to_list_append}

-- the last of a list that is known by a map
record Last (a : List FileId) (x : FileId) (pile : List Passed) : Type 0 where
  front : List Passed
  last : Passed
  is : pile ≡ front ++ last ∷ []
  front_is : map passed_id front ≡ a
  last_is : passed_id last ≡ x

one_only : (z : Passed) (zs : List Passed) (x : FileId) → passed_id z ∷ map passed_id zs ≡ x ∷ [] → Last [] x (z ∷ zs)
one_only z [] x e = let q : passed_id z ≡ x = cc in record { front = []; last = z; is = refl; front_is = refl; last_is = q }
one_only z (w ∷ ws) x e = cc

last_of : (a : List FileId) (x : FileId) (pile : List Passed) → map passed_id pile ≡ a ++ x ∷ [] → Last a x pile
last_of [] x [] e = cc
last_of (y ∷ a) x [] e = cc
last_of [] x (z ∷ zs) e = one_only z zs x e
last_of (y ∷ a) x (z ∷ zs) e =
    let h : passed_id z ≡ y = cc in
    let t : map passed_id zs ≡ a ++ x ∷ [] = cc in
    let r = last_of a x zs t in
    record { front = z ∷ r.front; last = r.last; is = ap (λ l. z ∷ l) r.is; front_is = λ i. h i ∷ r.front_is i; last_is = r.last_is }

none_only : (pile : List Passed) → map passed_id pile ≡ [] → to_list pile ≡ []
none_only [] e = refl
none_only (z ∷ zs) e = cc

-- how far a page has come: these rows are listed, and those are left
pub record Page (key after : List ℕ) (most : ℕ) (old new : Shown) (d : Drafted) (c : Resident) (all : List Row) (names : List (List ℕ)) (ids : List FileId) (at : Option Link) (i : ℕ) : Type 0 where
  pub done : List Row
  pub left : List Row
  pub begin : Treap Row
  pub names_are : names ≡ map row_name done
  pub count : length done ≡ i
  pub parts : skip (up_to after) all ≡ done ++ left
  pub piling : Piling old new d c after (treap (up key) all) begin left ids at 1
  pub meets : i < most → (n : Name) → Any (λ (r : Row). n ≡ name.Entry (id_of r.id)) (way (up_to after) begin) → Any (λ (r : Row). n ≡ name.Entry (id_of r.id)) (along_page after most key all)

pub tables_of : (key : List ℕ) (dir : FileId) (d : Drafted) (c : Resident) (old new : Shown) (all : List Row) → Listed key dir d c old new all → Tables d c old new
tables_of key dir d c old new all pic = record { was = pic.was; is = pic.is; drafts = pic.drafts }

module _ (key after : List ℕ) (most : ℕ) (dir : FileId) (d : Drafted) (c : Resident) (old new : Shown) (all : List Row) (pic : Listed key dir d c old new all) where
  see : Sees old new d c
  see = sees_holding old new None d c pic.was pic.is pic.drafts

  abbrev T : Treap Row
  T = treap (up key) all

  rises : Rising row_name (rows T)
  rises = subst (Rising row_name) (sym (rows_treap (up key) all)) pic.rows_are.rising

  falls : Falls (up_to after) all
  falls = falls_up_to after all pic.rows_are.rising

  high_is : skip (up_to after) all ≡ rows (high (up_to after) T)
  high_is = sym (rows_high (up_to after) T (falls_up_to after (rows T) rises) ∙ ap (skip (up_to after)) (rows_treap (up key) all))

  pub page_top : (top : Option Link) → IsSome (known d c (name.Entry dir)) → top ≡ inside (entry_of_node (seen d c (name.Entry dir))) → Page key after most old new d c all [] [] top 0
  page_top top some e = record {
    done = [];
    left = rows (high (up_to after) T);
    begin = T;
    names_are = refl;
    count = refl;
    parts = high_is;
    piling = record {
      under = T;
      pile = [];
      ids_are = refl;
      passed = tt;
      left_are = sym (append-nil (rows (high (up_to after) T)));
      part = whole;
      leads = top_way old new d c see key dir all top pic.rows_are some e;
      meets = λ n a. a;
    };
    meets = λ lt n a.
        let P : Row → Type 0 = λ r. n ≡ name.Entry (id_of r.id) in
        elim (way_next P after T rises a) [
          | inl h ↦ any_left P (along_name after key all) (along_each key all (following after most all)) h
          | inr s ↦ any_right P (along_name after key all) (along_each key all (following after most all))
              (subst (λ xs. Any P (along_each key all (take most xs))) (sym (high_is ∙ s.is)) (page_has P key all [] s.row s.rest most lt s.met))
        ];
  }

  -- no row is left
  pub page_end : (names : List (List ℕ)) (ids waiting : List FileId) (at : Option Link) (i : ℕ) (s : Page key after most old new d c all names ids at i) → i ≤ most → Piled new d c T s.left waiting → waiting ≡ [] → names ≡ map row_name (following after most all)
  page_end names ids waiting at i s le z e =
      let none : s.left ≡ [] = z.left_are ∙ none_only z.pile (sym z.ids_are ∙ e) in
      let k = s.count in
      let full : skip (up_to after) all ≡ s.done = s.parts ∙ ap (λ l. s.done ++ l) none ∙ append-nil s.done in
      s.names_are ∙ ap (map row_name) (sym (ap (take most) full ∙ take_all most s.done (omega arith)))

  -- the page is full
  pub page_full : (names : List (List ℕ)) (ids : List FileId) (at : Option Link) (i : ℕ) → Page key after most old new d c all names ids at i → i ≡ most → names ≡ map row_name (following after most all)
  page_full names ids at i s e =
      let k : most ≡ length s.done = sym e ∙ sym s.count in
      s.names_are ∙ ap (map row_name) (sym (ap (λ k. take k (skip (up_to after) all)) k ∙ ap (take (length s.done)) s.parts ∙ take-append_seam s.done s.left))

  -- what waits is seen
  pub page_gone : {P : Type 0} (left : List Row) (waiting rest : List FileId) (id : FileId) → Piled new d c T left waiting → waiting ≡ rest ++ id ∷ [] → None ≡ entry_of_node (seen d c (name.Entry id)) → P
  page_gone left waiting rest id z e none =
      let l = last_of rest id z.pile (sym z.ids_are ∙ e) in
      let one = (each_right (IsPassed new d c T) l.front (l.last ∷ []) (subst (Each (IsPassed new d c T)) l.is z.passed)).0 in
      let at : seen d c (name.Entry id) ≡ Some (node.Entry l.last.entry) = ap (λ i. seen d c (name.Entry i)) (sym l.last_is) ∙ one.is_seen in
      let f : None ≡ Some l.last.entry = none ∙ ap entry_of_node at in
      cc

  -- the next row is listed
  pub page_next : (names : List (List ℕ)) (ids waiting rest : List FileId) (at : Option Link) (i : ℕ) (id : FileId) (e : EntryFields) (s : Page key after most old new d c all names ids at i) → Piled new d c T s.left waiting → waiting ≡ rest ++ id ∷ []
      → Some e ≡ entry_of_node (seen d c (name.Entry id)) → Page key after most old new d c all (names ++ e.name ∷ []) rest e.right (suc i)
  page_next names ids waiting rest at i id e s z w there =
      let p = up_to after in
      let l = last_of rest id z.pile (sym z.ids_are ∙ w) in
      let both = subst (Each (IsPassed new d c T)) l.is z.passed in
      let one = (each_right (IsPassed new d c T) l.front (l.last ∷ []) both).0 in
      let y = l.last.row in
      let m = l.last.more in
      let u = row_entry y (unfolded_rows l.last.less) (unfolded_rows m) in
      let n = name.Entry (id_of y.id) in
      let sees : seen d c n ≡ Some (node.Entry e) = ap (λ i. seen d c (name.Entry i)) l.last_is ∙ is_entry (seen d c (name.Entry id)) e there in
      let like = like_row y (unfolded_rows l.last.less) (unfolded_rows m) e (subst (λ o. IsLike o (node.Entry e)) one.live (see.nodes n (node.Entry e) sees)) in
      let now : s.left ≡ y ∷ (rows m ++ to_list l.front) = z.left_are ∙ ap to_list l.is ∙ to_list_append l.front (l.last ∷ []) in
      let more : skip p all ≡ (s.done ++ y ∷ []) ++ (rows m ++ to_list l.front) = s.parts ∙ ap (λ l. s.done ++ l) now ∙ sym (append_assoc s.done (y ∷ []) (rows m ++ to_list l.front)) in
      let later = each_right (λ r. p r ≡ false) (s.done ++ y ∷ []) (rows m ++ to_list l.front) (subst (Each (λ r. p r ≡ false)) more (skip_false p all falls)) in
      let past = every_of (λ r. p r ≡ false) m (each_left (λ r. p r ≡ false) (rows m) (to_list l.front) later) in
      let part = right_part y l.last.less m one.part in
      let k : length (s.done ++ y ∷ []) ≡ suc i = let a = length-append s.done (y ∷ []) in let b = s.count in omega (arith, a, b) in
      record {
        done = s.done ++ y ∷ [];
        left = rows m ++ to_list l.front;
        begin = m;
        names_are = ap (λ a. a ++ e.name ∷ []) s.names_are ∙ ap (λ x. map row_name s.done ++ x ∷ []) like.name_is ∙ sym (map-append row_name s.done (y ∷ []));
        count = k;
        parts = more;
        piling = record {
          under = m;
          pile = l.front;
          ids_are = sym l.front_is;
          passed = each_left (IsPassed new d c T) l.front (l.last ∷ []) both;
          left_are = ap (λ w. rows w ++ to_list l.front) (sym (high_all p m past));
          part = part;
          leads = way_down old new d c see n u (unfolded_rows m) (node.Entry e) e.right 0 one.live sees (above_more y.id y.name y.content (unfolded_rows l.last.less) (unfolded_rows m)) like.right_is (λ k q. inr (inl (link_holds e.right k q))) tt;
          meets = λ n a. a;
        };
        meets = λ lt x a.
            let P : Row → Type 0 = λ r. x ≡ name.Entry (id_of r.id) in
            let f = spine P p m (sub_rising T m part rises) past a in
            let met = sub_along P f.row T m part rises (subst (Any (λ r. r ≡ f.row)) (sym f.is) (inl refl)) f.met in
            any_right P (along_name after key all) (along_each key all (following after most all))
            (subst (λ xs. Any P (along_each key all (take most xs))) (sym (more ∙ ap (λ xs. (s.done ++ y ∷ []) ++ (xs ++ to_list l.front)) f.is))
            (page_has P key all (s.done ++ y ∷ []) f.row (f.rest ++ to_list l.front) most (omega (arith, k, lt)) met));
      }

-- why a page stops on the way to its next row
pub page_short : (key after : List ℕ) (most : ℕ) (dir : FileId) (d : Drafted) (c : Resident) (names : List (List ℕ)) (ids : List FileId) (at : Option Link) (i : ℕ) (e : Short) → i < most
    → ((old new : Shown) (all : List Row) → Listed key dir d c old new all → Page key after most old new d c all names ids at i) → IsUnderShort d c after ids at e → IsMetShort (Listed key dir d c) (along_page after most key) d c dir e
page_short key after most dir d c names ids at i (Need n x) lt s h =
    record {
      unset = h.unset;
      absent = h.absent;
      needed = λ old new all pic.
          let p = s old new all pic in
          let r = h.needed old new (record { all = treap (up key) all; begin = p.begin; left = p.left }) (tables_of key dir d c old new all pic, p.piling) in
          (inr (p.meets lt n r.0), r.1);
    }
page_short key after most dir d c names ids at i NoMemory lt s h = tt
