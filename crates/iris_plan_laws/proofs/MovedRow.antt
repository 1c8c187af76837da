-- A move: the row goes into the hand, and from it to its new name.
use Rattle.std.proofs.Common.{◌≡◌, ℕ, ◌+◌, List, [], ◌∷◌, Bool, true, false, cond, Option, Some, None, inl, refl, sym, ◌∙◌, ap, subst, arith}
use Rattle.std.specs.Str.{bytes_eq}
use Rattle.iris_name.specs.declared.request.Request.TheVariants.{Rename}
use Rattle.iris_node.specs.Unfolded.{id_of}
use Rattle.iris_plain.specs.Routes.{parent, last}
use Rattle.iris_rows.specs.Rows.{File, Rows, End, Row, Table, Taken, Here, root_row, resolved, followed, entered, find, without_row, at}
use Rattle.iris_rows.specs.Changes.{row_moved, seen_in}
use Rattle.iris_records.specs.Shown.{shown}
use Rattle.iris_rows.specs.Sound.{IsSound, FitsRecord, rows_in}
use Rattle.iris_rows.proofs.RowCount.{few_rows}
use Rattle.iris_rows.proofs.FilesAmongRows.{all_without, all_at, all_here}
use Rattle.iris_rows.proofs.SoundStep.{sound_kept}
use Rattle.iris_rows.proofs.TimesGiven.{times_gone}
use Rattle.iris_rows.proofs.RisingNames.{ordered_without, ordered_at}
use Rattle.iris_cache.specs.Pictures.{Drafts}
use Rattle.iris_forest.specs.Places.{LeadsToDirectory, rows_of}
use Rattle.iris_forest.proofs.BlockCounts.{held_counts, countable}
use Rattle.iris_forest.proofs.Ids.{taken_eq}
use Rattle.iris_forest.proofs.NodesAreFormed.{stands_tree, formed, rooted}
use Rattle.iris_forest.proofs.PathsInTable.{leads_at, child_leads}
use Rattle.iris_forest.proofs.RowsInHand.{held_trees}
use Rattle.iris_forest.proofs.RowsOfDirectory.{have_rows, held_rows, held_of}
use Rattle.iris_plan_laws.specs.Moves.{in_hand, HandsAreHeld, left_below, MovesGoThrough}
use Rattle.iris_plan_laws.specs.Takes.{tree_row, TakesOut, PutsIn}
use Rattle.iris_plan_laws.proofs.AcceptedRequests.{IsMove, accepted_move, moved_step, in_directory_of}
use Rattle.iris_plan_laws.proofs.Pictured.{pictured_paths}
use Rattle.iris_plan_laws.proofs.RowTakenAndPut.{folder_of, takes_are_rows, puts_are_rows}
use Rattle.iris_plan_laws.proofs.RowsLeft.{names_lead_on, no_name_comes}

-- ---- a row in hand comes from a sound table

rows_without : (n : List ℕ) (row : Taken) (rows : Rows) → find n rows ≡ Some row → rows_in (without_row n rows) + (1 + rows_in row.inside) ≡ rows_in rows
rows_without n row End e = absurd (cc)
rows_without n row (Row id name file inside next) e = by (bytes_eq n name) e (λ h. rows_without n row next h) where
  by : (b : Bool) → cond b (Some (record { id = id; file = file; inside = inside })) (find n next) ≡ Some row → (find n next ≡ Some row → rows_in (without_row n next) + (1 + rows_in row.inside) ≡ rows_in next)
      → rows_in (cond b next (Row id name file inside (without_row n next))) + (1 + rows_in row.inside) ≡ 1 + (rows_in inside + rows_in next)
  by true e ih = let q : record { id = id; file = file; inside = inside } ≡ row = cc in let h : rows_in inside ≡ rows_in row.inside = ap (λ (z : Taken). rows_in z.inside) q in omega (arith, h)
  by false e ih = let h = ih e in omega (arith, h)

rows_deep : (n : List ℕ) (m : List ℕ) (ms : List (List ℕ)) (row : Taken) (rows : Rows) (below : Taken) → find n rows ≡ Some below
    → rows_in (at (parent (m ∷ ms)) (without_row (last (m ∷ ms))) below.inside) + (1 + rows_in row.inside) ≡ rows_in below.inside
    → rows_in (at (n ∷ parent (m ∷ ms)) (without_row (last (m ∷ ms))) rows) + (1 + rows_in row.inside) ≡ rows_in rows
rows_deep n m ms row End below f h = absurd (cc)
rows_deep n m ms row (Row id name file inside next) below f h = by (bytes_eq n name) f (λ g. rows_deep n m ms row next below g h) where
  by : (b : Bool) → cond b (Some (record { id = id; file = file; inside = inside })) (find n next) ≡ Some below
      → (find n next ≡ Some below → rows_in (at (n ∷ parent (m ∷ ms)) (without_row (last (m ∷ ms))) next) + (1 + rows_in row.inside) ≡ rows_in next)
      → rows_in (cond b (Row id name file (at (parent (m ∷ ms)) (without_row (last (m ∷ ms))) inside) next) (Row id name file inside (at (n ∷ parent (m ∷ ms)) (without_row (last (m ∷ ms))) next))) + (1 + rows_in row.inside) ≡ 1 + (rows_in inside + rows_in next)
  by true f ih =
      let q : record { id = id; file = file; inside = inside } ≡ below = cc in
      let a : rows_in inside ≡ rows_in below.inside = ap (λ (z : Taken). rows_in z.inside) q in
      let b : rows_in (at (parent (m ∷ ms)) (without_row (last (m ∷ ms))) inside) ≡ rows_in (at (parent (m ∷ ms)) (without_row (last (m ∷ ms))) below.inside) = ap (λ (z : Taken). rows_in (at (parent (m ∷ ms)) (without_row (last (m ∷ ms))) z.inside)) q in
      omega (arith, a, b, h)
  by false f ih = let g = ih f in omega (arith, g)

rows_gone : (n : List ℕ) (ns : List (List ℕ)) (from row : Taken) → resolved (n ∷ ns) from ≡ Here row → rows_in (at (parent (n ∷ ns)) (without_row (last (n ∷ ns))) from.inside) + (1 + rows_in row.inside) ≡ rows_in from.inside
rows_gone n [] from row e = by from.file (find n from.inside) refl e where
  by : (file : Option File) (o : Option Taken) → find n from.inside ≡ o → entered file (followed o (λ below. Here below)) ≡ Here row → rows_in (without_row n from.inside) + (1 + rows_in row.inside) ≡ rows_in from.inside
  by None None f e = absurd (cc)
  by None (Some below) f e = rows_without n row from.inside (f ∙ ap Some (taken_eq below row e))
  by (Some file) o f e = absurd (cc)
rows_gone n (m ∷ ms) from row e = by from.file (find n from.inside) refl e (λ below h. rows_gone m ms below row h) where
  by : (file : Option File) (o : Option Taken) → find n from.inside ≡ o → entered file (followed o (λ below. resolved (m ∷ ms) below)) ≡ Here row
      → ((below : Taken) → resolved (m ∷ ms) below ≡ Here row → rows_in (at (parent (m ∷ ms)) (without_row (last (m ∷ ms))) below.inside) + (1 + rows_in row.inside) ≡ rows_in below.inside)
      → rows_in (at (n ∷ parent (m ∷ ms)) (without_row (last (m ∷ ms))) from.inside) + (1 + rows_in row.inside) ≡ rows_in from.inside
  by None None f e ih = absurd (cc)
  by None (Some below) f e ih = rows_deep n m ms row from.inside below f (ih below e)
  by (Some file) o f e ih = absurd (cc)

pub hands_are_held : HandsAreHeld
hands_are_held t [] x s l e = absurd (omega (arith, l))
hands_are_held t (n ∷ ns) x s l e =
    let h = all_here FitsRecord (n ∷ ns) (root_row t) x e tt s.short in
    record {
      once = λ i. (let g = times_gone i n ns (root_row t) x e in let o = s.once i in omega (arith, g, o));
      ordered = ordered_at (parent (n ∷ ns)) (without_row (last (n ∷ ns))) t.visible (λ inner d. ordered_without (last (n ∷ ns)) inner d) s.ordered;
      trash_ordered = s.trash_ordered;
      short = all_at FitsRecord (parent (n ∷ ns)) (without_row (last (n ∷ ns))) t.visible (λ inner d. all_without FitsRecord (last (n ∷ ns)) inner d) s.short;
      trash_short = s.trash_short;
      hand_short = (h.0, h.1, tt);
      few = let r = rows_gone n ns (root_row t) x e in let f = few_rows t s in let a = s.next in let b = s.age in omega (arith, r, f, a, b);
    }

-- ---- both halves of a move

-- the row is taken out of its directory, and put into another
pub record HalvesOfMove (t : Table) (olds news : List (List ℕ)) (row : Taken) : Type 0 where
  pub out : ℕ
  pub rows : Rows
  pub into : ℕ
  pub others : Rows
  pub takes : TakesOut t (in_hand olds row t) (parent olds) (last olds) out rows row
  pub leads : LeadsToDirectory t (parent news) into others
  pub puts : PutsIn (in_hand olds row t) (row_moved olds news t (Here row)) (parent news) (last olds) (last news) into (left_below (parent news) olds others) row

pub halves_of_move : (t : Table) (n : List ℕ) (ns news : List (List ℕ)) (m : IsMove t (n ∷ ns) news) → IsSound t → IsSound (row_moved (n ∷ ns) news t (Here m.row)) → HalvesOfMove t (n ∷ ns) news m.row
halves_of_move t n ns news m s v =
    let d = in_directory_of n ns (root_row t) m.row m.here in
    let held = hands_are_held t (n ∷ ns) m.row s (omega arith) m.here in
    record {
      out = d.dir.id;
      rows = d.dir.inside;
      into = m.free.id;
      others = m.free.rows;
      takes = record {
        was = held_of t s;
        empty = s.hand;
        is = held;
        leads = d.leads ∙ ap (λ z. Here (record { id = d.dir.id; file = z; inside = d.dir.inside })) d.directory;
        named = d.named;
        visible = refl;
        trash = refl;
        hand = refl;
      };
      leads = m.free.leads;
      puts = record {
        was = held;
        hand = refl;
        is = held_of (row_moved (n ∷ ns) news t (Here m.row)) v;
        empty = s.hand;
        leads = names_lead_on t (n ∷ ns) (parent news) m.row m.free.id m.free.rows s (omega arith) m.apart m.free.leads;
        free = no_name_comes (parent news) (n ∷ ns) (last news) m.free.rows m.free.absent;
        visible = refl;
        trash = refl;
      };
    }

pub moves_go_through : MovesGoThrough
moves_go_through order t from to [] news d c e b f g says = absurd (let m = (accepted_move t from to [] news b.accepted f g).some in cc)
moves_go_through order t from to (n ∷ ns) news d c e b f g says =
    let m = accepted_move t from to (n ∷ ns) news b.accepted f g in
    let s = b.pictured.sound in
    let step = moved_step t from to (n ∷ ns) news m.row b.accepted f g m.here in
    let v = subst IsSound step (sound_kept t (Rename from to) s) in
    let u = row_moved (n ∷ ns) news t (Here m.row) in
    let mid = in_hand (n ∷ ns) m.row t in
    let h = halves_of_move t n ns news m s v in
    let dir : Taken = record { id = h.out; file = None; inside = h.rows } in
    let goal : Taken = record { id = h.into; file = None; inside = h.others } in
    let l = leads_at order t (parent news) (root_row t) goal (id_of 0) s (inl (refl, refl)) h.leads in
    let take = takes_are_rows order t mid (parent (n ∷ ns)) (last (n ∷ ns)) h.out h.rows m.row h.takes in
    subst (λ w. Drafts (shown order t) (shown order w) e c) (sym step)
    (says (seen_in t) (shown order t) (shown order t) (shown order mid) (shown order u) (id_of m.row.id) (id_of h.out) (id_of h.into) l.above
    (tree_row order (last (n ∷ ns)) m.row) (rows_of order h.rows) (rows_of order (left_below (parent news) (n ∷ ns) h.others))
    (pictured_paths order t d c b.pictured)
    (rooted order t s, formed order t s)
    (child_leads order t n ns (root_row t) dir m.row (id_of 0) s (inl (refl, refl)) h.takes.leads m.here)
    l.leads
    (record {
      has = have_rows order t h.out h.rows s (folder_of t (parent (n ∷ ns)) h.out h.rows h.takes.leads);
      among = take.0;
      named = refl;
      tree = held_trees order mid h.takes.is;
      countable = held_counts order mid h.takes.is;
      arranges = take.1;
    })
    (record {
      has = held_rows order mid h.into (left_below (parent news) (n ∷ ns) h.others) h.takes.is (folder_of mid (parent news) h.into (left_below (parent news) (n ∷ ns) h.others) h.puts.leads);
      tree = stands_tree order u v;
      countable = countable order u v;
      arranges = puts_are_rows order mid u (parent news) (last (n ∷ ns)) (last news) h.into (left_below (parent news) (n ∷ ns) h.others) m.row h.puts;
    }))
