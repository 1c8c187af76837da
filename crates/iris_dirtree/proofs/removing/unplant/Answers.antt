use Rattle.std.proofs.Common.{◌≡◌, List, Some, None, is_some, refl, ap, sym, ◌∙◌, subst}
use Rattle.std.proofs.lemmas.Result.{err_from_is_err_and}
use Rattle.iris_name.specs.declared.name.FileId.{FileId}
use Rattle.iris_name.specs.declared.name.Name.{Name}
use Rattle.iris_name.specs.declared.name.Name.TheVariants as name
use Rattle.iris_node.specs.declared.node.Link.{Link}
use Rattle.iris_node.specs.declared.node.Node.TheVariants as node
use Rattle.iris_node.specs.Fields.{EntryFields}
use Rattle.iris_node.specs.Trees.{Shown}
use Rattle.iris_shape.specs.Treap.{treap, rows_without}
use Rattle.iris_shape.specs.Order.{Distinct}
use Rattle.iris_shape.proofs.Treaps.{rows_treap}
use Rattle.iris_cache.specs.Drafted.{seen, taken_away}
use Rattle.iris_treepaths.specs.Paths.{met_near}
use Rattle.iris_treepaths.specs.Crumbs.{crumb_above}
use Rattle.iris_dirtree.specs.Descents.{FoundRow, Walks}
use Rattle.iris_dirtree.specs.Merges.{Merges}
use Rattle.iris_treepaths.specs.Needs.{Listed}
use Rattle.iris_treepaths.specs.Nodes.{IsPut}
use Rattle.iris_treepaths.specs.Rows.{Row, treap_of_rows, up, row_id}
use Rattle.iris_treepaths.specs.Ways.{has_name, near_name}
use Rattle.iris_dirtree.proofs.TreapTops.{holder, stands_start, stop_short}
use Rattle.iris_dirtree.proofs.MergedTreaps.{found_merging, rising_merged}
use Rattle.iris_treepaths.proofs.Owned.{stays_seen}
use Rattle.iris_dirtree.proofs.RemovedRows.{IsMade, planted, row_taken, made_stays}
use Rattle.iris_treepaths.proofs.Sees.{sees_holding}
use Rattle.iris_treepaths.proofs.There.{is_there}
use Rattle.iris_treepaths.proofs.RowsWithout.{taken, taken_without, once_of, distinct_without}
use Rattle.iris_dirtree.proofs.removing.unplant.Goals as goal
use Rattle.iris_dirtree.proofs.removing.unplant.Goals.{In_ok-path}

-- the row is found
found : (c : In_ok-path) (old new : Shown) (all : List Row) → Listed c.args.keys.now.order c.args.dir c.args.draft.now c.args.cache.now old new all
    → FoundRow old new c.args.cache.now (λ m. is_some (seen c.args.draft.now c.args.cache.now m)) c.args.draft.now (name.Entry c.args.dir) c.args.name.now (treap (up c.args.keys.now.order) all) c.in_ok-path.field-0.path.items c.in_ok-path.field-0.row
found c old new all listed =
    let key = c.args.keys.now.order in
    let d = c.args.draft.now in
    let q = c.args.cache.now in
    let start = stands_start old new q d (sees_holding old new None d q listed.was listed.is listed.drafts) key c.args.dir all c.in_ok-top.top (λ m. is_some (seen d q m)) (λ m h. h) listed.rows_are c.in_ok-top.ensures.top in
    c.in_ok-path.ensures.found old new (treap (up key) all) (λ m. is_some (seen d q m)) (name.Entry c.args.dir) start

-- its entry is taken away
gone : (c : goal.In_ok-remove) → IsMade c.set_top.new.draft c.remove.new.self (name.Entry c.in_ok-path.field-0.row.id) (Some taken_away)
gone c =
    let I : FileId → Type 0 = λ i. IsMade c.set_top.new.draft c.remove.new.self (name.Entry i) (Some taken_away) in
    let v : c.row.inside.id ≡ c.in_ok-path.field-0.row.id = ap (λ (e : EntryFields). e.id) c.row.view_is in
    subst I v c.in_ok-remove.ensures.names

pub returns-clause-row : goal.returns-clause-row
returns-clause-row c = λ old new x all listed x_in x_name.
    row_taken old new c.args.keys.now.order c.args.dir c.args.name.now c.args.draft.now c.args.cache.now all listed x x_in x_name (name.Entry c.args.dir) c.in_ok-path.field-0.path.items c.in_ok-path.field-0.row (found (goal.at.returns-clause-row c).In_ok-path old new all listed)

pub returns-in_err-path-clause-short : goal.returns-in_err-path-clause-short
returns-in_err-path-clause-short c =
    let r = err_from_is_err_and c.from_residual-in_err-path.result c.from_residual-in_err-path.ensures.1 in
    let key = c.args.keys.now.order in
    let n = c.args.name.now in
    let d = c.args.draft.now in
    let q = c.args.cache.now in
    let walks : (old new : Shown) (all : List Row) → Listed key c.args.dir d q old new all → Walks (met_near n) d q c.in_ok-top.top old new (near_name n key all) = λ old new all listed. record {
      t = treap (up key) all;
      lasts = λ m. is_some (seen d q m);
      p = name.Entry c.args.dir;
      stands = stands_start old new q d (sees_holding old new None d q listed.was listed.is listed.drafts) key c.args.dir all c.in_ok-top.top (λ m. is_some (seen d q m)) (λ m h. h) listed.rows_are c.in_ok-top.ensures.top;
      met_is = refl;
    } in
    rw (r.1, r.2) (stop_short (Listed key c.args.dir d q) c.args.dir d q (near_name n key) (Walks (met_near n) d q c.in_ok-top.top) c.in_err-path.field-0.0 walks c.in_err-path.ensures.short)

pub returns-in_err-path-2-clause-short : goal.returns-in_err-path-2-clause-short
returns-in_err-path-2-clause-short c =
    let r = err_from_is_err_and c.from_residual-in_err-path-2.result c.from_residual-in_err-path-2.ensures.1 in
    let key = c.args.keys.now.order in
    let n = c.args.name.now in
    let d = c.args.draft.now in
    let q = c.args.cache.now in
    let path = c.in_ok-path.field-0.path.items in
    let row = c.in_ok-path.field-0.row in
    let merges : (old new : Shown) (all : List Row) → Listed key c.args.dir d q old new all → Merges d q (up key) path row.left row.right old new (near_name n key all) = λ old new all listed. record {
      home = treap (up key) all;
      lasts = λ m. is_some (seen d q m);
      u = taken (up key) n (treap (up key) all);
      merging = found_merging old new q (λ m. is_some (seen d q m)) d (name.Entry c.args.dir) (up key) n (treap (up key) all) path row (taken (up key) n (treap (up key) all)) refl (found (goal.at.returns-in_err-path-2-clause-short c).In_ok-path old new all listed);
    } in
    rw (r.1, r.2) (stop_short (Listed key c.args.dir d q) c.args.dir d q (near_name n key) (Merges d q (up key) path row.left row.right) c.in_err-path-2.field-0.0 merges c.in_err-path-2.ensures.short)

pub returns-clause-planted : goal.returns-clause-planted
unfolding treap_of_rows
returns-clause-planted c = λ old new x all listed x_in x_name few.
    let key = c.args.keys.now.order in
    let n = c.args.name.now in
    let d = c.args.draft.now in
    let q = c.args.cache.now in
    let dir = c.args.dir in
    let p = name.Entry dir in
    let lasts = λ (m : Name). is_some (seen d q m) in
    let t = treap (up key) all in
    let u = treap (up key) (rows_without (has_name n) all) in
    let row = c.in_ok-path.field-0.row in
    let f = found (goal.at.returns-clause-planted c).In_ok-path old new all listed in
    let has = listed.rows_are in
    let D : List Row → Type 0 = Distinct row_id in
    let once = once_of u (subst D (sym (rows_treap (up key) (rows_without (has_name n) all))) (distinct_without (has_name n) all has.distinct)) in
    let merging = found_merging old new q lasts d p (up key) n t c.in_ok-path.field-0.path.items row u (taken_without key n all has.rising has.distinct) f in
    let merged = c.in_ok-path-2.ensures.merged old new t u lasts (met_near n t) merging in
    let hold = holder (seen d q p) c.in_ok-top.top c.in_ok-top.ensures.top in
    let there = is_there (seen d q p) (node.Entry hold.entry) hold.is in
    let ks = c.in_ok-path-2.field-0.path.items in
    let parent : c.above.result ≡ crumb_above dir ks = c.above.ensures ∙ ap (crumb_above dir) c.as_slice.ensures.value in
    let M : FileId → Type 0 = λ i. (k : Link) (e : EntryFields) → c.in_ok-path-2.field-0.end ≡ Some k → seen d q (name.Entry k.id) ≡ Some (node.Entry e) → IsPut d c.move_rest.new.draft (Some (name.Entry i)) e in
    let moved = subst M parent c.in_ok-move_rest.ensures.moved in
    let start = rising_merged old q t lasts d c.move_rest.new.draft dir u ks c.in_ok-path-2.field-0.end merged once there (moved, c.in_ok-move_rest.ensures.missing, c.in_ok-move_rest.ensures.nothing) in
    let rise = c.in_ok-top-2.ensures.risen old q t u lasts d once few there start in
    planted old new key dir n d q all listed x x_in x_name p c.in_ok-path.field-0.path.items row f c.climb.new.draft c.set_top.new.draft c.remove.new.self c.in_ok-top-2.top c.in_ok-top.top hold rise c.in_ok-set_top.ensures.entry c.in_ok-set_top.ensures.frame (gone c)

pub returns-clause-there : goal.returns-clause-there
returns-clause-there c =
    let hold = holder (seen c.args.draft.now c.args.cache.now (name.Entry c.args.dir)) c.in_ok-top.top c.in_ok-top.ensures.top in
    is_there (seen c.args.draft.now c.args.cache.now (name.Entry c.args.dir)) (node.Entry hold.entry) hold.is

pub returns-clause-stays : goal.returns-clause-stays
returns-clause-stays c = λ m h off.
    let q = c.args.cache.now in
    made_stays c.set_top.new.draft c.remove.new.self q (name.Entry c.in_ok-path.field-0.row.id) (Some taken_away) m (gone c) off
    (stays_seen c.climb.new.draft c.set_top.new.draft q c.in_ok-set_top.ensures.entries m (stays_seen c.move_rest.new.draft c.climb.new.draft q c.in_ok-top-2.ensures.entries m (stays_seen c.args.draft.now c.move_rest.new.draft q c.in_ok-move_rest.ensures.entries m h)))
