use Rattle.std.proofs.Common.{◌≡◌, ◌∙◌, true, List, [], Some, None, IsSome, is_some, refl, ap, sym, subst}
use Rattle.std.proofs.lemmas.Result.{err_from_is_err_and}
use Rattle.iris_name.specs.Hmac.{priority}
use Rattle.iris_name.specs.declared.name.FileId.{FileId}
use Rattle.iris_name.specs.declared.name.Name.{Name}
use Rattle.iris_name.specs.declared.name.Name.TheVariants as name
use Rattle.iris_node.specs.declared.node.Node.TheVariants as node
use Rattle.iris_node.specs.Trees.{Shown}
use Rattle.iris_shape.specs.Treap.{Treap, treap, rows_with}
use Rattle.iris_cache.specs.Drafted.{seen}
use Rattle.iris_cache.specs.Pictures.{WasHash}
use Rattle.iris_cache.specs.Resident.{held_node}
use Rattle.iris_treepaths.specs.Crumbs.{Rises, crumb_above}
use Rattle.iris_dirtree.specs.Descents.{StandsBelow, Walks}
use Rattle.iris_treepaths.specs.Needs.{IsMetShort, ListedInHand}
use Rattle.iris_treepaths.specs.Nodes.{between}
use Rattle.iris_treepaths.specs.Paths.{above, IsAmong, met_along}
use Rattle.iris_treepaths.specs.Rows.{Row, up}
use Rattle.iris_dirtree.specs.Splits.{SeatReached, Splits, seen_with}
use Rattle.iris_treepaths.specs.Ways.{along_name, is_row_before}
use Rattle.iris_dirtree.proofs.TreapTops.{holder, stands_start, stop_short}
use Rattle.iris_dirtree.proofs.InsertedRows.{Tables, see, stands, once_now, few, once_low, once_high, few_low, few_high, lower, higher, low_rising, high_rising, seat_rising, planted, hand_hash, seen_lasts, comes_lasts}
use Rattle.iris_treepaths.proofs.Owned.{put_seen, stays_seen, only_none, only_more, only_through}
use Rattle.iris_treepaths.proofs.PathLaws.{met_plug, along_over}
use Rattle.iris_treepaths.proofs.RisenPaths.{risen}
use Rattle.iris_treepaths.proofs.RowNodes.{row_node_id}
use Rattle.iris_treepaths.proofs.Sees.{sees_holding}
use Rattle.iris_treepaths.proofs.There.{is_there}
use Rattle.iris_dirtree.proofs.inserting.plant.Goals as goal
use Rattle.iris_dirtree.proofs.inserting.plant.Goals.{In_ok-top}

-- the directory's treap is seen in its place
begins : (c : In_ok-top) (x : Row) (old new : Shown) (rows : List Row) → ListedInHand c.args.keys.now.order c.args.dir x c.args.draft.now c.args.cache.now old new rows
    → StandsBelow old new c.args.cache.now (treap (up c.args.keys.now.order) rows) (λ m. is_some (seen c.args.draft.now c.args.cache.now m)) c.args.draft.now (name.Entry c.args.dir) c.in_ok-top.top (treap (up c.args.keys.now.order) rows)
begins c x old new rows listed =
    let d = c.args.draft.now in
    let q = c.args.cache.now in
    stands_start old new q d (sees_holding old new (Some x) d q listed.was listed.is listed.hand) c.args.keys.now.order c.args.dir rows c.in_ok-top.top (λ m. is_some (seen d q m)) (λ m h. h) listed.rows_are c.in_ok-top.ensures.top

pub returns-in_err-path-clause-short : goal.returns-in_err-path-clause-short
returns-in_err-path-clause-short c =
    let r = err_from_is_err_and c.from_residual-in_err-path.result c.from_residual-in_err-path.ensures.1 in
    let key = c.args.keys.now.order in
    let dir = c.args.dir in
    let d = c.args.draft.now in
    let q = c.args.cache.now in
    let n = c.in_ok-name.name in
    let e = c.in_err-path.field-0.0 in
    let walks : (x : Row) (old new : Shown) (rows : List Row) → ListedInHand key dir x d q old new rows → Walks (met_along n) d q c.in_ok-top.top old new (along_name n key rows) = λ x old new rows listed. record {
      t = treap (up key) rows;
      lasts = λ m. is_some (seen d q m);
      p = name.Entry dir;
      stands = begins (goal.at.returns-in_err-path-clause-short c).In_ok-top x old new rows listed;
      met_is = refl;
    } in
    rw (r.1, r.2) (λ x. subst (λ (n : List _). IsMetShort (ListedInHand key dir x d q) (along_name n key) d q dir e) c.in_ok-name.ensures (stop_short (ListedInHand key dir x d q) dir d q (along_name n key) (Walks (met_along n) d q c.in_ok-top.top) e (walks x) c.in_err-path.ensures.short))

pub returns-in_err-low-clause-short : goal.returns-in_err-low-clause-short
returns-in_err-low-clause-short c =
    let r = err_from_is_err_and c.from_residual-in_err-low.result c.from_residual-in_err-low.ensures.1 in
    let key = c.args.keys.now.order in
    let dir = c.args.dir in
    let d = c.args.draft.now in
    let q = c.args.cache.now in
    let n = c.in_ok-name.name in
    let e = c.in_err-low.field-0.0 in
    let at = c.in_ok-path.field-0.at in
    let lasts = λ (m : Name). is_some (seen d q m) in
    let splits : (x : Row) (old new : Shown) (rows : List Row) → ListedInHand key dir x d q old new rows → Splits d q n at old new (along_name n key rows) = λ x old new rows listed.
    let t = treap (up key) rows in
    let w = (c.in_ok-path.ensures.reached old new t lasts (name.Entry dir) (begins (goal.at.returns-in_err-low-clause-short c).In_ok-top x old new rows listed)).walked in
    let M : Row → Treap Row → Type 0 = λ y t. IsAmong y (met_along n t) in
    record { t = w.rest; home = t; lasts = lasts; q = above (name.Entry dir) w.front; stands = w.stands; among = λ y h. subst (M y) (sym w.is) (met_plug n (met_along n) (along_over n) y w.front w.rest w.passed h) } in
    rw (r.1, r.2) (λ x. subst (λ (n : List _). IsMetShort (ListedInHand key dir x d q) (along_name n key) d q dir e) c.in_ok-name.ensures (stop_short (ListedInHand key dir x d q) dir d q (along_name n key) (Splits d q n at) e (splits x) c.in_err-low.ensures.short))

pub returns-clause-entries : goal.returns-clause-entries
returns-clause-entries c =
    let d = c.args.draft.now in
    let d1 = c.climb.new.draft in
    let d2 = c.climb-2.new.draft in
    let d3 = c.seat.new.draft in
    let d4 = c.climb-3.new.draft in
    let e = c.set_top.new.draft in
    let y = between c.in_ok-low-2.low c.in_ok-high.high c.args.node in
    only_through d d1 e c.in_ok-low-2.ensures.entries
    (only_through d1 d2 e c.in_ok-high.ensures.entries
    (only_through d2 d3 e (only_more d2 d2 d3 (Some (name.Entry c.above-parent.result)) y (only_none d2) c.in_ok-seat.ensures.set)
    (only_through d3 d4 e c.in_ok-top-2.ensures.entries c.in_ok-set_top.ensures.entries)))

pub returns-clause-planted : goal.returns-clause-planted
returns-clause-planted c = λ old new made x rows listed is_row holds tree countable re.
    let key = c.args.keys.now.order in
    let dir = c.args.dir in
    let k = c.args.node in
    let d = c.args.draft.now in
    let q = c.args.cache.now in
    let d1 = c.climb.new.draft in
    let d2 = c.climb-2.new.draft in
    let d3 = c.seat.new.draft in
    let d4 = c.climb-3.new.draft in
    let e = c.set_top.new.draft in
    let n = c.in_ok-name.name in
    let root = name.Entry dir in
    let here = name.Entry k.id in
    let top = c.in_ok-top.top in
    let top_is = c.in_ok-top.ensures.top in
    let ks = c.in_ok-path.field-0.path.items in
    let at = c.in_ok-path.field-0.at in
    let lows = c.in_ok-low.field-0.low.items in
    let highs = c.in_ok-low.field-0.high.items in
    let low_link = c.in_ok-low-2.low in
    let high_link = c.in_ok-high.high in
    let hash = c.hash_held.result in
    let link = c.in_ok-seat.seat in
    let lasts = seen_with d q k.id in
    let t = treap (up key) rows in
    let u = treap (up key) (rows_with (is_row_before x.name) x rows) in
    let id_is = c.id_of-id.ensures in
    let all : Tables key dir x k d q old new made rows n = record { listed = listed; is_row = is_row; holds = holds; tree = tree; countable = countable; rearranged = re; named = c.in_ok-name.ensures ∙ (row_node_id x k is_row).1 } in
    let R : FileId → Type 0 = λ j. SeatReached (priority key) j old new q lasts d root n t ks at in
    let r = subst R id_is (c.in_ok-path.ensures.reached old new t lasts root (stands key dir x k d q old new made rows n all top top_is)) in
    let low = lower key dir x k d q old new made rows n all ks at r in
    let high = higher key dir x k d q old new made rows n all ks at r in
    let split = c.in_ok-low.ensures.split old new t r.walked.rest lasts (above root r.walked.front) r.walked.stands in
    let L : FileId → Type 0 = λ j. lasts (name.Entry j) ≡ true → Rises old q t lasts d d (name.Entry j) low lows None → Rises old q t lasts d d1 (name.Entry j) low [] low_link in
    let low_rise = subst L id_is (c.in_ok-low-2.ensures.risen old q t low lasts d (once_low key dir x k d q old new made rows n all ks at r) (few_low key dir x k d q old new made rows n all ks at r)) (comes_lasts d q k.id) (low_rising key dir x k d q old new made rows n all ks at r lows highs split) in
    let low_risen = risen old q t lasts d d1 here low low_link low_rise in
    let H : FileId → Type 0 = λ j. lasts (name.Entry j) ≡ true → Rises old q t lasts d1 d1 (name.Entry j) high highs None → Rises old q t lasts d1 d2 (name.Entry j) high [] high_link in
    let high_rise = subst H id_is (c.in_ok-high.ensures.risen old q t high lasts d1 (once_high key dir x k d q old new made rows n all ks at r) (few_high key dir x k d q old new made rows n all ks at r)) (comes_lasts d q k.id)
    (high_rising key dir x k d q old new made rows n all ks at r lows highs split d1 low_link low_risen) in
    let high_risen = risen old q t lasts d1 d2 here high high_link high_rise in
    let parent = c.above-parent.result in
    let parent_is : parent ≡ crumb_above dir ks = c.above-parent.ensures ∙ ap (crumb_above dir) c.as_slice.ensures.value in
    let out : new here ≡ _ = ap (λ j. new (name.Entry j)) (row_node_id x k is_row).0 ∙ listed.hand.out in
    let F : FileId → Type 0 = λ j. IsSome (held_node q (name.Entry j)) → WasHash old q (name.Entry j) hash in
    let was = hand_hash old new d q k.id hash (see key dir x k d q old new made rows n all) out (subst F id_is (c.hash_held.ensures old listed.rooted listed.formed listed.hand.before)) in
    let hold = holder (seen d q root) top top_is in
    let there : IsSome (seen d q root) = is_there (seen d q root) (node.Entry hold.entry) hold.is in
    let seat = seat_rising key dir x k d q old new made rows n all ks at r lows highs split d1 low_link low_risen d2 high_link high_risen d3 hash parent link parent_is there c.in_ok-seat.ensures.link c.in_ok-seat.ensures.set was in
    let rise = c.in_ok-top-2.ensures.risen old q t u lasts d (once_now key dir x k d q old new made rows n all) (few key dir x k d q old new made rows n all) (seen_lasts d q k.id root there) seat in
    let y = between low_link high_link k in
    let come3 = is_there (seen d3 q here) (node.Entry y) (put_seen d2 d3 q (Some (name.Entry parent)) y c.in_ok-seat.ensures.set) in
    let comes = stays_seen d3 e q (only_through d3 d4 e c.in_ok-top-2.ensures.entries c.in_ok-set_top.ensures.entries) here come3 in
    let only = only_through d d1 e c.in_ok-low-2.ensures.entries
    (only_through d1 d2 e c.in_ok-high.ensures.entries (only_through d2 d3 e (only_more d2 d2 d3 (Some (name.Entry parent)) y (only_none d2) c.in_ok-seat.ensures.set) (only_through d3 d4 e c.in_ok-top-2.ensures.entries c.in_ok-set_top.ensures.entries))) in
    (there, planted key dir x k d q old new made rows n all d4 e c.in_ok-top-2.top top top_is rise only comes c.in_ok-set_top.ensures.entry c.in_ok-set_top.ensures.frame)
