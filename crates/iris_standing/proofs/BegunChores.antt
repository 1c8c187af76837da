-- Puts of true records and discards of names that went begin.
use Rattle.std.proofs.Common.{◌≡◌, ◌||◌, ℕ, List, Bool, true, false, Some, IsNone, refl, sym, ◌∙◌, ap, subst, true≢false}
use Rattle.iris_cache.specs.declared.held.Held.{Held}
use Rattle.iris_cache.specs.Resident.{held_node}
use Rattle.iris_desk.specs.AtDesks.{asked_by, is_doomed}
use Rattle.iris_desk.specs.declared.out.Record.TheVariants as written
use Rattle.iris_file_rules.specs.FileTable.{files}
use Rattle.iris_file_rules.specs.Rules.{file_rules, files_after, shown_after}
use Rattle.iris_forest.proofs.NodesAreFormed.{stands_tree, formed}
use Rattle.iris_forest.proofs.NodesWithTrueHashes.{settled_is_true}
use Rattle.iris_history.specs.Kept.{Carries, shown_in}
use Rattle.iris_invariant.specs.Agrees as a
use Rattle.iris_invariant.specs.Agrees.{Getting, Putting, Dropping, Out, Agrees, Mark, marked}
use Rattle.iris_invariant.specs.Beginnings.{begun_out}
use Rattle.iris_invariant.specs.Events.{Began}
use Rattle.iris_invariant.proofs.Bounds.{others_mark_nothing}
use Rattle.iris_invariant.proofs.EventLaws.{puts_begin, discards_begin}
use Rattle.iris_invariant.proofs.ParentLaws.{parents_stay}
use Rattle.iris_invariant.specs.Cells.{dirty_in, settled_in, dirty_page_in}
use Rattle.iris_jobs.specs.Chores.{record_bytes}
use Rattle.iris_mac.specs.declared.keys.Keys.{Keys}
use Rattle.iris_name.specs.declared.name.Name.{Name}
use Rattle.iris_name.specs.declared.name.Name.TheVariants.{Entry, Part, Block}
use Rattle.iris_name.specs.declared.note.Expect.{Expect}
use Rattle.iris_name.specs.History.{Past}
use Rattle.iris_node.specs.Spelling.{spelling}
use Rattle.iris_node.specs.Trees.{IsNodeName}
use Rattle.iris_node.specs.Unfolded.{Unfolded, Absent, Folder, Leaf, Even, Split, Stored, node_of, node_record, spelled_node}
use Rattle.iris_pool.specs.Changes.{HoldsAlike}
use Rattle.iris_pool.specs.Pool.{PoolState}
use Rattle.iris_records.specs.Records.{spelled}
use Rattle.iris_standing.specs.Standing.{Standing, AgreesWith, leads_to, standing_view, with_pool}
use Rattle.iris_standing.specs.ChoresBegin as l
use Rattle.iris_standing.proofs.CachedNodes.{IsCachedAt, cached_at}
use Rattle.iris_standing.proofs.CarriedOver.{carried_alike, kept_before, same_holds}
use Rattle.std.specs.Prelude.{is_some}

-- what begins, and is no get, leaves all else that agrees
begun : (opened : ℕ) (past : Past) (s : Standing) (p : PoolState) (n : Name) (o : Out) → ((expect : Expect) → o.doing ≡ Getting expect → ⊥) → Began n o (standing_view s) (standing_view (with_pool p s)) → HoldsAlike s.pool p
    → AgreesWith opened past s → Agrees (files s.keys) (file_rules s.keys) opened past (standing_view (with_pool p s)) → AgreesWith opened past (with_pool p s)
begun opened past s p n o no_get b alike h agrees = carried_alike opened past past s p h (record {
  table = refl;
  alike = alike;
  agrees = agrees;
  parents = (parents_stay (files s.keys)).begins leads_to past n o (standing_view s) (standing_view (with_pool p s)) h.parents b (λ expect d q u live leads. absurd (no_get expect d));
  evidence = λ who q kept. h.evidence who q (kept_before n (standing_view s) (standing_view (with_pool p s)) b.rest b.pins who q kept);
  fewer = others_mark_nothing.begins n o (standing_view s) (standing_view (with_pool p s)) b;
})

no_put : (bytes : List ℕ) (expect : Expect) → Putting bytes ≡ Getting expect → ⊥
no_put bytes expect e = cc

no_discard : (expect : Expect) → Dropping ≡ Getting expect → ⊥
no_discard expect e = cc

-- ---- nodes

cached : (opened : ℕ) (past : Past) (s : Standing) (n : Name) (h : Held) → AgreesWith opened past s → held_node s.pool.nodes n ≡ Some h → IsCachedAt (shown_after s.keys past) n
cached opened past s n h w at =
    cached_at (shown_after s.keys past) n h.node (shown_after s.keys past n) (stands_tree s.keys.order (files_after s.keys past) w.shows.sound) refl (w.shows.pictures.nodes n h at)

-- the record of a node's name is that of its node
record_of_node : (key : List ℕ) (n : Name) (u : Unfolded) → IsNodeName n → spelled key n u ≡ node_record u
unfolding node_of
record_of_node key (Entry i) (Stored v bytes) h = refl
record_of_node key (Part f l i) (Stored v bytes) h = refl
record_of_node key (Block f p) (Stored v bytes) h = absurd h
record_of_node key n Absent h = refl
record_of_node key n (Folder id name less more inside) h = refl
record_of_node key n (Leaf id name less more size counter versions) h = refl
record_of_node key n (Even version) h = refl
record_of_node key n (Split file level index low high) h = refl

-- what the cell of a cached node shows
node_cell : (s : Standing) (n : Name) (h : Held) → IsNodeName n → held_node s.pool.nodes n ≡ Some h → (((standing_view s).cell n).resident ≡ true) × (((standing_view s).cell n).dirty ≡ h.dirty) × (((standing_view s).cell n).settled ≡ h.settled)
node_cell s (Entry i) h is at = (ap (λ o. is_some o) at, ap dirty_in at, ap settled_in at)
node_cell s (Part f l i) h is at = (ap (λ o. is_some o) at, ap dirty_in at, ap settled_in at)
node_cell s (Block f p) h is at = absurd is

-- a cell that is dirty is marked
marked_so : (c : a.Cell) → c.dirty ≡ true → marked c ≡ true
marked_so c e = ap (λ d. d || c.doomed) e

pub node_puts_begin : l.NodePutsBegin
node_puts_begin opened past s p who since n h crowded timely at dirty begins alike w =
    let c = cached opened past s n h w at in
    let cell = node_cell s n h c.is_node at in
    let keys = s.keys in
    let bytes : List ℕ = record_bytes keys.block n (written.Node (spelling h.node)) in
    let true_node = settled_is_true (shown_after keys past) s.pool.nodes n c.u h w.shows.pictures (stands_tree keys.order (files_after keys past) w.shows.sound) (formed keys.order (files_after keys past) w.shows.sound) at c.live (λ q g is of. w.settled q g is) in
    let carried : Carries (files keys) n (shown_in (files keys) past n) bytes =
    subst (λ o. Carries (files keys) n o bytes) (sym c.live) (sym (record_of_node keys.block n c.u c.is_node ∙ ap spelled_node true_node)) in
    begun opened past s p n (begun_out who since (asked_by s.pool.desks who) (Putting bytes) crowded) (no_put bytes) (begins keys.block) alike w
    (puts_begin (files keys) (file_rules keys) opened past (standing_view s) (standing_view (with_pool p s)) who since n (asked_by s.pool.desks who) bytes crowded timely.last
    (record { live = ap (λ o. is_some o) c.live; marked_ = marked_so ((standing_view s).cell n) (cell.1 ∙ dirty); settled = cell.2 ∙ w.settled n h at; carried = carried })
    timely.waits (begins keys.block) w.agrees)

-- ---- blocks

pub page_puts_begin : l.PagePutsBegin
page_puts_begin opened past s p who since file place h crowded timely at dirty begins alike w =
    let keys = s.keys in
    let n : Name = Block file place in
    let bytes : List ℕ = record_bytes keys.block n (written.Page h.version h.page) in
    let live = w.shows.shows n h at in
    begun opened past s p n (begun_out who since (asked_by s.pool.desks who) (Putting bytes) crowded) (no_put bytes) (begins keys.block) alike w
    (puts_begin (files keys) (file_rules keys) opened past (standing_view s) (standing_view (with_pool p s)) who since n (asked_by s.pool.desks who) bytes crowded timely.last
    (record {
      live = ap (λ o. is_some o) live;
      marked_ = marked_so ((standing_view s).cell n) (ap dirty_page_in at ∙ dirty);
      settled = ap (λ o. is_some o) at;
      carried = subst (λ o. Carries (files keys) n o bytes) (sym live) refl;
    })
    timely.waits (begins keys.block) w.agrees)

-- ---- names that went

-- what is doomed isn't live
gone_by : (keys : Keys) (past : Past) (n : Name) (resident m : Bool) → Mark (files keys) n past resident m → resident ≡ false → m ≡ true → IsNone (shown_in (files keys) past n)
gone_by keys past n resident m (a.Dirty live is on un) absent e = absurd (true≢false (sym is ∙ absent))
gone_by keys past n resident m (a.Unsure is on u) absent e = absurd (true≢false (sym is ∙ absent))
gone_by keys past n resident m (a.Clean off c) absent e = absurd (true≢false (sym e ∙ off))
gone_by keys past n resident m (a.Doomed off on d) absent e = d.gone
gone_by keys past n resident m (a.Gone off on g nd) absent e = g

doomed_cell : (s : Standing) (n : Name) → ((standing_view s).cell n).doomed ≡ is_doomed s.pool.desks n
doomed_cell s (Entry i) = refl
doomed_cell s (Part f l i) = refl
doomed_cell s (Block f p) = refl

doomed_so : (dirty doomed : Bool) → doomed ≡ true → (dirty || doomed) ≡ true
doomed_so true doomed e = refl
doomed_so false doomed e = e

pub discards_begin_so : l.DoomedDiscardsBegin
discards_begin_so opened past s p who since n crowded timely doomed begins nodes pages w =
    let keys = s.keys in
    let is = doomed_cell s n ∙ doomed in
    let m = doomed_so ((standing_view s).cell n).dirty ((standing_view s).cell n).doomed is in
    begun opened past s p n (begun_out who since (asked_by s.pool.desks who) Dropping crowded) no_discard (begins keys.block) (same_holds s.pool p nodes pages) w
    (discards_begin (files keys) (file_rules keys) opened past (standing_view s) (standing_view (with_pool p s)) who since n (asked_by s.pool.desks who) crowded timely.last
    (record { gone = gone_by keys past n ((standing_view s).cell n).resident (marked ((standing_view s).cell n)) (w.agrees.marks n) ((w.agrees.listed n).doomed is) m; marked_ = m })
    timely.waits (begins keys.block) w.agrees)
