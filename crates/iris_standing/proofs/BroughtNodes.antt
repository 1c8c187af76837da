-- A node that a get brings is the table's with its true hashes, and goes below the parent that the cache names.
use Rattle.std.proofs.Common.{◌≡◌, ◌&&◌, ℕ, ◌∷◌, List, [], Bool, true, false, cond, Option, Some, None, refl, sym, ◌∙◌, ap, subst, true≢false}
use Rattle.std.specs.Map.{lookup}
use Rattle.std.specs.Prelude.{IsSomeAnd, is_some}
use Rattle.iris_cache.specs.declared.held.Held.{Held}
use Rattle.iris_cache.specs.Held.{kid_more, newcomer_node, points}
use Rattle.iris_cache.specs.Holders.{IsHolder}
use Rattle.iris_cache.specs.Pictures.{Holds, Pictures}
use Rattle.iris_cache.specs.Resident.{Resident, held_node, map_if}
use Rattle.iris_cache.proofs.Keeping.{insert-keeps}
use Rattle.iris_desk.specs.AtDesks.{asked_by}
use Rattle.iris_desk.specs.declared.out.Out as pending
use Rattle.iris_file_rules.specs.FileTable.{files}
use Rattle.iris_file_rules.specs.Rules.{file_rules, files_after, shown_after, LegalFiles}
use Rattle.iris_file_rules.proofs.FileRecords.{texts}
use Rattle.iris_forest.specs.Truths.{IsTrueNode}
use Rattle.iris_forest.proofs.NodesAreFormed.{stands_tree, formed}
use Rattle.iris_forest.proofs.NodesWithTrueHashes.{parent_holds}
use Rattle.iris_history.specs.Kept.{is_block}
use Rattle.iris_history.specs.StatusLaws.{got}
use Rattle.iris_invariant.specs.Agrees.{Getting, IsTrueOf, Out, is_challenge, is_probe}
use Rattle.iris_invariant.specs.Events.{Brought}
use Rattle.iris_jobs.specs.declared.job.Brought.TheVariants as brought
use Rattle.iris_jobs.specs.Jobs.{JobState, IsReadAs, IsRecordFor, get_task, got_note}
use Rattle.iris_mac.specs.declared.keys.Keys.{Keys}
use Rattle.iris_name.specs.declared.name.Hash32.{Hash32}
use Rattle.iris_name.specs.declared.name.Name.{Name}
use Rattle.iris_name.specs.declared.name.Name.TheVariants.{Entry, Part, Block}
use Rattle.iris_name.specs.declared.note.Answer.TheVariants.{Absent, Given, Failed}
use Rattle.iris_name.specs.declared.note.Expect.{Expect}
use Rattle.iris_name.specs.declared.note.Expect.TheVariants.{Hash, Version}
use Rattle.iris_name.specs.declared.request.Request.{Request}
use Rattle.iris_name.specs.History.{Past}
use Rattle.iris_name.specs.Hmac.{block_key}
use Rattle.iris_name.specs.Names.{same_name}
use Rattle.iris_node.specs.declared.node.Node.{Node}
use Rattle.iris_node.specs.Nodes.{IsNode, name_of}
use Rattle.iris_node.specs.Spelling.{spelling}
use Rattle.iris_node.specs.Trees.{Shown, IsAbove, IsNodeName, IsParent, node_name}
use Rattle.iris_node.specs.Unfolded.{Unfolded, Absent as Nothing, Folder, Leaf, Even, Split, Stored, id_of}
use Rattle.iris_plan_laws.proofs.FetchedNodes.{records_fit, fetches_keep}
use Rattle.iris_plan_laws.specs.Fetches.{IsLinkedAbsent}
use Rattle.iris_pool.specs.Changes.{NodeComes}
use Rattle.iris_pool.specs.Pool.{PoolState, IsAbsentIn}
use Rattle.iris_pool.specs.View.{out_seen, pool_view}
use Rattle.iris_pool.proofs.OutSeen.{asked_for, seen_out}
use Rattle.iris_standing.specs.GetsKept as l
use Rattle.iris_standing.specs.GetsKept.{IsParentNamed, NodeKept}
use Rattle.iris_standing.specs.Standing.{Standing, AgreesWith, StandsFor, standing_view, with_pool}
use Rattle.iris_standing.specs.Transfers.{IsGetOut}
use Rattle.iris_standing.proofs.LinkedNames.{above_leads}
use Rattle.iris_standing.proofs.RightAnswers.{IsTold, ShowsTable, gets_now, kept_right, record_passed}
use Rattle.iris_standing.proofs.SeenTransfers.{seen_as, out_is, cell_is, since_is, get_seen}

-- what stands above another is a node
above_name : (u w : Unfolded) → IsAbove u w → (m : Name) × (node_name u ≡ Some m) × IsNodeName m
above_name (Folder id label less more inside) w a = (Entry (id_of id), refl, tt)
above_name (Leaf id label less more size counter versions) w a = (Entry (id_of id), refl, tt)
above_name (Split file level index low high) w a = (Part (id_of file) level index, refl, tt)
above_name Nothing w a = absurd a
above_name (Even version) w a = absurd a
above_name (Stored version bytes) w a = absurd a

-- ---- what is absent

none_is : (o : Option Held) → is_some o ≡ false → o ≡ None
none_is None e = refl
none_is (Some h) e = absurd (true≢false e)

absent_node : (s : Standing) (n : Name) → IsNodeName n → ((standing_view s).cell n).resident ≡ false → held_node s.pool.nodes n ≡ None
absent_node s (Entry i) is e = none_is _ e
absent_node s (Part f l i) is e = none_is _ e
absent_node s (Block f p) is e = absurd is

absent_in : (p : PoolState) (n : Name) → IsNodeName n → held_node p.nodes n ≡ None → IsAbsentIn p n
absent_in p (Entry i) is e = e
absent_in p (Part f l i) is e = e
absent_in p (Block f q) is e = absurd is

present_node : (s : Standing) (n : Name) → IsNodeName n → ((standing_view s).cell n).resident ≡ true → (h : Held) × (held_node s.pool.nodes n ≡ Some h)
present_node s (Entry i) is e = by (held_node s.pool.nodes (Entry i)) refl e where
  by : (o : Option Held) → held_node s.pool.nodes (Entry i) ≡ o → is_some (held_node s.pool.nodes (Entry i)) ≡ true → (h : Held) × (held_node s.pool.nodes (Entry i) ≡ Some h)
  by None at r = absurd (true≢false (sym r ∙ ap (λ o. is_some o) at))
  by (Some h) at r = (h, at)
present_node s (Part f l i) is e = by (held_node s.pool.nodes (Part f l i)) refl e where
  by : (o : Option Held) → held_node s.pool.nodes (Part f l i) ≡ o → is_some (held_node s.pool.nodes (Part f l i)) ≡ true → (h : Held) × (held_node s.pool.nodes (Part f l i) ≡ Some h)
  by None at r = absurd (true≢false (sym r ∙ ap (λ o. is_some o) at))
  by (Some h) at r = (h, at)
present_node s (Block f p) is e = absurd is

node_is : (n : Name) → is_block n ≡ false → IsNodeName n
node_is (Entry i) e = tt
node_is (Part f l i) e = tt
node_is (Block f p) e = absurd (true≢false e)

no_challenge : (n : Name) (asked : Option Request) → is_block n ≡ false → is_challenge asked n ≡ false
no_challenge n asked e = ap (λ b. b && is_probe asked) e

-- ---- what is cached then

come_settled : (b t : Bool) (new : Held) (o : Option Held) → new.settled ≡ true → ((h : Held) → o ≡ Some h → h.settled ≡ true) → (g : Held) → map_if b kid_more (cond t (Some new) o) ≡ Some g → g.settled ≡ true
come_settled true true new o e f g at = let z : kid_more new ≡ g = cc in ap (λ (x : Held). x.settled) (sym z) ∙ e
come_settled false true new o e f g at = let z : new ≡ g = cc in ap (λ (x : Held). x.settled) (sym z) ∙ e
come_settled true false new None e f g at = absurd (cc)
come_settled true false new (Some h) e f g at = let z : kid_more h ≡ g = cc in ap (λ (x : Held). x.settled) (sym z) ∙ f h refl
come_settled false false new o e f g at = f g at

module _ (opened : ℕ) (past : Past) (s : Standing) (h : AgreesWith opened past s) (n : Name) (o : Out) (x : Expect) (out : ((standing_view s).cell n).out ≡ Some o) (d : o.doing ≡ Getting x) where
  abbrev t : Shown
  t = shown_after s.keys past

  -- the parent of what is being fetched holds a hash of it
  holder_is : (p : Name) → IsParent t p n → IsHolder s.pool.nodes p n
  holder_is p is =
      let m = above_name is.parent is.child is.above in
      let named : IsNodeName p = subst IsNodeName ((stands_tree s.keys.order (files_after s.keys past) h.shows.sound).own p m.0 is.parent is.live m.1) m.2 in
      let r = h.parents n p o x is.parent out d is.live (above_leads is.parent is.child n is.above is.named) in
      let g = present_node s p named r in
      subst (λ z. IsSomeAnd z (λ (k : Held). (y : Hash32) × Holds k.node n y)) (sym g.1)
      (parent_holds t p n g.0.node (formed s.keys.order (files_after s.keys past) h.shows.sound) (h.shows.pictures.nodes p g.0 g.1) is)

  linked : (p : Name) → held_node s.pool.nodes n ≡ None → IsHolder s.pool.nodes p n → (y : Hash32) × IsLinkedAbsent s.pool.nodes p n y
  linked p absent is = by (held_node s.pool.nodes p) refl is where
    by : (z : Option Held) → held_node s.pool.nodes p ≡ z → IsSomeAnd z (λ (k : Held). (y : Hash32) × Holds k.node n y) → (y : Hash32) × IsLinkedAbsent s.pool.nodes p n y
    by None at i = absurd i
    by (Some g) at i = (i.0, record { absent = absent; parent = g; resident = at; holds = i.1 })

  -- below the parent that the cache names, the cache goes on picturing the table
  pub below_named : (c : Resident) (parent : Option Name) (node : Node) (who kids : ℕ) → IsParentNamed s.pool.nodes n parent → held_node s.pool.nodes n ≡ None → IsTrueNode t n node
      → ((q : Name) → held_node c q ≡ map_if (points parent q) kid_more (cond (same_name n q) (Some (newcomer_node parent node who kids)) (held_node s.pool.nodes q))) → Pictures t c
  below_named c (Some p) node who kids named absent is at = let y = linked p absent named.found in
      fetches_keep s.keys.order (files_after s.keys past) s.pool.nodes c p n y.0 node who kids h.shows.sound h.shows.pictures y.1 is at
  below_named c None node who kids named absent is at = insert-keeps t s.pool.nodes c n None node who kids h.shows.pictures absent is.0 is.1
      (λ p above. absurd (named.none refl p (holder_is p above))) (λ p e. absurd (cc)) at

-- ---- what is brought

-- What bytes are read as: a node of this name.
record IsNodeRead (n : Name) (bytes : List ℕ) (node : Node) : Type 0 where
  is_node : IsNode node
  own : name_of node ≡ n
  spelled_so : bytes ≡ spelling node

node_read : (n : Name) (x : Expect) (bytes : List ℕ) (node : Node) → IsReadAs n x bytes (brought.Node node) → IsNodeRead n bytes node
node_read n (Hash y) bytes node r = record { is_node = r.0; own = r.1; spelled_so = r.2 }
node_read n (Version v) bytes node r = absurd r

-- and its name is a node's
read_name : (keys : Keys) (n : Name) (x : Expect) (bytes : List ℕ) (node : Node) (u : Unfolded) → IsReadAs n x bytes (brought.Node node) → IsTrueOf (files keys) n x (Some u) → is_block n ≡ false
read_name keys n (Hash y) bytes node u r told = told.0
read_name keys n (Version v) bytes node u r told = absurd r

module _ (opened : ℕ) (past : Past) (s : Standing) (p : PoolState) (job : JobState) (o : pending.Out) (bytes : List ℕ) (parent : Option Name) (node : Node) (is : IsGetOut s job o)
    (read : IsReadAs job.name job.expect bytes (brought.Node node)) (named : IsParentNamed s.pool.nodes (name_of node) parent) (kept : NodeKept s.pool p job.who parent node) where
  abbrev out_as : Out
  out_as = seen_as s job.who o

  r : IsNodeRead job.name bytes node
  r = node_read job.name job.expect bytes node read

  comes : (z : Out) → IsAbsentIn s.pool job.name → out_seen [] s.pool.desks job.name ≡ Some z → z.touched ≡ false → NodeComes s.pool p job.who parent job.name node
  comes = subst (λ m. (z : Out) → IsAbsentIn s.pool m → out_seen [] s.pool.desks m ≡ Some z → z.touched ≡ false → NodeComes s.pool p job.who parent m node) r.own kept.comes

  shown_then : IsTold s past job.name job.expect out_as bytes → LegalFiles s.keys past → AgreesWith opened past s → ShowsTable s past p
  shown_then told legal h =
      let at = cell_is s job.who (get_task job) o is.out in
      let d = get_seen s job o is in
      let block = read_name s.keys job.name job.expect bytes node told.u read told.expected in
      let nodal = node_is job.name block in
      let now = (gets_now opened past s p job.name out_as job.expect bytes at d h).absent (no_challenge job.name out_as.request block) in
      let absent = absent_node s job.name nodal now.0 in
      let c = comes (asked_for [] (asked_by s.pool.desks job.who) (job.who, o)) (absent_in s.pool job.name nodal absent) (seen_out [] s.pool.desks job.name job.who o is.out.out) now.1 in
      let true_node = records_fit s.keys.order s.keys.block (files_after s.keys past) job.name told.u node h.shows.sound (texts s.keys (file_rules s.keys) past legal) nodal (told.now now.1) r.is_node (sym r.spelled_so ∙ told.is) in
      record {
        pictures = below_named opened past s h job.name out_as job.expect at d p.nodes parent node job.who c.0 (subst (λ m. IsParentNamed s.pool.nodes m parent) r.own named) absent true_node c.1;
        shows = λ m g z. h.shows.shows m g (ap (λ l. lookup (same_name m) l) (sym kept.pages) ∙ z);
        settled = λ m g z. come_settled (points parent m) (same_name job.name m) (newcomer_node parent node job.who c.0) (held_node s.pool.nodes m) refl (h.settled m) g (sym (c.1 m) ∙ z);
      }

  brought_so : Brought job.name out_as (standing_view s) (standing_view (with_pool p s))
  brought_so = subst (λ m. (key : List ℕ) (z : Out) → out_seen key s.pool.desks m ≡ Some z → Brought m z (pool_view key s.pool) (pool_view key p)) r.own kept.brought s.keys.block out_as (out_is s job.who (get_task job) o is.out)

  pub node_kept : IsRecordFor (block_key job.master) job.name job.expect bytes → StandsFor opened past s → StandsFor opened (record { note = got_note job (Given bytes); opened = opened } ∷ past) (with_pool p s)
  node_kept passes stands =
      let pass = record_passed s.keys job.name job.expect bytes (subst (λ key. IsRecordFor key job.name job.expect bytes) is.key passes) in
      subst (λ since. StandsFor opened (got opened job.who since job.name (Given bytes) ∷ past) (with_pool p s)) (since_is s job.who (get_task job) o is.out)
      (kept_right opened past s p job.name out_as job.expect bytes (cell_is s job.who (get_task job) o is.out) (get_seen s job o is) shown_then pass brought_so stands)

no_node : (node : Node) → brought.Node node ≡ brought.Nothing → ⊥
no_node node e = cc

pub nodes_are_kept : l.NodesAreKept
nodes_are_kept opened past s p job o Absent parent node is brings named kept stands = absurd (no_node node brings)
nodes_are_kept opened past s p job o Failed parent node is brings named kept stands = absurd (no_node node brings)
nodes_are_kept opened past s p job o (Given bytes) parent node is brings named kept stands = node_kept opened past s p job o bytes parent node is brings.1 named kept brings.0 stands
