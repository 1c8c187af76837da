-- A planned request is answered: what agreed with the history agrees with the one that the call ends.
use Rattle.std.proofs.Common.{◌≡◌, ◌≢◌, inl, inr, ◌∷◌, ℕ, true, Option, Some, refl, ap, sym, ◌∙◌, subst, is_some}
use Rattle.std.specs.Option.{option_map}
use Rattle.iris_blocks.specs.Paged.{Paged, Shows, held_page}
use Rattle.iris_cache.proofs.Keeping.{alike-keeps}
use Rattle.iris_cache.specs.declared.held.Held.{Held}
use Rattle.iris_cache.specs.Pictures.{IsHashOf, IsSettled, Pictures}
use Rattle.iris_cache.specs.Resident.{held_node}
use Rattle.iris_desk.specs.AtDesks.{DesksState, asked_by, is_doomed, keeps_for}
use Rattle.iris_file_rules.proofs.SoundTables.{tables_sound, well_formed}
use Rattle.iris_file_rules.specs.FileTable.{files}
use Rattle.iris_file_rules.specs.Rules.{FileReplies, file_rules, files_after, shown_after}
use Rattle.iris_file_rules.specs.TableLaws.{IsWellFormed}
use Rattle.iris_forest.proofs.NodesAreFormed.{rooted}
use Rattle.iris_history.specs.Kept.{Kept, is_block}
use Rattle.iris_history.specs.Legal.{IsLawful}
use Rattle.iris_history.specs.StatusLaws.{called}
use Rattle.iris_history.specs.Values.{IsReply, IsRequest}
use Rattle.iris_invariant.proofs.Begins.{resident_live}
use Rattle.iris_invariant.proofs.Bounds.{calls_keep_the_bound, calls_mark_at_most}
use Rattle.iris_invariant.proofs.EventLaws.{calls_keep}
use Rattle.iris_invariant.proofs.ParentLaws.{evidence_stays, parents_stay}
use Rattle.iris_invariant.specs.Agrees.{Cell, Out, View, marked}
use Rattle.iris_invariant.specs.Bounds.{AtMost, IsChangedOf}
use Rattle.iris_invariant.specs.Cells.{cell_at, is_touched_at, touched_if}
use Rattle.iris_invariant.specs.Events.{Answered, Moved}
use Rattle.iris_invariant.specs.Knowledge.{IsMarkedBlock}
use Rattle.iris_mac.specs.declared.keys.Keys.{Keys}
use Rattle.iris_name.specs.declared.name.Hash32.{Hash32}
use Rattle.iris_name.specs.declared.name.Name.{Name}
use Rattle.iris_name.specs.declared.name.Name.TheVariants.{Block, Entry, Part}
use Rattle.iris_name.specs.declared.note.Note.TheVariants.{Call}
use Rattle.iris_name.specs.declared.request.Reply.{Reply}
use Rattle.iris_name.specs.declared.request.Request.{Request}
use Rattle.iris_name.specs.declared.request.Request.TheVariants.{Mkdir, Create, Write, Read, Resize, Stat, List as ListNames, Rename, Remove, Sync, Root, Reclaim, Probe}
use Rattle.iris_name.specs.History.{Past, Stamped}
use Rattle.iris_node.specs.Trees.{IsParent}
use Rattle.iris_node.specs.Unfolded.{id_of}
use Rattle.iris_pool.specs.Pool.{IsPresent, PoolState}
use Rattle.iris_pool.specs.View.{IsPool, is_pinned_for, out_seen, pinned_page_in, pool_view}
use Rattle.iris_requests.specs.declared.planned.Planned.{Planned}
use Rattle.iris_requests.specs.Planned.{Fulfills, IsShownBy}
use Rattle.iris_requests.specs.Served.{IsPlannable}
use Rattle.iris_standing.proofs.BlocksOfCalls.{few_changed_by, most_changed}
use Rattle.iris_standing.proofs.CarriedOver.{settled_alike, shows_alike}
use Rattle.iris_standing.proofs.DraftsMade.{hash_stays, landed_shows, moves, pictures}
use Rattle.iris_standing.proofs.SeenTransfers.{cell_out}
use Rattle.iris_standing.proofs.SettledCells.{moved_so, pins_stay, settled_there, settles_twice, was_there}
use Rattle.iris_standing.proofs.SettledRoots.{all_settled, picture_settled, trash_hash, visible_hash}
use Rattle.iris_standing.specs.Calls.{CarriesOutPlan, GoesOnByCall, HasMarksFor, PlannedCallsGoOn, answered}
use Rattle.iris_standing.specs.Standing.{AgreesWith, Standing, leads_to, standing_view}
use Rattle.iris_table.specs.Replies.{TableReplies}
use Rattle.iris_table_laws.proofs.NodeParents.{roots_have_none}
use Rattle.iris_upkeep.specs.SettlesInto.{SettlesInto}

-- the table's reply to a planned request is right
pub right_reply : (keys : Keys) (past : Past) (request : Request) (reply : Reply) → IsPlannable request → TableReplies keys.order (files_after keys past) request reply → FileReplies keys past request reply
right_reply keys past (Mkdir path) reply is h = h
right_reply keys past (Create path) reply is h = h
right_reply keys past (Write path offset bytes) reply is h = h
right_reply keys past (Read path offset count) reply is h = h
right_reply keys past (Resize path size) reply is h = h
right_reply keys past (Stat path) reply is h = h
right_reply keys past (ListNames path after) reply is h = h
right_reply keys past (Rename from to) reply is h = h
right_reply keys past (Remove path) reply is h = absurd is
right_reply keys past Sync reply is h = absurd is
right_reply keys past Root reply is h = absurd is
right_reply keys past Reclaim reply is h = absurd is
right_reply keys past (Probe at) reply is h = absurd is

-- at most 512 blocks stay marked
bound_stays : (k : Kept) (past : Past) (x : Stamped) (who : ℕ) (s : Standing) (v' : View) (request : Request) → Answered k past x who (standing_view s) v' → IsPlannable request → HasMarksFor request s
    → AtMost 512 (IsMarkedBlock (standing_view s)) → AtMost (most_changed request) (IsChangedOf is_block k past x) → AtMost 512 (IsMarkedBlock v')
bound_stays k past x who s v' (Write path offset bytes) a is marks bound few = calls_keep_the_bound k past x who (standing_view s) v' a marks few
bound_stays k past x who s v' (Resize path size) a is marks bound few = calls_keep_the_bound k past x who (standing_view s) v' a marks few
bound_stays k past x who s v' (Mkdir path) a is marks bound few = calls_mark_at_most k is_block 512 0 past x who (standing_view s) v' a bound few
bound_stays k past x who s v' (Create path) a is marks bound few = calls_mark_at_most k is_block 512 0 past x who (standing_view s) v' a bound few
bound_stays k past x who s v' (Read path offset count) a is marks bound few = calls_mark_at_most k is_block 512 0 past x who (standing_view s) v' a bound few
bound_stays k past x who s v' (Stat path) a is marks bound few = calls_mark_at_most k is_block 512 0 past x who (standing_view s) v' a bound few
bound_stays k past x who s v' (ListNames path after) a is marks bound few = calls_mark_at_most k is_block 512 0 past x who (standing_view s) v' a bound few
bound_stays k past x who s v' (Rename from to) a is marks bound few = calls_mark_at_most k is_block 512 0 past x who (standing_view s) v' a bound few
bound_stays k past x who s v' (Remove path) a is marks bound few = absurd is
bound_stays k past x who s v' Sync a is marks bound few = absurd is
bound_stays k past x who s v' Root a is marks bound few = absurd is
bound_stays k past x who s v' Reclaim a is marks bound few = absurd is
bound_stays k past x who s v' (Probe at) a is marks bound few = absurd is

module _ (opened : ℕ) (past : Past) (s : Standing) (q : PoolState) (visible trash : Option Hash32) (who : ℕ) (request : Request) (plan : Planned)
    (pool : IsPool s.pool) (plannable : IsPlannable request) (is_request : IsRequest request) (is_reply : IsReply plan.reply) (marks : HasMarksFor request s)
    (ful : Fulfills s.keys.order (files_after s.keys past) request s.pool.nodes s.pool.pages plan) (ans : CarriesOutPlan s.keys.block who plan s.pool q visible trash) (agrees : AgreesWith opened past s) where
  abbrev note : Stamped
  note = called opened who request plan.reply

  well : IsWellFormed (shown_after s.keys (note ∷ past))
  well = well_formed s.keys (note ∷ past)

  moved_by_drafts : (n : Name) → Moved (files s.keys) past note n ((standing_view s).cell n) ((pool_view s.keys.block ans.drafted).cell n)
  moved_by_drafts = moves s.keys past note s.pool ans.drafted plan.draft plan.pages pool agrees.agrees.listed agrees.shows.shows ful.leads.drafts ful.leads.changes ans.lands

  pictures_drafted : Pictures (shown_after s.keys (note ∷ past)) ans.drafted.nodes
  pictures_drafted = pictures s.keys past note s.pool ans.drafted plan.draft plan.pages pool agrees.agrees.listed agrees.shows.shows ful.leads.drafts ful.leads.changes ans.lands

  shows_drafted : Shows (shown_after s.keys (note ∷ past)) ans.drafted.pages
  shows_drafted = landed_shows s.keys past note s.pool ans.drafted plan.draft plan.pages pool agrees.agrees.listed agrees.shows.shows ful.leads.drafts ful.leads.changes ans.lands
      (ful.leads.shows ans.lands.middle_pages ans.lands.landed)

  stays : (i : ℕ) (x : Hash32) → (IsSettled (held_node s.pool.nodes (Entry (id_of i))) → IsHashOf (shown_after s.keys past (Entry (id_of i))) x)
      → IsSettled (held_node ans.drafted.nodes (Entry (id_of i))) → IsHashOf (shown_after s.keys (note ∷ past) (Entry (id_of i))) x
  stays i x = hash_stays s.keys past note s.pool ans.drafted plan.draft plan.pages pool agrees.agrees.listed agrees.shows.shows ful.leads.drafts ful.leads.changes ans.lands (Entry (id_of i)) tt x

  -- ---- after settling

  rooted_after : (p : Name) → IsParent (shown_after s.keys (note ∷ past)) p (Entry (id_of 0)) → ⊥
  rooted_after p = roots_have_none s.keys.order (files_after s.keys (note ∷ past)) p (Entry (id_of 0)) (tables_sound s.keys (note ∷ past)) (inl refl)

  trash_rooted_after : (p : Name) → IsParent (shown_after s.keys (note ∷ past)) p (Entry (id_of 1)) → ⊥
  trash_rooted_after p = roots_have_none s.keys.order (files_after s.keys (note ∷ past)) p (Entry (id_of 1)) (tables_sound s.keys (note ∷ past)) (inr refl)

  desks_stay : ans.settled.desks ≡ ans.drafted.desks
  desks_stay = ans.settles.second.desks ∙ ans.settles.first.desks

  pages_stay : ans.settled.pages ≡ ans.drafted.pages
  pages_stay = ans.settles.second.pages ∙ ans.settles.first.pages

  nodes_settle : (n : Name) → SettlesInto (held_node ans.drafted.nodes n) (held_node ans.settled.nodes n)
  nodes_settle n = settles_twice (held_node ans.drafted.nodes n) (held_node ans.settles.middle.nodes n) (held_node ans.settled.nodes n) (ans.settles.first.nodes n) (ans.settles.second.nodes n)

  full : (n : Name) → ((standing_view s).cell n).resident ≡ true → ((standing_view s).cell n).settled ≡ true
  full (Entry i) r = settled_there (held_node s.pool.nodes (Entry i)) (agrees.settled (Entry i)) r
  full (Part f l i) r = settled_there (held_node s.pool.nodes (Part f l i)) (agrees.settled (Part f l i)) r
  full (Block f p) r = r

  settled_cell : (n : Name) → (pool_view s.keys.block ans.settled).cell n
      ≡ cell_at n (held_node ans.settled.nodes n) (held_page ans.drafted.pages n) (is_doomed ans.drafted.desks n) (out_seen s.keys.block ans.drafted.desks n)
  settled_cell n = ap (λ (b : Paged). cell_at n (held_node ans.settled.nodes n) (held_page b n) (is_doomed ans.settled.desks n) (out_seen s.keys.block ans.settled.desks n)) pages_stay
      ∙ ap (λ (d : DesksState). cell_at n (held_node ans.settled.nodes n) (held_page ans.drafted.pages n) (is_doomed d n) (out_seen s.keys.block d n)) desks_stay

  call_moves : (n : Name) → Moved (files s.keys) past note n ((standing_view s).cell n) ((pool_view s.keys.block q).cell n)
  call_moves n = subst (λ (c : Cell). Moved (files s.keys) past note n ((standing_view s).cell n) c) (sym (ans.entered.cell n ∙ settled_cell n))
      (moved_so (files s.keys) past note n ((standing_view s).cell n) (held_node ans.drafted.nodes n) (held_node ans.settled.nodes n) (held_page ans.drafted.pages n) (is_doomed ans.drafted.desks n) (out_seen s.keys.block ans.drafted.desks n)
      (nodes_settle n) (full n) (moved_by_drafts n))

  -- ---- the call is entered

  still_out : (n : Name) (o : Out) → ((standing_view s).cell n).out ≡ Some o
      → ((pool_view s.keys.block ans.settled).cell n).out ≡ Some (touched_if (is_touched_at n (held_node s.pool.nodes n) (held_node ans.drafted.nodes n) (held_page s.pool.pages n) (held_page ans.drafted.pages n)) o)
  still_out n o e =
      cell_out s.keys.block ans.settled n
      ∙ ap (λ (d : DesksState). out_seen s.keys.block d n) desks_stay ∙ ans.lands.out s.keys.block n
      ∙ ap (option_map (touched_if (is_touched_at n (held_node s.pool.nodes n) (held_node ans.drafted.nodes n) (held_page s.pool.pages n) (held_page ans.drafted.pages n))))
      (sym (cell_out s.keys.block s.pool n) ∙ e)

  kept_still : (w : ℕ) (n : Name) → keeps_for ans.settled.desks w n ≡ keeps_for s.pool.desks w n
  kept_still w n = ap (λ (d : DesksState). keeps_for d w n) desks_stay ∙ ans.lands.kept w n

  pins_settle : (w : ℕ) (n : Name) → is_pinned_for ans.settled w n ≡ is_pinned_for ans.drafted w n
  pins_settle w (Entry i) = pins_stay w (held_node ans.drafted.nodes (Entry i)) (held_node ans.settled.nodes (Entry i)) (nodes_settle (Entry i))
  pins_settle w (Part f l i) = pins_stay w (held_node ans.drafted.nodes (Part f l i)) (held_node ans.settled.nodes (Part f l i)) (nodes_settle (Part f l i))
  pins_settle w (Block f p) = ap (λ (b : Paged). pinned_page_in w (held_page b (Block f p))) pages_stay

  present : (n : Name) → ((pool_view s.keys.block ans.settled).cell n).resident ≡ true → IsPresent ans.drafted n
  present (Entry i) r = was_there (held_node ans.drafted.nodes (Entry i)) (held_node ans.settled.nodes (Entry i)) (nodes_settle (Entry i)) r
  present (Part f l i) r = was_there (held_node ans.drafted.nodes (Part f l i)) (held_node ans.settled.nodes (Part f l i)) (nodes_settle (Part f l i)) r
  present (Block f p) r = sym (ap (λ (b : Paged). is_some (held_page b (Block f p))) pages_stay) ∙ r

  -- what is kept for another and resident is pinned for it
  pinned_now : (w : ℕ) (n : Name) → w ≢ who → keeps_for s.pool.desks w n ≡ true → ((pool_view s.keys.block q).cell n).resident ≡ true → is_pinned_for q w n ≡ true
  pinned_now w n other kept r =
      let le = ans.entered.callers w n (kept_still w n ∙ kept) in
      ans.entered.pinned w n le other ∙ pins_settle w n ∙ ans.lands.pinned w n kept (present n (sym (ap (λ (c : Cell). c.resident) (ans.entered.cell n)) ∙ r))

  is_answered : Answered (files s.keys) past note who (standing_view s) (pool_view s.keys.block q)
  is_answered = record {
    idle = λ n o e. ans.entered.idle n _ (still_out n o e);
    moved = call_moves;
    asked = λ w other. ans.entered.asked w other ∙ ap (λ (d : DesksState). asked_by d w) desks_stay ∙ ans.lands.asked w;
    freed = ans.entered.freed;
    kept = λ w n other. ans.entered.kept w n other ∙ kept_still w n;
    pinned = λ w n other kept was now. pinned_now w n other kept now
        ∙ sym (agrees.agrees.pins w n kept (resident_live (files s.keys) n past ((standing_view s).cell n).resident (marked ((standing_view s).cell n)) (agrees.agrees.marks n) was)).1;
    again = λ w n other kept was now. pinned_now w n other kept now;
  }

  lawful : IsLawful (files s.keys) (file_rules s.keys) opened past past (Call who request plan.reply)
  lawful = (inl (right_reply s.keys past request plan.reply plannable ful.replies), is_request, is_reply)

  shows_after : IsShownBy s.keys.order (files_after s.keys (note ∷ past)) q.nodes q.pages plan.counters
  shows_after = record {
    sound = tables_sound s.keys (note ∷ past);
    pictures = alike-keeps (shown_after s.keys (note ∷ past)) ans.settled.nodes q.nodes
        (picture_settled (shown_after s.keys (note ∷ past)) well.tree well.formed (rooted s.keys.order (files_after s.keys (note ∷ past)) (tables_sound s.keys (note ∷ past))) rooted_after trash_rooted_after
        ans.drafted ans.settled visible trash ans.settles pictures_drafted) ans.alike.nodes;
    shows = shows_alike (shown_after s.keys (note ∷ past)) ans.settled q ans.alike (subst (λ (b : Paged). Shows (shown_after s.keys (note ∷ past)) b) (sym pages_stay) shows_drafted);
    next = ful.leads.next;
    age = ful.leads.age;
  }

  settled_after : (n : Name) (h : Held) → held_node q.nodes n ≡ Some h → h.settled ≡ true
  settled_after = settled_alike ans.settled q ans.alike
      (all_settled (shown_after s.keys (note ∷ past)) well.tree well.formed (rooted s.keys.order (files_after s.keys (note ∷ past)) (tables_sound s.keys (note ∷ past))) rooted_after trash_rooted_after
      ans.drafted ans.settled visible trash ans.settles pictures_drafted)

  pub goes_on : GoesOnByCall opened past who request plan.reply s (answered plan.counters q visible trash s)
  goes_on = (
    lawful,
    record {
      agrees = (calls_keep (files s.keys) (file_rules s.keys) opened past (standing_view s) (pool_view s.keys.block q) who request plan.reply lawful is_answered agrees.agrees).1;
      shows = shows_after;
      visible = λ b. visible_hash (shown_after s.keys (note ∷ past)) well.tree well.formed (rooted s.keys.order (files_after s.keys (note ∷ past)) (tables_sound s.keys (note ∷ past))) rooted_after trash_rooted_after
          ans.drafted ans.settled visible trash ans.settles pictures_drafted s.visible (stays 0 s.visible agrees.visible);
      trash = λ b. trash_hash (shown_after s.keys (note ∷ past)) well.tree well.formed (rooted s.keys.order (files_after s.keys (note ∷ past)) (tables_sound s.keys (note ∷ past))) rooted_after trash_rooted_after
          ans.drafted ans.settled visible trash ans.settles pictures_drafted s.trash (stays 1 s.trash agrees.trash);
      settled = settled_after;
      parents = (parents_stay (files s.keys)).calls leads_to past note who (standing_view s) (pool_view s.keys.block q) agrees.parents is_answered;
      evidence = (evidence_stays (files s.keys)).calls opened who request plan.reply past (standing_view s) (pool_view s.keys.block q) is_answered agrees.evidence;
      bound = bound_stays (files s.keys) past note who s (pool_view s.keys.block q) request is_answered plannable marks agrees.bound
          (few_changed_by s.keys.order (files_after s.keys past) agrees.shows.sound request plan.reply plannable);
    },
  )

pub planned_calls_go_on : PlannedCallsGoOn
planned_calls_go_on opened past s q visible trash who request plan pool plannable is_request is_reply marks ful ans agrees =
    goes_on opened past s q visible trash who request plan pool plannable is_request is_reply marks ful ans agrees
