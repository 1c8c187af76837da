-- A call that leaves the table is entered.
use Rattle.std.proofs.Common.{◌≡◌, inl, ◌∷◌, ℕ, Option, Some, None, refl, ap, sym, ◌∙◌, subst, true≢false}
use Rattle.iris_cache.proofs.Keeping.{alike-keeps}
use Rattle.iris_cache.specs.declared.held.Held.{Held}
use Rattle.iris_cache.specs.Laws.{AreAlike}
use Rattle.iris_cache.specs.Pictures.{IsHashOf, IsSettled}
use Rattle.iris_cache.specs.Resident.{held_node}
use Rattle.iris_file_rules.specs.FileTable.{files}
use Rattle.iris_file_rules.specs.Rules.{FileReplies, file_rules, files_after}
use Rattle.iris_history.specs.Kept.{is_block}
use Rattle.iris_history.specs.Legal.{IsLawful}
use Rattle.iris_history.specs.StatusLaws.{called}
use Rattle.iris_history.specs.Values.{IsReply, IsRequest}
use Rattle.iris_invariant.proofs.Bounds.{calls_mark_at_most}
use Rattle.iris_invariant.proofs.EventLaws.{calls_keep}
use Rattle.iris_invariant.proofs.Knowledge.{unmarked_is_synced}
use Rattle.iris_invariant.proofs.ParentLaws.{evidence_stays, parents_stay}
use Rattle.iris_invariant.specs.Agrees.{Cell}
use Rattle.iris_invariant.specs.Bounds.{IsChangedOf}
use Rattle.iris_invariant.specs.Events.{Answered, Still}
use Rattle.iris_name.specs.declared.name.Hash32.{Hash32}
use Rattle.iris_name.specs.declared.name.Name.{Name}
use Rattle.iris_name.specs.declared.name.Name.TheVariants.{Entry}
use Rattle.iris_name.specs.declared.note.Note.TheVariants.{Call}
use Rattle.iris_name.specs.declared.request.Reply.{Reply}
use Rattle.iris_name.specs.declared.request.Request.{Request}
use Rattle.iris_name.specs.History.{Past, Stamped}
use Rattle.iris_node.specs.Unfolded.{id_of}
use Rattle.iris_pool.specs.Changes.{Entered, HoldsAlike}
use Rattle.iris_pool.specs.Pool.{PoolState}
use Rattle.iris_records.specs.Shown.{shown}
use Rattle.iris_requests.specs.Planned.{IsShownBy, after_reply}
use Rattle.iris_rows.specs.Rows.{Table}
use Rattle.iris_standing.proofs.BlocksOfCalls.{none_at_most}
use Rattle.iris_standing.proofs.CarriedOver.{settled_alike, shows_alike}
use Rattle.iris_standing.specs.Calls.{GoesOnByCall, IdleCallsGoOn, UnmarkedSyncs}
use Rattle.iris_standing.specs.Standing.{AgreesWith, Standing, leads_to, standing_view, with_pool}

-- what was settled before it is alike
settled_before : (o w : Option Held) → AreAlike o w → IsSettled w → IsSettled o
settled_before None None a b = tt
settled_before None (Some k) a b = absurd a
settled_before (Some g) None a b = absurd a
settled_before (Some g) (Some k) a b = sym a.1.1 ∙ b

module _ (opened : ℕ) (past : Past) (s : Standing) (q : PoolState) (who : ℕ) (request : Request) (reply : Reply) (is_request : IsRequest request) (is_reply : IsReply reply)
    (same : after_reply (files_after s.keys past) request reply ≡ files_after s.keys past) (right : FileReplies s.keys past request reply) (entered : Entered who (standing_view s) (standing_view (with_pool q s)))
    (alike : HoldsAlike s.pool q) (agrees : AgreesWith opened past s) where
  abbrev note : Stamped
  note = called opened who request reply

  same_shown : (n : Name) → shown s.keys.order (files_after s.keys (note ∷ past)) n ≡ shown s.keys.order (files_after s.keys past) n
  same_shown n = ap (λ (t : Table). shown s.keys.order t n) same

  is_answered : Answered (files s.keys) past note who (standing_view s) (standing_view (with_pool q s))
  is_answered = record {
    idle = entered.idle;
    moved = λ n. Still (same_shown n) (entered.cell n);
    asked = entered.asked;
    freed = entered.freed;
    kept = entered.kept;
    pinned = λ w n other kept was now. entered.pinned w n (entered.callers w n kept) other;
    again = λ w n other kept was now. absurd (true≢false (sym now ∙ ap (λ (c : Cell). c.resident) (entered.cell n) ∙ was));
  }

  lawful : IsLawful (files s.keys) (file_rules s.keys) opened past past (Call who request reply)
  lawful = (inl right, is_request, is_reply)

  hash_after : (i : ℕ) (x : Hash32) → (IsSettled (held_node s.pool.nodes (Entry (id_of i))) → IsHashOf (shown s.keys.order (files_after s.keys past) (Entry (id_of i))) x)
      → IsSettled (held_node q.nodes (Entry (id_of i))) → IsHashOf (shown s.keys.order (files_after s.keys (note ∷ past)) (Entry (id_of i))) x
  hash_after i x f b = subst (λ o. IsHashOf o x) (sym (same_shown (Entry (id_of i)))) (f (settled_before (held_node s.pool.nodes (Entry (id_of i))) (held_node q.nodes (Entry (id_of i))) (alike.nodes (Entry (id_of i))) b))

  shows_before : IsShownBy s.keys.order (files_after s.keys past) q.nodes q.pages s.counters
  shows_before = record {
    sound = agrees.shows.sound;
    pictures = alike-keeps (shown s.keys.order (files_after s.keys past)) s.pool.nodes q.nodes agrees.shows.pictures alike.nodes;
    shows = shows_alike (shown s.keys.order (files_after s.keys past)) s.pool q alike agrees.shows.shows;
    next = agrees.shows.next;
    age = agrees.shows.age;
  }

  pub stays : GoesOnByCall opened past who request reply s (with_pool q s)
  stays = (
    lawful,
    record {
      agrees = (calls_keep (files s.keys) (file_rules s.keys) opened past (standing_view s) (standing_view (with_pool q s)) who request reply lawful is_answered agrees.agrees).1;
      shows = subst (λ (t : Table). IsShownBy s.keys.order t q.nodes q.pages s.counters) (sym same) shows_before;
      visible = hash_after 0 s.visible agrees.visible;
      trash = hash_after 1 s.trash agrees.trash;
      settled = settled_alike s.pool q alike agrees.settled;
      parents = (parents_stay (files s.keys)).calls leads_to past note who (standing_view s) (standing_view (with_pool q s)) agrees.parents is_answered;
      evidence = (evidence_stays (files s.keys)).calls opened who request reply past (standing_view s) (standing_view (with_pool q s)) is_answered agrees.evidence;
      bound = calls_mark_at_most (files s.keys) is_block 512 0 past note who (standing_view s) (standing_view (with_pool q s)) is_answered agrees.bound
          (none_at_most (IsChangedOf is_block (files s.keys) past note) 0 (λ n d. d.1 (same_shown n)));
    },
  )

pub idle_calls_go_on : IdleCallsGoOn
idle_calls_go_on opened past s q who request reply is_request is_reply same right entered alike agrees = stays opened past s q who request reply is_request is_reply same right entered alike agrees

pub unmarked_syncs : UnmarkedSyncs
unmarked_syncs opened past s agrees free = (refl, unmarked_is_synced (files s.keys) (file_rules s.keys) opened past (standing_view s) agrees.agrees free)
