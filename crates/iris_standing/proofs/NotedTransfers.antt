-- Puts, discards, and gets that bring nothing: their notes are lawful, and what agreed agrees with the history that they end.
use Rattle.std.proofs.Common.{◌≡◌, inl, inr, ℕ, ◌∷◌, List, true, false, Some, None, refl, ◌∙◌, ap, subst}
use Rattle.iris_file_rules.specs.FileTable.{files}
use Rattle.iris_file_rules.specs.Rules.{file_rules, files_after}
use Rattle.iris_history.specs.Legal.{IsLawful, is_transfer_of}
use Rattle.iris_history.specs.StatusLaws.{got, putted, dropped_note}
use Rattle.iris_invariant.specs.Agrees.{Putting, Out, Agrees, StaysRight, is_challenge}
use Rattle.iris_invariant.specs.Bounds.{MarksNoMore}
use Rattle.iris_invariant.specs.Events.{Elsewhere, SamePins}
use Rattle.iris_invariant.proofs.Bounds.{others_mark_nothing}
use Rattle.iris_invariant.proofs.EventLaws.{fruitless_gets_keep, puts_keep, discards_keep}
use Rattle.iris_invariant.proofs.ParentLaws.{parents_stay, evidence_stays}
use Rattle.iris_jobs.specs.Chores.{put_bytes, put_task, discard_task}
use Rattle.iris_jobs.specs.Jobs.{get_task}
use Rattle.iris_name.specs.declared.name.Name.{Name}
use Rattle.iris_name.specs.declared.note.Note.{Note}
use Rattle.iris_name.specs.History.{Past, begun}
use Rattle.iris_name.specs.NameLaws.{same_name-refl}
use Rattle.iris_pool.specs.Changes.{HoldsAlike}
use Rattle.iris_pool.specs.Pool.{PoolState}
use Rattle.iris_records.specs.Shown.{shown}
use Rattle.iris_standing.specs.Standing.{Standing, AgreesWith, leads_to, standing_view, with_pool}
use Rattle.iris_standing.specs.Transfers as l
use Rattle.iris_standing.proofs.CarriedOver.{carried_alike, kept_before}
use Rattle.iris_standing.proofs.SeenTransfers.{seen_as, out_is, cell_is, since_is, put_seen, get_seen, discard_seen}

pub notes_stand : l.NotesStand
notes_stand opened past note s p go (inl bad) = inl (inr bad)
notes_stand opened past note s p go (inr h) = let g = go h.1 in inr ((g.0, h.0), g.1)

module _ (opened : ℕ) (past : Past) (s : Standing) (p : PoolState) (n : Name) (note : Note) (is : is_transfer_of n note ≡ true) (same : files_after s.keys (record { note = note; opened = opened } ∷ past) ≡ files_after s.keys past) where
  -- a transfer that is noted, and leaves the table and all that is held
  noted : HoldsAlike s.pool p → Elsewhere n (standing_view s) (standing_view (with_pool p s)) → SamePins n (standing_view s) (standing_view (with_pool p s)) → ((standing_view (with_pool p s)).cell n).out ≡ None
      → ((standing_view (with_pool p s)).cell n).resident ≡ ((standing_view s).cell n).resident → MarksNoMore (standing_view s) (standing_view (with_pool p s))
      → AgreesWith opened past s → Agrees (files s.keys) (file_rules s.keys) opened (record { note = note; opened = opened } ∷ past) (standing_view (with_pool p s))
      → AgreesWith opened (record { note = note; opened = opened } ∷ past) (with_pool p s)
  noted alike rest pins out resident fewer h agrees = carried_alike opened past (record { note = note; opened = opened } ∷ past) s p h (record {
    table = same;
    alike = alike;
    agrees = agrees;
    parents = (parents_stay (files s.keys)).ends leads_to past (record { note = note; opened = opened } ∷ past) n (standing_view s) (standing_view (with_pool p s)) h.parents rest
        (λ q. ap (λ t. shown s.keys.order t q) same) out (λ r. resident ∙ r);
    evidence = (evidence_stays (files s.keys)).others past (record { note = note; opened = opened }) n (standing_view s) (standing_view (with_pool p s)) is (kept_before n (standing_view s) (standing_view (with_pool p s)) rest pins) h.evidence;
    fewer = fewer;
  })

-- the settled put of an untouched name, as a pool asks it
settled_put : (opened : ℕ) (past : Past) (s : Standing) (n : Name) (o : Out) (bytes : List ℕ) → AgreesWith opened past s → ((standing_view s).cell n).out ≡ Some o → o.doing ≡ Putting bytes
    → o.touched ≡ false → ((standing_view s).cell n).settled ≡ true
settled_put opened past s n o bytes h out d = (subst (StaysRight (files s.keys) n past (is_challenge o.request n) ((standing_view s).cell n) o.touched) d (h.agrees.outs n o out).now).1

pub puts_go_on : l.PutsGoOn
puts_go_on opened past s p put o ok is ends alike h =
    let seen_o : Out = seen_as s put.who o in
    let at = cell_is s put.who (put_task put) o is.out in
    let d = put_seen s put o is in
    let b = ends s.keys.block seen_o (out_is s put.who (put_task put) o is.out) (settled_put opened past s put.name seen_o (put_bytes put) h at d) in
    subst (λ since. let x = putted opened put.who since put.name (put_bytes put) ok in IsLawful (files s.keys) (file_rules s.keys) opened past (begun past x) x.note × AgreesWith opened (x ∷ past) (with_pool p s))
    (since_is s put.who (put_task put) o is.out)
    (let g = puts_keep (files s.keys) (file_rules s.keys) opened past (standing_view s) (standing_view (with_pool p s)) put.name seen_o (put_bytes put) ok at d b h.agrees in (
      g.0,
      noted opened past s p put.name (putted opened put.who o.since put.name (put_bytes put) ok).note (same_name-refl put.name) refl alike b.rest b.pins b.out b.resident
          (others_mark_nothing.stores put.name seen_o ok (standing_view s) (standing_view (with_pool p s)) b) h g.1,
    ))

pub discards_go_on : l.DiscardsGoOn
discards_go_on opened past s p away o ok is ends alike h =
    let seen_o : Out = seen_as s away.who o in
    let at = cell_is s away.who (discard_task away) o is in
    let b = ends s.keys.block seen_o (out_is s away.who (discard_task away) o is) in
    subst (λ since. let x = dropped_note opened away.who since away.name ok in IsLawful (files s.keys) (file_rules s.keys) opened past (begun past x) x.note × AgreesWith opened (x ∷ past) (with_pool p s))
    (since_is s away.who (discard_task away) o is)
    (let g = discards_keep (files s.keys) (file_rules s.keys) opened past (standing_view s) (standing_view (with_pool p s)) away.name seen_o ok at (discard_seen s away o is) b h.agrees in (
      g.0,
      noted opened past s p away.name (dropped_note opened away.who o.since away.name ok).note (same_name-refl away.name) refl alike b.rest b.pins b.out b.resident
          (others_mark_nothing.discards away.name seen_o ok (standing_view s) (standing_view (with_pool p s)) b) h g.1,
    ))

pub fruitless_gets_go_on : l.FruitlessGetsGoOn
fruitless_gets_go_on opened past s p job o answer is ends alike h =
    let seen_o : Out = seen_as s job.who o in
    let at = cell_is s job.who (get_task job) o is.out in
    let b = ends s.keys.block in
    subst (λ since. let x = got opened job.who since job.name answer in IsLawful (files s.keys) (file_rules s.keys) opened past (begun past x) x.note × AgreesWith opened (x ∷ past) (with_pool p s))
    (since_is s job.who (get_task job) o is.out)
    (let g = fruitless_gets_keep (files s.keys) (file_rules s.keys) opened past (standing_view s) (standing_view (with_pool p s)) job.name seen_o job.expect answer at (get_seen s job o is) b h.agrees in (
      g.0,
      noted opened past s p job.name (got opened job.who o.since job.name answer).note (same_name-refl job.name) refl alike b.rest b.pins b.out b.resident
          (others_mark_nothing.withdraws job.name (standing_view s) (standing_view (with_pool p s)) b) h g.1,
    ))
