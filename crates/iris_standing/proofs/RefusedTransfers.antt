-- The call of a transfer that failed is refused: it is licensed by that transfer's note, which stands directly before it.
use Rattle.std.proofs.Common.{◌≡◌, inl, inr, ℕ, ◌∷◌, List, false, Option, Some, refl, sym, ◌∙◌, ap, subst, true≢false}
use Rattle.std.specs.Prelude.{IsSomeAnd}
use Rattle.iris_desk.specs.AtDesks.{asked_by}
use Rattle.iris_desk.specs.declared.out.Out as pending
use Rattle.iris_file_rules.specs.FileTable.{files}
use Rattle.iris_file_rules.specs.Rules.{file_rules, LegalFiles}
use Rattle.iris_file_rules.proofs.FileRecords.{spells}
use Rattle.iris_history.specs.Answers.{IsFailure}
use Rattle.iris_history.specs.Kept.{Kept}
use Rattle.iris_history.specs.Legal.{IsLawful, IsLicensed}
use Rattle.iris_history.specs.StatusLaws.{called, got, putted, dropped_note}
use Rattle.iris_history.specs.Values.{IsRequest}
use Rattle.iris_invariant.specs.Agrees.{Out, View, marked}
use Rattle.iris_invariant.specs.Events.{Answered, Still}
use Rattle.iris_invariant.specs.Readings.{PassesCheck}
use Rattle.iris_invariant.proofs.Calls.{call_keeps}
use Rattle.iris_invariant.proofs.Ends.{failed_licenses, other_licenses, put_licenses, drop_licenses}
use Rattle.iris_invariant.proofs.Facts.{refusal_lawful}
use Rattle.iris_invariant.proofs.ParentLaws.{parents_stay, evidence_stays}
use Rattle.iris_invariant.proofs.Readings.{refused_other}
use Rattle.iris_jobs.specs.Chores.{put_bytes, put_note, put_task, discard_note, discard_task}
use Rattle.iris_jobs.specs.declared.job.Brought.TheVariants as brought
use Rattle.iris_jobs.specs.Jobs.{JobState, AnswerBrings, IsRecordFor, get_task, got_note}
use Rattle.iris_mac.specs.declared.keys.Keys.{Keys}
use Rattle.iris_name.specs.declared.name.Name.{Name}
use Rattle.iris_name.specs.declared.name.Name.TheVariants.{Entry, Part, Block}
use Rattle.iris_name.specs.declared.note.Answer.{Answer}
use Rattle.iris_name.specs.declared.note.Answer.TheVariants.{Absent, Given, Failed}
use Rattle.iris_name.specs.declared.note.Expect.{Expect}
use Rattle.iris_name.specs.declared.note.Expect.TheVariants.{Hash, Version}
use Rattle.iris_name.specs.declared.note.Note.{Note}
use Rattle.iris_name.specs.declared.request.Cause.{Cause}
use Rattle.iris_name.specs.declared.request.Cause.TheVariants.{StoreFailed, BadAnswer}
use Rattle.iris_name.specs.declared.request.Reply.TheVariants.{Refused}
use Rattle.iris_name.specs.declared.request.Request.{Request}
use Rattle.iris_name.specs.History.{Past, begun}
use Rattle.iris_name.specs.Hmac.{block_key}
use Rattle.iris_node.specs.Spelling.{SpellsNode}
use Rattle.iris_pool.specs.Changes.{Entered, HoldsAlike}
use Rattle.iris_pool.specs.Pool.{PoolState}
use Rattle.iris_standing.specs.Standing.{Standing, AgreesWith, leads_to, standing_view, with_pool}
use Rattle.iris_standing.specs.Transfers as l
use Rattle.iris_standing.specs.Transfers.{GoesOnByNote, LicensesRefusal, StandsByRefusal, cause_by, IsGetOut}
use Rattle.iris_standing.proofs.CarriedOver.{carried_alike}
use Rattle.iris_standing.proofs.NotedTransfers.{puts_go_on, discards_go_on, fruitless_gets_go_on}
use Rattle.iris_standing.proofs.SeenTransfers.{seen_as, cell_is, since_is, put_seen, get_seen, discard_seen}

-- a call that is refused leaves the table
answered_by : (k : Kept) (past : Past) (opened who : ℕ) (request : Request) (cause : Cause) (v v' : View) → Entered who v v' → Answered k past (called opened who request (Refused cause)) who v v'
answered_by k past opened who request cause v v' b = record {
  idle = b.idle;
  moved = λ n. Still refl (b.cell n);
  asked = b.asked;
  freed = b.freed;
  kept = b.kept;
  pinned = λ w n ne kept was now. b.pinned w n (b.callers w n kept) ne;
  again = λ w n ne kept was now. absurd (true≢false (sym (sym (ap (λ c. c.resident) (b.cell n)) ∙ now) ∙ was));
}

-- a refusal that the note before it licenses is entered
pub refused_call : (opened : ℕ) (past : Past) (s : Standing) (q : PoolState) (who : ℕ) (request : Request) (cause : Cause) → IsRequest request
    → IsLicensed (file_rules s.keys) opened who request (Refused cause) past → Entered who (standing_view s) (standing_view (with_pool q s)) → HoldsAlike s.pool q → AgreesWith opened past s
    → let x = called opened who request (Refused cause) in IsLawful (files s.keys) (file_rules s.keys) opened past (begun past x) x.note × AgreesWith opened (x ∷ past) (with_pool q s)
refused_call opened past s q who request cause is licensed b alike h =
    let x = called opened who request (Refused cause) in
    let a = answered_by (files s.keys) past opened who request cause (standing_view s) (standing_view (with_pool q s)) b in (
      refusal_lawful (files s.keys) (file_rules s.keys) opened who request cause past is licensed,
      carried_alike opened past (x ∷ past) s q h (record {
        table = refl;
        alike = alike;
        agrees = call_keeps (files s.keys) (file_rules s.keys) opened past (standing_view s) (standing_view (with_pool q s)) h.agrees who request (Refused cause) a;
        parents = (parents_stay (files s.keys)).calls leads_to past x who (standing_view s) (standing_view (with_pool q s)) h.parents a;
        evidence = (evidence_stays (files s.keys)).calls opened who request (Refused cause) past (standing_view s) (standing_view (with_pool q s)) a h.evidence;
        fewer = λ n m. ap (λ c. marked c) (sym (b.cell n)) ∙ m;
      }),
    )

pub refusals_go_on : l.RefusalsGoOn
refusals_go_on opened past s q who request cause is licensed enters alike h = refused_call opened past s q who request cause is licensed (enters s.keys.block) alike h

-- so a transfer's note and the refusal that it licenses keep that the core stands
refuses : (opened : ℕ) (past : Past) (note : Note) (who : ℕ) (cause : Cause) (s : Standing) (p q : PoolState) → (HoldsAlike s.pool p → GoesOnByNote opened past note s p)
    → LicensesRefusal opened past note who cause s → StandsByRefusal opened past note who cause s p q
refuses opened past note who cause s p q go licensed request asked is alike enters alike' (inl bad) = inl (inr (inr bad))
refuses opened past note who cause s p q go licensed request asked is alike enters alike' (inr h) =
    let g = go alike h.1 in
    let r = refused_call opened (record { note = note; opened = opened } ∷ past) (with_pool p s) q who request cause is (licensed request asked h.0 h.1) (enters s.keys.block) alike' g.1 in
    inr ((r.0, (g.0, h.0)), r.1)

at_some : {A : Type 0} (P : A → Type 0) (o : Option A) (x : A) → o ≡ Some x → IsSomeAnd o P → P x
at_some P o x e h = subst (λ z. IsSomeAnd z P) e h

pub failed_puts_license : l.FailedPutsLicense
failed_puts_license opened past s put o is crowded request asked legal h =
    let seen_o : Out = seen_as s put.who o in
    let at = cell_is s put.who (put_task put) o is.out in
    subst (λ since. IsLicensed (file_rules s.keys) opened put.who request (Refused (StoreFailed put.name)) (putted opened put.who since put.name (put_bytes put) false ∷ past)) (since_is s put.who (put_task put) o is.out)
    (at_some (λ (z : Request). IsLicensed (file_rules s.keys) opened put.who z (Refused (StoreFailed put.name)) (putted opened put.who o.since put.name (put_bytes put) false ∷ past)) (asked_by s.pool.desks put.who) request asked
    (put_licenses (files s.keys) (file_rules s.keys) put.name opened past ((standing_view s).cell put.name) seen_o (h.agrees.outs put.name seen_o at) (put_bytes put) (put_seen s put o is) false refl crowded))

pub failed_puts_refuse : l.PutsRefuseCalls
failed_puts_refuse opened past s p q put o is crowded ends =
    refuses opened past (put_note put false) put.who (StoreFailed put.name) s p q (puts_go_on opened past s p put o false is ends) (failed_puts_license opened past s put o is crowded)

pub failed_discards_license : l.FailedDiscardsLicense
failed_discards_license opened past s away o is crowded request asked legal h =
    let seen_o : Out = seen_as s away.who o in
    let at = cell_is s away.who (discard_task away) o is in
    subst (λ since. IsLicensed (file_rules s.keys) opened away.who request (Refused (StoreFailed away.name)) (dropped_note opened away.who since away.name false ∷ past)) (since_is s away.who (discard_task away) o is)
    (at_some (λ (z : Request). IsLicensed (file_rules s.keys) opened away.who z (Refused (StoreFailed away.name)) (dropped_note opened away.who o.since away.name false ∷ past)) (asked_by s.pool.desks away.who) request asked
    (drop_licenses (files s.keys) (file_rules s.keys) away.name opened past ((standing_view s).cell away.name) seen_o (h.agrees.outs away.name seen_o at) (discard_seen s away o is) false refl crowded))

pub failed_discards_refuse : l.DiscardsRefuseCalls
failed_discards_refuse opened past s p q away o is crowded ends =
    refuses opened past (discard_note away false) away.who (StoreFailed away.name) s p q (discards_go_on opened past s p away o false is ends) (failed_discards_license opened past s away o is crowded)

-- ---- gets

-- bytes that pass the invariant's check are a record for what is expected
pub passed_record : (keys : Keys) (n : Name) (x : Expect) (bytes : List ℕ) → PassesCheck (files keys) SpellsNode n x bytes → IsRecordFor keys.block n x bytes
passed_record keys n (Hash h) bytes p = p
passed_record keys (Block f q) (Version v) bytes p = p
passed_record keys (Entry i) (Version v) bytes p = p
passed_record keys (Part f l i) (Version v) bytes p = p

module _ (opened : ℕ) (past : Past) (s : Standing) (job : JobState) (o : pending.Out) (is : IsGetOut s job o) (request : Request) (asked : asked_by s.pool.desks job.who ≡ Some request) (legal : LegalFiles s.keys past) (h : AgreesWith opened past s) where
  abbrev LicensedBy : Answer → Cause → ℕ → Type 0
  LicensedBy answer cause since = IsLicensed (file_rules s.keys) opened job.who request (Refused cause) (got opened job.who since job.name answer ∷ past)

  failed : LicensedBy Failed (StoreFailed job.name) o.since
  failed = let seen_o : Out = seen_as s job.who o in at_some (λ (z : Request). IsLicensed (file_rules s.keys) opened job.who z (Refused (StoreFailed job.name)) (got opened job.who o.since job.name Failed ∷ past)) (asked_by s.pool.desks job.who) request asked
      (failed_licenses (files s.keys) (file_rules s.keys) job.name opened past ((standing_view s).cell job.name) seen_o (h.agrees.outs job.name seen_o (cell_is s job.who (get_task job) o is.out)) job.expect (get_seen s job o is) Failed tt)

  other : (answer : Answer) → (IsFailure answer → ⊥) → ((bytes : List ℕ) → answer ≡ Given bytes → PassesCheck (files s.keys) SpellsNode job.name job.expect bytes → ⊥) → LicensedBy answer (BadAnswer job.name) o.since
  other answer came wrong = let seen_o : Out = seen_as s job.who o in let g = h.agrees.outs job.name seen_o (cell_is s job.who (get_task job) o is.out) in let d = get_seen s job o is in
      at_some (λ (z : Request). IsLicensed (file_rules s.keys) opened job.who z (Refused (BadAnswer job.name)) (got opened job.who o.since job.name answer ∷ past)) (asked_by s.pool.desks job.who) request asked
      (other_licenses (files s.keys) (file_rules s.keys) job.name opened past ((standing_view s).cell job.name) seen_o g job.expect d answer
      (refused_other (files s.keys) (file_rules s.keys) SpellsNode job.name opened past ((standing_view s).cell job.name) seen_o job.expect answer g d (spells s.keys (file_rules s.keys)) legal came wrong))

  no_answer : (bytes : List ℕ) → Absent ≡ Given bytes → ⊥
  no_answer bytes e = cc

  wrong_bytes : (bytes got : List ℕ) → AnswerBrings (block_key job.master) job.name job.expect (Given bytes) brought.Nothing → Given bytes ≡ Given got → PassesCheck (files s.keys) SpellsNode job.name job.expect got → ⊥
  wrong_bytes bytes got f e pass = let z : got ≡ bytes = cc in f (subst (λ key. IsRecordFor key job.name job.expect bytes) (sym is.key) (passed_record s.keys job.name job.expect bytes (subst (PassesCheck (files s.keys) SpellsNode job.name job.expect) z pass)))

  licensed : (answer : Answer) → AnswerBrings (block_key job.master) job.name job.expect answer brought.Nothing → LicensedBy answer (cause_by answer job.name) o.since
  licensed Failed f = failed
  licensed Absent f = other Absent (λ z. z) (λ bytes e pass. no_answer bytes e)
  licensed (Given bytes) f = other (Given bytes) (λ z. z) (λ got e pass. wrong_bytes bytes got f e pass)

  pub licensed_get : (answer : Answer) → AnswerBrings (block_key job.master) job.name job.expect answer brought.Nothing → LicensedBy answer (cause_by answer job.name) job.since
  licensed_get answer f = subst (LicensedBy answer (cause_by answer job.name)) (since_is s job.who (get_task job) o is.out) (licensed answer f)

pub fruitless_gets_license : l.FruitlessGetsLicense
fruitless_gets_license opened past s job o answer is fruitless request asked legal h = licensed_get opened past s job o is request asked legal h answer fruitless

pub fruitless_gets_refuse : l.GetsRefuseCalls
fruitless_gets_refuse opened past s p q job o answer is fruitless ends =
    refuses opened past (got_note job answer) job.who (cause_by answer job.name) s p q (fruitless_gets_go_on opened past s p job o answer is ends) (fruitless_gets_license opened past s job o answer is fruitless)
