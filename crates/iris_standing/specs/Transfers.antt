-- Transfers that end with a note, and the refusal of a call whose transfer failed, as statements.
use Rattle.std.specs.Prelude.{◌≡◌, ◌∷◌, ℕ, List, Bool, true, false, Some}
use Rattle.iris_desk.specs.AtDesks.{DesksState, asked_by, out_of}
use Rattle.iris_desk.specs.declared.out.Out as pending
use Rattle.iris_desk.specs.declared.out.Task.{Task}
use Rattle.iris_desk.specs.Outs.{task_of}
use Rattle.iris_file_rules.specs.FileTable.{files}
use Rattle.iris_file_rules.specs.Rules.{file_rules, LegalFiles}
use Rattle.iris_history.specs.Legal.{IsLawful, IsLicensed}
use Rattle.iris_history.specs.StatusLaws.{called}
use Rattle.iris_history.specs.Values.{IsRequest}
use Rattle.iris_invariant.specs.Agrees.{Out}
use Rattle.iris_invariant.specs.Events.{Withdrawn, Stored, Discarded}
use Rattle.iris_jobs.specs.Chores.{PutState, put_task, put_note, discard_task, discard_note}
use Rattle.iris_jobs.specs.declared.chore.Away.{Away}
use Rattle.iris_jobs.specs.declared.job.Brought.TheVariants as brought
use Rattle.iris_jobs.specs.Jobs.{JobState, AnswerBrings, get_task, got_note}
use Rattle.iris_name.specs.declared.name.Name.{Name}
use Rattle.iris_name.specs.declared.note.Answer.{Answer}
use Rattle.iris_name.specs.declared.note.Answer.TheVariants.{Absent, Given, Failed}
use Rattle.iris_name.specs.declared.note.Note.{Note}
use Rattle.iris_name.specs.declared.note.Note.TheVariants.{Call}
use Rattle.iris_name.specs.declared.request.Cause.{Cause}
use Rattle.iris_name.specs.declared.request.Cause.TheVariants.{StoreFailed, BadAnswer}
use Rattle.iris_name.specs.declared.request.Reply.TheVariants.{Refused}
use Rattle.iris_name.specs.declared.request.Request.{Request}
use Rattle.iris_name.specs.History.{Past, Stamped, begun}
use Rattle.iris_name.specs.Hmac.{block_key}
use Rattle.iris_pool.specs.Changes.{Entered, HoldsAlike}
use Rattle.iris_pool.specs.Pool.{PoolState}
use Rattle.iris_pool.specs.View.{out_seen, pool_view}
use Rattle.iris_standing.specs.Standing.{Standing, with_pool, AgreesWith, StandsFor}

-- This is out for a name at a caller's desk, and is this task.
pub record IsOutAs (d : DesksState) (who : ℕ) (task : Task) (o : pending.Out) : Type 0 where
  pub out : out_of d task.name ≡ Some (who, o)
  pub task_is : task_of o ≡ task

-- The same of a put, with the record and the key of what is out.
pub record IsPutOut (s : Standing) (put : PutState) (o : pending.Out) : Type 0 where
  pub out : IsOutAs s.pool.desks put.who (put_task put) o
  pub carries : o.record ≡ Some put.record_
  pub key : block_key put.master ≡ s.keys.block

-- And of a get, with what its record must show and the key.
pub record IsGetOut (s : Standing) (job : JobState) (o : pending.Out) : Type 0 where
  pub out : IsOutAs s.pool.desks job.who (get_task job) o
  pub expects : o.expect ≡ Some job.expect
  pub key : block_key job.master ≡ s.keys.block

-- By a note a pool is exchanged for another: the note is lawful, and what agreed with the history before it agrees with the one that it
-- ends.
abbrev pub GoesOnByNote : ℕ → Past → Note → Standing → PoolState → Type 0
GoesOnByNote opened past note s p = let x : Stamped = record { note = note; opened = opened } in AgreesWith opened past s
    → IsLawful (files s.keys) (file_rules s.keys) opened past (begun past x) note × AgreesWith opened (x ∷ past) (with_pool p s)

-- so a core that stands goes on standing
abbrev pub NotesStand : Type 0
NotesStand = (opened : ℕ) (past : Past) (note : Note) (s : Standing) (p : PoolState) → GoesOnByNote opened past note s p → StandsFor opened past s → StandsFor opened (record { note = note; opened = opened } ∷ past) (with_pool p s)

-- what the pool says of the end of a put, of a discard, and of a get that brings nothing
abbrev pub PutEnds : PoolState → PoolState → Name → Bool → Type 0
PutEnds p q n ok = (key : List ℕ) (o : Out) → out_seen key p.desks n ≡ Some o → (o.touched ≡ false → ((pool_view key p).cell n).settled ≡ true) → Stored n o ok (pool_view key p) (pool_view key q)

abbrev pub DiscardEnds : PoolState → PoolState → Name → Bool → Type 0
DiscardEnds p q n ok = (key : List ℕ) (o : Out) → out_seen key p.desks n ≡ Some o → Discarded n o ok (pool_view key p) (pool_view key q)

abbrev pub Withdraws : PoolState → PoolState → Name → Type 0
Withdraws p q n = (key : List ℕ) → Withdrawn n (pool_view key p) (pool_view key q)

-- and of a call that is entered
abbrev pub EntersCall : PoolState → PoolState → ℕ → Type 0
EntersCall p q who = (key : List ℕ) → Entered who (pool_view key p) (pool_view key q)

-- a put is noted
abbrev pub PutsGoOn : Type 0
PutsGoOn = (opened : ℕ) (past : Past) (s : Standing) (p : PoolState) (put : PutState) (o : pending.Out) (ok : Bool) → IsPutOut s put o
    → PutEnds s.pool p put.name ok → HoldsAlike s.pool p → GoesOnByNote opened past (put_note put ok) s p

-- a discard is noted
abbrev pub DiscardsGoOn : Type 0
DiscardsGoOn = (opened : ℕ) (past : Past) (s : Standing) (p : PoolState) (away : Away) (o : pending.Out) (ok : Bool) → IsOutAs s.pool.desks away.who (discard_task away) o
    → DiscardEnds s.pool p away.name ok → HoldsAlike s.pool p → GoesOnByNote opened past (discard_note away ok) s p

-- a get is noted, and brings nothing
abbrev pub FruitlessGetsGoOn : Type 0
FruitlessGetsGoOn = (opened : ℕ) (past : Past) (s : Standing) (p : PoolState) (job : JobState) (o : pending.Out) (answer : Answer) → IsGetOut s job o
    → Withdraws s.pool p job.name → HoldsAlike s.pool p → GoesOnByNote opened past (got_note job answer) s p

-- A transfer's note licenses the refusal of the request that its caller asks.
abbrev pub LicensesRefusal : ℕ → Past → Note → ℕ → Cause → Standing → Type 0
LicensesRefusal opened past note who cause s = (request : Request) → asked_by s.pool.desks who ≡ Some request → LegalFiles s.keys past → AgreesWith opened past s
    → IsLicensed (file_rules s.keys) opened who request (Refused cause) (record { note = note; opened = opened } ∷ past)

-- the cause of a refusal for an answer that brings nothing
abbrev pub cause_by : Answer → Name → Cause
cause_by Failed n = StoreFailed n
cause_by Absent n = BadAnswer n
cause_by (Given bytes) n = BadAnswer n

-- a get that brings nothing licenses it, and a crowded put, or a crowded discard, that failed
abbrev pub FruitlessGetsLicense : Type 0
FruitlessGetsLicense = (opened : ℕ) (past : Past) (s : Standing) (job : JobState) (o : pending.Out) (answer : Answer) → IsGetOut s job o
    → AnswerBrings (block_key job.master) job.name job.expect answer brought.Nothing → LicensesRefusal opened past (got_note job answer) job.who (cause_by answer job.name) s

abbrev pub FailedPutsLicense : Type 0
FailedPutsLicense = (opened : ℕ) (past : Past) (s : Standing) (put : PutState) (o : pending.Out) → IsPutOut s put o → o.crowded ≡ true → LicensesRefusal opened past (put_note put false) put.who (StoreFailed put.name) s

abbrev pub FailedDiscardsLicense : Type 0
FailedDiscardsLicense = (opened : ℕ) (past : Past) (s : Standing) (away : Away) (o : pending.Out) → IsOutAs s.pool.desks away.who (discard_task away) o → o.crowded ≡ true
    → LicensesRefusal opened past (discard_note away false) away.who (StoreFailed away.name) s

-- a licensed refusal is entered
abbrev pub RefusalsGoOn : Type 0
RefusalsGoOn = (opened : ℕ) (past : Past) (s : Standing) (q : PoolState) (who : ℕ) (request : Request) (cause : Cause) → IsRequest request → IsLicensed (file_rules s.keys) opened who request (Refused cause) past
    → EntersCall s.pool q who → HoldsAlike s.pool q → GoesOnByNote opened past (Call who request (Refused cause)) s q

-- Both in one: a note, and the refusal after it, keep that the core stands. One pool is after the note, one after the call.
abbrev pub StandsByRefusal : ℕ → Past → Note → ℕ → Cause → Standing → PoolState → PoolState → Type 0
StandsByRefusal opened past note who cause s p q = (request : Request) → asked_by s.pool.desks who ≡ Some request → IsRequest request → HoldsAlike s.pool p → EntersCall p q who → HoldsAlike p q
    → StandsFor opened past s → StandsFor opened (called opened who request (Refused cause) ∷ record { note = note; opened = opened } ∷ past) (with_pool q s)

-- the call of a get that brings nothing is refused
abbrev pub GetsRefuseCalls : Type 0
GetsRefuseCalls = (opened : ℕ) (past : Past) (s : Standing) (p q : PoolState) (job : JobState) (o : pending.Out) (answer : Answer) → IsGetOut s job o
    → AnswerBrings (block_key job.master) job.name job.expect answer brought.Nothing → Withdraws s.pool p job.name
    → StandsByRefusal opened past (got_note job answer) job.who (cause_by answer job.name) s p q

-- the call of a crowded put, or of a crowded discard, that failed is refused
abbrev pub PutsRefuseCalls : Type 0
PutsRefuseCalls = (opened : ℕ) (past : Past) (s : Standing) (p q : PoolState) (put : PutState) (o : pending.Out) → IsPutOut s put o → o.crowded ≡ true
    → PutEnds s.pool p put.name false → StandsByRefusal opened past (put_note put false) put.who (StoreFailed put.name) s p q

abbrev pub DiscardsRefuseCalls : Type 0
DiscardsRefuseCalls = (opened : ℕ) (past : Past) (s : Standing) (p q : PoolState) (away : Away) (o : pending.Out) → IsOutAs s.pool.desks away.who (discard_task away) o → o.crowded ≡ true
    → DiscardEnds s.pool p away.name false → StandsByRefusal opened past (discard_note away false) away.who (StoreFailed away.name) s p q
