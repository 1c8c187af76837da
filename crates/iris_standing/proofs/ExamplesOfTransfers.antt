-- What is out as which task, the causes of refusals, and the parent that an empty cache names, by small cases.
use Rattle.std.proofs.Common.{◌≡◌, ℕ, [], ◌∷◌, false, Some, None, refl, ap, ◌∙◌, arith}
use Rattle.std.proofs.lemmas.Option.{some_pair_parts}
use Rattle.iris_cache.specs.Resident.{Resident}
use Rattle.iris_desk.specs.AtDesk.{empty_desk}
use Rattle.iris_desk.specs.AtDesks.{DesksState, out_of}
use Rattle.iris_desk.specs.declared.out.Doing.TheVariants.{Put, Discard}
use Rattle.iris_desk.specs.declared.out.Out as pending
use Rattle.iris_desk.specs.declared.out.Record.TheVariants.{Node}
use Rattle.iris_desk.specs.declared.out.Task.{Task}
use Rattle.iris_jobs.specs.Chores.{PutState, discard_task, put_task}
use Rattle.iris_name.specs.declared.name.FileId.{FileId}
use Rattle.iris_name.specs.declared.name.Name.{Name}
use Rattle.iris_name.specs.declared.name.Name.TheVariants.{Entry}
use Rattle.iris_name.specs.declared.note.Answer.TheVariants.{Absent, Given, Failed}
use Rattle.iris_name.specs.declared.request.Cause.TheVariants.{StoreFailed, BadAnswer}
use Rattle.iris_name.specs.declared.request.Request.TheVariants.{Sync}
use Rattle.iris_standing.specs.GetsKept.{IsParentNamed}
use Rattle.iris_standing.specs.Transfers.{IsOutAs, cause_by}

abbrev id : FileId
id = record { 0 = 2 }

abbrev n : Name
n = Entry id

-- ---- what is out

-- caller 1 asks for a sync, and a put of n is out for it, with one byte, since its session had three notes
abbrev out : pending.Out
out = record { doing = Put; name = n; since = 3; expect = None; crowded = false; «record» = Some (Node (7 ∷ [])); touched = false }

abbrev desks : DesksState
desks = record { desks = empty_desk ∷ record { request = Some Sync; out = out ∷ []; kept = [] } ∷ []; doomed = []; room = 0 }

abbrev put : ℕ → PutState
put since = record { who = 1; name = n; since = since; master = []; record_ = Node (7 ∷ []) }

put_is_out : IsOutAs desks 1 (put_task (put 3)) out
put_is_out = record { out = refl; task_is = refl }

found : (who : ℕ) (o : pending.Out) → out_of desks n ≡ Some (who, o) → (1 ≡ who) × (out ≡ o)
found who o e = some_pair_parts 1 who out o e

-- not one that began earlier; not at another caller's desk; and no discard
earlier_is_not : (o : pending.Out) → IsOutAs desks 1 (put_task (put 2)) o → ⊥
earlier_is_not o h = let e : ◌≡◌ {A = ℕ} 3 2 = ap (λ (z : pending.Out). z.since) (found 1 o h.out).1 ∙ ap (λ (t : Task). t.since) h.task_is in omega (arith, e)

another_is_not : (o : pending.Out) → IsOutAs desks 2 (put_task (put 3)) o → ⊥
another_is_not o h = let e : ◌≡◌ {A = ℕ} 1 2 = (found 2 o h.out).0 in omega (arith, e)

discard_is_not : (o : pending.Out) → IsOutAs desks 1 (discard_task (record { who = 1; name = n; since = 3 })) o → ⊥
discard_is_not o h = let e : Put ≡ Discard = ap (λ (z : pending.Out). z.doing) (found 1 o h.out).1 ∙ ap (λ (t : Task). t.doing) h.task_is in cc

-- ---- why a call is refused

-- the store failed, or what it gave is bad: that is so where it says that nothing is there
failure : cause_by Failed n ≡ StoreFailed n
failure = refl

absence : cause_by Absent n ≡ BadAnswer n
absence = refl

wrong_bytes : cause_by (Given (7 ∷ [])) n ≡ BadAnswer n
wrong_bytes = refl

-- ---- the parent that the cache names

abbrev empty : Resident
empty = record { nodes = []; room = [] }

-- an empty cache names none, and can't name another node
no_parent : IsParentNamed empty n None
no_parent = record { found = tt; none = λ e p holds. holds }

no_other : (p : Name) → IsParentNamed empty n (Some p) → ⊥
no_other p h = h.found
