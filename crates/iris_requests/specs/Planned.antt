-- What a request is planned over, and what its plan leaves: the reply, and the table after it.
use Rattle.std.specs.Prelude.{◌≡◌, ℕ, List, if◌then◌else◌}
use Rattle.iris_blocks.specs.Paged.{Paged, Shows}
use Rattle.iris_cache.specs.Pictures.{Pictures, Drafts}
use Rattle.iris_cache.specs.Resident.{Resident}
use Rattle.iris_history.specs.Kept.{takes_step}
use Rattle.iris_blocks.specs.Laws.{ChangesEach}
use Rattle.iris_name.specs.declared.request.Request.{Request}
use Rattle.iris_name.specs.declared.request.Reply.{Reply}
use Rattle.iris_plan_laws.specs.PageChanges.{IsLanded}
use Rattle.iris_records.specs.Shown.{shown}
use Rattle.iris_rows.specs.Changes.{stepped}
use Rattle.iris_rows.specs.Rows.{Table}
use Rattle.iris_rows.specs.Sound.{IsSound}
use Rattle.iris_table.specs.Replies.{TableReplies}
use Rattle.iris_requests.specs.declared.planned.Counters.{Counters}
use Rattle.iris_requests.specs.declared.planned.Planned.{Planned}

-- A sound table with this next id and this age, which cache and resident blocks show.
pub record IsShownBy (order : List ℕ) (t : Table) (c : Resident) (b : Paged) (k : Counters) : Type 0 where
  pub sound : IsSound t
  pub pictures : Pictures (shown order t) c
  pub shows : Shows (shown order t) b
  pub next : k.next ≡ t.next
  pub age : k.age ≡ t.age

-- the table after a reply: a plain error and a refusal leave it
abbrev pub after_reply : Table → Request → Reply → Table
after_reply t request reply = if takes_step reply then stepped t request else t

-- A plan leads from one table to another: its drafts picture and show the second, with its next id and its age.
pub record LeadsTo (order : List ℕ) (t u : Table) (c : Resident) (b : Paged) (p : Planned) : Type 0 where
  pub drafts : Drafts (shown order t) (shown order u) p.draft c
  pub changes : ChangesEach (shown order t) (shown order u) p.pages b
  pub shows : (e : Paged) → IsLanded p.pages b e → Shows (shown order u) e
  pub next : p.counters.next ≡ u.next
  pub age : p.counters.age ≡ u.age

-- A plan answers a request: its reply is the table's, and it leads to the table after that reply.
pub record Fulfills (order : List ℕ) (t : Table) (request : Request) (c : Resident) (b : Paged) (p : Planned) : Type 0 where
  pub replies : TableReplies order t request p.reply
  pub leads : LeadsTo order t (after_reply t request p.reply) c b p

-- so it is for each table that cache and blocks show
abbrev pub PlansFor : List ℕ → Request → Resident → Paged → Counters → Planned → Type 0
PlansFor order request c b k p = (t : Table) → IsShownBy order t c b k → Fulfills order t request c b p
