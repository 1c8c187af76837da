-- A draft of rows that pictures the next table leads to it, with no page drafted.
use Rattle.std.proofs.Common.{◌≡◌, ◌∙◌, List, ℕ, Option, Some, None, refl, sym, subst}
use Rattle.iris_blocks.specs.Paged.{Paged, IsBlock, Shows, held_page}
use Rattle.iris_cache.specs.Drafted.{Drafted}
use Rattle.iris_cache.specs.Resident.{Resident}
use Rattle.iris_blocks.specs.Laws.{ChangesEach}
use Rattle.iris_name.specs.declared.name.Name.{Name}
use Rattle.iris_name.specs.declared.name.Name.TheVariants.{Entry, Part, Block}
use Rattle.iris_name.specs.declared.request.PlainError.{PlainError}
use Rattle.iris_name.specs.declared.request.Reply.TheVariants.{Done}
use Rattle.iris_name.specs.declared.request.Request.{Request}
use Rattle.iris_name.specs.declared.request.Request.TheVariants.{Mkdir, Create, Write, Read, Resize, Stat, List as ListNames, Rename, Remove, Sync, Root, Reclaim, Probe}
use Rattle.iris_node.specs.Unfolded.{Stored}
use Rattle.iris_plain.specs.Checks.{then_error}
use Rattle.iris_plain.specs.Steps.{Accepted}
use Rattle.iris_plan_laws.specs.Begun.{GoesThrough}
use Rattle.iris_plan_laws.specs.Blocks.{SameBlocks, IsOfRows}
use Rattle.iris_plan_laws.proofs.BlocksOfRows.{rows_keep_blocks}
use Rattle.iris_records.specs.Shown.{shown}
use Rattle.iris_requests.specs.declared.planned.Counters.{Counters}
use Rattle.iris_requests.specs.declared.planned.Planned.{Planned}
use Rattle.iris_requests.specs.Outcomes.{checked_plan}
use Rattle.iris_requests.specs.Planned.{IsShownBy, Fulfills}
use Rattle.iris_requests.specs.Served.{IsPlannable}
use Rattle.iris_requests.proofs.Answered.{answers_error}
use Rattle.iris_requests.proofs.Replies.{accepted_replies}
use Rattle.iris_requests.proofs.ShownTables.{no_pages}
use Rattle.iris_rows.specs.Changes.{stepped, table_verdict}
use Rattle.iris_rows.specs.Rows.{Table}
use Rattle.iris_rows.specs.Sound.{IsSound}
use Rattle.iris_rows.specs.View.{view}
use Rattle.iris_table_laws.proofs.SameTables.{node_named}

-- only a block's name stands for a page
paged_name : (order : List ℕ) (t : Table) (n : Name) (version : ℕ) (page : List ℕ) → IsSound t → shown order t n ≡ Some (Stored version page) → IsBlock n
paged_name order t (Entry i) version page s e = absurd (let h = node_named order t (Entry i) (Stored version page) s tt e in cc)
paged_name order t (Part f l i) version page s e = absurd (let h = node_named order t (Part f l i) (Stored version page) s tt e in cc)
paged_name order t (Block f p) version page s e = tt

-- a change of rows is planned, and answered with no more than that it is done
rows_plannable : (request : Request) → IsOfRows request → IsPlannable request
rows_plannable (Mkdir path) o = tt
rows_plannable (Create path) o = tt
rows_plannable (Rename from to) o = tt
rows_plannable (Write path offset bytes) o = absurd o
rows_plannable (Read path offset count) o = absurd o
rows_plannable (Resize path size) o = absurd o
rows_plannable (Stat path) o = absurd o
rows_plannable (ListNames path after) o = absurd o
rows_plannable (Remove path) o = absurd o
rows_plannable Sync o = absurd o
rows_plannable Root o = absurd o
rows_plannable Reclaim o = absurd o
rows_plannable (Probe at) o = absurd o

rows_done : (t : Table) (request : Request) → IsOfRows request → Accepted (view t).files request Done
rows_done t (Mkdir path) o = refl
rows_done t (Create path) o = refl
rows_done t (Rename from to) o = refl
rows_done t (Write path offset bytes) o = absurd o
rows_done t (Read path offset count) o = absurd o
rows_done t (Resize path size) o = absurd o
rows_done t (Stat path) o = absurd o
rows_done t (ListNames path after) o = absurd o
rows_done t (Remove path) o = absurd o
rows_done t Sync o = absurd o
rows_done t Root o = absurd o
rows_done t Reclaim o = absurd o
rows_done t (Probe at) o = absurd o

-- of the checks of a change the age is the last
pub last_of_three : (a b c w : Option PlainError) → then_error a (then_error b (then_error c w)) ≡ then_error (then_error a (then_error b (then_error c None))) w
last_of_three (Some e) b c w = refl
last_of_three None (Some e) c w = refl
last_of_three None None (Some e) w = refl
last_of_three None None None w = refl

pub last_of_four : (a b c d w : Option PlainError) → then_error a (then_error b (then_error c (then_error d w))) ≡ then_error (then_error a (then_error b (then_error c (then_error d None)))) w
last_of_four (Some e) b c d w = refl
last_of_four None b c d w = last_of_three b c d w

module _ (order : List ℕ) (t : Table) (c : Resident) (b : Paged) (k : Counters) (s : IsShownBy order t c b k) (request : Request) (o : IsOfRows request) where
  same : SameBlocks (shown order t) (shown order (stepped t request))
  same = rows_keep_blocks order t request s.sound o

  stays : (n : Name) → IsBlock n → shown order (stepped t request) n ≡ shown order t n
  stays (Entry i) is = absurd is
  stays (Part f l i) is = absurd is
  stays (Block f p) is = same f p

  changes_none : ChangesEach (shown order t) (shown order (stepped t request)) no_pages b
  changes_none = record {
    to = record { changed = λ n change e. absurd (cc); others = λ n is e. stays n is };
    differs = λ n change e. absurd (cc);
    held = λ n change e. absurd (cc);
  }

  shows_next : (e : Paged) → ((n : Name) → held_page e n ≡ held_page b n) → Shows (shown order (stepped t request)) e
  shows_next e lands n h held =
      let was = s.shows n h (sym (lands n) ∙ held) in
      stays n (paged_name order t n h.version h.page s.sound was) ∙ was

  -- the draft pictures the table after the request, and the counters are that table's
  rows_lead : (e : Drafted) (after : Counters) → table_verdict t request ≡ None → GoesThrough order t request e c → after.next ≡ (stepped t request).next → after.age ≡ (stepped t request).age
      → Fulfills order t request c b (checked_plan None e k after)
  rows_lead e after v through next age = record {
    replies = accepted_replies order t request Done (rows_plannable request o) s.sound v (rows_done t request o);
    leads = record { drafts = through; changes = changes_none; shows = λ e lands. shows_next e lands; next = next; age = age };
  }

  pub rows_answer : (error : Option PlainError) (e : Drafted) (after : Counters) (p : Planned) → p ≡ checked_plan error e k after → table_verdict t request ≡ error
      → (table_verdict t request ≡ None → GoesThrough order t request e c × ((after.next ≡ (stepped t request).next) × (after.age ≡ (stepped t request).age)))
      → Fulfills order t request c b p
  rows_answer (Some x) e after p is v leads = answers_error order t c b k s request x p is (rows_plannable request o) v
  rows_answer None e after p is v leads = let l = leads v in subst (Fulfills order t request c b) (sym is) (rows_lead e after v l.0 l.1.0 l.1.1)
