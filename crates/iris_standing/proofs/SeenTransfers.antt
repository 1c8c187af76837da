-- What is out at a desk, as the invariant sees it.
use Rattle.std.proofs.Common.{◌≡◌, ℕ, List, Option, Some, refl, sym, ◌∙◌, ap}
use Rattle.iris_desk.specs.AtDesks.{asked_by}
use Rattle.iris_desk.specs.declared.out.Doing as desk
use Rattle.iris_desk.specs.declared.out.Doing.TheVariants.{Get, Put, Discard}
use Rattle.iris_desk.specs.declared.out.Out as pending
use Rattle.iris_desk.specs.declared.out.Record.{Record}
use Rattle.iris_desk.specs.declared.out.Task.{Task}
use Rattle.iris_invariant.specs.Agrees.{Getting, Putting, Dropping, Out}
use Rattle.iris_jobs.specs.Chores.{PutState, put_bytes, put_task, record_bytes, discard_task}
use Rattle.iris_jobs.specs.declared.chore.Away.{Away}
use Rattle.iris_jobs.specs.Jobs.{JobState, get_task}
use Rattle.iris_name.specs.declared.name.Name.{Name}
use Rattle.iris_name.specs.declared.name.Name.TheVariants.{Entry, Part, Block}
use Rattle.iris_name.specs.declared.note.Expect.{Expect}
use Rattle.iris_pool.specs.Pool.{PoolState}
use Rattle.iris_pool.specs.View.{doing_by, out_seen, pool_view}
use Rattle.iris_pool.proofs.OutSeen.{asked_for, seen_out}
use Rattle.iris_standing.specs.Standing.{Standing, standing_view}
use Rattle.iris_standing.specs.Transfers.{IsOutAs, IsPutOut, IsGetOut}

-- what is seen of it
abbrev pub seen_as : Standing → ℕ → pending.Out → Out
seen_as s who o = asked_for s.keys.block (asked_by s.pool.desks who) (who, o)

-- a cell has what is seen
pub cell_out : (key : List ℕ) (p : PoolState) (n : Name) → ((pool_view key p).cell n).out ≡ out_seen key p.desks n
cell_out key p (Entry i) = refl
cell_out key p (Part f l i) = refl
cell_out key p (Block f q) = refl

module _ (s : Standing) (who : ℕ) (task : Task) (o : pending.Out) (h : IsOutAs s.pool.desks who task o) where
  pub out_is : out_seen s.keys.block s.pool.desks task.name ≡ Some (seen_as s who o)
  out_is = seen_out s.keys.block s.pool.desks task.name who o h.out

  pub cell_is : ((standing_view s).cell task.name).out ≡ Some (seen_as s who o)
  cell_is = cell_out s.keys.block s.pool task.name ∙ out_is

  pub since_is : o.since ≡ task.since
  since_is = ap (λ (t : Task). t.since) h.task_is

  pub name_is : o.name ≡ task.name
  name_is = ap (λ (t : Task). t.name) h.task_is

  pub doing_is : o.doing ≡ task.doing
  doing_is = ap (λ (t : Task). t.doing) h.task_is

doing_put : (key : List ℕ) (n : Name) (doing : desk.Doing) (x : Option Expect) (r : Option Record) (record_ : Record) → doing ≡ Put → r ≡ Some record_ → doing_by key n doing x r ≡ Putting (record_bytes key n record_)
doing_put key n doing x r record_ d e = ap (λ z. doing_by key n z x r) d ∙ ap (λ z. doing_by key n Put x z) e

doing_get : (key : List ℕ) (n : Name) (doing : desk.Doing) (x : Option Expect) (r : Option Record) (expect : Expect) → doing ≡ Get → x ≡ Some expect → doing_by key n doing x r ≡ Getting expect
doing_get key n doing x r expect d e = ap (λ z. doing_by key n z x r) d ∙ ap (λ z. doing_by key n Get z r) e

doing_drop : (key : List ℕ) (n : Name) (doing : desk.Doing) (x : Option Expect) (r : Option Record) → doing ≡ Discard → doing_by key n doing x r ≡ Dropping
doing_drop key n doing x r d = ap (λ z. doing_by key n z x r) d

-- a put is seen with the bytes of its record
pub put_seen : (s : Standing) (put : PutState) (o : pending.Out) → IsPutOut s put o → (seen_as s put.who o).doing ≡ Putting (put_bytes put)
put_seen s put o h =
    doing_put s.keys.block o.name o.doing o.expect o.record put.record_ (doing_is s put.who (put_task put) o h.out) h.carries
    ∙ ap Putting (ap (λ n. record_bytes s.keys.block n put.record_) (name_is s put.who (put_task put) o h.out) ∙ ap (λ key. record_bytes key put.name put.record_) (sym h.key))

pub get_seen : (s : Standing) (job : JobState) (o : pending.Out) → IsGetOut s job o → (seen_as s job.who o).doing ≡ Getting job.expect
get_seen s job o h = doing_get s.keys.block o.name o.doing o.expect o.record job.expect (doing_is s job.who (get_task job) o h.out) h.expects

pub discard_seen : (s : Standing) (away : Away) (o : pending.Out) → IsOutAs s.pool.desks away.who (discard_task away) o → (seen_as s away.who o).doing ≡ Dropping
discard_seen s away o h = doing_drop s.keys.block o.name o.doing o.expect o.record (doing_is s away.who (discard_task away) o h)
