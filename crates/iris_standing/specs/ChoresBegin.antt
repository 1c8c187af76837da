-- Puts and discards begin: what agreed with the history agrees still, as statements.
use Rattle.std.specs.Prelude.{◌≡◌, ◌+◌, ℕ, List, length, Bool, true, Some}
use Rattle.iris_blocks.specs.declared.held.PageHeld.{PageHeld}
use Rattle.iris_blocks.specs.Paged.{held_page}
use Rattle.iris_cache.specs.declared.held.Held.{Held}
use Rattle.iris_cache.specs.Resident.{held_node}
use Rattle.iris_desk.specs.AtDesks.{asked_by, is_doomed}
use Rattle.iris_desk.specs.declared.out.Record.{Record}
use Rattle.iris_desk.specs.declared.out.Record.TheVariants as written
use Rattle.iris_file_rules.specs.Rules.{file_rules}
use Rattle.iris_invariant.specs.Agrees.{Putting, Dropping}
use Rattle.iris_invariant.specs.Beginnings.{IsChoreFor, begun_out}
use Rattle.iris_invariant.specs.Events.{Began}
use Rattle.iris_jobs.specs.Chores.{record_bytes}
use Rattle.iris_name.specs.declared.name.FileId.{FileId}
use Rattle.iris_name.specs.declared.name.Name.{Name}
use Rattle.iris_name.specs.declared.name.Name.TheVariants.{Block}
use Rattle.iris_name.specs.History.{Past}
use Rattle.iris_node.specs.Spelling.{spelling}
use Rattle.iris_pool.specs.Changes.{HoldsAlike}
use Rattle.iris_pool.specs.Pool.{PoolState}
use Rattle.iris_pool.specs.View.{pool_view}
use Rattle.iris_standing.specs.Standing.{Standing, with_pool, standing_view, AgreesWith}

-- what the pool says of the beginning of a put, and of a discard
abbrev pub PutBegins : PoolState → PoolState → ℕ → ℕ → Name → Record → Bool → Type 0
PutBegins p q who since n record_ crowded = (key : List ℕ) → Began n (begun_out who since (asked_by p.desks who) (Putting (record_bytes key n record_)) crowded) (pool_view key p) (pool_view key q)

abbrev pub DiscardBegins : PoolState → PoolState → ℕ → ℕ → Name → Bool → Type 0
DiscardBegins p q who since n crowded = (key : List ℕ) → Began n (begun_out who since (asked_by p.desks who) Dropping crowded) (pool_view key p) (pool_view key q)

-- A chore begins at the end of the history, for the request that its caller asks, if any; in a crowded call that one may wait for the
-- store.
pub record IsTimely (opened : ℕ) (past : Past) (s : Standing) (who since : ℕ) (crowded : Bool) : Type 0 where
  pub last : opened + since ≡ length past
  pub waits : IsChoreFor (file_rules s.keys) past (standing_view s) who (asked_by s.pool.desks who) crowded

-- a put begins of a cached node that is dirty, with its spelling
abbrev pub NodePutsBegin : Type 0
NodePutsBegin = (opened : ℕ) (past : Past) (s : Standing) (p : PoolState) (who since : ℕ) (n : Name) (h : Held) (crowded : Bool) → IsTimely opened past s who since crowded
    → held_node s.pool.nodes n ≡ Some h → h.dirty ≡ true → PutBegins s.pool p who since n (written.Node (spelling h.node)) crowded → HoldsAlike s.pool p → AgreesWith opened past s → AgreesWith opened past (with_pool p s)

-- a put begins of a resident block that is dirty, with its page
abbrev pub PagePutsBegin : Type 0
PagePutsBegin = (opened : ℕ) (past : Past) (s : Standing) (p : PoolState) (who since : ℕ) (file : FileId) (place : ℕ) (h : PageHeld) (crowded : Bool) → IsTimely opened past s who since crowded
    → held_page s.pool.pages (Block file place) ≡ Some h → h.dirty ≡ true → PutBegins s.pool p who since (Block file place) (written.Page h.version h.page) crowded → HoldsAlike s.pool p → AgreesWith opened past s → AgreesWith opened past (with_pool p s)

-- a discard begins of a doomed name
abbrev pub DoomedDiscardsBegin : Type 0
DoomedDiscardsBegin = (opened : ℕ) (past : Past) (s : Standing) (p : PoolState) (who since : ℕ) (n : Name) (crowded : Bool) → IsTimely opened past s who since crowded
    → is_doomed s.pool.desks n ≡ true → DiscardBegins s.pool p who since n crowded → p.nodes ≡ s.pool.nodes → p.pages ≡ s.pool.pages → AgreesWith opened past s → AgreesWith opened past (with_pool p s)
