-- Events that add no note: what agreed with the history agrees still, as statements.
use Rattle.std.specs.Prelude.{◌≡◌, ◌+◌, ℕ, zero, suc, length, false, Some}
use Rattle.iris_cache.specs.Resident.{IsSoundCache}
use Rattle.iris_desk.specs.AtDesks.{asked_by}
use Rattle.iris_file_rules.specs.Rules.{files_after}
use Rattle.iris_invariant.specs.Agrees.{Getting}
use Rattle.iris_invariant.specs.Beginnings.{begun_out}
use Rattle.iris_invariant.specs.Events.{Asked, Began, Evicted, Withdrawn}
use Rattle.iris_name.specs.declared.name.Name.{Name}
use Rattle.iris_name.specs.declared.name.Name.TheVariants as name
use Rattle.iris_name.specs.declared.note.Expect.{Expect}
use Rattle.iris_name.specs.declared.note.Expect.TheVariants.{Hash}
use Rattle.iris_name.specs.declared.request.Request.{Request}
use Rattle.iris_name.specs.History.{Past}
use Rattle.iris_pool.specs.Changes.{HoldsAlike, NodeGoes, PageGoes}
use Rattle.iris_pool.specs.Going.{CanLeave, PageCanLeave}
use Rattle.iris_pool.specs.Pool.{PoolState}
use Rattle.iris_requests.specs.Needed.{IsNeeded}
use Rattle.iris_standing.specs.Standing.{Standing, with_pool, standing_view, AgreesWith}

-- a pool is exchanged for another
abbrev pub GoesOnWith : ℕ → Past → Standing → PoolState → Type 0
GoesOnWith opened past s p = AgreesWith opened past s → AgreesWith opened past (with_pool p s)

-- a caller asks
abbrev pub AsksGoOn : Type 0
AsksGoOn = (opened : ℕ) (past : Past) (s : Standing) (p : PoolState) (who : ℕ) → Asked who (standing_view s) (standing_view (with_pool p s)) → p.nodes ≡ s.pool.nodes → p.pages ≡ s.pool.pages → GoesOnWith opened past s p

-- what the record of the entry of an id must show: of a root the hash that is kept of it, of any other what its plan expects
abbrev pub expected_at : Standing → Expect → ℕ → Expect
expected_at s x zero = Hash s.visible
expected_at s x (suc zero) = Hash s.trash
expected_at s x (suc (suc i)) = x

-- the same of any name
abbrev pub expected_of : Standing → Name → Expect → Expect
expected_of s (name.Entry id) x = expected_at s x id.0
expected_of s (name.Part file level index) x = x
expected_of s (name.Block file place) x = x

-- a get begins of what the request that is asked needs
abbrev pub GetsGoOn : Type 0
GetsGoOn = (opened : ℕ) (past : Past) (s : Standing) (p : PoolState) (who since : ℕ) (request : Request) (n : Name) (x : Expect)
    → opened + since ≡ length past → asked_by s.pool.desks who ≡ Some request → IsNeeded s.keys (files_after s.keys past) request s.pool.nodes s.pool.pages n x
    → Began n (begun_out who since (Some request) (Getting (expected_of s n x)) false) (standing_view s) (standing_view (with_pool p s)) → p.nodes.nodes ≡ s.pool.nodes.nodes → p.pages.pages ≡ s.pool.pages.pages
    → GoesOnWith opened past s p

-- what is out is given up
abbrev pub WithdrawalsGoOn : Type 0
WithdrawalsGoOn = (opened : ℕ) (past : Past) (s : Standing) (p : PoolState) (n : Name) → Withdrawn n (standing_view s) (standing_view (with_pool p s)) → HoldsAlike s.pool p → GoesOnWith opened past s p

-- a node leaves a sound cache, or a block leaves
abbrev pub NodesLeave : Type 0
NodesLeave = (opened : ℕ) (past : Past) (s : Standing) (p : PoolState) (n : Name) → IsSoundCache s.pool.nodes → CanLeave s.pool n → NodeGoes s.pool p n → Evicted n (standing_view s) (standing_view (with_pool p s)) → p.pages ≡ s.pool.pages → GoesOnWith opened past s p

abbrev pub PagesLeave : Type 0
PagesLeave = (opened : ℕ) (past : Past) (s : Standing) (p : PoolState) (n : Name) → PageCanLeave s.pool n → PageGoes s.pool p n → Evicted n (standing_view s) (standing_view (with_pool p s)) → p.nodes ≡ s.pool.nodes → GoesOnWith opened past s p
