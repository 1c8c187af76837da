-- A planned request is answered: what agreed with the history agrees with the one that the call ends, as statements.
use Rattle.std.specs.Prelude.{◌≡◌, ◌∷◌, ℕ, List, true, false, Option, Some, None, IsSome, IfSome}
use Rattle.std.specs.Option.{option_map}
use Rattle.iris_cache.specs.declared.held.Held.{Held}
use Rattle.iris_cache.specs.Laws.{AreFormed}
use Rattle.iris_cache.specs.Pictures.{Pictures}
use Rattle.iris_cache.specs.Resident.{held_node}
use Rattle.iris_file_rules.specs.FileTable.{files}
use Rattle.iris_file_rules.specs.Rules.{FileReplies, file_rules, files_after}
use Rattle.iris_history.specs.Legal.{IsLawful}
use Rattle.iris_history.specs.StatusLaws.{called}
use Rattle.iris_history.specs.Values.{IsReply, IsRequest}
use Rattle.iris_invariant.specs.Agrees.{marked}
use Rattle.iris_invariant.specs.Bounds.{AtMost}
use Rattle.iris_invariant.specs.Knowledge.{IsMarkedBlock}
use Rattle.iris_name.specs.declared.name.Hash32.{Hash32}
use Rattle.iris_name.specs.declared.name.Name.{Name}
use Rattle.iris_name.specs.declared.name.Name.TheVariants.{Entry}
use Rattle.iris_name.specs.declared.note.Note.TheVariants.{Call}
use Rattle.iris_name.specs.declared.request.Reply.{Reply}
use Rattle.iris_name.specs.declared.request.Reply.TheVariants.{Synced}
use Rattle.iris_name.specs.declared.request.Request.{Request}
use Rattle.iris_name.specs.declared.request.Request.TheVariants.{Mkdir, Create, Write, Read, Resize, Stat, List as ListNames, Rename, Remove, Sync, Root, Reclaim, Probe}
use Rattle.iris_name.specs.History.{Past}
use Rattle.iris_node.specs.Trees.{Shown, IsTree}
use Rattle.iris_node.specs.Unfolded.{hash, id_of}
use Rattle.iris_pool.specs.Changes.{Entered, HoldsAlike}
use Rattle.iris_pool.specs.Landing.{LandsIn}
use Rattle.iris_pool.specs.Pool.{PoolState}
use Rattle.iris_pool.specs.View.{IsPool, pool_view}
use Rattle.iris_requests.specs.declared.planned.Counters.{Counters}
use Rattle.iris_requests.specs.declared.planned.Planned.{Planned}
use Rattle.iris_requests.specs.Planned.{Fulfills, after_reply}
use Rattle.iris_requests.specs.Served.{IsPlannable}
use Rattle.iris_standing.specs.Standing.{Standing, standing_view, with_pool, AgreesWith}
use Rattle.iris_upkeep.specs.Marks.{IsAtOrBelow, IsMarked, PicturesTree}
use Rattle.iris_upkeep.specs.SettlesInto.{SettlesInto, StaysOrIsTold}
use Rattle.iris_upkeep.specs.declared.descent.What.TheVariants.{Unsettled}

-- Each unsettled node at and below a root is settled, and the hash of the root's record is told if the root was one of them.
pub record SettlesRoot (root : Name) (p q : PoolState) (told : Option Hash32) : Type 0 where
  pub nodes : (n : Name) → SettlesInto (held_node p.nodes n) (held_node q.nodes n)
  pub pictures : (t : Shown) → Pictures t p.nodes → IsTree t → AreFormed t → Pictures t q.nodes
  pub settled : PicturesTree p.nodes → (n : Name) (h : Held) → IsAtOrBelow p.nodes n root → held_node q.nodes n ≡ Some h → h.settled ≡ true
  pub elsewhere : PicturesTree p.nodes → (n : Name) → (IsAtOrBelow p.nodes n root → ⊥) → StaysOrIsTold p.nodes q.nodes root n
  pub tells : IfSome told (λ x. option_map (λ (h : Held). hash h.node) (held_node q.nodes root) ≡ Some x)
  pub some : PicturesTree p.nodes → IsMarked Unsettled p.nodes root → IsSome told
  pub pages : q.pages ≡ p.pages
  pub desks : q.desks ≡ p.desks

-- the hash that is kept of a root: the one that settling told, or else the one before
abbrev pub kept_hash : Option Hash32 → Hash32 → Hash32
kept_hash None x = x
kept_hash (Some y) x = y

-- Both roots are settled, one after the other.
pub record SettlesBoth (p q : PoolState) (visible trash : Option Hash32) : Type 0 where
  pub middle : PoolState
  pub first : SettlesRoot (Entry (id_of 0)) p middle visible
  pub second : SettlesRoot (Entry (id_of 1)) middle q trash

-- What a planned request makes of the pool, in the order of the code: its drafts are made, both roots are settled, and the call
-- is entered.
pub record CarriesOutPlan (key : List ℕ) (who : ℕ) (plan : Planned) (p q : PoolState) (visible trash : Option Hash32) : Type 0 where
  pub drafted : PoolState
  pub settled : PoolState
  pub lands : LandsIn plan.draft plan.pages p drafted
  pub settles : SettlesBoth drafted settled visible trash
  pub entered : Entered who (pool_view key settled) (pool_view key q)
  pub alike : HoldsAlike settled q

-- what is kept then: the new pool, the hashes that were told, and the plan's next id and age
abbrev pub answered : Counters → PoolState → Option Hash32 → Option Hash32 → Standing → Standing
answered counters q visible trash s = record s { pool = q; visible = kept_hash visible s.visible; trash = kept_hash trash s.trash; counters = counters }

-- fewer than 448 blocks are marked where the request changes a file's bytes
abbrev pub HasMarksFor : Request → Standing → Type 0
HasMarksFor (Write path offset bytes) s = AtMost 447 (IsMarkedBlock (standing_view s))
HasMarksFor (Resize path size) s = AtMost 447 (IsMarkedBlock (standing_view s))
HasMarksFor (Mkdir path) s = Unit {0}
HasMarksFor (Create path) s = Unit {0}
HasMarksFor (Read path offset count) s = Unit {0}
HasMarksFor (Stat path) s = Unit {0}
HasMarksFor (ListNames path after) s = Unit {0}
HasMarksFor (Rename from to) s = Unit {0}
HasMarksFor (Remove path) s = Unit {0}
HasMarksFor Sync s = Unit {0}
HasMarksFor Root s = Unit {0}
HasMarksFor Reclaim s = Unit {0}
HasMarksFor (Probe at) s = Unit {0}

-- the note of a call is lawful, and what is kept after it agrees with the history that it ends
abbrev pub GoesOnByCall : ℕ → Past → ℕ → Request → Reply → Standing → Standing → Type 0
GoesOnByCall opened past who request reply s s' =
    IsLawful (files s.keys) (file_rules s.keys) opened past past (Call who request reply) × AgreesWith opened (called opened who request reply ∷ past) s'

-- A request is planned over the pool as the table answers it, and its plan is carried out.
abbrev pub PlannedCallsGoOn : Type 0
PlannedCallsGoOn = (opened : ℕ) (past : Past) (s : Standing) (q : PoolState) (visible trash : Option Hash32) (who : ℕ) (request : Request) (plan : Planned)
    → IsPool s.pool → IsPlannable request → IsRequest request → IsReply plan.reply → HasMarksFor request s
    → Fulfills s.keys.order (files_after s.keys past) request s.pool.nodes s.pool.pages plan → CarriesOutPlan s.keys.block who plan s.pool q visible trash
    → AgreesWith opened past s → GoesOnByCall opened past who request plan.reply s (answered plan.counters q visible trash s)

-- A call that leaves the table is entered, with a right reply.
abbrev pub IdleCallsGoOn : Type 0
IdleCallsGoOn = (opened : ℕ) (past : Past) (s : Standing) (q : PoolState) (who : ℕ) (request : Request) (reply : Reply)
    → IsRequest request → IsReply reply → after_reply (files_after s.keys past) request reply ≡ files_after s.keys past → FileReplies s.keys past request reply
    → Entered who (standing_view s) (standing_view (with_pool q s)) → HoldsAlike s.pool q
    → AgreesWith opened past s → GoesOnByCall opened past who request reply s (with_pool q s)

-- where no name is marked, a sync is answered
abbrev pub UnmarkedSyncs : Type 0
UnmarkedSyncs = (opened : ℕ) (past : Past) (s : Standing) → AgreesWith opened past s → ((n : Name) → marked ((standing_view s).cell n) ≡ false) → FileReplies s.keys past Sync Synced
