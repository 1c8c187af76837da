-- What a request's plan lacks, in the words of histories.
use Rattle.std.specs.Prelude.{◌≡◌, ◌⊎◌, None, IsSome, slice_get}
use Rattle.iris_blocks.specs.Paged.{Paged, held_page}
use Rattle.iris_cache.specs.declared.held.Short.{Short}
use Rattle.iris_cache.specs.Needs.{StopsShort}
use Rattle.iris_cache.specs.Resident.{Resident, held_node}
use Rattle.iris_file_rules.specs.FileTable.{files}
use Rattle.iris_file_rules.specs.Reach.{Reaches}
use Rattle.iris_file_rules.specs.Rules.{IsDropped}
use Rattle.iris_invariant.specs.Agrees.{IsTrueOf}
use Rattle.iris_mac.specs.declared.keys.Keys.{Keys}
use Rattle.iris_name.specs.declared.name.Name.{Name}
use Rattle.iris_name.specs.declared.name.Name.TheVariants.{Entry, Part, Block}
use Rattle.iris_name.specs.declared.note.Expect.{Expect}
use Rattle.iris_name.specs.declared.request.Request.{Request}
use Rattle.iris_node.specs.Trees.{IsParent, IsRootName}
use Rattle.iris_plain.specs.Checks.{is_full}
use Rattle.iris_records.specs.Challenges.{table_walk}
use Rattle.iris_records.specs.Shown.{shown}
use Rattle.iris_rows.specs.Rows.{Table}
use Rattle.iris_requests.specs.declared.planned.Counters.{Counters}
use Rattle.iris_requests.specs.Planned.{IsShownBy}

-- a request reaches a name in a table
abbrev pub ReachesIn : Keys → Table → Request → Name → Type 0
ReachesIn keys t request n = Reaches keys.order (shown keys.order t) (is_full t.age) (IsDropped t) (slice_get (table_walk keys.order t)) request n

-- a node that the cache doesn't hold, or a block that isn't resident
abbrev pub IsAbsent : Resident → Paged → Name → Type 0
IsAbsent c b (Entry id) = held_node c (Entry id) ≡ None
IsAbsent c b (Part file level index) = held_node c (Part file level index) ≡ None
IsAbsent c b (Block file place) = held_page b (Block file place) ≡ None

-- A request needs a name: it reaches it, the name is live and absent, what its record must show is true of it, and its parent is
-- resident. A root has no parent, and any hash may be expected of it.
pub record IsNeeded (keys : Keys) (t : Table) (request : Request) (c : Resident) (b : Paged) (n : Name) (x : Expect) : Type 0 where
  pub reached : ReachesIn keys t request n
  pub live : IsSome (shown keys.order t n)
  pub absent : IsAbsent c b n
  pub expected : IsRootName n ⊎ IsTrueOf (files keys) n x (shown keys.order t n)
  pub parent : IsRootName n ⊎ ((p : Name) → IsParent (shown keys.order t) p n → IsSome (held_node c p))

-- a plan stops at a name that the request needs in each table that cache and blocks show, or out of memory
abbrev pub IsPlanShort : Keys → Request → Resident → Paged → Counters → Short → Type 0
IsPlanShort keys request c b k = StopsShort (λ n x. (t : Table) → IsShownBy keys.order t c b k → IsNeeded keys t request c b n x)
