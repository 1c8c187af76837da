-- A get that brings its record is noted, and what it brings is kept, as statements.
use Rattle.std.specs.Prelude.{◌≡◌, ◌∷◌, ℕ, List, [], true, false, Option, Some, None, IfSome}
use Rattle.iris_cache.specs.Holders.{IsHolder, HasNoHolder}
use Rattle.iris_cache.specs.Resident.{Resident}
use Rattle.iris_desk.specs.declared.out.Out as pending
use Rattle.iris_invariant.specs.Agrees.{Out}
use Rattle.iris_invariant.specs.Events.{Brought}
use Rattle.iris_jobs.specs.declared.job.Brought.TheVariants as brought
use Rattle.iris_jobs.specs.Jobs.{JobState, AnswerBrings, got_note}
use Rattle.iris_name.specs.declared.name.FileId.{FileId}
use Rattle.iris_name.specs.declared.name.Name.{Name}
use Rattle.iris_name.specs.declared.name.Name.TheVariants.{Block}
use Rattle.iris_name.specs.declared.note.Answer.{Answer}
use Rattle.iris_name.specs.History.{Past}
use Rattle.iris_name.specs.Hmac.{block_key}
use Rattle.iris_node.specs.declared.node.Node.{Node}
use Rattle.iris_node.specs.Nodes.{name_of}
use Rattle.iris_pool.specs.Changes.{HoldsAlike, NodeComes, PageComes}
use Rattle.iris_pool.specs.Pool.{PoolState, IsAbsentIn}
use Rattle.iris_pool.specs.View.{out_seen, pool_view}
use Rattle.iris_standing.specs.Standing.{Standing, with_pool, StandsFor}
use Rattle.iris_standing.specs.Transfers.{IsGetOut}

-- the parent that the cache names for a node: one that holds a hash of its name, or none if nothing does
pub record IsParentNamed (c : Resident) (n : Name) (parent : Option Name) : Type 0 where
  pub found : IfSome parent (λ p. IsHolder c p n)
  pub none : parent ≡ None → HasNoHolder c n

-- what the pool says of a name that a get brings
abbrev pub IsBrought : PoolState → PoolState → Name → Type 0
IsBrought p q n = (key : List ℕ) (o : Out) → out_seen key p.desks n ≡ Some o → Brought n o (pool_view key p) (pool_view key q)

-- where nothing is to come, the same is held
abbrev pub HoldsStill : PoolState → PoolState → Name → Type 0
HoldsStill p q n = (o : Out) → out_seen [] p.desks n ≡ Some o → (IsAbsentIn p n → o.touched ≡ true) → HoldsAlike p q

-- What the pool says of a node that is kept for a caller: it is absent and untouched while it is being fetched, so it comes.
pub record NodeKept (p q : PoolState) (who : ℕ) (parent : Option Name) (node : Node) : Type 0 where
  pub brought : IsBrought p q (name_of node)
  pub comes : (o : Out) → IsAbsentIn p (name_of node) → out_seen [] p.desks (name_of node) ≡ Some o → o.touched ≡ false → NodeComes p q who parent (name_of node) node
  pub pages : q.pages.pages ≡ p.pages.pages

-- And of a page.
pub record PageKept (p q : PoolState) (who : ℕ) (file : FileId) (place version : ℕ) (page : List ℕ) : Type 0 where
  pub brought : IsBrought p q (Block file place)
  pub comes : (o : Out) → IsAbsentIn p (Block file place) → out_seen [] p.desks (Block file place) ≡ Some o → o.touched ≡ false → PageComes p q who (Block file place) version page
  pub stays : HoldsStill p q (Block file place)
  pub nodes : q.nodes.nodes ≡ p.nodes.nodes

-- an answer brings a node, which is kept below the parent that the cache names
abbrev pub NodesAreKept : Type 0
NodesAreKept = (opened : ℕ) (past : Past) (s : Standing) (p : PoolState) (job : JobState) (o : pending.Out) (answer : Answer) (parent : Option Name) (node : Node) → IsGetOut s job o
    → AnswerBrings (block_key job.master) job.name job.expect answer (brought.Node node) → IsParentNamed s.pool.nodes (name_of node) parent → NodeKept s.pool p job.who parent node
    → StandsFor opened past s → StandsFor opened (record { note = got_note job answer; opened = opened } ∷ past) (with_pool p s)

-- an answer brings a page
abbrev pub PagesAreKept : Type 0
PagesAreKept = (opened : ℕ) (past : Past) (s : Standing) (p : PoolState) (job : JobState) (o : pending.Out) (answer : Answer) (file : FileId) (place version : ℕ) (page : List ℕ) → IsGetOut s job o
    → job.name ≡ Block file place → AnswerBrings (block_key job.master) job.name job.expect answer (brought.Page version page) → PageKept s.pool p job.who file place version page
    → StandsFor opened past s → StandsFor opened (record { note = got_note job answer; opened = opened } ∷ past) (with_pool p s)
