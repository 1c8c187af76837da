-- What the pool's calls do, beside the events of the core's invariant.
use Rattle.std.specs.Prelude.{◌≡◌, ◌≢◌, ◌≤◌, ℕ, true, false, if◌then◌else◌, List, Option, Some, None, IsSomeAnd, []}
use Rattle.iris_blocks.specs.declared.held.PageHeld.{PageHeld}
use Rattle.iris_blocks.specs.Held.{newcomer_page}
use Rattle.iris_blocks.specs.Paged.{held_page}
use Rattle.iris_cache.specs.Held.{points, kid_less, kid_more, newcomer_node}
use Rattle.iris_cache.specs.Laws.{AreAlike}
use Rattle.iris_cache.specs.Resident.{held_node, map_if, resident_parent}
use Rattle.iris_desk.specs.AtDesk.{DeskState}
use Rattle.iris_desk.specs.AtDesks.{DesksState, asked_by, desk_at, out_for}
use Rattle.iris_desk.specs.declared.out.Doing.{Doing}
use Rattle.iris_invariant.specs.Agrees.{Getting, Out, View}
use Rattle.iris_invariant.specs.Beginnings.{begun_out}
use Rattle.iris_invariant.specs.Events.{Asked, Began}
use Rattle.iris_name.specs.declared.name.Name.{Name}
use Rattle.iris_name.specs.declared.note.Expect.{Expect}
use Rattle.iris_name.specs.declared.request.Request.{Request}
use Rattle.iris_name.specs.Names.{same_name}
use Rattle.iris_node.specs.declared.node.Node.{Node}
use Rattle.iris_pool.specs.Pool.{PoolState}
use Rattle.iris_pool.specs.View.{pool_view}

-- nothing is out for a caller
abbrev pub IsIdle : DesksState → ℕ → Type 0
IsIdle d who = IsSomeAnd (desk_at d who) (λ (desk : DeskState). desk.out ≡ [])

-- this is being done for a name at a caller's desk
abbrev pub IsDoing : DesksState → ℕ → Name → Doing → Type 0
IsDoing d who n doing = IsSomeAnd (out_for d who n) (λ o. o.doing ≡ doing)

-- two that may be held of a block are alike: the same version and page
abbrev pub ArePagesAlike : Option PageHeld → Option PageHeld → Type 0
ArePagesAlike None None = Unit {0}
ArePagesAlike None (Some h) = ⊥
ArePagesAlike (Some g) None = ⊥
ArePagesAlike (Some g) (Some h) = (h.version ≡ g.version) × (h.page ≡ g.page)

-- Two pools hold the same nodes and pages: they differ in marks, pins and what is out alone.
pub record HoldsAlike (p q : PoolState) : Type 0 where
  pub nodes : (n : Name) → AreAlike (held_node p.nodes n) (held_node q.nodes n)
  pub pages : (n : Name) → ArePagesAlike (held_page p.pages n) (held_page q.pages n)

-- Two pools are the same but for empty places.
pub record SameButPlaces (p q : PoolState) : Type 0 where
  pub nodes : q.nodes.nodes ≡ p.nodes.nodes
  pub pages : q.pages.pages ≡ p.pages.pages
  pub desks : q.desks ≡ p.desks

-- a node comes below its parent, pinned for a caller
abbrev pub NodeComes : PoolState → PoolState → ℕ → Option Name → Name → Node → Type 0
NodeComes p q who parent n node = (kids : ℕ) × ((m : Name) →
    held_node q.nodes m ≡ map_if (points parent m) kid_more (if same_name n m then Some (newcomer_node parent node who kids) else held_node p.nodes m))

-- a page comes, pinned for a caller
abbrev pub PageComes : PoolState → PoolState → ℕ → Name → ℕ → List ℕ → Type 0
PageComes p q who n version page = (m : Name) → held_page q.pages m ≡ (if same_name n m then Some (newcomer_page version page who) else held_page p.pages m)

-- a node goes from below its parent
abbrev pub NodeGoes : PoolState → PoolState → Name → Type 0
NodeGoes p q n = (m : Name) → held_node q.nodes m ≡ map_if (points (resident_parent p.nodes n) m) kid_less (if same_name n m then None else held_node p.nodes m)

-- a page goes
abbrev pub PageGoes : PoolState → PoolState → Name → Type 0
PageGoes p q n = (m : Name) → held_page q.pages m ≡ (if same_name n m then None else held_page p.pages m)

-- A caller's call is entered, and nothing was out for it: what it asked and kept goes, and what it kept isn't pinned for it any more.
pub record Entered (who : ℕ) (v v' : View) : Type 0 where
  pub idle : (n : Name) (o : Out) → (v.cell n).out ≡ Some o → o.who ≢ who
  pub cell : (n : Name) → v'.cell n ≡ v.cell n
  pub asked : (w : ℕ) → w ≢ who → v'.asked w ≡ v.asked w
  pub gone : v'.asked who ≡ None
  pub freed : (n : Name) → v'.kept who n ≡ false
  pub kept : (w : ℕ) (n : Name) → w ≢ who → v'.kept w n ≡ v.kept w n
  -- names are kept for callers alone
  pub callers : (w : ℕ) (n : Name) → v.kept w n ≡ true → w ≤ 16
  pub unpinned : (n : Name) → v.kept who n ≡ true → v'.pinned who n ≡ false
  pub pinned : (w : ℕ) (n : Name) → w ≤ 16 → w ≢ who → v'.pinned w n ≡ v.pinned w n

-- A caller asks this, and then the get begins that it needs: there is a pool between the two.
pub record AskedFor (who : ℕ) (r : Request) (n : Name) (since : ℕ) (expect : Expect) (p q : PoolState) : Type 0 where
  pub middle : PoolState
  pub nodes : middle.nodes ≡ p.nodes
  pub pages : middle.pages ≡ p.pages
  pub request : asked_by middle.desks who ≡ Some r
  pub asked : (key : List ℕ) → Asked who (pool_view key p) (pool_view key middle)
  pub began : (key : List ℕ) → Began n (begun_out who since (Some r) (Getting expect) false) (pool_view key middle) (pool_view key q)
