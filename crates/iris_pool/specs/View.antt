-- What the pool keeps, in the words of the core's invariant.
use Rattle.std.specs.Prelude.{◌≡◌, ℕ, Bool, true, false, List, Option, Some, None}
use Rattle.iris_blocks.specs.declared.held.PageHeld.{PageHeld}
use Rattle.iris_blocks.specs.Paged.{held_page, IsBlock}
use Rattle.iris_cache.specs.declared.held.Held.{Held}
use Rattle.iris_cache.specs.Resident.{held_node}
use Rattle.iris_desk.specs.AtDesks.{DesksState, asked_by, keeps_for, out_of, is_doomed}
use Rattle.iris_desk.specs.declared.out.Doing as desk
use Rattle.iris_desk.specs.declared.out.Doing.TheVariants.{Get, Put, Discard, Settle}
use Rattle.iris_desk.specs.declared.out.Out as pending
use Rattle.iris_desk.specs.declared.out.Record.{Record}
use Rattle.iris_invariant.specs.Agrees.{Doing, Getting, Putting, Dropping, Settling, Out, View}
use Rattle.iris_invariant.specs.Cells.{cell_at, has_pin, Tied, TiedPage}
use Rattle.iris_name.specs.declared.name.Name.{Name}
use Rattle.iris_name.specs.declared.name.Name.TheVariants.{Entry, Part, Block}
use Rattle.iris_name.specs.declared.note.Expect.{Expect}
use Rattle.iris_jobs.specs.Chores.{record_bytes}
use Rattle.iris_node.specs.Trees.{IsNodeName}
use Rattle.iris_pool.specs.Pool.{PoolState, IsAbsentIn, has_place}

-- what is done for a name
abbrev pub doing_by : List ℕ → Name → desk.Doing → Option Expect → Option Record → Doing
doing_by key n Get (Some expect) record_ = Getting expect
doing_by key n Get None record_ = Settling
doing_by key n Put expect (Some record_) = Putting (record_bytes key n record_)
doing_by key n Put expect None = Settling
doing_by key n Discard expect record_ = Dropping
doing_by key n Settle expect record_ = Settling

-- what is out at a desk is out for the request that is asked there
abbrev pub out_by : List ℕ → DesksState → Option (ℕ × pending.Out) → Option Out
out_by key d None = None
out_by key d (Some p) = Some (record {
  who = p.0;
  since = p.1.since;
  request = asked_by d p.0;
  doing = doing_by key p.1.name p.1.doing p.1.expect p.1.record;
  crowded = p.1.crowded;
  touched = p.1.touched;
})

-- what is out for a name
abbrev pub out_seen : List ℕ → DesksState → Name → Option Out
out_seen key d n = out_by key d (out_of d n)

abbrev pub pinned_node_in : ℕ → Option Held → Bool
pinned_node_in who None = false
pinned_node_in who (Some h) = has_pin who h.pins

abbrev pub pinned_page_in : ℕ → Option PageHeld → Bool
pinned_page_in who None = false
pinned_page_in who (Some h) = has_pin who h.pins

-- whether a name is pinned for a caller
abbrev pub is_pinned_for : PoolState → ℕ → Name → Bool
is_pinned_for p who (Entry id) = pinned_node_in who (held_node p.nodes (Entry id))
is_pinned_for p who (Part file level index) = pinned_node_in who (held_node p.nodes (Part file level index))
is_pinned_for p who (Block file place) = pinned_page_in who (held_page p.pages (Block file place))

-- the pool as the invariant sees it, under a key for the tags of blocks
abbrev pub pool_view : List ℕ → PoolState → View
pool_view key p = record {
  cell = λ n. cell_at n (held_node p.nodes n) (held_page p.pages n) (is_doomed p.desks n) (out_seen key p.desks n);
  asked = asked_by p.desks;
  kept = keeps_for p.desks;
  pinned = is_pinned_for p;
}

-- What every pool keeps, whatever is pictured. Cache, blocks and desks are tied; what is out in the cache is out at a desk; and the
-- name of a get that is absent and untouched has an empty place.
pub record IsPool (p : PoolState) : Type 0 where
  pub nodes : (key : List ℕ) (n : Name) → IsNodeName n → Tied (held_node p.nodes n) (out_seen key p.desks n)
  pub pages : (key : List ℕ) (n : Name) → IsBlock n → TiedPage (held_page p.pages n) (out_seen key p.desks n)
  pub known : (n : Name) (h : Held) (who : ℕ) → IsNodeName n → held_node p.nodes n ≡ Some h → h.out ≡ Some who → (o : pending.Out) × (out_of p.desks n ≡ Some (who, o))
  pub known_page : (n : Name) (h : PageHeld) (who : ℕ) → IsBlock n → held_page p.pages n ≡ Some h → h.out ≡ Some who → (o : pending.Out) × (out_of p.desks n ≡ Some (who, o))
  pub places : (n : Name) (who : ℕ) (o : pending.Out) → out_of p.desks n ≡ Some (who, o) → o.doing ≡ Get → o.touched ≡ false → IsAbsentIn p n → has_place p n ≡ true
