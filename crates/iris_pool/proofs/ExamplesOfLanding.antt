-- What drafts do to the doomed names and to what is out, and which names are in use, by small cases: one that is, and one near by
-- that isn't.
use Rattle.std.proofs.Common.{◌≡◌, ℕ, [], ◌∷◌, true, false, Some, None, refl, ap, inl, inr, arith}
use Rattle.iris_cache.specs.declared.held.Held.{Held}
use Rattle.iris_cache.specs.Held.{begun_node, moved_node}
use Rattle.iris_desk.specs.AtDesk.{empty_desk}
use Rattle.iris_desk.specs.declared.out.Doing.{Doing}
use Rattle.iris_desk.specs.declared.out.Doing.TheVariants.{Get, Put, Discard, Settle}
use Rattle.iris_desk.specs.declared.out.Out.{Out}
use Rattle.iris_invariant.specs.Cells.{doomed_at, is_touched_at}
use Rattle.iris_name.specs.declared.name.FileId.{FileId}
use Rattle.iris_name.specs.declared.name.Hash32.{Hash32}
use Rattle.iris_name.specs.declared.name.Name.{Name}
use Rattle.iris_name.specs.declared.name.Name.TheVariants as name
use Rattle.iris_node.specs.declared.node.Body.TheVariants.{Dir}
use Rattle.iris_node.specs.declared.node.Node.{Node}
use Rattle.iris_node.specs.declared.node.Node.TheVariants.{Entry}
use Rattle.iris_pool.specs.Going.{CanLeave, IsFetched, IsInUse}
use Rattle.iris_pool.specs.Pool.{PoolState}

abbrev id : ℕ → FileId
id k = record { 0 = k }

abbrev entry : ℕ → Name
entry k = name.Entry (id k)

abbrev some_hash : Hash32
some_hash = record { 0 = 9 ∷ [] }

-- directory 2, with entry 3 inside
abbrev folder : Node
folder = Entry (record { id = id 2; name = []; left = None; right = None; body = Dir (Some (record { id = id 3; hash = some_hash; blocks = 0 })) })

abbrev held : Held
held = record { node = folder; parent = None; kids = 0; pins = 0; dirty = false; settled = true; out = None; touched = false }

-- ---- a name that goes, comes, changes, stays

-- one that goes is doomed, and what is out for it touched
goes : (doomed_at (entry 2) (Some held) None None None false ≡ true) × (is_touched_at (entry 2) (Some held) None None None ≡ true)
goes = (refl, refl)

-- one that was doomed and comes isn't any more; what is out for it, as its discard, is touched
comes : (doomed_at (entry 2) None (Some held) None None true ≡ false) × (is_touched_at (entry 2) None (Some held) None None ≡ true)
comes = (refl, refl)

-- one that changes while something is out for it in the cache touches that; where nothing is out, nothing is touched
changes : is_touched_at (entry 2) (Some (begun_node 1 held)) (Some (moved_node (begun_node 1 held))) None None ≡ true
changes = refl

changes_alone : is_touched_at (entry 2) (Some held) (Some (moved_node held)) None None ≡ false
changes_alone = refl

-- one that stays as it is touches nothing while it is out, and isn't doomed; an absent one stays doomed
stays : (doomed_at (entry 2) (Some held) (Some held) None None false ≡ false) × (is_touched_at (entry 2) (Some (begun_node 1 held)) (Some (begun_node 1 held)) None None ≡ false)
stays = (refl, refl)

stays_doomed : (doomed_at (entry 2) None None None None true ≡ true) × (is_touched_at (entry 2) None None None None ≡ false)
stays_doomed = (refl, refl)

-- ---- who is in use

abbrev out : Doing → ℕ → Out
out doing k = record { doing = doing; name = entry k; since = 3; expect = None; crowded = false; «record» = None; touched = false }

-- directory 2 is cached, and this is being done for entry 3
abbrev pool : Doing → PoolState
pool doing = record {
  nodes = record { nodes = (entry 2, held) ∷ []; room = [] };
  pages = record { pages = []; room = [] };
  desks = record { desks = empty_desk ∷ record empty_desk { out = out doing 3 ∷ [] } ∷ []; doomed = []; room = 0 };
}

-- a directory is in use while what is inside is fetched, and then it can't leave
parent_in_use : IsInUse (pool Get) (entry 2)
parent_in_use = inr (entry 3, refl, (some_hash, inr (inr (refl, refl))))

parent_stays : CanLeave (pool Get) (entry 2) → ⊥
parent_stays l = l.1 parent_in_use

-- the one that is fetched is in use too
fetched_in_use : IsInUse (pool Get) (entry 3)
fetched_in_use = inl refl

-- while it is put, it isn't being fetched
put_is_no_fetch : IsFetched (pool Put).desks (entry 3) → ⊥
put_is_no_fetch e = let k : ◌≡◌ {A = ℕ} 1 0 = ap number e in omega (arith, k) where
  number : Doing → ℕ
  number Get = 0
  number Put = 1
  number Discard = 2
  number Settle = 3
