-- What a plan rests on of the tables before and after, whether a row is in hand or none.
use Rattle.std.proofs.Common.{◌≡◌, inl, ◌⊎◌, Option, Some, None, IsSome, refl}
use Rattle.std.specs.Option.{option_map}
use Rattle.iris_name.specs.declared.name.Name.{Name}
use Rattle.iris_node.specs.Trees.{Shown, IsTree}
use Rattle.iris_cache.specs.declared.held.Held.{Held}
use Rattle.iris_cache.specs.declared.draft.Change.{Change}
use Rattle.iris_cache.specs.Resident.{Resident, held_node}
use Rattle.iris_cache.specs.Drafted.{Drafted, drafted, seen, known_by, there_by}
use Rattle.iris_cache.proofs.Lacking.{sees_beside}
pub use Rattle.iris_cache.proofs.Lacking.{Sees, expected_by, parent_resident, wanted, root_wanted}
use Rattle.iris_treepaths.specs.Rows.{Row}
use Rattle.iris_treepaths.specs.Hands.{Holding, detached_row}
use Rattle.iris_treepaths.proofs.There.{is_there, never_none}

pub sees_holding : (old new : Shown) (hand : Option Row) (d : Drafted) (c : Resident) → IsTree old → IsTree new → Holding old new hand d c → Sees old new d c
sees_holding old new hand d c was is p = sees_beside old new (option_map detached_row hand) d c was is p

-- a name that is seen is resident, or wasn't live before
pub seen_resident : (old new : Shown) (d : Drafted) (c : Resident) (n : Name) → Sees old new d c → IsSome (seen d c n) → IsSome (held_node c n) ⊎ (old n ≡ None)
seen_resident old new d c n see h = by (drafted d n) (held_node c n) refl refl h
  where
    by : (o : Option Change) (w : Option Held) → drafted d n ≡ o → held_node c n ≡ w → IsSome (there_by (known_by o w)) → IsSome (held_node c n) ⊎ (old n ≡ None)
    by (Some v) w de he k = see.resident n v de
    by None (Some w) de he k = inl (is_there (held_node c n) w he)
    by None None de he k = absurd (never_none (there_by (known_by None None)) k refl)
