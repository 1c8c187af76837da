-- When so many names are dirty that the portal may refuse a change because it can't get rid of them.
use Rattle.std.specs.Prelude.{ℕ, ◌≤◌, ◌≡◌, ◌⊎◌, List, [], ◌∷◌, length, true, false}
use Rattle.std.specs.List.{list_any}
use Rattle.iris_name.specs.declared.name.Name.{Name}
use Rattle.iris_name.specs.declared.request.Request.{Request}
use Rattle.iris_name.specs.declared.request.Request.TheVariants.{Mkdir, Create, Write, Read, Resize, Stat, List as ListNames, Rename, Remove, Sync, Root, Reclaim, Probe}
use Rattle.iris_name.specs.History.{Past}
use Rattle.iris_name.specs.Names.{same_name}
use Rattle.iris_history.specs.Kept.{Kept, is_block}
use Rattle.iris_history.specs.Status.{IsDirty, IsUnsure}

-- no name stands in the list twice, and each has P
abbrev pub AreSeveral : (Name → Type 0) → List Name → Type 0
AreSeveral P [] = Unit {0}
AreSeveral P (n ∷ ns) = P n × (list_any (same_name n) ns ≡ false) × AreSeveral P ns

-- there are so many distinct names that have P
abbrev pub AtLeast : ℕ → (Name → Type 0) → Type 0
AtLeast count P = (ns : List Name) × (count ≤ length ns) × AreSeveral P ns

-- at least 448 blocks are dirty or unsure, or at least 2,048 nodes are dirty
abbrev pub IsCrowded : (k : Kept) → Past → Type 0
IsCrowded k past =
    AtLeast 448 (λ n. (is_block n ≡ true) × (IsDirty k n past ⊎ IsUnsure k n past))
    ⊎ AtLeast 2048 (λ n. (is_block n ≡ false) × IsDirty k n past)

-- the request may be refused for a put or a discard that failed: a sync always, a change where it is crowded, others never
abbrev pub MayWaitForStore : (k : Kept) → Past → Request → Type 0
MayWaitForStore k past Sync = Unit {0}
MayWaitForStore k past (Mkdir path) = IsCrowded k past
MayWaitForStore k past (Create path) = IsCrowded k past
MayWaitForStore k past (Write path offset bytes) = IsCrowded k past
MayWaitForStore k past (Resize path size) = IsCrowded k past
MayWaitForStore k past (Rename from to) = IsCrowded k past
MayWaitForStore k past (Remove path) = IsCrowded k past
MayWaitForStore k past Reclaim = IsCrowded k past
MayWaitForStore k past (Read path offset size) = ⊥
MayWaitForStore k past (Stat path) = ⊥
MayWaitForStore k past (ListNames path after) = ⊥
MayWaitForStore k past Root = ⊥
MayWaitForStore k past (Probe at) = ⊥
