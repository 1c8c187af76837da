-- Which requests are planned over cache and resident blocks.
use Rattle.std.specs.Prelude.{◌<◌, ℕ, Bool, List, if◌then◌else◌}
use Rattle.iris_name.specs.declared.request.Request.{Request}
use Rattle.iris_name.specs.declared.request.Request.TheVariants.{Mkdir, Create, Write, Read, Resize, Stat, List as ListNames, Rename, Remove, Sync, Root, Reclaim, Probe}

-- a request on paths, but a removal, and a new length of no bytes, which need the trash
abbrev pub IsPlannable : Request → Type 0
IsPlannable (Mkdir path) = Unit {0}
IsPlannable (Create path) = Unit {0}
IsPlannable (Write path offset bytes) = Unit {0}
IsPlannable (Read path offset count) = Unit {0}
IsPlannable (Resize path size) = 0 < size
IsPlannable (Stat path) = Unit {0}
IsPlannable (ListNames path after) = Unit {0}
IsPlannable (Rename from to) = Unit {0}
IsPlannable (Remove path) = ⊥
IsPlannable Sync = ⊥
IsPlannable Root = ⊥
IsPlannable Reclaim = ⊥
IsPlannable (Probe at) = ⊥

-- a new directory at a path, or a new file
abbrev pub new_at : Bool → List ℕ → Request
new_at dir path = if dir then Mkdir path else Create path
