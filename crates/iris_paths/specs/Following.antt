-- What is left to follow of a path whose front was followed, and what is seen at its end.
use Rattle.std.specs.Prelude.{◌≡◌, ◌++◌, ℕ, List, Option, Some, None}
use Rattle.iris_name.specs.declared.name.Name.{Name}
use Rattle.iris_name.specs.declared.name.Name.TheVariants as name
use Rattle.iris_node.specs.declared.node.Body.{Body}
use Rattle.iris_node.specs.declared.node.Body.TheVariants as body
use Rattle.iris_node.specs.declared.node.Node.{Node}
use Rattle.iris_node.specs.declared.node.Node.TheVariants as node
use Rattle.iris_node.specs.Trees.{Shown}
use Rattle.iris_cache.specs.Resident.{Resident}
use Rattle.iris_cache.specs.Drafted.{Drafted, seen}
use Rattle.iris_plain.specs.declared.checks.Seen.{Seen}
use Rattle.iris_plain.specs.declared.checks.Seen.TheVariants.{ADirectory, AFile, Nothing, AFileBefore}
use Rattle.iris_paths.specs.declared.resolving.Found.{Found}
use Rattle.iris_paths.specs.declared.resolving.Found.TheVariants.{At, Missing, ThroughFile}
use Rattle.iris_paths.specs.Resolving.{root_id, Leads, Resolves}
use Rattle.iris_paths.specs.Pictured.{Pictured, IsAlong}

-- the names that are left lead on from what the front came to
abbrev pub Onward : Shown → List ℕ → Found → List (List ℕ) → Found → Type 0
Onward t key (At id parent) more found = Leads t key id parent more found
Onward t key Missing more found = found ≡ Missing
Onward t key ThroughFile more found = found ≡ ThroughFile

-- what is met on going on from there is met on the whole path
abbrev pub IsAlongOnward : Shown → List ℕ → List (List ℕ) → List (List ℕ) → Found → Type 0
IsAlongOnward t key front more (At id parent) = (m : Name) → IsAlong t key id more m → IsAlong t key root_id (front ++ more) m
IsAlongOnward t key front more Missing = Unit {0}
IsAlongOnward t key front more ThroughFile = Unit {0}

-- what a node of such a body is seen as
abbrev pub standing_body : Body → Seen
standing_body (body.Dir top) = ADirectory
standing_body (body.File size counter versions) = AFile size

-- what a node is seen as
abbrev pub standing_node : Node → Seen
standing_node (node.Entry e) = standing_body e.body
standing_node (node.Part p) = Nothing

-- what an entry in sight is seen as: of those of roots, some aren't there
abbrev pub standing_seen : Option Node → Seen
standing_seen None = ADirectory
standing_seen (Some n) = standing_node n

-- what is seen where resolving comes to its end
abbrev pub met_seen : Drafted → Resident → Found → Seen
met_seen d c (At id parent) = standing_seen (seen d c (name.Entry id))
met_seen d c Missing = Nothing
met_seen d c ThroughFile = AFileBefore

-- following names from the root came to this, in every table that is pictured and whatever names follow
abbrev pub Follows : Drafted → Resident → List (List ℕ) → Found → Type 0
Follows d c front r = (key : List ℕ) (met : List (List ℕ) → Seen) (old new : Shown) (more : List (List ℕ)) (found : Found)
    → Pictured key met d c old new → Resolves new key (front ++ more) found → Onward new key r more found × IsAlongOnward new key front more r
