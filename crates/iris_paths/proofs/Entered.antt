-- The directory at which resolving comes to its end.
use Rattle.std.proofs.Common.{◌≡◌, ◌<◌, ◌++◌, ℕ, List, [], ◌∷◌, Option, Some, None, refl, sym, ap, subst, ◌∙◌, inl, inr, arith}
use Rattle.std.proofs.lemmas.List.{append-nil}
use Rattle.iris_name.specs.declared.name.FileId.{FileId}
use Rattle.iris_name.specs.declared.name.Name.TheVariants as name
use Rattle.iris_name.specs.declared.request.PlainError.{PlainError}
use Rattle.iris_name.specs.declared.request.PlainError.TheVariants.{NotDir}
use Rattle.iris_node.specs.declared.node.Body.{Body}
use Rattle.iris_node.specs.declared.node.Body.TheVariants as body
use Rattle.iris_node.specs.declared.node.Node.{Node}
use Rattle.iris_node.specs.declared.node.Node.TheVariants as node
use Rattle.iris_node.specs.Nodes.{name_of}
use Rattle.iris_node.specs.Trees.{Shown}
use Rattle.iris_cache.specs.Resident.{Resident, IsSoundCache}
use Rattle.iris_cache.specs.Drafted.{Drafted, seen, IsDraft}
use Rattle.iris_plain.specs.declared.checks.Seen.{Seen}
use Rattle.iris_plain.specs.declared.checks.Seen.TheVariants.{AFile}
use Rattle.iris_treepaths.specs.Rows.{Row, HasRows}
use Rattle.iris_treepaths.specs.Needs.{IsDirectory, IsDirNode, IsDirBody}
use Rattle.iris_treepaths.proofs.Owned.{seen_own}
use Rattle.iris_paths.specs.declared.resolving.Found.{Found}
use Rattle.iris_paths.specs.declared.resolving.Found.TheVariants.{At}
use Rattle.iris_paths.specs.declared.entering.Place.TheVariants.{In, Not}
use Rattle.iris_paths.specs.Pictured.{Pictured, IsInSight, AreInSight}
use Rattle.iris_paths.specs.Following.{Follows, standing_body, standing_node, standing_seen, met_seen}
use Rattle.iris_paths.specs.Entering.{no_directory, Enters, IsEntered}
use Rattle.iris_paths.specs.Resolving.{standing_at, Resolves}
use Rattle.iris_paths.proofs.Steps.{step, ended, differ}
use Rattle.iris_paths.proofs.Reaching.{stands_dir}
use Rattle.iris_paths.proofs.Arriving.{comes, come_low, meets_so, none_far}

-- what an entry that is seen as is: a directory, or a file
file_body : (b : Body) → (IsDirBody b → ⊥) → (size : ℕ) × (standing_body b ≡ AFile size)
file_body (body.Dir top) closed = absurd (closed tt)
file_body (body.File size counter versions) closed = (size, refl)

file_node : (id : FileId) (n : Node) → name_of n ≡ name.Entry id → (IsDirNode (Some n) → ⊥) → (size : ℕ) × (standing_node n ≡ AFile size)
file_node id (node.Entry e) own closed = file_body e.body closed
file_node id (node.Part p) own closed = cc

file_option : (d : Drafted) (c : Resident) (id : FileId) (o : Option Node) → IsDraft d → IsSoundCache c → IsInSight d c id → seen d c (name.Entry id) ≡ o → (IsDirectory d c id → ⊥) → (size : ℕ) × (standing_seen o ≡ AFile size)
file_option d c id None ds cs sight e closed = let far : id.0 < 2 = none_far d c id sight e in absurd (closed (λ le. absurd (omega arith)))
file_option d c id (Some n) ds cs sight e closed = file_node id n (seen_own d c (name.Entry id) n ds cs e) (λ k. closed (λ le. subst IsDirNode (sym e) k))

-- an entry in sight that is no directory's is a file's
pub file_seen : (d : Drafted) (c : Resident) (id : FileId) → IsDraft d → IsSoundCache c → IsInSight d c id → (IsDirectory d c id → ⊥) → (size : ℕ) × (standing_seen (seen d c (name.Entry id)) ≡ AFile size)
file_seen d c id ds cs sight closed = file_option d c id (seen d c (name.Entry id)) ds cs sight refl closed

pub enters : (d : Drafted) (c : Resident) (names : List (List ℕ)) (id parent : FileId) → Follows d c names (At id parent) → IsDirectory d c id → IsEntered d c names (In id)
enters d c names id parent follows dir = (
  dir,
  λ key met old new pic.
      let on = λ (more : List (List ℕ)) (found : Found) (r : Resolves new key (names ++ more) found). (follows key met old new more found pic r).0 in
      let at = comes key met d c old new pic names (At id parent) on in
      let folder = stands_dir key met d c old new pic id dir (come_low key met d c old new pic names (At id parent) on) in
      record {
        above = parent;
        leads = at.0;
        stands = at.1 ∙ folder;
        folder = folder;
        onward = on;
        along = λ more found r. (follows key met old new more found pic r).1;
      },
)

-- where resolving comes to no directory, the check says why
pub shut : (d : Drafted) (c : Resident) (names : List (List ℕ)) (r : Found) (e : PlainError) → Follows d c names r → AreInSight d c r → no_directory (met_seen d c r) ≡ Some e → IsEntered d c names (Not e)
shut d c names r e follows sight check = λ key met old new pic. ap no_directory (meets_so d c names r (met_seen d c r) follows sight refl key met old new pic) ∙ check

pub shut_file : (d : Drafted) (c : Resident) (names : List (List ℕ)) (id parent : FileId) → Follows d c names (At id parent) → AreInSight d c (At id parent) → IsDraft d → IsSoundCache c → (IsDirectory d c id → ⊥) → IsEntered d c names (Not NotDir)
shut_file d c names id parent follows sight ds cs closed =
    let f = file_seen d c id ds cs sight.0 closed in
    shut d c names (At id parent) NotDir follows sight (ap no_directory f.1)

-- a directory has rows
pub rows_there : (names : List (List ℕ)) (dir : FileId) (key : List ℕ) (met : List (List ℕ) → Seen) (d : Drafted) (c : Resident) (old new : Shown) → Pictured key met d c old new → Enters names dir key met new → (rows : List Row) × HasRows new key dir rows
rows_there names dir key met d c old new pic at =
    let f = pic.meets (names ++ [] ∷ []) in
    elim (step new key dir at.above [] [] f.0 (at.onward ([] ∷ []) f.0 f.1)) [ inl k ↦ absurd (differ k.0 (standing_at new dir) at.folder k.1) | inr r ↦ (r.0, r.1) ]

same_id : (a b p q : FileId) → At a p ≡ At b q → a ≡ b
same_id a b p q e = cc

-- resolving comes to one directory
pub one_directory : (names : List (List ℕ)) (dir other above : FileId) (key : List ℕ) (met : List (List ℕ) → Seen) (new : Shown) → Enters names dir key met new → Resolves new key names (At other above) → other ≡ dir
one_directory names dir other above key met new at r =
    same_id other dir above at.above (ended new key dir at.above (At other above) (at.onward [] (At other above) (subst (λ l. Resolves new key l (At other above)) (sym (append-nil names)) r)))
