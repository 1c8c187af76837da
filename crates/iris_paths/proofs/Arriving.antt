-- Where resolving comes to its end.
use Rattle.std.proofs.Common.{◌≡◌, Result, IfOk, ◌<◌, ◌≤◌, ◌++◌, ℕ, List, [], Option, Some, None, refl, sym, ap, subst, ◌∙◌, inl, inr, arith}
use Rattle.std.proofs.lemmas.Bool.{cases_lt}
use Rattle.std.proofs.lemmas.List.{append-nil}
use Rattle.std.proofs.lemmas.Result.{IfOk-weaker}
use Rattle.iris_name.specs.declared.name.FileId.{FileId}
use Rattle.iris_name.specs.declared.name.Name.TheVariants as name
use Rattle.iris_node.specs.declared.node.Node.{Node}
use Rattle.iris_node.specs.Trees.{Shown}
use Rattle.iris_cache.specs.Resident.{Resident}
use Rattle.iris_cache.specs.Drafted.{Drafted, seen}
use Rattle.iris_plain.specs.declared.checks.Seen.{Seen}
use Rattle.iris_plain.specs.declared.checks.Seen.TheVariants.{ADirectory}
use Rattle.iris_paths.specs.declared.resolving.Found.{Found}
use Rattle.iris_paths.specs.declared.resolving.Found.TheVariants.{At, Missing, ThroughFile}
use Rattle.iris_paths.specs.Resolving.{root_id, Leads, Resolves, standing_at, met_by, here, file, none, onward}
use Rattle.iris_paths.specs.Pictured.{Pictured, IsInSight, AreInSight}
use Rattle.iris_paths.specs.Following.{Onward, Follows, standing_seen, met_seen}
use Rattle.iris_paths.proofs.Named.{named_id}
use Rattle.iris_paths.proofs.Steps.{ended, like_stands}

-- where no name is left, this is what resolving comes to
arrive : (t : Shown) (key : List ℕ) (r found : Found) → Onward t key r [] found → found ≡ r
arrive t key (At id parent) found l = ended t key id parent found l
arrive t key Missing found e = e
arrive t key ThroughFile found e = e

-- a root that is come to is a directory
abbrev pub Low : Shown → Found → Type 0
Low t (At id parent) = id.0 < 2 → standing_at t id ≡ ADirectory
Low t Missing = Unit {0}
Low t ThroughFile = Unit {0}

low : (t : Shown) (key : List ℕ) (id parent : FileId) (ns : List (List ℕ)) (found : Found) → Leads t key id parent ns found → (id.0 < 2 → standing_at t id ≡ ADirectory) → Low t found
low t key id parent _ _ (here _ _) first = first
low t key id parent _ _ (file _ _ n ns size e) first = tt
low t key id parent _ _ (none _ _ n ns rows h e) first = tt
low t key id parent _ _ (onward _ _ next n ns rows found h e l) first =
    low t key next id ns found l (λ lt. let two : 2 ≤ next.0 = named_id rows n next.0 h.named e in absurd (omega arith))

-- an entry in sight that isn't seen is that of a root
pub none_far : (d : Drafted) (c : Resident) (id : FileId) → IsInSight d c id → seen d c (name.Entry id) ≡ None → id.0 < 2
none_far d c id sight e = elim (cases_lt id.0 2) [ inl lt ↦ lt | inr le ↦ let s = sight le in cc ]

module _ (key : List ℕ) (met : List (List ℕ) → Seen) (d : Drafted) (c : Resident) (old new : Shown) (pic : Pictured key met d c old new) where
  stands_so : (id : FileId) (o : Option Node) → seen d c (name.Entry id) ≡ o → (id.0 < 2 → standing_at new id ≡ ADirectory) → (o ≡ None → id.0 < 2) → standing_at new id ≡ standing_seen o
  stands_so id None e low far = low (far refl)
  stands_so id (Some n) e low far = like_stands (new (name.Entry id)) n (pic.drafts.nodes (name.Entry id) n e)

  -- what resolving meets is what is seen where it comes to its end
  met_so : (r : Found) → AreInSight d c r → Low new r → met_by new r ≡ met_seen d c r
  met_so (At id parent) sight first = stands_so id (seen d c (name.Entry id)) refl first (none_far d c id sight.0)
  met_so Missing sight first = refl
  met_so ThroughFile sight first = refl

  module _ (names : List (List ℕ)) (r : Found) (follows : (more : List (List ℕ)) (found : Found) → Resolves new key (names ++ more) found → Onward new key r more found) where
    -- resolving a path comes to what following all its names comes to, and to nothing else
    pub comes_once : (other : Found) → Resolves new key names other → other ≡ r
    comes_once other l = arrive new key r other (follows [] other (subst (λ l. Resolves new key l other) (sym (append-nil names)) l))

    pub comes : Resolves new key names r × (met names ≡ met_by new r)
    comes =
        let f = pic.meets names in
        let e = comes_once f.0 f.1 in
        (subst (λ g. Resolves new key names g) e f.1, f.2 ∙ ap (met_by new) e)

    pub come_low : Low new r
    come_low = low new key root_id root_id names r comes.0 (λ _. pic.top)

    pub meets_seen : AreInSight d c r → met names ≡ met_seen d c r
    meets_seen sight = comes.1 ∙ met_so r sight come_low

-- the same of what following the names of a path answers
pub all_come : {E : Type 0} (d : Drafted) (c : Resident) (names : List (List ℕ)) (r : Result Found E) → IfOk r (Follows d c names)
    → IfOk r (λ r. (key : List ℕ) (met : List (List ℕ) → Seen) (old new : Shown) → Pictured key met d c old new → Resolves new key names r × (met names ≡ met_by new r))
all_come d c names r h = IfOk-weaker r (Follows d c names) _ (λ x f key met old new pic. comes key met d c old new pic names x (λ more found l. (f key met old new more found pic l).0)) h

-- a path meets what is seen where following its names came to its end
pub meets_so : (d : Drafted) (c : Resident) (names : List (List ℕ)) (r : Found) (s : Seen) → Follows d c names r → AreInSight d c r → met_seen d c r ≡ s
    → (key : List ℕ) (met : List (List ℕ) → Seen) (old new : Shown) → Pictured key met d c old new → met names ≡ s
meets_so d c names r s follows sight e key met old new pic = meets_seen key met d c old new pic names r (λ more found l. (follows key met old new more found pic l).0) sight ∙ e
