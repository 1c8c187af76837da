-- How far resolving has come.
use Rattle.std.proofs.Common.{◌≡◌, ◌⊎◌, ◌≤◌, ◌<◌, ◌+◌, ◌++◌, ℕ, suc, length, get_or, drop, drop-cons, add-one, List, [], ◌∷◌, Option, Some, None, IsSome, refl, sym, ap, subst, ◌∙◌, inl, inr, arith}
use Rattle.std.proofs.lemmas.Bool.{cases_lt}
use Rattle.std.proofs.lemmas.List.{append-nil}
use Rattle.std.proofs.Math.ListN.{drop_of_length-le}
use Rattle.iris_name.specs.declared.name.FileId.{FileId}
use Rattle.iris_name.specs.declared.name.Name.{Name}
use Rattle.iris_name.specs.declared.name.Name.TheVariants as name
use Rattle.iris_node.specs.declared.node.Node.{Node}
use Rattle.iris_node.specs.Trees.{Shown}
use Rattle.iris_node.specs.Unfolded.{id_of}
use Rattle.iris_cache.specs.Resident.{Resident}
use Rattle.iris_cache.specs.Drafted.{Drafted, seen}
use Rattle.iris_cache.specs.declared.held.Short.{Short}
use Rattle.iris_cache.specs.declared.held.Short.TheVariants.{Need, NoMemory}
use Rattle.iris_plain.specs.declared.checks.Seen.{Seen}
use Rattle.iris_plain.specs.declared.checks.Seen.TheVariants.{ADirectory}
use Rattle.iris_treepaths.specs.Rows.{Row, HasRows}
use Rattle.iris_treepaths.specs.Ways.{IsNamed, along_name}
use Rattle.iris_treepaths.specs.Needs.{Listed, IsDirectory, IsDirNode, IsMet, IsMetLack}
use Rattle.iris_paths.specs.declared.resolving.Found.{Found}
use Rattle.iris_paths.specs.declared.resolving.Found.TheVariants.{Missing, ThroughFile}
use Rattle.iris_paths.specs.Resolving.{root_id, Leads, Resolves, standing_at}
use Rattle.iris_paths.specs.Pictured.{Pictured, IsInSight, IsAlong, nearby, further, IsPathLack}
use Rattle.iris_paths.proofs.Named.{not_both, one_named, named_id}
use Rattle.iris_paths.proofs.Steps.{step, differ, dir_stands, dir_seen, folder_stands}

-- Resolving a path has come to the entry of an id, with these names left.
pub record Reached (t : Shown) (key : List ℕ) (whole left : List (List ℕ)) (at above : FileId) (found : Found) : Type 0 where
  pub leads : Leads t key at above left found
  pub along : (m : Name) → IsAlong t key at left m → IsAlong t key root_id whole m
  pub low : at.0 < 2 → standing_at t at ≡ ADirectory

pub listed : {key : List ℕ} {met : List (List ℕ) → Seen} {d : Drafted} {c : Resident} {old new : Shown} (dir : FileId) (rows : List Row)
    → Pictured key met d c old new → HasRows new key dir rows → Listed key dir d c old new rows
listed dir rows pic has = record { was = pic.was; is = pic.is; drafts = pic.drafts; rows_are = has }

pub some_seen : {A : Type 0} (o : Option A) → IsSome o → (x : A) × (o ≡ Some x)
some_seen None h = cc
some_seen (Some x) h = (x, refl)

dir_node : (o : Option Node) → IsDirNode o → (n : Node) × (o ≡ Some n)
dir_node None h = absurd h
dir_node (Some n) h = (n, refl)

-- a directory that is seen is one in the table
pub stands_dir : (key : List ℕ) (met : List (List ℕ) → Seen) (d : Drafted) (c : Resident) (old new : Shown) → Pictured key met d c old new
    → (at : FileId) → IsDirectory d c at → (at.0 < 2 → standing_at new at ≡ ADirectory) → standing_at new at ≡ ADirectory
stands_dir key met d c old new pic at dir low = elim (cases_lt at.0 2) [
  | inl lt ↦ low lt
  | inr le ↦
      let s = dir_node (seen d c (name.Entry at)) (dir le) in
      dir_stands (new (name.Entry at)) s.0 (pic.drafts.nodes (name.Entry at) s.0 s.1) (subst IsDirNode s.1 (dir le))
]

module _ (key : List ℕ) (met : List (List ℕ) → Seen) (d : Drafted) (c : Resident) (old new : Shown) (pic : Pictured key met d c old new) (whole : List (List ℕ)) (found : Found) where
  pub begun : Resolves new key whole found → Reached new key whole whole root_id root_id found
  begun r = record { leads = r; along = λ m a. a; low = λ _. pic.top }

  module _ (at above : FileId) (n : List ℕ) (left : List (List ℕ)) (come : Reached new key whole (n ∷ left) at above found) where
    -- where the entry is no directory's, a file is on the way
    pub file_here : IsInSight d c at → (IsDirectory d c at → ⊥) → found ≡ ThroughFile
    file_here sight closed = elim (step new key at above n left found come.leads) [
      | inl f ↦ f.2
      | inr r ↦ absurd (closed (λ le.
          let s = some_seen (seen d c (name.Entry at)) (sight le) in
          subst IsDirNode (sym s.1) (dir_seen (new (name.Entry at)) s.0 (folder_stands at.0 _ (new (name.Entry at)) r.1.entry) (pic.drafts.nodes (name.Entry at) s.0 s.1))))
    ]

    -- where it is, the directory has rows
    pub rows_here : IsDirectory d c at → (rows : List Row) × HasRows new key at rows × ((IsNamed rows n None × (found ≡ Missing)) ⊎ ((next : FileId) × IsNamed rows n (Some next.0) × Leads new key next at left found))
    rows_here dir = elim (step new key at above n left found come.leads) [
      | inl f ↦ absurd (differ f.0 (standing_at new at) (stands_dir key met d c old new pic at dir come.low) f.1)
      | inr r ↦ r
    ]

    pub missing_here : IsDirectory d c at → ((rows : List Row) → Listed key at d c old new rows → IsNamed rows n None) → found ≡ Missing
    missing_here dir unnamed =
        let r = rows_here dir in
        elim r.2 [ inl e ↦ e.1 | inr e ↦ absurd (not_both r.0 n e.0.0 (unnamed r.0 (listed at r.0 pic r.1)) e.1) ]

    pub next_here : (id : FileId) → IsDirectory d c at → ((rows : List Row) → Listed key at d c old new rows → IsNamed rows n (Some id.0)) → Reached new key whole left id at found
    next_here id dir is =
        let r = rows_here dir in
        let mine = is r.0 (listed at r.0 pic r.1) in
        elim r.2 [
          | inl e ↦ absurd (not_both r.0 n id.0 e.0 mine)
          | inr e ↦
              let same : e.0 ≡ id = ap id_of (one_named r.0 n e.0.0 id.0 r.1.rising e.1 mine) in
              record {
                leads = subst (λ i. Leads new key i at left found) same e.2;
                along = λ m a. come.along m (further at id n left r.0 m r.1 mine a);
                low = λ lt. let two : 2 ≤ id.0 = named_id r.0 n id.0 r.1.named mine in absurd (omega arith);
              }
        ]

    pub met_here : IsDirectory d c at → (rows : List Row) × HasRows new key at rows × ((m : Name) → IsMet at (along_name n key rows) m → IsAlong new key root_id whole m)
    met_here dir = let r = rows_here dir in (r.0, r.1, λ m h. come.along m (nearby at n left r.0 m r.1 h))

-- what a search for a row lacks, a plan lacks that meets what the search meets
pub search_lacks : (key : List ℕ) (d : Drafted) (c : Resident) (at : FileId) (n : List ℕ) (also : Shown → Shown → Type 0) (reached : Shown → Name → Type 0) (e : Short)
    → IsMetLack (Listed key at d c) (along_name n key) d c at e
    → ((met : List (List ℕ) → Seen) (old new : Shown) → Pictured key met d c old new → also old new → (rows : List Row) × HasRows new key at rows × ((m : Name) → IsMet at (along_name n key rows) m → reached new m))
    → IsPathLack key also reached d c e
search_lacks key d c at n also reached (Need m x) h there = record {
  unset = h.unset;
  absent = h.absent;
  needed = λ old new met pic.
      let r = there met old new pic.0 pic.1 in
      let w = h.needed old new r.0 (listed at r.0 pic.0 r.1) in
      (r.2 m w.0, w.1);
}
search_lacks key d c at n also reached NoMemory h there = h

-- the next of the names that are left
pub next_left : (names : List (List ℕ)) (i : ℕ) (n : List ℕ) → i < length names → n ≡ get_or names i n → drop i names ≡ n ∷ drop (i + 1) names
next_left names i n lt e = drop-cons names i n lt ∙ (ap (λ m. m ∷ drop (suc i) names) (sym e) ∙ ap (λ k. n ∷ drop k names) (sym (add-one i)))

-- all names are followed
pub none_left : (names : List (List ℕ)) (i : ℕ) → length names ≤ i → drop i names ≡ []
none_left names i le = drop_of_length-le names le

-- nothing is left but those that follow
pub trail_end : (t : Shown) (key : List ℕ) (names : List (List ℕ)) (m : Name) → IsAlong t key root_id (names ++ []) m → IsAlong t key root_id names m
trail_end t key names m a = subst (λ l. IsAlong t key root_id l m) (append-nil names) a
