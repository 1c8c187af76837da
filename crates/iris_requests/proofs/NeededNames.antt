-- What a plan over an empty draft lacks, its request needs.
use Rattle.std.proofs.Common.{◌≡◌, ◌≢◌, ◌≤◌, ◌<◌, ◌==◌, ℕ, List, Bool, true, false, cond, Option, Some, None, IsSome, refl, sym, ◌∙◌, ap, subst, inl, inr}
use Rattle.std.specs.Prelude.{IsSomeAnd}
use Rattle.std.specs.Option.{option_map}
use Rattle.std.proofs.lemmas.Bool.{ne_eqb}
use Rattle.iris_blocks.specs.Paged.{Paged, held_page}
use Rattle.iris_cache.specs.declared.held.Short.{Short}
use Rattle.iris_cache.specs.declared.held.Short.TheVariants.{Need, NoMemory}
use Rattle.iris_cache.specs.Drafted.{Drafted}
use Rattle.iris_cache.specs.Needs.{IsExpected, IsWanted, StopsOnNeed, StopsShort}
use Rattle.iris_cache.specs.Resident.{Resident, held_node}
use Rattle.iris_file_rules.specs.FileTable.{files}
use Rattle.iris_file_rules.specs.Reach.{IsLiveOver}
use Rattle.iris_file_rules.proofs.FileRecords.{hash_true}
use Rattle.iris_files.specs.Pages.{LacksPage}
use Rattle.iris_files.proofs.Standing.{versioned}
use Rattle.iris_forest.specs.Places.{IsTableFile}
use Rattle.iris_forest.proofs.NodesAreFormed.{stands_tree}
use Rattle.iris_forest.proofs.VersionsOfFile.{blocks_stand}
use Rattle.iris_history.specs.Kept.{is_block}
use Rattle.iris_invariant.specs.Agrees.{IsTrueOf}
use Rattle.iris_mac.specs.declared.keys.Keys.{Keys}
use Rattle.iris_name.specs.declared.name.Hash32.{Hash32}
use Rattle.iris_name.specs.declared.name.Name.{Name}
use Rattle.iris_name.specs.declared.name.Name.TheVariants.{Entry, Part, Block}
use Rattle.iris_name.specs.declared.note.Expect.{Expect}
use Rattle.iris_name.specs.declared.note.Expect.TheVariants.{Hash, Version}
use Rattle.iris_name.specs.declared.request.Request.{Request}
use Rattle.iris_node.specs.Trees.{Shown, IsTree, IsParent, IsNodeName, IsRootName, node_name}
use Rattle.iris_node.specs.Unfolded.{Unfolded, Absent, Folder, Leaf, Even, Split, Stored, hash, id_of, node_of}
use Rattle.iris_paths.specs.Pictured.{LacksPath, IsPathLack, IsPathShort, every}
use Rattle.iris_records.specs.Shown.{block_of_place, shown}
use Rattle.iris_requests.specs.declared.planned.Counters.{Counters}
use Rattle.iris_requests.specs.Needed.{IsAbsent, IsNeeded, IsPlanShort, ReachesIn}
use Rattle.iris_requests.specs.Planned.{IsShownBy}
use Rattle.iris_requests.proofs.ShownTables.{no_changes, paths_pictured, file_pictured}
use Rattle.iris_rows.specs.Changes.{seen_in}
use Rattle.iris_rows.specs.Rows.{File, Table}
use Rattle.iris_rows.specs.Sound.{IsSound}

-- ---- entries and parts

-- what has a hash is an entry or a part
hashed_name : (u : Unfolded) (x : Hash32) → option_map hash (node_of u) ≡ Some x → (m : Name) × (node_name u ≡ Some m) × IsNodeName m
unfolding node_of
hashed_name (Folder id name less more inside) x e = (Entry (id_of id), refl, tt)
hashed_name (Leaf id name less more size counter versions) x e = (Entry (id_of id), refl, tt)
hashed_name (Split file level index low high) x e = (Part (id_of file) level index, refl, tt)
hashed_name Absent x e = absurd (cc)
hashed_name (Even version) x e = absurd (cc)
hashed_name (Stored version bytes) x e = absurd (cc)

-- so what is expected with a hash is one
expected_name : (t : Shown) (n : Name) (x : Expect) (o : Option Unfolded) → IsTree t → t n ≡ o → IsExpected x o → IsNodeName n
expected_name t n (Hash h) None tree e w = absurd w
expected_name t n (Version v) None tree e w = absurd w
expected_name t n (Version v) (Some u) tree e w = absurd w
expected_name t n (Hash h) (Some u) tree e w = let m = hashed_name u h w in subst IsNodeName (tree.own n m.0 u e m.1) m.2

no_block : (n : Name) → IsNodeName n → is_block n ≡ false
no_block (Entry i) is = refl
no_block (Part f l i) is = refl
no_block (Block f p) is = absurd is

absent_node : (c : Resident) (b : Paged) (n : Name) → IsNodeName n → held_node c n ≡ None → IsAbsent c b n
absent_node c b (Entry i) is e = e
absent_node c b (Part f l i) is e = e
absent_node c b (Block f p) is e = absurd is

root_name : (n : Name) → IsRootName n → IsNodeName n
root_name n root = elim root [ inl e ↦ subst IsNodeName (sym e) tt | inr e ↦ subst IsNodeName (sym e) tt ]

-- the hash that a plan expects is a true one
true_hash : (keys : Keys) (t : Table) (n : Name) (x : Expect) → IsNodeName n → IsSome (shown keys.order t n) → IsExpected x (shown keys.order t n) → IsTrueOf (files keys) n x (shown keys.order t n)
true_hash keys t n (Version v) is live e = absurd (by (shown keys.order t n) e) where
  by : (o : Option Unfolded) → IsExpected (Version v) o → ⊥
  by None e = e
  by (Some u) e = e
true_hash keys t n (Hash h) is live e = hash_true keys t n h (no_block n is) live (λ u o. subst (IsExpected (Hash h)) o e)

-- an entry or a part that is absent and wanted is needed
pub node_needed : (keys : Keys) (t : Table) (request : Request) (c : Resident) (b : Paged) (n : Name) (x : Expect) → IsSound t → ReachesIn keys t request n → held_node c n ≡ None
    → IsWanted (shown keys.order t) (shown keys.order t) c n x → IsNeeded keys t request c b n x
node_needed keys t request c b n x sound reached absent w = elim w.expected [
  | inl root ↦ record { reached = reached; live = w.live; absent = absent_node c b n (root_name n root) absent; expected = inl root; parent = w.parent }
  | inr e ↦ let is = expected_name (shown keys.order t) n x (shown keys.order t n) (stands_tree keys.order t sound) refl e in record {
    reached = reached;
    live = w.live;
    absent = absent_node c b n is absent;
    expected = inr (true_hash keys t n x is w.live e);
    parent = w.parent;
  }
]

-- ---- blocks

-- a block stands below no node
no_parent : (u : Unfolded) (i p : ℕ) → node_name u ≡ Some (Block (id_of i) p) → ⊥
no_parent (Folder id name less more inside) i p e = cc
no_parent (Leaf id name less more size counter versions) i p e = cc
no_parent (Split file level index low high) i p e = cc
no_parent Absent i p e = cc
no_parent (Even version) i p e = cc
no_parent (Stored version bytes) i p e = cc

block_live : (p : ℕ) (f : File) → f.version p ≢ 0 → block_of_place p f ≡ Some (Stored (f.version p) (f.block p))
block_live p f ne = ap (λ z. cond z None (Some (Stored (f.version p) (f.block p)))) (ne_eqb (f.version p) 0 ne)

-- a block that is no hole and isn't resident is needed
pub block_needed : (keys : Keys) (t : Table) (request : Request) (c : Resident) (b : Paged) (i : ℕ) (f : File) (p : ℕ) → IsSound t → IsTableFile t i f → f.version p ≢ 0
    → held_page b (Block (id_of i) p) ≡ None → (IsSome (shown keys.order t (Block (id_of i) p)) → ReachesIn keys t request (Block (id_of i) p)) → IsNeeded keys t request c b (Block (id_of i) p) (Version (f.version p))
block_needed keys t request c b i f p sound stands ne absent reached =
    let is = blocks_stand keys.order t i p f sound stands ∙ block_live p f ne in
    let live = subst IsSome (sym is) refl in
    record {
      reached = reached live;
      live = live;
      absent = absent;
      expected = inr (refl, subst (λ o. IsSomeAnd o (λ w. f.version p ≡ (files keys).version w)) (sym is) refl);
      parent = inr (λ q above. absurd (no_parent above.child i p above.named));
    }

-- ---- what stops a plan

stops_more : (P Q : Name → Expect → Type 0) (e : Short) → ((n : Name) (x : Expect) → P n x → Q n x) → StopsShort P e → StopsShort Q e
stops_more P Q (Need n x) f h = f n x h
stops_more P Q NoMemory f h = tt

-- what a plan that takes no memory lacks
pub lack_stops : (P : Name → Expect → Type 0) (e : Short) → StopsOnNeed P e → StopsShort P e
lack_stops P (Need n x) h = h
lack_stops P NoMemory h = absurd h

-- out of memory is no lack
pub memory_short : (keys : Keys) (request : Request) (c : Resident) (b : Paged) (k : Counters) (e : Short) → e ≡ NoMemory → IsPlanShort keys request c b k e
memory_short keys request c b k e is = subst (λ z. IsPlanShort keys request c b k z) (sym is) tt

module _ (keys : Keys) (request : Request) (c : Resident) (b : Paged) (k : Counters) (d : Drafted) (none : d ≡ no_changes) where
  -- a plan on paths lacks what its request reaches
  pub path_short : (reached : Shown → Name → Type 0) (e : Short) → ((t : Table) (n : Name) → reached (shown keys.order t) n → ReachesIn keys t request n) → IsPathShort keys.order every reached d c e
      → IsPlanShort keys request c b k e
  path_short reached e reaches = stops_more (LacksPath keys.order every reached d c) (λ n x. (t : Table) → IsShownBy keys.order t c b k → IsNeeded keys t request c b n x) e
      (λ n x lacks t s. (let needed = lacks.needed (shown keys.order t) (shown keys.order t) (seen_in t) (paths_pictured keys.order t c b k s d none, tt) in
      node_needed keys t request c b n x s.sound (reaches t n needed.0) lacks.absent needed.1))

  pub path_lack : (reached : Shown → Name → Type 0) (e : Short) → ((t : Table) (n : Name) → reached (shown keys.order t) n → ReachesIn keys t request n) → IsPathLack keys.order every reached d c e
      → IsPlanShort keys request c b k e
  path_lack reached e reaches h = path_short reached e reaches (lack_stops (LacksPath keys.order every reached d c) e h)

  -- a plan on a file's bytes lacks a part or a block over places that its request reaches
  pub page_needed : (t : Table) (i : ℕ) (f : File) (low high : ℕ) (n : Name) (x : Expect) → IsShownBy keys.order t c b k → IsTableFile t i f → (IsLiveOver (shown keys.order t) (id_of i) low high n → ReachesIn keys t request n)
      → LacksPage d c b (id_of i) low high n x → IsNeeded keys t request c b n x
  page_needed t i f low high n x s stands reaches lacks = elim lacks [
    | inl part ↦
        let needed = part.1.needed (shown keys.order t) (shown keys.order t) f.version (versioned (shown keys.order t) (shown keys.order t) (id_of i) f d c (file_pictured keys.order t c b k s d none i f stands)) in
        node_needed keys t request c b n x s.sound (reaches (needed.1.live, inl part.0)) part.1.absent needed.1
    | inr block ↦
        let needed = block.needed (shown keys.order t) (shown keys.order t) f (file_pictured keys.order t c b k s d none i f stands) in
        subst (λ m. IsNeeded keys t request c b m x) (sym block.named)
        (subst (IsNeeded keys t request c b (Block (id_of i) block.place)) (sym needed.1)
        (block_needed keys t request c b i f block.place s.sound stands needed.0 (subst (λ m. held_page b m ≡ None) block.named block.absent)
        (λ live. subst (ReachesIn keys t request) block.named (reaches (subst (IsLiveOver (shown keys.order t) (id_of i) low high) (sym block.named) (live, inr (refl, block.from, block.to)))))))
  ]
