-- A node that is fetched under the hash that its resident parent holds is the table's with its true hashes, and goes into the cache.
use Rattle.std.proofs.Common.{◌≡◌, ◌≢◌, ◌⊎◌, inl, inr, ℕ, List, [], Bool, true, false, Option, Some, None, refl, sym, ◌∙◌, ap, subst}
use Rattle.std.specs.Prelude.{IsSomeAnd, IsSome}
use Rattle.std.specs.Option.{option_map}
use Rattle.std.specs.Str.{bytes_eq}
use Rattle.std.proofs.lemmas.Slice.Eq.{bytes_eq-Decides}
use Rattle.sha2.specs.Sha256.{sha256}
use Rattle.iris_name.specs.declared.name.Hash32.{Hash32}
use Rattle.iris_name.specs.declared.name.Name.{Name}
use Rattle.iris_name.specs.declared.name.Name.TheVariants.{Entry, Part, Block}
use Rattle.iris_node.specs.declared.node.Node.{Node}
use Rattle.iris_node.specs.declared.node.Node.TheVariants as node
use Rattle.iris_node.specs.Spelling.{spelling}
use Rattle.iris_node.specs.Trees.{IsNodeName, IsParent, node_name}
use Rattle.iris_node.specs.Unfolded.{Unfolded, Absent, Folder, Leaf, Even, Split, Stored, id_of, hash, node_of, node_record, spelled_node}
use Rattle.iris_node.proofs.Records.{same_spelling}
use Rattle.iris_cache.specs.Pictures.{IsSettled, Pictures}
use Rattle.iris_cache.specs.Resident.{Resident, held_node}
use Rattle.iris_cache.proofs.Keeping.{insert-keeps}
use Rattle.iris_rows.specs.Rows.{Table}
use Rattle.iris_rows.specs.Sound.{IsSound}
use Rattle.iris_records.specs.Records.{spelled}
use Rattle.iris_records.specs.Shown.{shown}
use Rattle.iris_table_laws.proofs.Grammar.{nodes_fit}
use Rattle.iris_forest.specs.Truths.{IsTrueNode}
use Rattle.iris_forest.proofs.NodesAreFormed.{stands_tree, formed}
use Rattle.iris_forest.proofs.NodesWithTrueHashes.{true_nodes, holds_of_children}
use Rattle.iris_plan_laws.specs.Fetches.{IsLinkedAbsent, RecordsFit, FetchesFit, FetchesKeep}

-- ---- records of nodes

-- the record of a node's name is that of its node
of_node : (key : List ℕ) (n : Name) (u : Unfolded) → IsNodeName n → spelled key n u ≡ node_record u
unfolding node_of
of_node key (Entry i) (Stored v bytes) h = refl
of_node key (Part f l i) (Stored v bytes) h = refl
of_node key (Block f p) (Stored v bytes) h = absurd h
of_node key n Absent h = refl
of_node key n (Folder id name less more inside) h = refl
of_node key n (Leaf id name less more size counter versions) h = refl
of_node key n (Even version) h = refl
of_node key n (Split file level index low high) h = refl

of_some : (key : List ℕ) (n : Name) (u : Unfolded) (k : Node) → IsNodeName n → node_of u ≡ Some k → spelled key n u ≡ spelling k
of_some key n u k h e = of_node key n u h ∙ ap spelled_node e

-- a spelling has bytes
some_bytes : (k : Node) → spelling k ≡ [] → ⊥
unfolding spelling
some_bytes (node.Entry e) h = absurd (cc)
some_bytes (node.Part p) h = absurd (cc)

pub records_fit : RecordsFit
records_fit order key t n u k s texts nodal live is e = by (node_of u) refl where
  by : (o : Option Node) → node_of u ≡ o → IsTrueNode (shown order t) n k
  by None a = absurd (some_bytes k (e ∙ of_node key n u nodal ∙ ap spelled_node a))
  by (Some m) a =
      let same = same_spelling k m is (nodes_fit order t n u m s texts live a).0 (e ∙ of_some key n u m nodal a) in
      true_nodes (shown order t) n u k (stands_tree order t s) (formed order t s) live (a ∙ ap Some (sym same))

-- ---- the hash that the parent holds

node_named : (n : Name) (u : Unfolded) → node_name u ≡ Some n → IsNodeName n
node_named n (Folder id name less more inside) e = let z : Entry (id_of id) ≡ n = cc in subst IsNodeName z tt
node_named n (Leaf id name less more size counter versions) e = let z : Entry (id_of id) ≡ n = cc in subst IsNodeName z tt
node_named n (Split file level index low high) e = let z : Part (id_of file) level index ≡ n = cc in subst IsNodeName z tt
node_named n Absent e = absurd (cc)
node_named n (Even version) e = absurd (cc)
node_named n (Stored version bytes) e = absurd (cc)

-- the true hash is that of the record
of_hash : (key : List ℕ) (n : Name) (u : Unfolded) (x : Hash32) → IsNodeName n → option_map hash (node_of u) ≡ Some x → sha256 (spelled key n u) ≡ x.0
of_hash key n u x nodal e = by (node_of u) refl where
  by : (o : Option Node) → node_of u ≡ o → sha256 (spelled key n u) ≡ x.0
  by None a = absurd (let q = sym (ap (option_map hash) a) ∙ e in cc)
  by (Some m) a = let q : option_map hash (Some m) ≡ Some x = sym (ap (option_map hash) a) ∙ e in let z : hash m ≡ x = cc in ap sha256 (of_some key n u m nodal a) ∙ ap (λ (w : Hash32). w.0) z

-- the parent that holds it is the parent
linked_parent : (order : List ℕ) (t : Table) (c : Resident) (p n : Name) (x : Hash32) → IsSound t → Pictures (shown order t) c → IsLinkedAbsent c p n x → IsParent (shown order t) p n
linked_parent order t c p n x s pic a = holds_of_children (shown order t) p n a.parent.node x (formed order t s) (pic.nodes p a.parent a.resident) a.holds

-- two texts are one or not
one_or_not : (a b : List ℕ) → (a ≡ b) ⊎ (a ≢ b)
one_or_not a b = by (bytes_eq a b) refl where
  by : (r : Bool) → bytes_eq a b ≡ r → (a ≡ b) ⊎ (a ≢ b)
  by true e = inl ((bytes_eq-Decides a b).0 e)
  by false e = inr (λ h. (let q : bytes_eq a b ≡ true = (bytes_eq-Decides a b).1 h in absurd (cc)))

pub fetches_fit : FetchesFit
fetches_fit order key t c p n x k s texts pic a is e =
    let h = linked_parent order t c p n x s pic a in
    let nodal = node_named n h.child h.named in
    let live = (stands_tree order t s).below p n h.parent h.child h.live h.above h.named in
    let true_hash = of_hash key n h.child x nodal (pic.hashes p n a.parent x a.resident a.holds (subst IsSettled (sym a.absent) tt) h.child live) in
    elim (one_or_not (spelling k) (spelled key n h.child)) [
      | inl same ↦ inr (records_fit order key t n h.child k s texts nodal live is same)
      | inr other ↦ inl (subst (λ o. IsSomeAnd o (λ u. (spelling k ≢ spelled key n u) × (sha256 (spelling k) ≡ sha256 (spelled key n u)))) (sym live) (other, e ∙ sym true_hash))
    ]

pub fetches_keep : FetchesKeep
fetches_keep order t c e p n x k who kids s pic a is at =
    let h = linked_parent order t c p n x s pic a in
    insert-keeps (shown order t) c e n (Some p) k who kids pic a.absent is.0 is.1
    (λ q g. (let same = (stands_tree order t s).once n p q h g in (ap Some same, subst (λ z. IsSome (held_node c z)) same (ap (λ o. Rattle.std.specs.Prelude.is_some o) a.resident))))
    (λ q g. (let same : p ≡ q = cc in subst (λ z. IsParent (shown order t) z n) same h)) at
