-- The hash that the cache holds of an entry is its true one.
use Rattle.std.proofs.Common.{◌≡◌, ◌⊎◌, ◌≤◌, inl, inr, ℕ, Option, Some, None, IsSome, refl, ap, sym, ◌∙◌, subst, arith}
use Rattle.iris_name.specs.declared.name.FileId.{FileId}
use Rattle.iris_name.specs.declared.name.Hash32.{Hash32}
use Rattle.iris_name.specs.declared.name.Name.{Name}
use Rattle.iris_name.specs.declared.name.Name.TheVariants as name
use Rattle.iris_node.specs.declared.node.Body.{Body}
use Rattle.iris_node.specs.declared.node.Body.TheVariants.{Dir, File as FileBody}
use Rattle.iris_node.specs.declared.node.Link.{Link}
use Rattle.iris_node.specs.declared.node.Node.{Node}
use Rattle.iris_node.specs.declared.node.Node.TheVariants as node
use Rattle.iris_node.specs.Fields.{EntryFields}
use Rattle.iris_node.specs.Local.{Lead, led, led_by, local, local_of, entry_local}
use Rattle.iris_node.specs.Trees.{Shown, IsAbove, IsParent, node_name, IsRootName}
use Rattle.iris_node.specs.Unfolded.{Unfolded, Absent, Folder, Leaf, Even, Split, Stored, id_of, blocks}
use Rattle.iris_cache.specs.declared.held.Held.{Held}
use Rattle.iris_cache.specs.Laws.{AreFormed, IsFormed, IsSide}
use Rattle.iris_cache.specs.Resident.{Resident, held_node}
use Rattle.iris_cache.specs.Pictures.{Pictures, IsLike, Holds, BodyHolds, LinkHolds, WasHash}
use Rattle.iris_treepaths.specs.Rows.{IsRooted}
use Rattle.iris_treepaths.specs.Nodes.{IsLinkIn}
use Rattle.iris_treepaths.proofs.There.{got}

entry_num : Name → ℕ
entry_num (name.Entry id) = id.0
entry_num (name.Part f l i) = 0
entry_num (name.Block f p) = 0

pub num_of : (a b : FileId) → name.Entry a ≡ name.Entry b → a.0 ≡ b.0
unfolding entry_num
num_of a b h = ap entry_num h

one_name : (a b : Name) → Some a ≡ Some b → a ≡ b
one_name a b h = cc

-- what has an entry's name leads to it
named_led : (w : Unfolded) (i : FileId) → node_name w ≡ Some (name.Entry i) → (n : ℕ) × (led w ≡ Some (record { id = i.0; blocks = n }))
named_led (Folder id label less more inside) i h = let e = num_of (id_of id) i (one_name (name.Entry (id_of id)) (name.Entry i) h) in (blocks (Folder id label less more inside), λ t. Some (record { id = e t; blocks = blocks (Folder id label less more inside) }))
named_led (Leaf id label less more size counter versions) i h = let e = num_of (id_of id) i (one_name (name.Entry (id_of id)) (name.Entry i) h) in (blocks (Leaf id label less more size counter versions), λ t. Some (record { id = e t; blocks = blocks (Leaf id label less more size counter versions) }))
named_led (Split file level index low high) i h = let e : name.Part (id_of file) level index ≡ name.Entry i = one_name (name.Part (id_of file) level index) (name.Entry i) h in absurd (no_part (id_of file) level index i e)
  where
    no_part : (f : FileId) (l k : ℕ) (i : FileId) → name.Part f l k ≡ name.Entry i → ⊥
    no_part f l k i h = cc
named_led Absent i h = cc
named_led (Even version) i h = cc
named_led (Stored version bytes) i h = cc

lead_num : Option Lead → ℕ
lead_num None = 0
lead_num (Some l) = l.id

link_num : (l : Link) (i n : ℕ) → led_by (Some l) ≡ Some (record { id = i; blocks = n }) → l.id.0 ≡ i
unfolding lead_num
link_num l i n h = ap lead_num h

-- a link that leads there holds a hash of it
link_holds : (k : Option Link) (u w : Unfolded) (i : FileId) → led_by k ≡ led u → w ≡ u → node_name w ≡ Some (name.Entry i) → (x : Hash32) × LinkHolds k (name.Entry i) x
link_holds None u w i h e n =
    let r = named_led w i n in
    let q : led_by None ≡ Some (record { id = i.0; blocks = r.0 }) = h ∙ ap led (sym e) ∙ r.1 in
    cc
link_holds (Some l) u w i h e n =
    let r = named_led w i n in
    let q : l.id.0 ≡ i.0 = link_num l i.0 r.0 (h ∙ ap led (sym e) ∙ r.1) in
    (l.hash, (λ t. name.Entry (id_of (sym q t)), refl))

no_entry : (n : Name) (u w : Unfolded) (i : FileId) → IsSide n u → w ≡ u → node_name w ≡ Some (name.Entry i) → ⊥
no_entry n u w i side e h = by u side (ap node_name (sym e) ∙ h)
  where
    by : (u : Unfolded) → IsSide n u → node_name u ≡ Some (name.Entry i) → ⊥
    by (Even version) s g = cc
    by (Split file level index low high) s g = cc
    by Absent s g = s
    by (Folder id label less more inside) s g = s
    by (Leaf id label less more size counter versions) s g = s
    by (Stored version bytes) s g = s

module _ (i : FileId) (w : Unfolded) (named : node_name w ≡ Some (name.Entry i)) where
  in_entry : (u : Unfolded) (e : EntryFields) (b : Body) → IsFormed u → IsAbove u w → local u ≡ Some (entry_local e b) → (x : Hash32) × (LinkHolds e.left (name.Entry i) x ⊎ (LinkHolds e.right (name.Entry i) x ⊎ BodyHolds e.id b (name.Entry i) x))
  in_entry (Folder id label less more inside) e (Dir top) formed (inl a) like = let l : led_by e.left ≡ led less = cc in let r = link_holds e.left less w i l a named in (r.0, inl r.1)
  in_entry (Folder id label less more inside) e (Dir top) formed (inr (inl a)) like = let l : led_by e.right ≡ led more = cc in let r = link_holds e.right more w i l a named in (r.0, inr (inl r.1))
  in_entry (Folder id label less more inside) e (Dir top) formed (inr (inr a)) like = let l : led_by top ≡ led inside = cc in let r = link_holds top inside w i l a named in (r.0, inr (inr r.1))
  in_entry (Folder id label less more inside) e (FileBody s k v) formed a like = cc
  in_entry (Leaf id label less more size counter versions) e (FileBody s k v) formed (inl a) like = let l : led_by e.left ≡ led less = cc in let r = link_holds e.left less w i l a named in (r.0, inl r.1)
  in_entry (Leaf id label less more size counter versions) e (FileBody s k v) formed (inr (inl a)) like = let l : led_by e.right ≡ led more = cc in let r = link_holds e.right more w i l a named in (r.0, inr (inl r.1))
  in_entry (Leaf id label less more size counter versions) e (FileBody s k v) formed (inr (inr a)) like = absurd (no_entry _ versions w i formed.1.1 a named)
  in_entry (Leaf id label less more size counter versions) e (Dir top) formed a like = cc
  in_entry (Split file level index low high) e (Dir top) formed a like = cc
  in_entry (Split file level index low high) e (FileBody s k v) formed a like = cc
  in_entry Absent e b formed a like = absurd a
  in_entry (Even version) e b formed a like = absurd a
  in_entry (Stored version bytes) e b formed a like = absurd a

  in_part : (u : Unfolded) (p : _) → IsFormed u → IsAbove u w → local u ≡ Some (local_of (node.Part p)) → ⊥
  in_part (Folder id label less more inside) p formed a like = cc
  in_part (Leaf id label less more size counter versions) p formed a like = cc
  in_part (Split file level index low high) p formed (inl a) like = no_entry _ low w i formed.0 a named
  in_part (Split file level index low high) p formed (inr a) like = no_entry _ high w i formed.1 a named
  in_part Absent p formed a like = a
  in_part (Even version) p formed a like = a
  in_part (Stored version bytes) p formed a like = a

  -- the node above holds a hash of the entry
  holds_entry : (u : Unfolded) (k : Node) → IsFormed u → IsAbove u w → local u ≡ Some (local_of k) → (x : Hash32) × Holds k (name.Entry i) x
  holds_entry u (node.Entry e) formed a like = in_entry u e e.body formed a like
  holds_entry u (node.Part p) formed a like = absurd (in_part u p formed a like)

no_root : (i : FileId) → 2 ≤ i.0 → IsRootName (name.Entry i) → ⊥
no_root i le (inl h) = let e = num_of i (id_of 0) h in omega (arith, e, le)
no_root i le (inr h) = let e = num_of i (id_of 1) h in omega (arith, e, le)

of_link : (k : Node) (i : FileId) (o : Option Link) (x : Hash32) → IsLinkIn k i o → Holds k (name.Entry i) x → (l : Link) × (o ≡ Some l) × Holds k (name.Entry i) l.hash
of_link k i None x is holds = absurd (is x holds)
of_link k i (Some l) x is holds = (l, refl, is)

module _ (old : Shown) (c : Resident) (i : FileId) (o : Option Link) (x : Hash32) (formed : AreFormed old) (pic : Pictures old c)
    (found : (h g : Held) → (p : Name) → held_node c (name.Entry i) ≡ Some h → h.parent ≡ Some p → held_node c p ≡ Some g → IsLinkIn g.node i o) (is : (l : Link) → o ≡ Some l → l.hash ≡ x) where
  -- what was found is the hash that the resident parent holds
  found_held : (h g : Held) (p : Name) → held_node c (name.Entry i) ≡ Some h → h.parent ≡ Some p → held_node c p ≡ Some g → IsParent old p (name.Entry i) → Holds g.node (name.Entry i) x
  found_held h g p at up over par =
      let P : Option Unfolded → Type 0 = λ v. IsLike v g.node in
      let like = subst P par.live (pic.nodes p g over) in
      let some_hash = holds_entry i par.child par.named par.parent g.node (formed p par.parent par.live) par.above like in
      let l = of_link g.node i o some_hash.0 (found h g p at up over) some_hash.1 in
      subst (Holds g.node (name.Entry i)) (is l.0 l.1) l.2

-- what was found is the true hash, or the one that the resident parent holds
pub true_hash : (old : Shown) (c : Resident) (i : FileId) (o : Option Link) (x : Hash32) → 2 ≤ i.0 → IsRooted old → AreFormed old → Pictures old c → IsSome (held_node c (name.Entry i))
    → ((h g : Held) → (p : Name) → held_node c (name.Entry i) ≡ Some h → h.parent ≡ Some p → held_node c p ≡ Some g → IsLinkIn g.node i o) → ((l : Link) → o ≡ Some l → l.hash ≡ x) → WasHash old c (name.Entry i) x
true_hash old c i o x le rooted formed pic some found is = (
  (λ settled u live. elim (rooted (name.Entry i) u live tt) [
    | inl r ↦ absurd (no_root i le r)
    | inr r ↦
        let n = name.Entry i in
        let h = got (held_node c n) some in
        let up = pic.parents n r.0 h.0 h.1 r.1 in
        let g = got (held_node c r.0) up.1 in
        pic.hashes r.0 n g.0 x g.1 (found_held old c i o x formed pic found is h.0 g.0 r.0 h.1 up.0 g.1 r.1) settled u live
  ]),
  (λ h g p at up over. found_held old c i o x formed pic found is h g p at up over (pic.tied (name.Entry i) p h at up)),
)

pub same_hash : (k l : Link) → Some k ≡ Some l → k.hash ≡ l.hash
same_hash k l h = let e : k ≡ l = cc in ap (λ x. x.hash) e
