-- The index of links, where nodes come and go, or change.
use Rattle.std.proofs.Common.{◌≡◌, ◌+◌, ◌*◌, ◌%◌, ◌^◌, ℕ, Bool, true, false, cond, List, [], Option, Some, None, refl, ap, sym, ◌∙◌, subst, arith, map, true≢false, is_some}
use Rattle.std.specs.Prelude.{unwrap_or as option_unwrap_or}
use Rattle.std.specs.Option.{option_map}
use Rattle.std.specs.Map.{lookup, values_of}
use Rattle.std.specs.List.{sum_by}
use Rattle.iris_name.specs.Names.{same_name}
use Rattle.iris_name.specs.declared.name.FileId.{FileId}
use Rattle.iris_name.specs.declared.name.Hash32.{Hash32}
use Rattle.iris_name.specs.declared.name.Name.{Name}
use Rattle.iris_node.specs.declared.node.Link.{Link}
use Rattle.iris_node.specs.declared.node.Body.{Body}
use Rattle.iris_node.specs.declared.node.Body.TheVariants.{Dir, File}
use Rattle.iris_node.specs.declared.node.Node.{Node}
use Rattle.iris_node.specs.declared.node.Node.TheVariants.{Entry, Part}
use Rattle.iris_links.specs.Links.{LinkIndex, CountsAlike, linked_count, linked_sum, IsSameSum}
use Rattle.iris_links.specs.NodeLinks.{link_count, link_inside, links_to, entry_id, sum_to}
use Rattle.iris_cache.specs.declared.held.Held.{Held}
use Rattle.iris_cache.specs.declared.held.Edit.{Edit}
use Rattle.iris_cache.specs.Held.{points, edited_node, with_node, IsFlag}
use Rattle.iris_cache.specs.Indexed.{links_in, sums_in, resident_sum, IsInRanges, IsIndexed}
use Rattle.iris_cache.specs.Rehash.{relinked, rebodied, rehashed, with_hash}
use Rattle.iris_cache.specs.Resident.{Resident, held_node, map_if}
use Rattle.iris_cache.proofs.Counts.{sum-updated, sum-same, sum-all}
use Rattle.iris_cache.proofs.FlaggedNodes.{flag-node}
use Rattle.iris_cache.proofs.HeldChanges.{Once, map-at}

cond-held : (b : Bool) (v o : Option Held) (h : Held) (P : Type 0) → cond b v o ≡ Some h → (v ≡ Some h → P) → (o ≡ Some h → P) → P
cond-held true v o h P is f g = f is
cond-held false v o h P is f g = g is

the-held : (g h : Held) → Some g ≡ Some h → g ≡ h
the-held g h e = ap (λ (o : Option Held). option_unwrap_or o g) e

same-sum : (l m c e w v : ℕ) → e + w ≡ c + v → IsSameSum (m + w) (l + v) → IsSameSum l c → IsSameSum m e
same-sum l m c e w v a b k = omega (arith, a, b, k)

-- what is held of one name becomes v, and the index follows
pub indexed-changed : (c e : Resident) (l m : LinkIndex) (n : Name) (v : Option Held) → Once c → Once e
    → ((q : Name) → held_node e q ≡ cond (same_name n q) v (held_node c q))
    → (m.partial ≡ false → l.partial ≡ false)
    → (m.partial ≡ false → (id : FileId) → linked_count m id + links_in id (held_node c n) ≡ linked_count l id + links_in id v)
    → (m.partial ≡ false → (id : FileId) → IsSameSum (linked_sum m id + sums_in id (held_node c n)) (linked_sum l id + sums_in id v))
    → ((h : Held) → v ≡ Some h → IsInRanges h.node)
    → IsIndexed c l → IsIndexed e m
indexed-changed c e l m n v oc oe is whole counts sums level indexed = record {
  ranges = λ q h at. cond-held (same_name n q) v (held_node c q) h (IsInRanges h.node) (sym (is q) ∙ at) (level h) (indexed.ranges q h);
  counts = λ sure id.
      let a = sum-updated (λ (g : Held). links_to id g.node) c.nodes e.nodes n v oc oe is in
      let b = counts sure id in
      let k = indexed.counts (whole sure) id in
      omega (arith, a, b, k);
  sums = λ sure id.
      let a = sum-updated (λ (g : Held). sum_to id g.node) c.nodes e.nodes n v oc oe is in
      same-sum (linked_sum l id) (linked_sum m id) (resident_sum c id) (resident_sum e id) (sums_in id (held_node c n)) (sums_in id v) a (sums sure id) (indexed.sums (whole sure) id);
}

-- a node comes
pub indexed-came : (c e : Resident) (l m : LinkIndex) (n : Name) (v : Held) → Once c → Once e → held_node c n ≡ None
    → ((q : Name) → held_node e q ≡ cond (same_name n q) (Some v) (held_node c q))
    → (m.partial ≡ false → l.partial ≡ false)
    → (m.partial ≡ false → (id : FileId) → linked_count m id ≡ linked_count l id + links_to id v.node)
    → (m.partial ≡ false → (id : FileId) → IsSameSum (linked_sum m id) (linked_sum l id + sum_to id v.node))
    → IsInRanges v.node → IsIndexed c l → IsIndexed e m
indexed-came c e l m n v oc oe absent is whole counts sums level indexed =
    indexed-changed c e l m n (Some v) oc oe is whole
    (λ sure id. let a : links_in id (held_node c n) ≡ 0 = ap (links_in id) absent in let b = counts sure id in omega (arith, a, b))
    (λ sure id. let a : sums_in id (held_node c n) ≡ 0 = ap (sums_in id) absent in let b = sums sure id in omega (arith, a, b))
    (λ h at. subst (λ (x : Held). IsInRanges x.node) (the-held v h at) level) indexed

-- a node goes
pub indexed-went : (c e : Resident) (l m : LinkIndex) (n : Name) (h : Held) → Once c → Once e → held_node c n ≡ Some h
    → ((q : Name) → held_node e q ≡ cond (same_name n q) None (held_node c q))
    → (m.partial ≡ false → l.partial ≡ false)
    → (m.partial ≡ false → (id : FileId) → linked_count m id + links_to id h.node ≡ linked_count l id)
    → (m.partial ≡ false → (id : FileId) → IsSameSum (linked_sum l id) (linked_sum m id + sum_to id h.node))
    → IsIndexed c l → IsIndexed e m
indexed-went c e l m n h oc oe at is whole counts sums indexed =
    indexed-changed c e l m n None oc oe is whole
    (λ sure id. let a : links_in id (held_node c n) ≡ links_to id h.node = ap (links_in id) at in let b = counts sure id in omega (arith, a, b))
    (λ sure id. let a : sums_in id (held_node c n) ≡ sum_to id h.node = ap (sums_in id) at in let b = sums sure id in omega (arith, a, b))
    (λ g none. absurd (true≢false (ap (λ (o : Option Held). is_some o) (sym none)))) indexed

-- a change that keeps links and ids
pub record KeepsLinks (f : Held → Held) : Type 0 where
  pub links : (id : FileId) (h : Held) → links_to id (f h).node ≡ links_to id h.node
  pub own : (h : Held) → entry_id (f h).node ≡ entry_id h.node
  pub level : (h : Held) → IsInRanges h.node → IsInRanges (f h).node

pub node-kept : (f : Held → Held) → ((h : Held) → (f h).node ≡ h.node) → KeepsLinks f
node-kept f same = record { links = λ id h. ap (links_to id) (same h); own = λ h. ap entry_id (same h); level = λ h k. subst IsInRanges (sym (same h)) k }

pub flag-kept : (x : Edit) → IsFlag x → KeepsLinks (edited_node x)
flag-kept x i = node-kept (edited_node x) (flag-node x i)

link-again : (n : Name) (x : Hash32) (l : Option Link) (id : FileId) → link_count (relinked n x l) id ≡ link_count l id
link-again n x None id = refl
link-again n x (Some l) id = refl

inside-again : (n : Name) (x : Hash32) (own : FileId) (b : Body) (id : FileId) → link_count (link_inside (rebodied n x own b)) id ≡ link_count (link_inside b) id
inside-again n x own (Dir top) id = link-again n x top id
inside-again n x own (File size counter versions) id = refl

links-again : (n : Name) (x : Hash32) (k : Node) (id : FileId) → links_to id (rehashed n x k) ≡ links_to id k
links-again n x (Entry e) id =
    let a = link-again n x e.left id in
    let b = link-again n x e.right id in
    let d = inside-again n x e.id e.body id in
    λ i. a i + b i + d i
links-again n x (Part p) id = refl

own-again : (n : Name) (x : Hash32) (k : Node) → entry_id (rehashed n x k) ≡ entry_id k
own-again n x (Entry e) = refl
own-again n x (Part p) = refl

level-again : (n : Name) (x : Hash32) (k : Node) → IsInRanges k → IsInRanges (rehashed n x k)
level-again n x (Entry e) h = h
level-again n x (Part p) h = h

-- a hash that is put into a node is no link
pub hash-kept : (n : Name) (x : Hash32) → KeepsLinks (with_hash n x)
hash-kept n x = record { links = λ id h. links-again n x h.node id; own = λ h. own-again n x h.node; level = λ h k. level-again n x h.node k }

links-mapped : (f : Held → Held) → KeepsLinks f → (id : FileId) (o : Option Held) → links_in id (option_map f o) ≡ links_in id o
links-mapped f keeps id None = refl
links-mapped f keeps id (Some h) = keeps.links id h

sums-mapped : (f : Held → Held) → KeepsLinks f → (id : FileId) (o : Option Held) → sums_in id (option_map f o) ≡ sums_in id o
sums-mapped f keeps id None = refl
sums-mapped f keeps id (Some h) = let a = keeps.links id h in let b = keeps.own h in λ i. a i * b i

level-mapped : (f : Held → Held) → KeepsLinks f → (o : Option Held) (h : Held) → option_map f o ≡ Some h → ((g : Held) → o ≡ Some g → IsInRanges g.node) → IsInRanges h.node
level-mapped f keeps None h is was = absurd (true≢false (ap (λ (x : Option Held). is_some x) (sym is)))
level-mapped f keeps (Some g) h is was = subst (λ (x : Held). IsInRanges x.node) (the-held (f g) h is) (keeps.level g (was g refl))

-- one node changes and keeps its links
pub indexed-mapped : (c e : Resident) (l : LinkIndex) (n : Name) (f : Held → Held) → KeepsLinks f → Once c → Once e
    → ((q : Name) → held_node e q ≡ map_if (same_name n q) f (held_node c q)) → IsIndexed c l → IsIndexed e l
indexed-mapped c e l n f keeps oc oe is indexed =
    indexed-changed c e l l n (option_map f (held_node c n)) oc oe (λ q. is q ∙ map-at (held_node c) f n q (same_name n q) refl) (λ sure. sure)
    (λ sure id. let a = links-mapped f keeps id (held_node c n) in omega (arith, a))
    (λ sure id. ap (λ k. (linked_sum l id + k) % 2 ^ 64) (sym (sums-mapped f keeps id (held_node c n))))
    (λ h at. level-mapped f keeps (held_node c n) h at (indexed.ranges n)) indexed

-- so does a parent, where there is one
pub indexed-parent : (c e : Resident) (l : LinkIndex) (parent : Option Name) (f : Held → Held) → KeepsLinks f → Once c → Once e
    → ((q : Name) → held_node e q ≡ map_if (points parent q) f (held_node c q)) → IsIndexed c l → IsIndexed e l
indexed-parent c e l None f keeps oc oe is indexed = record {
  ranges = λ q h at. indexed.ranges q h (sym (is q) ∙ at);
  counts = λ sure id. indexed.counts sure id ∙ sym (sum-same (λ (g : Held). links_to id g.node) c.nodes e.nodes oc oe (λ q. sym (is q)));
  sums = λ sure id. indexed.sums sure id ∙ sym (ap (λ k. k % 2 ^ 64) (sum-same (λ (g : Held). sum_to id g.node) c.nodes e.nodes oc oe (λ q. sym (is q))));
}
indexed-parent c e l (Some p) f keeps oc oe is indexed = indexed-mapped c e l p f keeps oc oe is indexed

-- all nodes change and keep their links
pub indexed-all : (c e : Resident) (l : LinkIndex) (f : Held → Held) → KeepsLinks f → e.nodes ≡ map (λ g. (g.0, f g.1)) c.nodes
    → ((q : Name) → held_node e q ≡ option_map f (held_node c q)) → IsIndexed c l → IsIndexed e l
indexed-all c e l f keeps all is indexed = record {
  ranges = λ q h at. level-mapped f keeps (held_node c q) h (sym (is q) ∙ at) (indexed.ranges q);
  counts = λ sure id.
      let w : Held → ℕ = λ g. links_to id g.node in
      indexed.counts sure id ∙ sym (ap (λ es. sum_by w (values_of es)) all ∙ sum-all w f (keeps.links id) c.nodes);
  sums = λ sure id.
      let w : Held → ℕ = λ g. sum_to id g.node in
      indexed.sums sure id ∙ sym (ap (λ es. sum_by w (values_of es) % 2 ^ 64) all ∙ ap (λ k. k % 2 ^ 64) (sum-all w f (λ h. sums-mapped f keeps id (Some h)) c.nodes));
}

alike : (l m : LinkIndex) → CountsAlike l m → record l { room = m.room } ≡ m
alike l m same = λ i. record { linked = sym same.0 i; partial = sym same.1 i; room = m.room }

-- all nodes stay, and so does what is counted
pub indexed-again : (c e : Resident) (l m : LinkIndex) → e.nodes ≡ c.nodes → CountsAlike l m → IsIndexed c l → IsIndexed e m
indexed-again c e l m nodes same indexed = subst (IsIndexed e) (alike l m same) (record {
  ranges = λ q h at. indexed.ranges q h (sym (ap (λ (es : List (Name × Held)). lookup (same_name q) es) nodes) ∙ at);
  counts = λ sure id. indexed.counts sure id ∙ sym (ap (λ (es : List (Name × Held)). sum_by (λ (g : Held). links_to id g.node) (values_of es)) nodes);
  sums = λ sure id. indexed.sums sure id ∙ sym (ap (λ (es : List (Name × Held)). sum_by (λ (g : Held). sum_to id g.node) (values_of es) % 2 ^ 64) nodes);
})

level-renewed : (k : Node) (o : Option Held) (h : Held) → option_map (with_node k) o ≡ Some h → IsInRanges k → IsInRanges h.node
level-renewed k None h is has = absurd (true≢false (ap (λ (x : Option Held). is_some x) (sym is)))
level-renewed k (Some g) h is has = subst (λ (x : Held). IsInRanges x.node) (the-held (with_node k g) h is) has

-- a name gets another node, where it is resident
pub indexed-renewed : (c e : Resident) (l m : LinkIndex) (n : Name) (k : Node) → Once c → Once e
    → ((q : Name) → held_node e q ≡ map_if (same_name n q) (with_node k) (held_node c q))
    → (m.partial ≡ false → l.partial ≡ false)
    → (m.partial ≡ false → (id : FileId) → linked_count m id + links_in id (held_node c n) ≡ linked_count l id + links_in id (option_map (with_node k) (held_node c n)))
    → (m.partial ≡ false → (id : FileId) → IsSameSum (linked_sum m id + sums_in id (held_node c n)) (linked_sum l id + sums_in id (option_map (with_node k) (held_node c n))))
    → IsInRanges k → IsIndexed c l → IsIndexed e m
indexed-renewed c e l m n k oc oe is whole counts sums has indexed =
    indexed-changed c e l m n (option_map (with_node k) (held_node c n)) oc oe (λ q. is q ∙ map-at (held_node c) (with_node k) n q (same_name n q) refl)
    whole counts sums (λ h at. level-renewed k (held_node c n) h at has) indexed

-- nothing is resident, and nothing is counted
pub indexed-none : (c : Resident) (l : LinkIndex) → c.nodes ≡ [] → ((id : FileId) → linked_count l id ≡ 0) → ((id : FileId) → linked_sum l id ≡ 0) → IsIndexed c l
indexed-none c l none count sum = record {
  ranges = λ q h at. absurd (true≢false (ap (λ (o : Option Held). is_some o) (sym at ∙ ap (λ (es : List (Name × Held)). lookup (same_name q) es) none)));
  counts = λ sure id. count id ∙ sym (ap (λ (es : List (Name × Held)). sum_by (λ (g : Held). links_to id g.node) (values_of es)) none);
  sums = λ sure id. ap (λ k. k % 2 ^ 64) (sum id) ∙ sym (ap (λ (es : List (Name × Held)). sum_by (λ (g : Held). sum_to id g.node) (values_of es) % 2 ^ 64) none);
}
