-- A cache goes on picturing a table where a node is settled with its true hash.
use Rattle.std.proofs.Common.{◌≡◌, ◌⊎◌, inl, inr, Bool, true, false, if◌then◌else◌, Option, Some, None, IsSome, refl, ap, sym, ◌∙◌, subst, true≢false, is_some}
use Rattle.std.specs.Prelude.{unwrap_or as option_unwrap_or}
use Rattle.iris_name.specs.Names.{same_name}
use Rattle.iris_name.specs.NameLaws.{same_name_equiv, same_name-true}
use Rattle.iris_name.specs.declared.name.FileId.{FileId}
use Rattle.iris_name.specs.declared.name.Hash32.{Hash32}
use Rattle.iris_name.specs.declared.name.Name.{Name}
use Rattle.iris_name.specs.declared.name.Name.TheVariants as name
use Rattle.iris_node.specs.declared.node.Side.{Side}
use Rattle.iris_node.specs.declared.node.Side.TheVariants.{Fold, Below}
use Rattle.iris_node.specs.declared.node.Link.{Link}
use Rattle.iris_node.specs.declared.node.Body.{Body}
use Rattle.iris_node.specs.declared.node.Body.TheVariants.{Dir, File}
use Rattle.iris_node.specs.declared.node.Node.{Node}
use Rattle.iris_node.specs.declared.node.Node.TheVariants.{Entry, Part}
use Rattle.iris_node.specs.Fields.{EntryFields}
use Rattle.iris_node.specs.Unfolded.{Unfolded}
use Rattle.iris_node.specs.Local.{FolderAt, LeafAt, SplitAt, local_of, led_by, even_by, entry_local}
use Rattle.iris_cache.specs.declared.held.Held.{Held}
use Rattle.iris_cache.specs.Held.{points, settled_so}
use Rattle.iris_cache.specs.Rehash.{relinked, resided, rebodied, reentered, rehashed, with_hash, top_part, low_part, high_part}
use Rattle.iris_cache.specs.Resident.{Resident, held_node, map_if, resident_parent, parent_in}
use Rattle.iris_cache.specs.Laws.{SetHashKeeps, AreFormed}
use Rattle.iris_node.specs.Trees.{Shown, IsParent}
use Rattle.iris_cache.specs.Pictures.{Pictures, IsSettled, IsHashOf, IsLike, Holds, LinkHolds, SideHolds, BodyHolds}
use Rattle.iris_cache.proofs.Children.{held-child}

-- what one holds after is of n and is x, or one held it before and it isn't of n
abbrev Put : Name → Hash32 → (Name → Hash32 → Type 0) → Name → Hash32 → Type 0
Put n x Was m y = ((m ≡ n) × (y ≡ x) × ((z : Hash32) × Was m z)) ⊎ (Was m y × (same_name m n ≡ false))

put-in : (n : Name) (x : Hash32) (Was More : Name → Hash32 → Type 0) → ((m : Name) (y : Hash32) → Was m y → More m y) → (m : Name) (y : Hash32) → Put n x Was m y → Put n x More m y
put-in n x Was More f m y (inl p) = inl (p.0, p.1, (p.2.0, f m p.2.0 p.2.1))
put-in n x Was More f m y (inr p) = inr (f m y p.0, p.1)

one-put : (a n : Name) (x h : Hash32) (b : Bool) (m : Name) (y : Hash32) → same_name a n ≡ b → m ≡ a → y ≡ (if b then x else h) → Put n x (λ k z. (k ≡ a) × (z ≡ h)) m y
one-put a n x h true m y s e f = inl (e ∙ same_name-true a n s, f, (h, (e, refl)))
one-put a n x h false m y s e f = inr ((e, f), ap (λ k. same_name k n) e ∙ s)

link-puts : (n : Name) (x : Hash32) (l : Option Link) (m : Name) (y : Hash32) → LinkHolds (relinked n x l) m y → Put n x (LinkHolds l) m y
link-puts n x None m y c = absurd c
link-puts n x (Some l) m y c = one-put (name.Entry l.id) n x l.hash (same_name (name.Entry l.id) n) m y refl c.0 c.1

side-puts : (a n : Name) (x : Hash32) (s : Side) (m : Name) (y : Hash32) → SideHolds a (resided (same_name a n) x s) m y → Put n x (SideHolds a s) m y
side-puts a n x (Fold v) m y c = absurd c
side-puts a n x (Below h) m y c = one-put a n x h (same_name a n) m y refl c.0 c.1

body-puts : (n : Name) (x : Hash32) (id : FileId) (b : Body) (m : Name) (y : Hash32) → BodyHolds id (rebodied n x id b) m y → Put n x (BodyHolds id b) m y
body-puts n x id (Dir top) m y c = link-puts n x top m y c
body-puts n x id (File size counter versions) m y c = side-puts (top_part id) n x versions m y c

node-puts : (n : Name) (x : Hash32) (k : Node) (m : Name) (y : Hash32) → Holds (rehashed n x k) m y → Put n x (Holds k) m y
node-puts n x (Entry e) m y (inl c) = put-in n x (LinkHolds e.left) (Holds (Entry e)) (λ k z h. inl h) m y (link-puts n x e.left m y c)
node-puts n x (Entry e) m y (inr (inl c)) = put-in n x (LinkHolds e.right) (Holds (Entry e)) (λ k z h. inr (inl h)) m y (link-puts n x e.right m y c)
node-puts n x (Entry e) m y (inr (inr c)) = put-in n x (BodyHolds e.id e.body) (Holds (Entry e)) (λ k z h. inr (inr h)) m y (body-puts n x e.id e.body m y c)
node-puts n x (Part p) m y (inl c) = put-in n x (SideHolds (low_part p) p.low) (Holds (Part p)) (λ k z h. inl h) m y (side-puts (low_part p) n x p.low m y c)
node-puts n x (Part p) m y (inr c) = put-in n x (SideHolds (high_part p) p.high) (Holds (Part p)) (λ k z h. inr h) m y (side-puts (high_part p) n x p.high m y c)

led-same : (n : Name) (x : Hash32) (l : Option Link) → led_by (relinked n x l) ≡ led_by l
led-same n x None = refl
led-same n x (Some l) = refl

even-same : (b : Bool) (x : Hash32) (s : Side) → even_by (resided b x s) ≡ even_by s
even-same b x (Fold v) = refl
even-same b x (Below h) = refl

entry-same : (n : Name) (x : Hash32) (e : EntryFields) (b : Body) → entry_local (reentered n x e) (rebodied n x e.id b) ≡ entry_local e b
entry-same n x e (Dir top) = λ i. FolderAt e.id.0 e.name (led-same n x e.left i) (led-same n x e.right i) (led-same n x top i)
entry-same n x e (File size counter versions) = λ i. LeafAt e.id.0 e.name (led-same n x e.left i) (led-same n x e.right i) size counter (even-same (same_name (top_part e.id) n) x versions i)

-- a hash set in a node changes nothing that the node says by itself
pub local-same : (n : Name) (x : Hash32) (k : Node) → local_of (rehashed n x k) ≡ local_of k
local-same n x (Entry e) = entry-same n x e e.body
local-same n x (Part p) = λ i. SplitAt p.file.0 p.level p.index (even-same (same_name (low_part p) n) x p.low i) (even-same (same_name (high_part p) n) x p.high i)

record Was (n : Name) (x : Hash32) (b t : Bool) (o : Option Held) (h : Held) : Type 0 where
  was : Held
  at : o ≡ Some was
  parent : h.parent ≡ was.parent
  node : ((b ≡ false) × (h.node ≡ was.node)) ⊎ (h.node ≡ rehashed n x was.node)
  settled : ((t ≡ true) × (h.settled ≡ true)) ⊎ ((t ≡ false) × (h.settled ≡ was.settled))

was-in : (n : Name) (x : Hash32) (b t : Bool) (g h : Held) → map_if b (with_hash n x) (map_if t settled_so (Some g)) ≡ Some h → Was n x b t (Some g) h
was-in n x true true g h is = let e = ap (λ (y : Option Held). option_unwrap_or y g) is in
    record { was = g; at = refl; parent = ap (λ (y : Held). y.parent) (sym e); node = inr (ap (λ (y : Held). y.node) (sym e)); settled = inl (refl, ap (λ (y : Held). y.settled) (sym e)) }
was-in n x true false g h is = let e = ap (λ (y : Option Held). option_unwrap_or y g) is in
    record { was = g; at = refl; parent = ap (λ (y : Held). y.parent) (sym e); node = inr (ap (λ (y : Held). y.node) (sym e)); settled = inr (refl, ap (λ (y : Held). y.settled) (sym e)) }
was-in n x false true g h is = let e = ap (λ (y : Option Held). option_unwrap_or y g) is in
    record { was = g; at = refl; parent = ap (λ (y : Held). y.parent) (sym e); node = inl (refl, ap (λ (y : Held). y.node) (sym e)); settled = inl (refl, ap (λ (y : Held). y.settled) (sym e)) }
was-in n x false false g h is = let e = ap (λ (y : Option Held). option_unwrap_or y g) is in
    record { was = g; at = refl; parent = ap (λ (y : Held). y.parent) (sym e); node = inl (refl, ap (λ (y : Held). y.node) (sym e)); settled = inr (refl, ap (λ (y : Held). y.settled) (sym e)) }

none-still : (n : Name) (x : Hash32) (b t : Bool) → map_if b (with_hash n x) (map_if t settled_so None) ≡ None
none-still n x true true = refl
none-still n x true false = refl
none-still n x false true = refl
none-still n x false false = refl

was-of : (n : Name) (x : Hash32) (b t : Bool) (o : Option Held) (h : Held) → map_if b (with_hash n x) (map_if t settled_so o) ≡ Some h → Was n x b t o h
was-of n x b t None h is = absurd (true≢false (ap (λ (y : Option Held). is_some y) (sym is ∙ none-still n x b t)))
was-of n x b t (Some g) h is = was-in n x b t g h is

still-there : (n : Name) (x : Hash32) (b t : Bool) (o : Option Held) → IsSome o → IsSome (map_if b (with_hash n x) (map_if t settled_so o))
still-there n x b t None s = absurd (true≢false (sym s))
still-there n x true true (Some g) s = refl
still-there n x true false (Some g) s = refl
still-there n x false true (Some g) s = refl
still-there n x false false (Some g) s = refl

known-same : (n : Name) (x : Hash32) (b t : Bool) (o : Option Held) → t ≡ false → IsSettled (map_if b (with_hash n x) (map_if t settled_so o)) → IsSettled o
known-same n x b true o e k = absurd (true≢false e)
known-same n x true false None e k = tt
known-same n x false false None e k = tt
known-same n x true false (Some g) e k = k
known-same n x false false (Some g) e k = k

module _ (shown : Shown) (c e : Resident) (n : Name) (x : Hash32) (pictures : Pictures shown c) (formed : AreFormed shown) (is-true : IsHashOf (shown n) x)
    (ready : (q : Name) (h : Held) → held_node c q ≡ Some h → h.parent ≡ Some n → h.settled ≡ true)
    (is : (q : Name) → held_node e q ≡ map_if (points (resident_parent c n) q) (with_hash n x) (map_if (same_name n q) settled_so (held_node c q))) where
  before : (q : Name) (h : Held) → held_node e q ≡ Some h → Was n x (points (resident_parent c n) q) (same_name n q) (held_node c q) h
  before q h s = was-of n x (points (resident_parent c n) q) (same_name n q) (held_node c q) h (sym (is q) ∙ s)

  nodes-at : (q : Name) (h : Held) → held_node e q ≡ Some h → IsLike (shown q) h.node
  nodes-at q h s = let b = before q h s in let old = pictures.nodes q b.was b.at in
      elim b.node [
        | inl r ↦ subst (IsLike (shown q)) (sym r.1) old
        | inr r ↦ subst (IsLike (shown q)) (sym r) (same-like (shown q) b.was.node old)
      ]
    where
      same-like : (o : Option Unfolded) (k : Node) → IsLike o k → IsLike o (rehashed n x k)
      same-like None k l = l
      same-like (Some u) k l = l ∙ ap Some (sym (local-same n x k))

  known-at : (m : Name) → same_name n m ≡ false → IsSettled (held_node e m) → IsSettled (held_node c m)
  known-at m apart k = known-same n x (points (resident_parent c n) m) (same_name n m) (held_node c m) apart (subst IsSettled (is m) k)

  -- a node that names n is its parent
  names-n : (q : Name) (g : Held) (y : Hash32) (hn : Held) → held_node c q ≡ Some g → Holds g.node n y → held_node c n ≡ Some hn → points (resident_parent c n) q ≡ true
  names-n q g y hn at holds here =
      let r = pictures.parents n q hn here (held-child shown q n g.node y formed (pictures.nodes q g at) holds) in
      ap (λ o. points (parent_in o) q) here ∙ ap (λ p. points p q) r.0 ∙ same_name_equiv.refl q

  -- what is named by a node that isn't told of it
  untold : (q m : Name) (g : Held) (y : Hash32) (t : Bool) (o : Option Held) → same_name n m ≡ t → held_node c n ≡ o → held_node c q ≡ Some g → points (resident_parent c n) q ≡ false → Holds g.node m y → IsSettled (held_node e m) → IsHashOf (shown m) y
  untold q m g y false o apart on at far holds k = pictures.hashes q m g y at holds (known-at m apart k)
  untold q m g y true None same on at far holds k =
      let eq = same_name-true n m same in pictures.hashes q m g y at holds (subst IsSettled (sym (ap (held_node c) (sym eq) ∙ on)) tt)
  untold q m g y true (Some hn) same on at far holds k =
      let eq = same_name-true n m same in
      absurd (true≢false (sym (names-n q g y hn at (subst (λ (p : Name). Holds g.node p y) (sym eq) holds) on) ∙ far))

  hashes-at : (q m : Name) (h : Held) (y : Hash32) → held_node e q ≡ Some h → Holds h.node m y → IsSettled (held_node e m) → IsHashOf (shown m) y
  hashes-at q m h y s holds k = let b = before q h s in
      elim b.node [
        | inl r ↦ untold q m b.was y (same_name n m) (held_node c n) refl refl b.at r.0 (subst (λ v. Holds v m y) r.1 holds) k
        | inr r ↦ elim (node-puts n x b.was.node m y (subst (λ v. Holds v m y) r holds)) [
          | inl p ↦ subst (λ (z : Hash32). IsHashOf (shown m) z) (sym p.1) (subst (λ (k : Name). IsHashOf (shown k) x) (sym p.0) is-true)
          | inr o ↦ pictures.hashes q m b.was y b.at o.0 (known-at m (same_name_equiv.symm n m ∙ o.1) k)
        ]
      ]

  parents-at : (q p : Name) (h : Held) → held_node e q ≡ Some h → IsParent shown p q → (h.parent ≡ Some p) × IsSome (held_node e p)
  parents-at q p h s f = let b = before q h s in let r = pictures.parents q p b.was b.at f in
      (b.parent ∙ r.0, subst IsSome (sym (is p)) (still-there n x (points (resident_parent c n) p) (same_name n p) (held_node c p) r.1))

  tied-at : (q p : Name) (h : Held) → held_node e q ≡ Some h → h.parent ≡ Some p → IsParent shown p q
  tied-at q p h s of = let b = before q h s in pictures.tied q p b.was b.at (sym b.parent ∙ of)

  rising-at : (q p : Name) (h g : Held) → held_node e q ≡ Some h → h.parent ≡ Some p → held_node e p ≡ Some g → g.settled ≡ true → h.settled ≡ true
  rising-at q p h g s of at-p settled = let b = before q h s in let d = before p g at-p in
      elim b.settled [
        | inl r ↦ r.1
        | inr r ↦ r.1 ∙ elim d.settled [
          | inl z ↦ ready q b.was b.at (sym b.parent ∙ of ∙ ap Some (sym (same_name-true n p z.0)))
          | inr z ↦ pictures.rising q p b.was d.was b.at (sym b.parent ∙ of) d.at (sym z.1 ∙ settled)
        ]
      ]

  settled-keeps : Pictures shown e
  settled-keeps = record { nodes = nodes-at; hashes = hashes-at; parents = parents-at; tied = tied-at; rising = rising-at }

pub set-hash-keeps : SetHashKeeps
set-hash-keeps t c e n x pictures formed is-true ready is = settled-keeps t c e n x pictures formed is-true ready is
