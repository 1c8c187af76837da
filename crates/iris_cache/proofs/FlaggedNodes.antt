-- What a cache keeps where nodes change and keep parents and children.
use Rattle.std.proofs.Common.{map, ◌≡◌, Bool, true, false, cond, List, Option, Some, None, refl, ap, sym, ◌∙◌, subst, arith, length}
use Rattle.std.specs.Map.{values_of}
use Rattle.std.specs.List.{count_by, list_any}
use Rattle.iris_name.specs.Names.{same_name}
use Rattle.iris_name.specs.NameLaws.{same_name-true}
use Rattle.iris_name.specs.declared.name.Name.{Name}
use Rattle.iris_node.specs.Nodes.{name_of}
use Rattle.iris_node.specs.declared.node.Node.{Node}
use Rattle.iris_cache.specs.declared.held.Held.{Held}
use Rattle.iris_cache.specs.declared.held.Edit.{Edit}
use Rattle.iris_cache.specs.declared.held.Edit.TheVariants.{Pin, Unpin, Dirty, Begin, Finish, Settled, Moved, Kid, Orphan, Adopt}
use Rattle.iris_cache.specs.Held.{with_node, is_child, points, edited_node, IsFlag}
use Rattle.iris_cache.specs.Rehash.{rehashed}
use Rattle.iris_name.specs.declared.name.Hash32.{Hash32}
use Rattle.iris_node.specs.declared.node.Node.TheVariants.{Entry, Part}
use Rattle.iris_cache.specs.Resident.{Resident, held_node, children, map_if, IsSoundCache}
use Rattle.iris_cache.proofs.Counts.{sum-all}
use Rattle.iris_cache.proofs.HeldChanges.{Once, one, map_if-none, none-back, node_in, own-mapped, is-none, before-map, kids-of, kids-mapped}

-- ---- a change that keeps the node's name, the parent and the children
module _ (c e : Resident) (f : Held → Held) (t : Name → Bool)
    (sound : IsSoundCache c) (is : (q : Name) → held_node e q ≡ map_if (t q) f (held_node c q)) (oe : Once e)
    (node : (h : Held) → name_of (f h).node ≡ name_of h.node) (kids : (h : Held) → (f h).kids ≡ h.kids) (same : (q : Name) → children e q ≡ children c q) where
  pub flagged-sound : e.room ≡ c.room → length e.nodes ≡ length c.nodes → IsSoundCache e
  flagged-sound room count = record {
    once = oe;
    own = λ q h s. own-mapped f node q (t q) (held_node c q) (held_node e q) h (is q) s (sound.own q);
    kids = λ q h s. let at = sym (is q) ∙ s in kids-mapped f kids (t q) (held_node c q) h at ∙ kids-of c q sound (held_node c q) refl (before-map (t q) f (held_node c q) h at) ∙ sym (same q);
    empty = λ q has. is q ∙ map_if-none (t q) f (held_node c q) (sound.empty q (subst (λ (r : List Name). list_any (same_name q) r ≡ true) room has));
    few = let r : length e.room ≡ length c.room = ap length room in let s = sound.few in omega (arith, r, count, s);
  }

  pub flagged-homed : ((q : Name) → held_node c q ≡ None → children c q ≡ 0) → (q : Name) → held_node e q ≡ None → children e q ≡ 0
  flagged-homed homed q none = same q ∙ homed q (none-back (t q) f (held_node c q) (held_node e q) (is q) none)

-- a flag keeps the node
pub flag-node : (x : Edit) → IsFlag x → (h : Held) → (edited_node x h).node ≡ h.node
flag-node (Pin who) i h = refl
flag-node (Unpin who) i h = refl
flag-node Dirty i h = refl
flag-node (Begin who) i h = refl
flag-node (Finish clean) i h = refl
flag-node Settled i h = refl
flag-node Moved i h = refl
flag-node Kid i h = elim i [ ]
flag-node Orphan i h = elim i [ ]
flag-node (Adopt _) i h = elim i [ ]

pub keeps-node : (x : Edit) → IsFlag x → (h : Held) → name_of (edited_node x h).node ≡ name_of h.node
keeps-node x i h = ap name_of (flag-node x i h)

pub keeps-kids : (x : Edit) → IsFlag x → (h : Held) → (edited_node x h).kids ≡ h.kids
keeps-kids (Pin who) i h = refl
keeps-kids (Unpin who) i h = refl
keeps-kids Dirty i h = refl
keeps-kids (Begin who) i h = refl
keeps-kids (Finish clean) i h = refl
keeps-kids Settled i h = refl
keeps-kids Moved i h = refl
keeps-kids Kid i h = elim i [ ]
keeps-kids Orphan i h = elim i [ ]
keeps-kids (Adopt _) i h = elim i [ ]

pub keeps-parent : (x : Edit) → IsFlag x → (h : Held) → (edited_node x h).parent ≡ h.parent
keeps-parent (Pin who) i h = refl
keeps-parent (Unpin who) i h = refl
keeps-parent Dirty i h = refl
keeps-parent (Begin who) i h = refl
keeps-parent (Finish clean) i h = refl
keeps-parent Settled i h = refl
keeps-parent Moved i h = refl
keeps-parent Kid i h = elim i [ ]
keeps-parent Orphan i h = elim i [ ]
keeps-parent (Adopt _) i h = elim i [ ]

-- ---- a change of all
pub children-all : (m : Name) (f : Held → Held) → ((h : Held) → (f h).parent ≡ h.parent) → (es : List (Name × Held)) → count_by (is_child m) (values_of (map (λ e. (e.0, f e.1)) es)) ≡ count_by (is_child m) (values_of es)
children-all m f keep es = sum-all (one m) f (λ h. ap (λ p. cond (points p m) 1 0) (keep h)) es

pub rehash-name : (n : Name) (x : Hash32) (k : Node) → name_of (rehashed n x k) ≡ name_of k
rehash-name n x (Entry e) = refl
rehash-name n x (Part p) = refl

-- ---- a change that keeps the parent and the children
module _ (c e : Resident) (f : Held → Held) (t : Name → Bool)
    (sound : IsSoundCache c) (is : (q : Name) → held_node e q ≡ map_if (t q) f (held_node c q)) (oe : Once e)
    (own : (q : Name) (h : Held) → held_node e q ≡ Some h → name_of h.node ≡ q) (kids : (h : Held) → (f h).kids ≡ h.kids) (same : (q : Name) → children e q ≡ children c q) where
  pub rewritten-sound : e.room ≡ c.room → length e.nodes ≡ length c.nodes → IsSoundCache e
  rewritten-sound room count = record {
    once = oe;
    own = own;
    kids = λ q h s. let at = sym (is q) ∙ s in kids-mapped f kids (t q) (held_node c q) h at ∙ kids-of c q sound (held_node c q) refl (before-map (t q) f (held_node c q) h at) ∙ sym (same q);
    empty = λ q has. is q ∙ map_if-none (t q) f (held_node c q) (sound.empty q (subst (λ (r : List Name). list_any (same_name q) r ≡ true) room has));
    few = let r : length e.room ≡ length c.room = ap length room in let s = sound.few in omega (arith, r, count, s);
  }

  pub rewritten-homed : ((q : Name) → held_node c q ≡ None → children c q ≡ 0) → (q : Name) → held_node e q ≡ None → children e q ≡ 0
  rewritten-homed homed q none = same q ∙ homed q (none-back (t q) f (held_node c q) (held_node e q) (is q) none)

own-renewed : (k : Node) (n q : Name) (b : Bool) (o : Option Held) (h : Held) → name_of k ≡ n → same_name n q ≡ b → map_if b (with_node k) o ≡ Some h → (o ≡ Some h → name_of h.node ≡ q) → name_of h.node ≡ q
own-renewed k n q true None h named s is own = absurd (is-none _ h refl is)
own-renewed k n q true (Some g) h named s is own = ap (node_in n) (sym is) ∙ named ∙ same_name-true n q s
own-renewed k n q false o h named s is own = own is

pub renewed-own : (c e : Resident) (k : Node) (n : Name) → IsSoundCache c → name_of k ≡ n → ((q : Name) → held_node e q ≡ map_if (same_name n q) (with_node k) (held_node c q))
    → (q : Name) (h : Held) → held_node e q ≡ Some h → name_of h.node ≡ q
renewed-own c e k n sound named is q h at = own-renewed k n q (same_name n q) (held_node c q) h named refl (sym (is q) ∙ at) (sound.own q h)
