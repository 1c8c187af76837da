-- What a plan lacks is live, and its parent is resident: whether a subtree is detached or none.
use Rattle.std.proofs.Common.{◌≡◌, inl, inr, ◌⊎◌, true, false, Option, Some, None, IsSome, refl, ap, sym, ◌∙◌, subst}
use Rattle.iris_name.specs.declared.name.Hash32.{Hash32}
use Rattle.iris_name.specs.declared.name.Name.{Name}
use Rattle.iris_name.specs.declared.name.Name.TheVariants as name
use Rattle.iris_name.specs.declared.note.Expect.{Expect}
use Rattle.iris_name.specs.declared.note.Expect.TheVariants.{Hash}
use Rattle.iris_node.specs.declared.node.Node.{Node}
use Rattle.iris_node.specs.Unfolded.{Unfolded, Absent, Folder, Leaf, Even, Split, Stored, id_of}
use Rattle.iris_cache.specs.declared.held.Held.{Held}
use Rattle.iris_cache.specs.declared.draft.Change.{Change}
use Rattle.iris_cache.specs.Drafted.{Drafted, drafted, seen, known, known_by, there_by}
use Rattle.iris_cache.specs.Laws.{ChildWasLive}
use Rattle.iris_cache.specs.Needs.{IsExpected, IsWanted}
use Rattle.iris_cache.specs.Resident.{Resident, held_node}
use Rattle.iris_node.specs.Trees.{Shown, IsTree, IsParent, IsAbove, IsNodeName, node_name, IsRootName}
use Rattle.iris_cache.specs.Pictures.{Detached, DraftsBeside, Pictures, IsLike, IsSettled, IsHashOf, WasHash, Holds, parent_after}

unknown_by : (o : Option Change) (w : Option Held) → known_by o w ≡ None → (o ≡ None) × (w ≡ None)
unknown_by None None h = (refl, refl)
unknown_by None (Some w) h = cc
unknown_by (Some x) w h = cc

pub unknown : (d : Drafted) (c : Resident) (n : Name) → known d c n ≡ None → (drafted d n ≡ None) × (held_node c n ≡ None)
unknown d c n h = unknown_by (drafted d n) (held_node c n) h

own_name : (p : Name) (u w : Unfolded) → IsAbove u w → ((m : Name) → node_name u ≡ Some m → m ≡ p) → IsNodeName p
own_name p (Folder id label less more inside) w a own = subst IsNodeName (own (name.Entry (id_of id)) refl) tt
own_name p (Leaf id label less more size counter kept) w a own = subst IsNodeName (own (name.Entry (id_of id)) refl) tt
own_name p (Split f l i x y) w a own = subst IsNodeName (own (name.Part (id_of f) l i) refl) tt
own_name p Absent w a own = absurd a
own_name p (Even v) w a own = absurd a
own_name p (Stored v bytes) w a own = absurd a

-- a parent has the name of an entry or a part
pub parent_named : (t : Shown) (p n : Name) → IsTree t → IsParent t p n → IsNodeName p
parent_named t p n tree is = own_name p is.parent is.child is.above (λ m e. tree.own p m is.parent is.live e)

pub named : (u : Unfolded) (n : Name) → node_name u ≡ Some n → IsNodeName n
named (Folder id label less more inside) n e = let h : name.Entry (id_of id) ≡ n = cc in subst IsNodeName h tt
named (Leaf id label less more size counter kept) n e = let h : name.Entry (id_of id) ≡ n = cc in subst IsNodeName h tt
named (Split f l i x y) n e = let h : name.Part (id_of f) l i ≡ n = cc in subst IsNodeName h tt
named Absent n e = cc
named (Even v) n e = cc
named (Stored v bytes) n e = cc

-- so has a child
pub child_named : (t : Shown) (p n : Name) → IsParent t p n → IsNodeName n
child_named t p n is = named is.child n is.named

pub not_live : (t : Shown) (p n : Name) → t p ≡ None → IsParent t p n → ⊥
not_live t p n e is = let h = is.live in cc

pub not_known : (d : Drafted) (c : Resident) (p : Name) → known d c p ≡ None → IsSome (seen d c p) → ⊥
not_known d c p e h = let s : seen d c p ≡ None = ap there_by e in let P : Option Node → Type 0 = λ o. IsSome o in absurd (no_some (subst P s h))
  where
    no_some : IsSome {T = Node} None → ⊥
    no_some h = cc

there : (o : Option Node) (x : Node) → o ≡ Some x → IsSome o
there o x e = let P : Option Node → Type 0 = λ o. IsSome o in subst P (sym e) refl

live : (o : Option Unfolded) (x : Unfolded) → o ≡ Some x → IsSome o
live o x e = let P : Option Unfolded → Type 0 = λ o. IsSome o in subst P (sym e) refl

pub expected_by : (o : Option Unfolded) (h : Hash32) → IsSome o → IsHashOf o h → IsExpected (Hash h) o
expected_by None h live is = absurd (let e : false ≡ true = live in cc)
expected_by (Some u) h live is = is u refl

-- what plans see of two trees that are pictured, whatever is detached
pub record Sees (old new : Shown) (d : Drafted) (c : Resident) : Type 0 where
  pub was : IsTree old
  pub is : IsTree new
  pub before : Pictures old c
  pub nodes : (n : Name) (node : Node) → seen d c n ≡ Some node → IsLike (new n) node
  pub hashes : (n m : Name) (node : Node) (x : Hash32) → seen d c n ≡ Some node → Holds node m x → WasHash old c m x
  pub parents : (n p : Name) (node : Node) → seen d c n ≡ Some node → IsParent new p n → (parent_after d c n ≡ Some p) × IsSome (seen d c p)
  pub gone : (n : Name) → IsNodeName n → known d c n ≡ Some None → new n ≡ None
  pub away : (n : Name) → IsNodeName n → known d c n ≡ None → new n ≡ old n
  pub resident : (n : Name) (change : Change) → drafted d n ≡ Some change → IsSome (held_node c n) ⊎ (old n ≡ None)

pub sees_beside : (old new : Shown) (detached : Option Detached) (d : Drafted) (c : Resident) → IsTree old → IsTree new → DraftsBeside old new detached d c → Sees old new d c
sees_beside old new detached d c was is p =
    record { was = was; is = is; before = p.before; nodes = p.nodes; hashes = p.hashes; parents = p.parents; gone = p.gone; away = p.away; resident = p.resident }

module _ (old new : Shown) (d : Drafted) (c : Resident) (see : Sees old new d c) where
  parent_by : (n q p : Name) (o : Option Change) (w : Option Held) → IsParent new q n → IsSome (seen d c q) → IsParent old p n → drafted d p ≡ o → held_node c p ≡ w → IsSome w
  parent_by n q p o (Some h) parent there before de he = refl
  parent_by n q p (Some x) None parent there before de he =
      elim (see.resident p x de) [
        | inl r ↦ (let P : Option Held → Type 0 = λ o. IsSome o in subst P he r)
        | inr r ↦ absurd (not_live old p n r before)
      ]
  parent_by n q p None None parent there before de he =
      let k : known d c p ≡ None = ap (λ o. known_by o (held_node c p)) de ∙ ap (known_by None) he in
      let same = see.away p (parent_named old p n see.was before) k in
      let after : IsParent new p n = record { parent = before.parent; child = before.child; live = same ∙ before.live; above = before.above; named = before.named } in
      let e : p ≡ q = see.is.once n p q after parent in
      absurd (not_known d c p k (let P : Name → Type 0 = λ x. IsSome (seen d c x) in subst P (sym e) there))

  -- where a name is missing whose parent is seen, its parent before is resident
  pub parent_resident : (n q p : Name) → IsParent new q n → IsSome (seen d c q) → IsParent old p n → IsSome (held_node c p)
  parent_resident n q p parent there before = parent_by n q p (drafted d p) (held_node c p) parent there before refl refl

  module _ (p n : Name) (node : Node) (x : Hash32) (sees : seen d c p ≡ Some node) (holds : Holds node n x) (parent : IsParent new p n) (missing : known d c n ≡ None) where
    now : new n ≡ Some parent.child
    now = see.is.below p n parent.parent parent.child parent.live parent.above parent.named

    lived : IsSome (old n)
    lived = live (old n) parent.child (sym (see.away n (child_named new p n parent) missing) ∙ now)

    was_so : IsHashOf (old n) x
    was_so = (see.hashes p n node x sees holds).0 (subst IsSettled (sym (unknown d c n missing).1) tt)

    over : (q : Name) → IsParent old q n → IsSome (held_node c q)
    over q before = parent_resident n p q parent (there (seen d c p) node sees) before

    pub child_lived : IsSome (old n) × (IsHashOf (old n) x × ((q : Name) → IsParent old q n → IsSome (held_node c q)))
    child_lived = (lived, (was_so, over))

    -- a missing child of a node that is seen is wanted, with the hash that the node holds of it
    pub wanted : IsWanted old new c n (Hash x)
    wanted = record { live = live (new n) parent.child now; lived = lived; expected = inr (expected_by (old n) x lived was_so); parent = inr over }

  -- the missing entry of a root is wanted with any hash
  pub root_wanted : (n : Name) (u : Unfolded) (x : Expect) → IsRootName n → IsNodeName n → new n ≡ Some u → known d c n ≡ None → IsWanted old new c n x
  root_wanted n u x root named now missing =
      record {
        live = live (new n) u now;
        lived = live (old n) u (sym (see.away n named missing) ∙ now);
        expected = inl root;
        parent = inl root;
      }

pub child_was_live : ChildWasLive
child_was_live old new detached d c n m node x pic was is sees holds parent missing = child_lived old new d c (sees_beside old new detached d c was is pic) n m node x sees holds parent missing
