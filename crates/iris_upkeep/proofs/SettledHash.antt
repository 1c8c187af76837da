-- The hash of a node's record as it settles: what is told to its parent leaves the node itself, unless it holds a hash of itself.
use Rattle.std.proofs.Common.{◌≡◌, Bool, true, false, cond, Option, Some, None, inl, inr, refl, ap, sym, ◌∙◌, subst}
use Rattle.std.specs.Prelude.{IsSomeAnd, unwrap_or as option_unwrap_or}
use Rattle.std.specs.Option.{option_map}
use Rattle.iris_name.specs.Names.{same_name}
use Rattle.iris_name.specs.NameLaws.{same_name-true}
use Rattle.iris_name.specs.declared.name.FileId.{FileId}
use Rattle.iris_name.specs.declared.name.Hash32.{Hash32}
use Rattle.iris_name.specs.declared.name.Name.{Name}
use Rattle.iris_name.specs.declared.name.Name.TheVariants as name
use Rattle.iris_node.specs.Unfolded.{hash}
use Rattle.iris_node.specs.declared.node.Side.{Side}
use Rattle.iris_node.specs.declared.node.Side.TheVariants.{Fold, Below}
use Rattle.iris_node.specs.declared.node.Link.{Link}
use Rattle.iris_node.specs.declared.node.Body.{Body}
use Rattle.iris_node.specs.declared.node.Body.TheVariants.{Dir, File}
use Rattle.iris_node.specs.declared.node.Node.{Node}
use Rattle.iris_node.specs.declared.node.Node.TheVariants.{Entry, Part}
use Rattle.iris_cache.specs.declared.held.Held.{Held}
use Rattle.iris_cache.specs.Held.{points}
use Rattle.iris_cache.specs.Pictures.{LinkHolds, SideHolds, BodyHolds, Holds}
use Rattle.iris_cache.specs.Rehash.{top_part, low_part, high_part, relinked, resided, rebodied, rehashed}
use Rattle.iris_cache.specs.Resident.{Resident, held_node, resident_parent}
use Rattle.iris_cache.specs.Settled.{Settles}
use Rattle.iris_upkeep.specs.declared.descent.What.TheVariants.{Unsettled}
use Rattle.iris_upkeep.specs.Children.{HasHash}
use Rattle.iris_upkeep.specs.Marks.{HasMark, IsMarked, HoldsHashOf}
use Rattle.iris_upkeep.proofs.Stepped.{Stepped, held-of}

-- ---- a node that holds no hash of a name stays where one is put in for it

module _ (n : Name) (x : Hash32) where
  link-stays : (l : Option Link) → (HasHash (LinkHolds l n) → ⊥) → relinked n x l ≡ l
  link-stays None none = refl
  link-stays (Some l) none = by (same_name (name.Entry l.id) n) refl
    where
      by : (b : Bool) → same_name (name.Entry l.id) n ≡ b → (let after : Option Link = Some (record { id = l.id; hash = cond b x l.hash; blocks = l.blocks }) in after ≡ Some l)
      by true e = absurd (none (l.hash, (sym (same_name-true (name.Entry l.id) n e), refl)))
      by false e = refl

  side-stays : (part : Name) (s : Side) → (HasHash (SideHolds part s n) → ⊥) → resided (same_name part n) x s ≡ s
  side-stays part (Fold version) none = refl
  side-stays part (Below y) none = by (same_name part n) refl
    where
      by : (b : Bool) → same_name part n ≡ b → resided b x (Below y) ≡ Below y
      by true e = absurd (none (y, (sym (same_name-true part n e), refl)))
      by false e = refl

  body-stays : (id : FileId) (b : Body) → (HasHash (BodyHolds id b n) → ⊥) → rebodied n x id b ≡ b
  body-stays id (Dir top) none = ap Dir (link-stays top none)
  body-stays id (File size counter versions) none = ap (λ s. File size counter s) (side-stays (top_part id) versions none)

  node-stays : (k : Node) → (HasHash (Holds k n) → ⊥) → rehashed n x k ≡ k
  node-stays (Entry e) none =
      let a = link-stays e.left (λ h. none (h.0, inl h.1)) in
      let b = link-stays e.right (λ h. none (h.0, inr (inl h.1))) in
      let d = body-stays e.id e.body (λ h. none (h.0, inr (inr h.1))) in
      λ i. Entry (record { id = e.id; name = e.name; left = a i; right = b i; body = d i })
  node-stays (Part p) none =
      let a = side-stays (low_part p) p.low (λ h. none (h.0, inl h.1)) in
      let b = side-stays (high_part p) p.high (λ h. none (h.0, inr h.1)) in
      λ i. Part (record { file = p.file; level = p.level; index = p.index; low = a i; high = b i })

-- ---- a node that is settled

-- the hash of what may be held
abbrev pub hash-in : Option Held → Option Hash32
hash-in o = option_map (λ (h : Held). hash h.node) o

-- a node that has no unsettled child keeps the hash of its record as it settles
pub hash-stays : (c e : Resident) (n : Name) → IsMarked Unsettled c n → Settles c e n → ((q : Name) → HoldsHashOf c n q → IsMarked Unsettled c q → ⊥) → hash-in (held_node e n) ≡ hash-in (held_node c n)
hash-stays c e n m settles childless =
    let r = held-of (HasMark Unsettled) (held_node c n) m in
    let h = r.0 in
    let x = hash h.node in
    let none : HasHash (Holds h.node n) → ⊥ = λ k. childless n (over (held_node c n) h k r.1) m in
    ap hash-in (settles h r.1 n ∙ ap (Stepped (points (resident_parent c n) n) (same_name n n) n x) r.1)
    ∙ by h (ap (λ k. Some (hash k)) (node-stays n x h.node none)) (points (resident_parent c n) n) (same_name n n) ∙ sym (ap hash-in r.1)
  where
    over : (o : Option Held) (h : Held) → HasHash (Holds h.node n) → o ≡ Some h → IsSomeAnd o (λ g. HasHash (Holds g.node n))
    over None h k at = absurd (cc)
    over (Some g) h k at = subst (λ (v : Held). HasHash (Holds v.node n)) (sym (ap (λ (o : Option Held). option_unwrap_or o h) at)) k

    by : (h : Held) → (let after : Option Hash32 = Some (hash (rehashed n (hash h.node) h.node)) in after ≡ Some (hash h.node)) → (b d : Bool) → hash-in (Stepped b d n (hash h.node) (Some h)) ≡ Some (hash h.node)
    by h same true true = same
    by h same true false = same
    by h same false true = refl
    by h same false false = refl
