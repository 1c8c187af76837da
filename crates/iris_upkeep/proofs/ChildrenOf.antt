-- The names of which a node holds a hash, one by one.
use Rattle.std.proofs.Common.{◌≡◌, ◌↔◌, inl, inr, Option, Some, None, refl, sym, ◌∙◌, ap, subst, true≢false, is_some}
use Rattle.std.specs.Prelude.{IfNone}
use Rattle.iris_name.specs.declared.name.Name.{Name}
use Rattle.iris_name.specs.declared.name.Name.TheVariants as name
use Rattle.iris_node.specs.declared.node.Link.{Link}
use Rattle.iris_node.specs.declared.node.Node.{Node}
use Rattle.iris_node.specs.declared.node.Node.TheVariants.{Entry, Part}
use Rattle.iris_node.specs.Fields.{EntryFields, PartFields}
use Rattle.iris_cache.specs.Pictures.{Holds, LinkHolds, SideHolds, BodyHolds}
use Rattle.iris_cache.specs.Rehash.{low_part, high_part}
use Rattle.iris_upkeep.specs.declared.children.Children.{Children}
use Rattle.iris_upkeep.specs.Children.{HasHash, HasChild}

the-name : (a b : Name) → Some a ≡ Some b → b ≡ a
the-name a b e = cc

pub linked : (l : Option Link) (k : Link) (n : Name) → l ≡ Some k → Some (name.Entry k.id) ≡ Some n ↔ HasHash (LinkHolds l n)
linked None k n is = absurd (true≢false (ap (λ (o : Option Link). is_some o) (sym is)))
linked (Some j) k n is =
    let s : j ≡ k = cc in
    ((λ e. (j.hash, (the-name (name.Entry k.id) n e ∙ ap (λ (l : Link). name.Entry l.id) (sym s), refl))), (λ h. ap (λ (l : Link). Some (name.Entry l.id)) (sym s) ∙ ap Some (sym h.1.0)))

pub entry-has : (k : Node) (e : EntryFields) (c : Children) (n : Name) → k ≡ Entry e → (c.left ≡ Some n ↔ HasHash (LinkHolds e.left n)) → (c.right ≡ Some n ↔ HasHash (LinkHolds e.right n))
    → (c.top ≡ Some n ↔ HasHash (BodyHolds e.id e.body n)) → HasChild c n ↔ HasHash (Holds k n)
entry-has k e c n is l r t = subst (λ z. HasChild c n ↔ HasHash (Holds z n)) (sym is) (
  (λ h. elim h [ inl a ↦ (let x = l.0 a in (x.0, inl x.1)) | inr b ↦ elim b [ inl a ↦ (let x = r.0 a in (x.0, inr (inl x.1))) | inr a ↦ (let x = t.0 a in (x.0, inr (inr x.1))) ] ]),
  (λ h. elim (h.1) [ inl a ↦ inl (l.1 (h.0, a)) | inr b ↦ elim b [ inl a ↦ inr (inl (r.1 (h.0, a))) | inr a ↦ inr (inr (t.1 (h.0, a))) ] ]),
)

no-top : (o : Option Name) (n : Name) → o ≡ None → o ≡ Some n → ⊥
no-top o n e s = true≢false (ap (λ (x : Option Name). is_some x) (sym s ∙ e))

pub part-has : (k : Node) (p : PartFields) (c : Children) (n : Name) → k ≡ Part p → (c.left ≡ Some n ↔ HasHash (SideHolds (low_part p) p.low n)) → (c.right ≡ Some n ↔ HasHash (SideHolds (high_part p) p.high n))
    → c.top ≡ None → HasChild c n ↔ HasHash (Holds k n)
part-has k p c n is l r t = subst (λ z. HasChild c n ↔ HasHash (Holds z n)) (sym is) (
  (λ h. elim h [ inl a ↦ (let x = l.0 a in (x.0, inl x.1)) | inr b ↦ elim b [ inl a ↦ (let x = r.0 a in (x.0, inr x.1)) | inr a ↦ absurd (no-top c.top n t a) ] ]),
  (λ h. elim (h.1) [ inl a ↦ inl (l.1 (h.0, a)) | inr a ↦ inr (inl (r.1 (h.0, a))) ]),
)

pub none-then : {P Q : Type 0} (r : Option Name) → IfNone r P → (P → Q) → IfNone r Q
none-then None p f = f p
none-then (Some n) p f = tt
