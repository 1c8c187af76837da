-- Which names what stands for a node leads to: its children's.
use Rattle.std.proofs.Common.{◌≡◌, ◌⊎◌, ◌||◌, inl, inr, true, false, Option, Some, None, refl, ap, sym, ◌∙◌, true≢false}
use Rattle.std.specs.Option.{option_map_or}
use Rattle.iris_cache.proofs.Rising.{or-split, or-left, or-right}
use Rattle.iris_name.specs.declared.name.Name.{Name}
use Rattle.iris_name.specs.Names.{same_name}
use Rattle.iris_name.specs.NameLaws.{same_name-true, same_name-refl}
use Rattle.iris_node.specs.Trees.{Shown, IsAbove, IsParent, IsTree, node_name}
use Rattle.iris_node.specs.Unfolded.{Unfolded, Absent, Folder, Leaf, Even, Split, Stored}
use Rattle.iris_standing.specs.Links.{LinksLead}
use Rattle.iris_standing.specs.Standing.{is_named, leads_to}

named_by : (o : Option Name) (n : Name) → option_map_or (λ m. same_name m n) o false ≡ true → o ≡ Some n
named_by None n e = absurd (true≢false (sym e))
named_by (Some m) n e = ap Some (same_name-true m n e)

-- the test tells whose node it is
pub named_is : (u : Unfolded) (n : Name) → is_named u n ≡ true → node_name u ≡ Some n
named_is u n e = named_by (node_name u) n e

pub is_named_so : (u : Unfolded) (n : Name) → node_name u ≡ Some n → is_named u n ≡ true
is_named_so u n e = ap (λ o. option_map_or (λ m. same_name m n) o false) e ∙ same_name-refl n

-- what leads to a name stands above a node of that name
abbrev IsChildOf : Unfolded → Name → Type 0
IsChildOf u n = (w : Unfolded) × IsAbove u w × (node_name w ≡ Some n)

three : (a b c : Unfolded) (n : Name) → (is_named a n || is_named b n || is_named c n) ≡ true → (w : Unfolded) × ((w ≡ a) ⊎ ((w ≡ b) ⊎ (w ≡ c))) × (node_name w ≡ Some n)
three a b c n e = elim (or-split (is_named a n || is_named b n) (is_named c n) e) [
  | inl d ↦ elim (or-split (is_named a n) (is_named b n) d) [
    | inl x ↦ (a, inl refl, named_is a n x)
    | inr y ↦ (b, inr (inl refl), named_is b n y)
  ]
  | inr z ↦ (c, inr (inr refl), named_is c n z)
]

two : (a b : Unfolded) (n : Name) → (is_named a n || is_named b n) ≡ true → (w : Unfolded) × ((w ≡ a) ⊎ (w ≡ b)) × (node_name w ≡ Some n)
two a b n e = elim (or-split (is_named a n) (is_named b n) e) [ inl x ↦ (a, inl refl, named_is a n x) | inr y ↦ (b, inr refl, named_is b n y) ]

pub child_of : (u : Unfolded) (n : Name) → leads_to u n ≡ true → IsChildOf u n
child_of (Folder id label less more inside) n e = three less more inside n e
child_of (Leaf id label less more size counter versions) n e = three less more versions n e
child_of (Split file level index low high) n e = two low high n e
child_of Absent n e = absurd (true≢false (sym e))
child_of (Even version) n e = absurd (true≢false (sym e))
child_of (Stored version bytes) n e = absurd (true≢false (sym e))

one_of_three : (a b c w : Unfolded) (n : Name) → (w ≡ a) ⊎ ((w ≡ b) ⊎ (w ≡ c)) → is_named w n ≡ true → (is_named a n || is_named b n || is_named c n) ≡ true
one_of_three a b c w n (inl e) t = or-left (is_named a n || is_named b n) (is_named c n) (or-left (is_named a n) (is_named b n) (ap (λ z. is_named z n) (sym e) ∙ t))
one_of_three a b c w n (inr (inl e)) t = or-left (is_named a n || is_named b n) (is_named c n) (or-right (is_named a n) (is_named b n) (ap (λ z. is_named z n) (sym e) ∙ t))
one_of_three a b c w n (inr (inr e)) t = or-right (is_named a n || is_named b n) (is_named c n) (ap (λ z. is_named z n) (sym e) ∙ t)

pub above_leads : (u w : Unfolded) (n : Name) → IsAbove u w → node_name w ≡ Some n → leads_to u n ≡ true
above_leads (Folder id label less more inside) w n above named = one_of_three less more inside w n above (is_named_so w n named)
above_leads (Leaf id label less more size counter versions) w n above named = one_of_three less more versions w n above (is_named_so w n named)
above_leads (Split file level index low high) w n (inl e) named = or-left (is_named low n) (is_named high n) (ap (λ z. is_named z n) (sym e) ∙ is_named_so w n named)
above_leads (Split file level index low high) w n (inr e) named = or-right (is_named low n) (is_named high n) (ap (λ z. is_named z n) (sym e) ∙ is_named_so w n named)
above_leads Absent w n above named = absurd above
above_leads (Even version) w n above named = absurd above
above_leads (Stored version bytes) w n above named = absurd above

-- so in a table what leads to a name is its parent's
pub leading_parent : (t : Shown) (p n : Name) (u : Unfolded) → t p ≡ Some u → leads_to u n ≡ true → IsParent t p n
leading_parent t p n u live e = let c = child_of u n e in record { parent = u; child = c.0; live = live; above = c.1; named = c.2 }

some_same : (u w : Unfolded) → Some u ≡ Some w → u ≡ w
some_same u w e = cc

-- and what is a parent's leads to it
pub parent_leads : (t : Shown) (p n : Name) (u : Unfolded) → t p ≡ Some u → IsParent t p n → leads_to u n ≡ true
parent_leads t p n u live h = ap (λ z. leads_to z n) (some_same u h.parent (sym live ∙ h.live)) ∙ above_leads h.parent h.child n h.above h.named

pub links_lead : LinksLead
links_lead t p n u live = (λ e. leading_parent t p n u live e, λ h. parent_leads t p n u live h)

-- and what leads to a name is a node's
pub leading_name : (t : Shown) (p n : Name) (u : Unfolded) → IsTree t → t p ≡ Some u → leads_to u n ≡ true → node_name u ≡ Some p
leading_name t p n u tree live e = by u (node_name u) refl e where
  by : (w : Unfolded) (o : Option Name) → node_name u ≡ o → leads_to u n ≡ true → node_name u ≡ Some p
  by w (Some m) is l = is ∙ ap Some (tree.own p m u live is)
  by w None is l = absurd (nameless u is l) where
    nameless : (w : Unfolded) → node_name w ≡ None → leads_to w n ≡ true → ⊥
    nameless (Folder id label less more inside) g l = cc
    nameless (Leaf id label less more size counter versions) g l = cc
    nameless (Split file level index low high) g l = cc
    nameless Absent g l = true≢false (sym l)
    nameless (Even version) g l = true≢false (sym l)
    nameless (Stored version bytes) g l = true≢false (sym l)
