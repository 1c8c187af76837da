-- In a pictured tree one comes to a root by going up from any resident node: no way up is longer than all that stands for what is
-- resident.
use Rattle.std.proofs.Common.{◌≡◌, ◌<◌, ◌≤◌, ◌+◌, ◌⊎◌, inl, inr, ℕ, zero, suc, true, false, List, [], ◌∷◌, Option, Some, None, refl, ap, sym, ◌∙◌, arith, true≢false, is_some}
use Rattle.std.specs.Map.{keys_of}
use Rattle.std.specs.List.{list_any}
use Rattle.std.proofs.lemmas.Map.Made.{is_some-lookup}
use Rattle.iris_cache.proofs.Rising.{or-left, or-right, or-split}
use Rattle.iris_cache.specs.Applied.{is_above_within}
use Rattle.iris_cache.specs.declared.held.Held.{Held}
use Rattle.iris_cache.specs.Pictures.{Pictures}
use Rattle.iris_cache.specs.Resident.{Resident, held_node, parent_in, resident_parent}
use Rattle.iris_name.specs.declared.name.Name.{Name}
use Rattle.iris_name.specs.declared.name.Name.TheVariants.{Entry}
use Rattle.iris_name.specs.NameLaws.{same_name_equiv, same_name-true}
use Rattle.iris_name.specs.Names.{same_name}
use Rattle.iris_node.specs.Trees.{Shown, IsParent, IsRootName, IsTree}
use Rattle.iris_node.specs.Unfolded.{id_of}
use Rattle.iris_standing.proofs.CachedNodes.{cached_at}
use Rattle.iris_treepaths.proofs.Sizes.{parent_larger, size_in}
use Rattle.iris_treepaths.specs.Rows.{IsRooted}
use Rattle.iris_upkeep.specs.Marks.{IsAtOrBelow}

-- how much lies at and below what stands for a name
size_at : Shown → Name → ℕ
size_at t n = size_in (t n)

child_size : (t : Shown) (p n : Name) → IsTree t → IsParent t p n → size_at t n < size_at t p
unfolding size_at
child_size t p n tree par = parent_larger t tree p n par

-- all that stands for names of a list
most : Shown → List Name → ℕ
most t [] = 0
most t (n ∷ ns) = size_at t n + most t ns

member_most : (t : Shown) (n : Name) (ns : List Name) → list_any (same_name n) ns ≡ true → size_at t n ≤ most t ns
unfolding most
member_most t n [] h = absurd (true≢false (sym h))
member_most t n (m ∷ ns) h = elim (or-split (same_name n m) (list_any (same_name n) ns) h)
    [ inl s ↦ let e = ap (size_at t) (same_name-true n m s) in omega (arith, e) | inr r ↦ let le = member_most t n ns r in omega (arith, le) ]

resident_most : (t : Shown) (c : Resident) (n : Name) (h : Held) → held_node c n ≡ Some h → size_at t n ≤ most t (keys_of c.nodes)
resident_most t c n h e = member_most t n (keys_of c.nodes) (sym (is_some-lookup (same_name n) c.nodes) ∙ ap (λ (o : Option Held). is_some o) e)

there : (o : Option Held) → is_some o ≡ true → (h : Held) × (o ≡ Some h)
there None e = absurd (true≢false (sym e))
there (Some h) e = (h, refl)

abbrev pub IsBelowRoot : Resident → Name → Type 0
IsBelowRoot c n = IsAtOrBelow c n (Entry (id_of 0)) ⊎ IsAtOrBelow c n (Entry (id_of 1))

at_itself : (c : Resident) (n r : Name) → n ≡ r → IsAtOrBelow c n r
at_itself c n r e = (1, or-left (same_name n r) false (ap (same_name n) (sym e) ∙ same_name_equiv.refl n))

step_up : (c : Resident) (n p r : Name) → resident_parent c n ≡ Some p → IsAtOrBelow c p r → IsAtOrBelow c n r
step_up c n p r up b =
    (suc b.0, or-right (same_name n r) (is_above_within (resident_parent c) b.0 (resident_parent c n) r) (ap (λ o. is_above_within (resident_parent c) b.0 o r) up ∙ b.1))

at_root : (c : Resident) (n : Name) → IsRootName n → IsBelowRoot c n
at_root c n (inl e) = inl (at_itself c n (Entry (id_of 0)) e)
at_root c n (inr e) = inr (at_itself c n (Entry (id_of 1)) e)

below_parent : (c : Resident) (n p : Name) → resident_parent c n ≡ Some p → IsBelowRoot c p → IsBelowRoot c n
below_parent c n p up (inl b) = inl (step_up c n p (Entry (id_of 0)) up b)
below_parent c n p up (inr b) = inr (step_up c n p (Entry (id_of 1)) up b)

module _ (t : Shown) (c : Resident) (pic : Pictures t c) (tree : IsTree t) (rooted : IsRooted t) where
  above : (n : Name) (h : Held) → held_node c n ≡ Some h → IsRootName n ⊎ ((p : Name) × IsParent t p n)
      → ((p : Name) (g : Held) → held_node c p ≡ Some g → size_at t n < size_at t p → IsBelowRoot c p) → IsBelowRoot c n
  above n h at (inl root) next = at_root c n root
  above n h at (inr x) next =
      let r = pic.parents n x.0 h at x.1 in
      let g = there (held_node c x.0) r.1 in
      below_parent c n x.0 (ap parent_in at ∙ r.0) (next x.0 g.0 g.1 (child_size t x.0 n tree x.1))

  over : (n : Name) (h : Held) → held_node c n ≡ Some h → IsRootName n ⊎ ((p : Name) × IsParent t p n)
  over n h at = let s = cached_at t n h.node (t n) tree refl (pic.nodes n h at) in rooted n s.u s.live s.is_node

  climb : (k : ℕ) (n : Name) (h : Held) → held_node c n ≡ Some h → most t (keys_of c.nodes) ≤ size_at t n + k → IsBelowRoot c n
  climb zero n h at le = above n h at (over n h at) (λ p g e lt. let m = resident_most t c p g e in absurd (omega (arith, le, lt, m)))
  climb (suc k) n h at le = above n h at (over n h at) (λ p g e lt. climb k p g e (omega (arith, le, lt)))

  pub below_root : (n : Name) (h : Held) → held_node c n ≡ Some h → IsBelowRoot c n
  below_root n h at = climb (most t (keys_of c.nodes)) n h at (omega arith)
