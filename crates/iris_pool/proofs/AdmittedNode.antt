-- A node that no store has yet comes into the pool.
use Rattle.std.proofs.Common.{◌≡◌, ◌⊎◌, inl, inr, ℕ, Bool, true, false, not, cond, List, Option, Some, None, refl, ap, sym, ◌∙◌, true≢false, is_some}
use Rattle.std.specs.List.{count_by, list_any}
use Rattle.std.specs.Map.{lookup, values_of}
use Rattle.iris_cache.specs.declared.held.Held.{Held}
use Rattle.iris_cache.specs.Held.{dirtied_node, is_child, kid_more, newcomer_node, points, unpinned_node}
use Rattle.iris_cache.specs.Resident.{Resident, Updates, children, has_room, held_node, map_if}
use Rattle.iris_desk.specs.AtDesks.{out_of}
use Rattle.iris_name.specs.Names.{same_name}
use Rattle.iris_name.specs.NameLaws.{same_name-true}
use Rattle.iris_name.specs.declared.name.Name.{Name}
use Rattle.iris_node.specs.Nodes.{name_of}
use Rattle.iris_node.specs.declared.node.Node.{Node}
use Rattle.iris_pool.specs.Opening.{NodeAdmitted, admitted_node}
use Rattle.iris_pool.specs.Pool.{PoolState}
use Rattle.iris_pool.specs.View.{IsPool}
use Rattle.iris_pool.proofs.StayingPool.{KeepsFlags, keeps_pool}

admitted_by : (s t : Bool) (parent : Option Name) (node : Node) (kids : ℕ) (o : Option Held) → map_if s dirtied_node (map_if s (unpinned_node 0) (map_if t kid_more (cond s (Some (newcomer_node parent node 0 kids)) o)))
    ≡ map_if t kid_more (cond s (Some (admitted_node parent node kids)) o)
admitted_by true true parent node kids o = refl
admitted_by true false parent node kids o = refl
admitted_by false t parent node kids o = refl

-- an empty place, the node, no pin, and the mark
pub admits : (p q : PoolState) (a b c : Resident) (parent : Option Name) (node : Node) → a.nodes ≡ p.nodes.nodes
    → ((m : Name) → held_node b m ≡ map_if (points parent m) kid_more (cond (same_name (name_of node) m) (Some (newcomer_node parent node 0 (children a (name_of node)))) (held_node a m)))
    → Updates b c (name_of node) (unpinned_node 0) → Updates c q.nodes (name_of node) dirtied_node → NodeAdmitted p q parent node
admits p q a b c parent node same insert unpin mark m =
    let n = name_of node in
    mark m ∙ ap (map_if (same_name n m) dirtied_node) (unpin m ∙ ap (map_if (same_name n m) (unpinned_node 0)) (insert m))
    ∙ admitted_by (same_name n m) (points parent m) parent node (children a n) (held_node a m)
    ∙ ap (λ (l : List (Name × Held)). map_if (points parent m) kid_more (cond (same_name n m) (Some (admitted_node parent node (count_by (is_child n) (values_of l)))) (lookup (same_name m) l))) same

-- of each other name the empty place stays
pub admits_room : (p a b c e : Resident) (n : Name) → ((m : Name) → has_room a m ≡ cond (same_name n m) (not (is_some (held_node p m))) (has_room p m)) → ((m : Name) → has_room b m ≡ cond (same_name n m) false (has_room a m))
    → c.room ≡ b.room → e.room ≡ c.room → (m : Name) → same_name n m ≡ false → has_room e m ≡ has_room p m
admits_room p a b c e n kept insert unpin mark m s =
    ap (λ (l : List Name). list_any (same_name m) l) (mark ∙ unpin) ∙ insert m ∙ ap (λ t. cond t false (has_room a m)) s ∙ kept m ∙ ap (λ t. cond t (not (is_some (held_node p m))) (has_room p m)) s

more_flags : (t : Bool) (o : Option Held) (h : Held) → map_if t kid_more o ≡ Some h → (g : Held) × (o ≡ Some g) × KeepsFlags g h
more_flags true None h e = absurd (cc)
more_flags true (Some g) h e = let k : kid_more g ≡ h = cc in (g, refl, (ap (λ (x : Held). x.out) (sym k), ap (λ (x : Held). x.touched) (sym k)))
more_flags false None h e = absurd (cc)
more_flags false (Some g) h e = let k : g ≡ h = cc in (g, refl, (ap (λ (x : Held). x.out) (sym k), ap (λ (x : Held). x.touched) (sym k)))

more_none : (t : Bool) (o : Option Held) → map_if t kid_more o ≡ None → o ≡ None
more_none true None e = refl
more_none true (Some h) e = absurd (cc)
more_none false o e = e

module _ (p : PoolState) (e : Resident) (parent : Option Name) (node : Node) (pool : IsPool p) (free : out_of p.desks (name_of node) ≡ None) (admitted : NodeAdmitted p (record p { nodes = e }) parent node)
    (room : (m : Name) → same_name (name_of node) m ≡ false → has_room e m ≡ has_room p.nodes m) where
  abbrev n : Name
  n = name_of node

  held_by : (m : Name) (h : Held) (s : Bool) → same_name n m ≡ s → map_if (points parent m) kid_more (cond s (Some (admitted_node parent node (children p.nodes n))) (held_node p.nodes m)) ≡ Some h
      → ((g : Held) × (held_node p.nodes m ≡ Some g) × KeepsFlags g h) ⊎ ((out_of p.desks m ≡ None) × (h.out ≡ None))
  held_by m h true s at =
      let f = more_flags (points parent m) (Some (admitted_node parent node (children p.nodes n))) h at in
      inr (ap (out_of p.desks) (sym (same_name-true n m s)) ∙ free, f.2.0 ∙ the (admitted_node parent node (children p.nodes n)) f.0 f.1)
    where
      the : (a b : Held) → Some a ≡ Some b → b.out ≡ a.out
      the a b e = let k : a ≡ b = cc in ap (λ (x : Held). x.out) (sym k)
  held_by m h false s at = inl (more_flags (points parent m) (held_node p.nodes m) h at)

  absent_by : (m : Name) (s : Bool) → same_name n m ≡ s → map_if (points parent m) kid_more (cond s (Some (admitted_node parent node (children p.nodes n))) (held_node p.nodes m)) ≡ None
      → (held_node p.nodes m ≡ None) × (has_room p.nodes m ≡ true → has_room e m ≡ true)
  absent_by m true s at = let z = more_none (points parent m) (Some (admitted_node parent node (children p.nodes n))) at in absurd (true≢false (ap (λ (x : Option Held). is_some x) z))
  absent_by m false s at = (more_none (points parent m) (held_node p.nodes m) at, λ h. room m s ∙ h)

  pub is_pool : IsPool (record p { nodes = e })
  is_pool = keeps_pool p e pool (λ m h at. held_by m h (same_name n m) refl (sym (admitted m) ∙ at)) (λ m who o at none. absent_by m (same_name n m) refl (sym (admitted m) ∙ none))
