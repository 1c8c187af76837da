-- What is out, from what a call asks for.
use Rattle.std.proofs.Common.{◌≡◌, ℕ, Option, Some, None, refl, sym, ◌∙◌, subst}
use Rattle.std.specs.Prelude.{IsSomeAnd, IfSome}
use Rattle.iris_blocks.specs.declared.held.PageHeld.{PageHeld}
use Rattle.iris_blocks.specs.Paged.{held_page, IsBlock}
use Rattle.iris_cache.specs.declared.held.Held.{Held}
use Rattle.iris_cache.specs.Resident.{held_node}
use Rattle.iris_desk.specs.AtDesks.{DesksState, out_of}
use Rattle.iris_desk.specs.declared.out.Doing.{Doing}
use Rattle.iris_desk.specs.declared.out.Out.{Out}
use Rattle.iris_desk.proofs.OutOf.{found_for}
use Rattle.iris_name.specs.declared.name.Name.{Name}
use Rattle.iris_node.specs.Trees.{IsNodeName}
use Rattle.iris_pool.specs.Changes.{IsDoing}
use Rattle.iris_pool.specs.Pool.{PoolState}
use Rattle.iris_pool.specs.View.{IsPool}

pub doing_is : (d : DesksState) (who : ℕ) (n : Name) (x : Out) (doing : Doing) → IsDoing d who n doing → out_of d n ≡ Some (who, x) → x.doing ≡ doing
doing_is d who n x doing is at = subst (λ z. IsSomeAnd z (λ o. o.doing ≡ doing)) (found_for d n who x at) is

-- what is held of a name for which nothing is out is free
pub node_free : (p : PoolState) (n : Name) → IsPool p → out_of p.desks n ≡ None → IsNodeName n → IfSome (held_node p.nodes n) (λ (h : Held). h.out ≡ None)
node_free p n pool free is = by (held_node p.nodes n) refl where
  by : (g : Option Held) → held_node p.nodes n ≡ g → IfSome g (λ (h : Held). h.out ≡ None)
  by None at = tt
  by (Some h) at = out h.out refl where
    out : (w : Option ℕ) → h.out ≡ w → h.out ≡ None
    out None e = e
    out (Some w) e = absurd (let k = pool.known n h w is at e in let x : None ≡ Some (w, k.0) = sym free ∙ k.1 in cc)

pub page_free : (p : PoolState) (n : Name) → IsPool p → out_of p.desks n ≡ None → IsBlock n → IfSome (held_page p.pages n) (λ (h : PageHeld). h.out ≡ None)
page_free p n pool free is = by (held_page p.pages n) refl where
  by : (g : Option PageHeld) → held_page p.pages n ≡ g → IfSome g (λ (h : PageHeld). h.out ≡ None)
  by None at = tt
  by (Some h) at = out h.out refl where
    out : (w : Option ℕ) → h.out ≡ w → h.out ≡ None
    out None e = e
    out (Some w) e = absurd (let k = pool.known_page n h w is at e in let x : None ≡ Some (w, k.0) = sym free ∙ k.1 in cc)
