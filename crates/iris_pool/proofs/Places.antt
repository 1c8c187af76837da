-- Places that are made, and given up.
use Rattle.std.proofs.Common.{◌≡◌, true, false, cond, not, Option, Some, None, sym, ◌∙◌, ap, is_some}
use Rattle.std.specs.Map.{lookup}
use Rattle.iris_blocks.specs.declared.held.PageHeld.{PageHeld}
use Rattle.iris_blocks.specs.Paged.{has_page_room, held_page, IsBlock}
use Rattle.iris_cache.specs.declared.held.Held.{Held}
use Rattle.iris_cache.specs.Resident.{has_room, held_node}
use Rattle.iris_desk.specs.AtDesks.{DesksState, asked_by, is_doomed, keeps_for, out_of}
use Rattle.iris_name.specs.declared.name.Name.{Name}
use Rattle.iris_name.specs.declared.name.Name.TheVariants.{Entry, Part, Block}
use Rattle.iris_name.specs.Names.{same_name}
use Rattle.iris_name.specs.NameLaws.{same_name-refl}
use Rattle.iris_node.specs.Trees.{IsNodeName}
use Rattle.iris_pool.specs.Parts.{is_block_at, is_node_at}
use Rattle.iris_pool.specs.Pool.{PoolState, IsAbsentIn, has_place}
use Rattle.iris_pool.specs.View.{IsPool}
use Rattle.iris_pool.proofs.Apart.{free_at, pool_moves}
use Rattle.iris_pool.proofs.SameNodes.{same_of}

pub absent_node : (p : PoolState) (n : Name) → IsNodeName n → IsAbsentIn p n → held_node p.nodes n ≡ None
absent_node p (Entry i) is absent = absent
absent_node p (Part k l i) is absent = absent
absent_node p (Block k i) is absent = absurd is

pub absent_page : (p : PoolState) (n : Name) → IsBlock n → IsAbsentIn p n → held_page p.pages n ≡ None
absent_page p (Entry i) is absent = absurd is
absent_page p (Part k l i) is absent = absurd is
absent_page p (Block k i) is absent = absent

-- an absent name has the place that was made for it
pub place_made : (p q : PoolState) (n : Name) → IsAbsentIn p n
    → ((m : Name) → has_room q.nodes m ≡ cond (is_node_at n m) (not (is_some (held_node p.nodes m))) (has_room p.nodes m))
    → ((m : Name) → has_page_room q.pages m ≡ cond (is_block_at n m) (not (is_some (held_page p.pages m))) (has_page_room p.pages m)) → has_place q n ≡ true
place_made p q (Entry i) absent nodes pages =
    nodes (Entry i) ∙ (ap (λ b. cond b (not (is_some (held_node p.nodes (Entry i)))) (has_room p.nodes (Entry i))) (same_name-refl (Entry i)) ∙ ap (λ (g : Option Held). not (is_some g)) absent)
place_made p q (Part k l i) absent nodes pages =
    nodes (Part k l i) ∙ (ap (λ b. cond b (not (is_some (held_node p.nodes (Part k l i)))) (has_room p.nodes (Part k l i))) (same_name-refl (Part k l i)) ∙ ap (λ (g : Option Held). not (is_some g)) absent)
place_made p q (Block k i) absent nodes pages =
    pages (Block k i) ∙ (ap (λ b. cond b (not (is_some (held_page p.pages (Block k i)))) (has_page_room p.pages (Block k i))) (same_name-refl (Block k i)) ∙ ap (λ (g : Option PageHeld). not (is_some g)) absent)

-- a pool stays one where the place of an absent name for which nothing is out comes or goes
pub places_pool : (n : Name) (p q : PoolState) → IsPool p → IsAbsentIn p n → out_of p.desks n ≡ None → q.nodes.nodes ≡ p.nodes.nodes → q.pages.pages ≡ p.pages.pages → q.desks ≡ p.desks
    → ((m : Name) → same_name n m ≡ false → has_room q.nodes m ≡ has_room p.nodes m) → ((m : Name) → same_name n m ≡ false → has_page_room q.pages m ≡ has_page_room p.pages m) → IsPool q
places_pool n p q pool absent free nodes pages desks room page_room =
    pool_moves n p q pool (record {
      nodes = λ m ne. same_of (held_node p.nodes m) (held_node q.nodes m) (ap (lookup (same_name m)) nodes);
      pages = λ m ne. ap (lookup (same_name m)) pages;
      node_places = room;
      page_places = page_room;
      out = λ m ne. ap (λ (d : DesksState). out_of d m) desks;
      kept = λ w m ne. ap (λ (d : DesksState). keeps_for d w m) desks;
      doomed = λ m ne. ap (λ (d : DesksState). is_doomed d m) desks;
      asked = λ w. ap (λ (d : DesksState). asked_by d w) desks;
    })
    (free_at q n (ap (λ (d : DesksState). out_of d n) desks ∙ free)
    (λ is h held. absurd (let x : None ≡ Some h = sym (absent_node p n is absent) ∙ (sym (ap (lookup (same_name n)) nodes) ∙ held) in cc))
    (λ is h held. absurd (let x : None ≡ Some h = sym (absent_page p n is absent) ∙ (sym (ap (lookup (same_name n)) pages) ∙ held) in cc)))
