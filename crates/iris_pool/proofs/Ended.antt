-- Two pools between which what is out for one name ends at a desk, and in cache and blocks.
use Rattle.std.proofs.Common.{◌≡◌, ℕ, List, Bool, false, cond, Option, Some, None, sym, ◌∙◌, ap}
use Rattle.std.specs.Option.{option_map}
use Rattle.iris_blocks.specs.declared.held.PageHeld.{PageHeld}
use Rattle.iris_blocks.specs.Paged.{has_page_room, held_page}
use Rattle.iris_cache.specs.declared.held.Held.{Held}
use Rattle.iris_cache.specs.Resident.{has_room, held_node}
use Rattle.iris_desk.specs.AtDesks.{is_doomed, keeps_for, out_of}
use Rattle.iris_desk.specs.Laws.{EndsFor}
use Rattle.iris_name.specs.declared.name.Name.{Name}
use Rattle.iris_name.specs.declared.name.Name.TheVariants.{Entry, Part, Block}
use Rattle.iris_name.specs.Names.{same_name}
use Rattle.iris_name.specs.NameLaws.{same_name-refl}
use Rattle.iris_pool.specs.Changes.{HoldsAlike}
use Rattle.iris_pool.specs.Parts.{BlockChanges, NodeChanges, ended_node, ended_page, is_block_at, is_node_at}
use Rattle.iris_pool.specs.Pool.{PoolState}
use Rattle.iris_pool.specs.View.{IsPool, out_seen}
use Rattle.iris_pool.proofs.Apart.{Apart, IsPoolAt, free_at, pool_moves}
use Rattle.iris_pool.proofs.ByName.{alike_if, changes_at, ended_out, ended_page_out, ended_page_quiet, ended_quiet, node_apart, page_apart, pages_alike_if}
use Rattle.iris_pool.proofs.Happenings.{Happens}
use Rattle.iris_pool.proofs.OutSeen.{seen_none}
use Rattle.iris_pool.proofs.SameNodes.{same_of}

-- what ends for a name, without keeping it
pub record Ended (who : ℕ) (n : Name) (clean : Bool) (p q : PoolState) : Type 0 where
  pub nodes : NodeChanges p.nodes q.nodes n (ended_node clean)
  pub pages : BlockChanges p.pages q.pages n (ended_page clean)
  pub node_places : (m : Name) → same_name n m ≡ false → has_room q.nodes m ≡ has_room p.nodes m
  pub page_places : (m : Name) → same_name n m ≡ false → has_page_room q.pages m ≡ has_page_room p.pages m
  pub ends : EndsFor who false n p.desks q.desks
  pub doomed : (m : Name) → same_name n m ≡ false → is_doomed q.desks m ≡ is_doomed p.desks m

module _ (who : ℕ) (n : Name) (clean : Bool) (p q : PoolState) (e : Ended who n clean p q) where
  pub ended_apart : Apart n p q
  ended_apart = record {
    nodes = λ m ne. same_of (held_node p.nodes m) (held_node q.nodes m) (node_apart n m (ended_node clean) (held_node p.nodes m) (held_node q.nodes m) ne (e.nodes m));
    pages = λ m ne. page_apart n m (ended_page clean) (held_page p.pages m) (held_page q.pages m) ne (e.pages m);
    node_places = e.node_places;
    page_places = e.page_places;
    out = λ m ne. e.ends.out m ∙ ap (λ b. cond b None (out_of p.desks m)) ne;
    kept = λ w m ne. e.ends.kept w m;
    doomed = e.doomed;
    asked = e.ends.asked;
  }

  pub ended_kept : (w : ℕ) → keeps_for q.desks w n ≡ keeps_for p.desks w n
  ended_kept w = e.ends.kept w n

  pub ended_free : out_of q.desks n ≡ None
  ended_free = e.ends.out n ∙ ap (λ b. cond b None (out_of p.desks n)) (same_name-refl n)

  pub ended_seen : (key : List ℕ) → out_seen key q.desks n ≡ None
  ended_seen key = seen_none key q.desks n ended_free

  pub ended_happens : Happens n (ended_node clean) (ended_page clean) p q
  ended_happens = changes_at n (ended_node clean) (ended_page clean) (held_node p.nodes n) (held_node q.nodes n) (held_page p.pages n) (held_page q.pages n) (e.nodes n) (e.pages n)

  pub ended_pool : IsPool p → IsPool q
  ended_pool pool = pool_moves n p q pool ended_apart (here n ended_free ended_happens) where
    node : (g h : Option Held) → h ≡ option_map (ended_node clean) g → (a : Held) → h ≡ Some a → a.out ≡ None
    node None h is a held = let x : None ≡ Some a = sym is ∙ held in absurd (cc)
    node (Some g) h is a held = let x : Some (ended_node clean g) ≡ Some a = sym is ∙ held in let y : ended_node clean g ≡ a = cc in ap (λ (z : Held). z.out) (sym y) ∙ ended_out clean g

    page : (g h : Option PageHeld) → h ≡ option_map (ended_page clean) g → (a : PageHeld) → h ≡ Some a → a.out ≡ None
    page None h is a held = let x : None ≡ Some a = sym is ∙ held in absurd (cc)
    page (Some g) h is a held = let x : Some (ended_page clean g) ≡ Some a = sym is ∙ held in let y : ended_page clean g ≡ a = cc in ap (λ (z : PageHeld). z.out) (sym y) ∙ ended_page_out clean g

    here : (m : Name) → out_of q.desks m ≡ None → Happens m (ended_node clean) (ended_page clean) p q → IsPoolAt q m
    here (Entry i) free h = free_at q (Entry i) free (λ is a held. node (held_node p.nodes (Entry i)) (held_node q.nodes (Entry i)) h.0 a held) (λ is. absurd is)
    here (Part k l i) free h = free_at q (Part k l i) free (λ is a held. node (held_node p.nodes (Part k l i)) (held_node q.nodes (Part k l i)) h.0 a held) (λ is. absurd is)
    here (Block k i) free h = free_at q (Block k i) free (λ is. absurd is) (λ is a held. page (held_page p.pages (Block k i)) (held_page q.pages (Block k i)) h.1 a held)

  pub ended_alike : HoldsAlike p q
  ended_alike = record {
    nodes = λ m. alike_if (is_node_at n m) (ended_node clean) (held_node p.nodes m) (held_node q.nodes m) (ended_quiet clean).alike (e.nodes m);
    pages = λ m. pages_alike_if (is_block_at n m) (ended_page clean) (held_page p.pages m) (held_page q.pages m) (ended_page_quiet clean).alike (e.pages m);
  }
