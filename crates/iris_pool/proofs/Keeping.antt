-- What is kept of a node or a page that a get brings: the pools before and after, and what is held in both.
use Rattle.std.proofs.Common.{◌≡◌, ℕ, List, [], Bool, true, false, cond, Option, Some, None, refl, sym, ◌∙◌, ap, subst}
use Rattle.iris_blocks.specs.Paged.{Paged, has_page_room, held_page}
use Rattle.iris_cache.specs.Laws.{AreAlike}
use Rattle.iris_cache.specs.Resident.{Resident, has_room, held_node, map_if}
use Rattle.iris_desk.specs.AtDesks.{DesksState, is_doomed, keeps_for, out_of}
use Rattle.iris_desk.specs.declared.out.Doing.TheVariants.{Get}
use Rattle.iris_desk.specs.declared.out.Out.{Out}
use Rattle.iris_desk.specs.Laws.{EndsFor}
use Rattle.iris_invariant.specs.Agrees as seen
use Rattle.iris_name.specs.declared.name.FileId.{FileId}
use Rattle.iris_name.specs.declared.name.Name.{Name}
use Rattle.iris_name.specs.declared.name.Name.TheVariants.{Entry, Part, Block}
use Rattle.iris_name.specs.Names.{same_name}
use Rattle.iris_name.specs.NameLaws.{same_name-true}
use Rattle.iris_node.specs.declared.node.Node.{Node}
use Rattle.iris_node.specs.declared.node.Node.TheVariants as node_is
use Rattle.iris_node.specs.Nodes.{name_of}
use Rattle.iris_node.specs.Trees.{IsNodeName}
use Rattle.iris_pool.specs.Changes.{ArePagesAlike, HoldsAlike, IsDoing, NodeComes, PageComes}
use Rattle.iris_pool.specs.Parts.{ended_node, ended_page}
use Rattle.iris_pool.specs.Pool.{PoolState, IsAbsentIn, has_place}
use Rattle.iris_pool.specs.View.{IsPool, out_seen}
use Rattle.iris_pool.proofs.Bringing.{NodeBrings, PageBrings, comes_alike, new_comes, new_page, node_comes, nodes_else, page_alike, page_comes, pages_else}
use Rattle.iris_pool.proofs.Brought.{ComesAt, Keeps, NodeComesOf, kept_else}
use Rattle.iris_pool.proofs.ByName.{alike_self, pages_alike_self}
use Rattle.iris_pool.proofs.Doing.{doing_is}
use Rattle.iris_pool.proofs.OutSeen.{seen_at}
use Rattle.iris_pool.proofs.Places.{absent_node}
use Rattle.iris_pool.proofs.SameNodes.{same_alike, same_as}

pub node_named : (node : Node) → IsNodeName (name_of node)
node_named (node_is.Entry e) = tt
node_named (node_is.Part e) = tt

none_back : {A : Type 0} (s : Bool) (f : A → A) (g h : Option A) → h ≡ map_if s f g → h ≡ None → g ≡ None
none_back s f None h is e = refl
none_back false f (Some a) h is e = absurd (let x : Some a ≡ None = sym is ∙ e in cc)
none_back true f (Some a) h is e = absurd (let x : Some (f a) ≡ None = sym is ∙ e in cc)

absent_as : (p : PoolState) (n : Name) → IsNodeName n → held_node p.nodes n ≡ None → IsAbsentIn p n
absent_as p (Entry i) is none = none
absent_as p (Part k l i) is none = none
absent_as p (Block k i) is none = absurd is

room_as : (p : PoolState) (n : Name) → IsNodeName n → has_place p n ≡ true → has_room p.nodes n ≡ true
room_as p (Entry i) is place = place
room_as p (Part k l i) is place = place
room_as p (Block k i) is place = absurd is

-- a get has a place for what it brings, where that is absent and untouched
pub node_room : (p : PoolState) (mid : Resident) (who : ℕ) (n : Name) (x : Out) → IsPool p → IsNodeName n → IsDoing p.desks who n Get → out_of p.desks n ≡ Some (who, x)
    → held_node mid n ≡ map_if (same_name n n) (ended_node false) (held_node p.nodes n) → held_node mid n ≡ None → x.touched ≡ false → has_room p.nodes n ≡ true
node_room p mid who n x pool is doing at ended none off =
    room_as p n is (pool.places n who x at (doing_is p.desks who n x Get doing at) off (absent_as p n is (none_back (same_name n n) (ended_node false) (held_node p.nodes n) (held_node mid n) ended none)))

pub page_room : (p : PoolState) (mid : Paged) (who : ℕ) (f : FileId) (i : ℕ) (x : Out) → IsPool p → IsDoing p.desks who (Block f i) Get → out_of p.desks (Block f i) ≡ Some (who, x)
    → held_page mid (Block f i) ≡ map_if (same_name (Block f i) (Block f i)) (ended_page false) (held_page p.pages (Block f i)) → held_page mid (Block f i) ≡ None → x.touched ≡ false
    → has_page_room p.pages (Block f i) ≡ true
page_room p mid who f i x pool doing at ended none off =
    pool.places (Block f i) who x at (doing_is p.desks who (Block f i) x Get doing at) off (none_back (same_name (Block f i) (Block f i)) (ended_page false) (held_page p.pages (Block f i)) (held_page mid (Block f i)) ended none)

comes_at : (n : Name) (who : ℕ) (touched : Bool) (p q : PoolState) → IsNodeName n → NodeComesOf who touched (held_node p.nodes n) (held_node q.nodes n) → ComesAt n who touched p q
comes_at (Entry i) who touched p q is c = c
comes_at (Part k l i) who touched p q is c = c
comes_at (Block k i) who touched p q is c = absurd is

-- ---- a node

module _ (who : ℕ) (n : Name) (x : Out) (parent : Option Name) (node : Node) (p : PoolState) (mid new : Resident) (d : DesksState)
    (is : IsNodeName n) (b : NodeBrings who n x.touched parent node p.nodes mid new) where
  abbrev q : PoolState
  q = record { nodes = new; pages = p.pages; desks = d }

  pub node_keeps : ((m : Name) → same_name n m ≡ false → has_room new m ≡ has_room p.nodes m) → EndsFor who true n p.desks d → ((m : Name) → is_doomed d m ≡ is_doomed p.desks m) → Keeps who n x.touched p q
  node_keeps places ends doomed = record {
    apart = record {
      nodes = nodes_else who n x.touched parent node p.nodes mid new b;
      pages = λ m ne. refl;
      node_places = places;
      page_places = λ m ne. refl;
      out = λ m ne. ends.out m ∙ ap (λ s. cond s None (out_of p.desks m)) ne;
      kept = λ w m ne. ends.kept w m ∙ kept_else who w n m (keeps_for p.desks w m) ne;
      doomed = λ m ne. doomed m;
      asked = ends.asked;
    };
    comes = comes_at n who x.touched p q is (node_comes who n x.touched parent node p.nodes mid new b);
    ends = ends;
    doomed = doomed n;
  }

  pub node_come : (o : seen.Out) → out_of p.desks n ≡ Some (who, x) → IsAbsentIn p n → out_seen [] p.desks n ≡ Some o → o.touched ≡ false → NodeComes p q who parent n node
  node_come o at absent e off = new_comes who n x.touched parent node p.nodes mid new b (absent_node p n is absent) (sym (ap (λ (z : seen.Out). z.touched) (seen_at [] p.desks n who x o at e)) ∙ off)

  pub node_stays : (o : seen.Out) → out_of p.desks n ≡ Some (who, x) → out_seen [] p.desks n ≡ Some o → (IsAbsentIn p n → o.touched ≡ true) → HoldsAlike p q
  node_stays o at e on = record { nodes = λ m. by m (same_name n m) refl; pages = λ m. pages_alike_self (held_page p.pages m) } where
    by : (m : Name) (s : Bool) → same_name n m ≡ s → AreAlike (held_node p.nodes m) (held_node new m)
    by m true t = subst (λ k. AreAlike (held_node p.nodes k) (held_node new k)) (same_name-true n m t)
        (comes_alike who x.touched (held_node p.nodes n) (held_node new n) (node_comes who n x.touched parent node p.nodes mid new b)
        (λ none. sym (ap (λ (z : seen.Out). z.touched) (seen_at [] p.desks n who x o at e)) ∙ on (absent_as p n is none)))
    by m false t = same_alike (held_node p.nodes m) (held_node new m) (nodes_else who n x.touched parent node p.nodes mid new b m t)

-- ---- a page

module _ (who : ℕ) (f : FileId) (i : ℕ) (x : Out) (version : ℕ) (page : List ℕ) (p : PoolState) (mid new : Paged) (d : DesksState)
    (b : PageBrings who (Block f i) x.touched version page p.pages mid new) where
  abbrev k : Name
  k = Block f i

  abbrev r : PoolState
  r = record { nodes = p.nodes; pages = new; desks = d }

  pub page_keeps : ((m : Name) → same_name k m ≡ false → has_page_room new m ≡ has_page_room p.pages m) → EndsFor who true k p.desks d → ((m : Name) → is_doomed d m ≡ is_doomed p.desks m) → Keeps who k x.touched p r
  page_keeps places ends doomed = record {
    apart = record {
      nodes = λ m ne. same_as (held_node p.nodes m);
      pages = pages_else who k x.touched version page p.pages mid new b;
      node_places = λ m ne. refl;
      page_places = places;
      out = λ m ne. ends.out m ∙ ap (λ s. cond s None (out_of p.desks m)) ne;
      kept = λ w m ne. ends.kept w m ∙ kept_else who w k m (keeps_for p.desks w m) ne;
      doomed = λ m ne. doomed m;
      asked = ends.asked;
    };
    comes = page_comes who k x.touched version page p.pages mid new b;
    ends = ends;
    doomed = doomed k;
  }

  pub page_come : (o : seen.Out) → out_of p.desks k ≡ Some (who, x) → IsAbsentIn p k → out_seen [] p.desks k ≡ Some o → o.touched ≡ false → PageComes p r who k version page
  page_come o at absent e off = new_page who k x.touched version page p.pages mid new b absent (sym (ap (λ (z : seen.Out). z.touched) (seen_at [] p.desks k who x o at e)) ∙ off)

  pub page_stays : (o : seen.Out) → out_of p.desks k ≡ Some (who, x) → out_seen [] p.desks k ≡ Some o → (IsAbsentIn p k → o.touched ≡ true) → HoldsAlike p r
  page_stays o at e on = record { nodes = λ m. alike_self (held_node p.nodes m); pages = λ m. by m (same_name k m) refl } where
    by : (m : Name) (s : Bool) → same_name k m ≡ s → ArePagesAlike (held_page p.pages m) (held_page new m)
    by m true t = subst (λ z. ArePagesAlike (held_page p.pages z) (held_page new z)) (same_name-true k m t)
        (page_alike who x.touched (held_page p.pages k) (held_page new k) (page_comes who k x.touched version page p.pages mid new b)
        (λ none. sym (ap (λ (z : seen.Out). z.touched) (seen_at [] p.desks k who x o at e)) ∙ on none))
    by m false t = subst (ArePagesAlike (held_page p.pages m)) (sym (pages_else who k x.touched version page p.pages mid new b m t)) (pages_alike_self (held_page p.pages m))
