-- Two pools between which something begins for one name at a desk, and in cache and blocks where it is held.
use Rattle.std.proofs.Common.{◌≡◌, ℕ, List, Bool, true, false, cond, Option, Some, None, refl, sym, ◌∙◌, ap, subst}
use Rattle.std.specs.Option.{option_map}
use Rattle.std.proofs.lemmas.Option.{some_pair_parts}
use Rattle.iris_blocks.specs.declared.held.PageHeld.{PageHeld}
use Rattle.iris_blocks.specs.Held.{begun_page}
use Rattle.iris_blocks.specs.Paged.{Paged, has_page_room, held_page}
use Rattle.iris_cache.specs.declared.held.Held.{Held}
use Rattle.iris_cache.specs.Held.{begun_node}
use Rattle.iris_cache.specs.Resident.{Resident, has_room, held_node, map_if}
use Rattle.iris_desk.specs.AtDesks.{asked_by, is_doomed, out_of}
use Rattle.iris_desk.specs.declared.out.Doing.TheVariants.{Get}
use Rattle.iris_desk.specs.declared.out.Out.{Out}
use Rattle.iris_desk.specs.Laws.{BeginsFor}
use Rattle.iris_invariant.specs.Cells.{Tied, TiedPage}
use Rattle.iris_invariant.specs.Events.{Began}
use Rattle.iris_invariant.proofs.Cache.{tied_new}
use Rattle.iris_invariant.proofs.Pages.{pages_stay_tied}
use Rattle.iris_name.specs.declared.name.Name.{Name}
use Rattle.iris_name.specs.declared.name.Name.TheVariants.{Entry, Part, Block}
use Rattle.iris_name.specs.Names.{same_name}
use Rattle.iris_name.specs.NameLaws.{same_name-refl, same_name-true}
use Rattle.iris_pool.specs.Changes.{HoldsAlike}
use Rattle.iris_pool.specs.Parts.{BlockChanges, NodeChanges, is_block_at, is_node_at}
use Rattle.iris_pool.specs.Pool.{PoolState, IsAbsentIn, has_place}
use Rattle.iris_pool.specs.View.{IsPool, out_by, out_seen, pool_view}
use Rattle.iris_pool.proofs.Apart.{Apart, IsPoolAt, pool_moves}
use Rattle.iris_pool.proofs.ByName.{alike_if, begun_page_quiet, begun_quiet, changes_at, node_apart, page_apart, pages_alike_if}
use Rattle.iris_pool.proofs.Happenings.{Happens, began}
use Rattle.iris_pool.proofs.OutSeen.{asked_for, seen_out}
use Rattle.iris_pool.proofs.SameNodes.{same_of}

pub record Begun (who : ℕ) (o : Out) (p q : PoolState) : Type 0 where
  pub nodes : NodeChanges p.nodes q.nodes o.name (begun_node who)
  pub pages : BlockChanges p.pages q.pages o.name (begun_page who)
  pub node_places : (m : Name) → same_name o.name m ≡ false → has_room q.nodes m ≡ has_room p.nodes m
  pub page_places : (m : Name) → same_name o.name m ≡ false → has_page_room q.pages m ≡ has_page_room p.pages m
  pub begins : BeginsFor who o p.desks q.desks
  pub doomed : (m : Name) → is_doomed q.desks m ≡ is_doomed p.desks m
  -- a get has a place for what it brings
  pub place : o.doing ≡ Get → has_place q o.name ≡ true

-- where nothing is held, nothing changes
none_if : {A : Type 0} (b : Bool) (f : A → A) (g : Option A) → (b ≡ true → g ≡ None) → g ≡ map_if b f g
none_if false f g e = refl
none_if true f g e = e refl ∙ sym (ap (option_map f) (e refl))

pub absent_nodes : (p : PoolState) (d : Resident) (n : Name) (f : Held → Held) → IsAbsentIn p n → ((m : Name) → held_node d m ≡ held_node p.nodes m) → NodeChanges p.nodes d n f
absent_nodes p d n f absent same = λ m. same m ∙ none_if (is_node_at n m) f (held_node p.nodes m) (none m) where
  none : (m : Name) → is_node_at n m ≡ true → held_node p.nodes m ≡ None
  none (Entry i) e = subst (IsAbsentIn p) (same_name-true n (Entry i) e) absent
  none (Part k l i) e = subst (IsAbsentIn p) (same_name-true n (Part k l i) e) absent
  none (Block k i) e = absurd (cc)

pub absent_pages : (p : PoolState) (d : Paged) (n : Name) (r : PageHeld → PageHeld) → IsAbsentIn p n → ((m : Name) → held_page d m ≡ held_page p.pages m) → BlockChanges p.pages d n r
absent_pages p d n r absent same = λ m. same m ∙ none_if (is_block_at n m) r (held_page p.pages m) (none m) where
  none : (m : Name) → is_block_at n m ≡ true → held_page p.pages m ≡ None
  none (Entry i) e = absurd (cc)
  none (Part k l i) e = absurd (cc)
  none (Block k i) e = subst (IsAbsentIn p) (same_name-true n (Block k i) e) absent

module _ (who : ℕ) (o : Out) (p q : PoolState) (e : Begun who o p q) where
  abbrev n : Name
  n = o.name

  begun_apart : Apart n p q
  begun_apart = record {
    nodes = λ m ne. same_of (held_node p.nodes m) (held_node q.nodes m) (node_apart n m (begun_node who) (held_node p.nodes m) (held_node q.nodes m) ne (e.nodes m));
    pages = λ m ne. page_apart n m (begun_page who) (held_page p.pages m) (held_page q.pages m) ne (e.pages m);
    node_places = e.node_places;
    page_places = e.page_places;
    out = λ m ne. e.begins.out m ∙ ap (λ b. cond b (Some (who, o)) (out_of p.desks m)) ne;
    kept = λ w m ne. e.begins.kept w m;
    doomed = λ m ne. e.doomed m;
    asked = e.begins.asked;
  }

  begun_out : out_of q.desks n ≡ Some (who, o)
  begun_out = e.begins.out n ∙ ap (λ b. cond b (Some (who, o)) (out_of p.desks n)) (same_name-refl n)

  begun_happens : Happens n (begun_node who) (begun_page who) p q
  begun_happens = changes_at n (begun_node who) (begun_page who) (held_node p.nodes n) (held_node q.nodes n) (held_page p.pages n) (held_page q.pages n) (e.nodes n) (e.pages n)

  pub begun_event : (key : List ℕ) → Began n (asked_for key (asked_by p.desks who) (who, o)) (pool_view key p) (pool_view key q)
  begun_event key = began key n p q begun_apart (λ w. e.begins.kept w n) (begun_node who) (begun_page who) (asked_for key (asked_by p.desks who) (who, o))
      (begun_quiet who) (begun_page_quiet who) (λ h. refl, λ h. refl) begun_happens (e.doomed n)
      (seen_out key q.desks n who o begun_out ∙ ap (λ r. Some (asked_for key r (who, o))) (e.begins.asked who))

  pub begun_pool : IsPool p → IsPool q
  begun_pool pool = pool_moves n p q pool begun_apart (here n begun_out begun_happens e.place) where
    node : (g h : Option Held) → h ≡ option_map (begun_node who) g → (a : Held) (w : ℕ) → h ≡ Some a → a.out ≡ Some w → who ≡ w
    node None h is a w held on = absurd (let x : None ≡ Some a = sym is ∙ held in cc)
    node (Some g) h is a w held on =
        let x : Some (begun_node who g) ≡ Some a = sym is ∙ held in
        let y : begun_node who g ≡ a = cc in
        let z : Some who ≡ Some w = ap (λ (z : Held). z.out) y ∙ on in cc

    page : (g h : Option PageHeld) → h ≡ option_map (begun_page who) g → (a : PageHeld) (w : ℕ) → h ≡ Some a → a.out ≡ Some w → who ≡ w
    page None h is a w held on = absurd (let x : None ≡ Some a = sym is ∙ held in cc)
    page (Some g) h is a w held on =
        let x : Some (begun_page who g) ≡ Some a = sym is ∙ held in
        let y : begun_page who g ≡ a = cc in
        let z : Some who ≡ Some w = ap (λ (z : PageHeld). z.out) y ∙ on in cc

    tied : (key : List ℕ) (m : Name) (g : Option Held) → held_node q.nodes m ≡ option_map (begun_node who) g → out_of q.desks m ≡ Some (who, o) → Tied (held_node q.nodes m) (out_seen key q.desks m)
    tied key m g is out = subst (λ z. Tied z (out_seen key q.desks m)) (sym is) (subst (λ z. Tied (option_map (begun_node who) g) (out_by key q.desks z)) (sym out) (tied_new who g (asked_for key (asked_by q.desks who) (who, o))))

    tied_page : (key : List ℕ) (m : Name) (g : Option PageHeld) → held_page q.pages m ≡ option_map (begun_page who) g → out_of q.desks m ≡ Some (who, o) → TiedPage (held_page q.pages m) (out_seen key q.desks m)
    tied_page key m g is out = subst (λ z. TiedPage z (out_seen key q.desks m)) (sym is) (subst (λ z. TiedPage (option_map (begun_page who) g) (out_by key q.desks z)) (sym out) (pages_stay_tied.begins who g (asked_for key (asked_by q.desks who) (who, o))))

    at : (m : Name) (w : ℕ) → out_of q.desks m ≡ Some (who, o) → who ≡ w → out_of q.desks m ≡ Some (w, o)
    at m w out is = subst (λ v. out_of q.desks m ≡ Some (v, o)) is out

    placed : (m : Name) (w : ℕ) (x : Out) → (o.doing ≡ Get → has_place q m ≡ true) → out_of q.desks m ≡ Some (who, o) → out_of q.desks m ≡ Some (w, x) → x.doing ≡ Get → has_place q m ≡ true
    placed m w x place out is get = let y : Some (who, o) ≡ Some (w, x) = sym out ∙ is in place (ap (λ (u : Out). u.doing) (some_pair_parts who w o x y).1 ∙ get)

    here : (m : Name) → out_of q.desks m ≡ Some (who, o) → Happens m (begun_node who) (begun_page who) p q → (o.doing ≡ Get → has_place q m ≡ true) → IsPoolAt q m
    here (Entry i) out h place = record {
      nodes = λ key is. tied key (Entry i) (held_node p.nodes (Entry i)) h.0 out;
      pages = λ key is. absurd is;
      known = λ a w is held on. (o, at (Entry i) w out (node (held_node p.nodes (Entry i)) (held_node q.nodes (Entry i)) h.0 a w held on));
      known_page = λ a w is. absurd is;
      places = λ w x is get untouched absent. placed (Entry i) w x place out is get;
    }
    here (Part k l i) out h place = record {
      nodes = λ key is. tied key (Part k l i) (held_node p.nodes (Part k l i)) h.0 out;
      pages = λ key is. absurd is;
      known = λ a w is held on. (o, at (Part k l i) w out (node (held_node p.nodes (Part k l i)) (held_node q.nodes (Part k l i)) h.0 a w held on));
      known_page = λ a w is. absurd is;
      places = λ w x is get untouched absent. placed (Part k l i) w x place out is get;
    }
    here (Block k i) out h place = record {
      nodes = λ key is. absurd is;
      pages = λ key is. tied_page key (Block k i) (held_page p.pages (Block k i)) h.1 out;
      known = λ a w is. absurd is;
      known_page = λ a w is held on. (o, at (Block k i) w out (page (held_page p.pages (Block k i)) (held_page q.pages (Block k i)) h.1 a w held on));
      places = λ w x is get untouched absent. placed (Block k i) w x place out is get;
    }

  pub begun_alike : HoldsAlike p q
  begun_alike = record {
    nodes = λ m. alike_if (is_node_at n m) (begun_node who) (held_node p.nodes m) (held_node q.nodes m) (begun_quiet who).alike (e.nodes m);
    pages = λ m. pages_alike_if (is_block_at n m) (begun_page who) (held_page p.pages m) (held_page q.pages m) (begun_page_quiet who).alike (e.pages m);
  }
