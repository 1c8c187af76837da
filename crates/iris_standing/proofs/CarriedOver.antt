-- What agreed with a history agrees with another that has the same table, once the invariant's parts do.
use Rattle.std.proofs.Common.{◌≡◌, ◌⊎◌, inl, inr, ℕ, List, [], ◌∷◌, true, false, Option, Some, None, refl, sym, ◌∙◌, ap, subst}
use Rattle.std.specs.Map.{lookup}
use Rattle.iris_blocks.specs.declared.held.PageHeld.{PageHeld}
use Rattle.iris_blocks.specs.Paged.{Paged, held_page, Shows}
use Rattle.iris_cache.proofs.Keeping.{alike-keeps}
use Rattle.iris_cache.specs.declared.held.Held.{Held}
use Rattle.iris_cache.specs.Laws.{AreAlike}
use Rattle.iris_cache.specs.Pictures.{Pictures, IsHashOf, IsSettled}
use Rattle.iris_cache.specs.Resident.{Resident, held_node}
use Rattle.iris_file_rules.specs.FileTable.{files}
use Rattle.iris_file_rules.specs.Rules.{file_rules, files_after, shown_after}
use Rattle.iris_history.specs.Crowding.{AreSeveral}
use Rattle.iris_invariant.specs.Agrees.{Agrees, View}
use Rattle.iris_invariant.specs.Bounds.{AtMost, MarksNoMore}
use Rattle.iris_invariant.specs.Events.{Elsewhere, SamePins}
use Rattle.iris_invariant.specs.Evidence.{Evidence}
use Rattle.iris_invariant.specs.Knowledge.{IsMarkedBlock}
use Rattle.iris_invariant.specs.ParentLaws.{leads}
use Rattle.iris_invariant.specs.ParentsResident.{ParentsResident}
use Rattle.iris_invariant.proofs.Events.{which}
use Rattle.iris_name.specs.declared.name.Name.{Name}
use Rattle.iris_name.specs.declared.name.Name.TheVariants as name
use Rattle.iris_name.specs.History.{Past}
use Rattle.iris_name.specs.Names.{same_name}
use Rattle.iris_node.specs.Trees.{Shown}
use Rattle.iris_node.specs.Unfolded.{Stored, id_of}
use Rattle.iris_pool.specs.Changes.{ArePagesAlike, HoldsAlike}
use Rattle.iris_pool.specs.Pool.{PoolState}
use Rattle.iris_records.specs.Shown.{shown}
use Rattle.iris_requests.specs.Planned.{IsShownBy}
use Rattle.iris_standing.specs.Standing.{Standing, AgreesWith, leads_to, standing_view, with_pool}

-- every cached node is settled
abbrev pub AreSettled : Resident → Type 0
AreSettled c = (n : Name) (h : Held) → held_node c n ≡ Some h → h.settled ≡ true

settled_by : (o : Option Held) → ((h : Held) → o ≡ Some h → h.settled ≡ true) → IsSettled o
settled_by None f = tt
settled_by (Some h) f = f h refl

-- where every cached node is settled, each name is absent or settled
pub each_settled : (opened : ℕ) (past : Past) (s : Standing) → AgreesWith opened past s → (n : Name) → IsSettled (held_node s.pool.nodes n)
each_settled opened past s h n = settled_by (held_node s.pool.nodes n) (h.settled n)

-- so the hash that is kept of each root is its true one
pub visible_is : (opened : ℕ) (past : Past) (s : Standing) → AgreesWith opened past s → IsHashOf (shown_after s.keys past (name.Entry (id_of 0))) s.visible
visible_is opened past s h = h.visible (each_settled opened past s h (name.Entry (id_of 0)))

pub trash_is : (opened : ℕ) (past : Past) (s : Standing) → AgreesWith opened past s → IsHashOf (shown_after s.keys past (name.Entry (id_of 1))) s.trash
trash_is opened past s h = h.trash (each_settled opened past s h (name.Entry (id_of 1)))

-- ---- how many are marked

pub each_several : (P Q : Name → Type 0) → ((n : Name) → P n → Q n) → (ns : List Name) → AreSeveral P ns → AreSeveral Q ns
each_several P Q f [] h = tt
each_several P Q f (n ∷ ns) h = (f n h.0, h.1, each_several P Q f ns h.2)

still_at_most : (count : ℕ) (v v' : View) → MarksNoMore v v' → AtMost count (IsMarkedBlock v) → AtMost count (IsMarkedBlock v')
still_at_most count v v' fewer bound ns h = bound ns (each_several (IsMarkedBlock v') (IsMarkedBlock v) (λ n m. (m.0, fewer n m.1)) ns h)

-- ---- what is kept

-- where one name's pins stay, and all elsewhere, the same is kept
kept_alike : (n : Name) (v v' : View) → Elsewhere n v v' → SamePins n v v' → (w : ℕ) (q : Name) → v'.kept w q ≡ v.kept w q
kept_alike n v v' rest pins w q = by (which n q) where
  by : (n ≡ q) ⊎ (same_name n q ≡ false) → v'.kept w q ≡ v.kept w q
  by (inl e) = subst (λ z. v'.kept w z ≡ v.kept w z) e (pins.kept w)
  by (inr d) = rest.kept w q d

pub kept_before : (n : Name) (v v' : View) → Elsewhere n v v' → SamePins n v v' → (w : ℕ) (q : Name) → v'.kept w q ≡ true → v.kept w q ≡ true
kept_before n v v' rest pins w q kept = sym (kept_alike n v v' rest pins w q) ∙ kept

-- ---- what is held

alike_settled : (o v : Option Held) → AreAlike o v → ((h : Held) → o ≡ Some h → h.settled ≡ true) → (g : Held) → v ≡ Some g → g.settled ≡ true
alike_settled None None a f g e = absurd (cc)
alike_settled None (Some h) a f g e = absurd a
alike_settled (Some h) None a f g e = absurd a
alike_settled (Some h) (Some k) a f g e = let z : k ≡ g = cc in ap (λ (x : Held). x.settled) (sym z) ∙ (a.1.1 ∙ f h refl)

pub settled_alike : (p q : PoolState) → HoldsAlike p q → AreSettled p.nodes → AreSettled q.nodes
settled_alike p q alike all n h e = alike_settled (held_node p.nodes n) (held_node q.nodes n) (alike.nodes n) (all n) h e

shown_alike : (t : Shown) (n : Name) (o v : Option PageHeld) → ArePagesAlike o v → ((h : PageHeld) → o ≡ Some h → t n ≡ Some (Stored h.version h.page)) → (g : PageHeld) → v ≡ Some g → t n ≡ Some (Stored g.version g.page)
shown_alike t n None None a f g e = absurd (cc)
shown_alike t n None (Some h) a f g e = absurd a
shown_alike t n (Some h) None a f g e = absurd a
shown_alike t n (Some h) (Some k) a f g e =
    let z : k ≡ g = cc in
    let v : h.version ≡ g.version = sym a.0 ∙ ap (λ (x : PageHeld). x.version) z in
    let w : h.page ≡ g.page = sym a.1 ∙ ap (λ (x : PageHeld). x.page) z in
    f h refl ∙ (ap (λ x. Some (Stored x h.page)) v ∙ ap (λ x. Some (Stored g.version x)) w)

-- resident blocks that are alike show the same
pub alike_shows : (t : Shown) (b e : Paged) → Shows t b → ((n : Name) → ArePagesAlike (held_page b n) (held_page e n)) → Shows t e
alike_shows t b e shows alike n h at = shown_alike t n (held_page b n) (held_page e n) (alike n) (shows n) h at

pub shows_alike : (t : Shown) (p q : PoolState) → HoldsAlike p q → Shows t p.pages → Shows t q.pages
shows_alike t p q alike shows = alike_shows t p.pages q.pages shows alike.pages

alike_self : (o : Option Held) → AreAlike o o
alike_self None = tt
alike_self (Some h) = (refl, (refl, refl))

page_alike_self : (o : Option PageHeld) → ArePagesAlike o o
page_alike_self None = tt
page_alike_self (Some h) = (refl, refl)

pub same_nodes : (p q : PoolState) → q.nodes.nodes ≡ p.nodes.nodes → (n : Name) → AreAlike (held_node p.nodes n) (held_node q.nodes n)
same_nodes p q e n = subst (λ l. AreAlike (held_node p.nodes n) (lookup (same_name n) l)) (sym e) (alike_self (held_node p.nodes n))

same_pages : (p q : PoolState) → q.pages.pages ≡ p.pages.pages → (n : Name) → ArePagesAlike (held_page p.pages n) (held_page q.pages n)
same_pages p q e n = subst (λ l. ArePagesAlike (held_page p.pages n) (lookup (same_name n) l)) (sym e) (page_alike_self (held_page p.pages n))

-- where the same is listed, the same is held
pub lists_alike : (p q : PoolState) → q.nodes.nodes ≡ p.nodes.nodes → q.pages.pages ≡ p.pages.pages → HoldsAlike p q
lists_alike p q nodes pages = record { nodes = same_nodes p q nodes; pages = same_pages p q pages }

pub same_holds : (p q : PoolState) → q.nodes ≡ p.nodes → q.pages ≡ p.pages → HoldsAlike p q
same_holds p q nodes pages = lists_alike p q (ap (λ (c : Resident). c.nodes) nodes) (ap (λ (b : Paged). b.pages) pages)

-- ---- all of it

-- A pool that shows the table of another history in which the same holds, and of which the invariant's parts hold.
pub record CarriesOver (opened : ℕ) (past past' : Past) (s : Standing) (p : PoolState) : Type 0 where
  pub table : files_after s.keys past' ≡ files_after s.keys past
  pub pictures : Pictures (shown_after s.keys past) p.nodes
  pub shows : Shows (shown_after s.keys past) p.pages
  pub settled : AreSettled p.nodes
  pub agrees : Agrees (files s.keys) (file_rules s.keys) opened past' (standing_view (with_pool p s))
  pub parents : ParentsResident (files s.keys) (leads leads_to) past' (standing_view (with_pool p s))
  pub evidence : Evidence (files s.keys) past' (standing_view (with_pool p s))
  pub fewer : MarksNoMore (standing_view s) (standing_view (with_pool p s))

pub carried_over : (opened : ℕ) (past past' : Past) (s : Standing) (p : PoolState) → AgreesWith opened past s → CarriesOver opened past past' s p → AgreesWith opened past' (with_pool p s)
carried_over opened past past' s p h c = record {
  agrees = c.agrees;
  shows = subst (λ t. IsShownBy s.keys.order t p.nodes p.pages s.counters) (sym c.table) (record { sound = h.shows.sound; pictures = c.pictures; shows = c.shows; next = h.shows.next; age = h.shows.age });
  visible = λ _. subst (λ t. IsHashOf (shown s.keys.order t (name.Entry (id_of 0))) s.visible) (sym c.table) (visible_is opened past s h);
  trash = λ _. subst (λ t. IsHashOf (shown s.keys.order t (name.Entry (id_of 1))) s.trash) (sym c.table) (trash_is opened past s h);
  settled = c.settled;
  parents = c.parents;
  evidence = c.evidence;
  bound = still_at_most 512 (standing_view s) (standing_view (with_pool p s)) c.fewer h.bound;
}

-- A pool that holds the same, and of which the invariant's parts hold.
pub record CarriesAlike (opened : ℕ) (past past' : Past) (s : Standing) (p : PoolState) : Type 0 where
  pub table : files_after s.keys past' ≡ files_after s.keys past
  pub alike : HoldsAlike s.pool p
  pub agrees : Agrees (files s.keys) (file_rules s.keys) opened past' (standing_view (with_pool p s))
  pub parents : ParentsResident (files s.keys) (leads leads_to) past' (standing_view (with_pool p s))
  pub evidence : Evidence (files s.keys) past' (standing_view (with_pool p s))
  pub fewer : MarksNoMore (standing_view s) (standing_view (with_pool p s))

pub carried_alike : (opened : ℕ) (past past' : Past) (s : Standing) (p : PoolState) → AgreesWith opened past s → CarriesAlike opened past past' s p → AgreesWith opened past' (with_pool p s)
carried_alike opened past past' s p h c = carried_over opened past past' s p h (record {
  table = c.table;
  pictures = alike-keeps (shown_after s.keys past) s.pool.nodes p.nodes h.shows.pictures c.alike.nodes;
  shows = shows_alike (shown_after s.keys past) s.pool p c.alike h.shows.shows;
  settled = settled_alike s.pool p c.alike h.settled;
  agrees = c.agrees;
  parents = c.parents;
  evidence = c.evidence;
  fewer = c.fewer;
})
