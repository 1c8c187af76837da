-- Two pools between which a caller asks, or its call is entered.
use Rattle.std.proofs.Common.{◌≡◌, ◌≢◌, ◌≤◌, ◌&&◌, ◌==◌, ℕ, List, [], Bool, true, false, cond, not, Option, Some, None, refl, sym, ◌∙◌, ap, eq-eqb}
use Rattle.std.specs.Option.{option_map_or}
use Rattle.std.specs.List.{list_any}
use Rattle.std.proofs.lemmas.Bool.{eqb-true}
use Rattle.iris_blocks.specs.declared.held.PageHeld.{PageHeld}
use Rattle.iris_blocks.specs.Held.{unpinned_page}
use Rattle.iris_blocks.specs.Paged.{held_page}
use Rattle.iris_cache.specs.declared.held.Held.{Held}
use Rattle.iris_cache.specs.Held.{unpinned_node}
use Rattle.iris_cache.specs.Resident.{held_node, map_if}
use Rattle.iris_desk.specs.AtDesk.{DeskState, keeps_name}
use Rattle.iris_desk.specs.AtDesks.{DesksState, asked_by, desk_at, is_doomed, keeps_for}
use Rattle.iris_desk.specs.Laws.{AsksBy, EntersBy}
use Rattle.iris_history.specs.Kept.{is_block}
use Rattle.iris_invariant.specs.Agrees as seen
use Rattle.iris_invariant.specs.Cells.{cell_at, cell_of, cell_of_page}
use Rattle.iris_invariant.specs.Events.{Asked}
use Rattle.iris_invariant.proofs.Pins.{unpinned_is}
use Rattle.iris_name.specs.declared.name.Name.{Name}
use Rattle.iris_name.specs.declared.name.Name.TheVariants.{Entry, Part, Block}
use Rattle.iris_name.specs.declared.request.Request.{Request}
use Rattle.iris_name.specs.Names.{same_name}
use Rattle.iris_pool.specs.Changes.{Entered, HoldsAlike, IsIdle}
use Rattle.iris_pool.specs.Pool.{PoolState}
use Rattle.iris_pool.specs.View.{IsPool, out_seen, is_pinned_for, pinned_node_in, pinned_page_in, pool_view}
use Rattle.iris_pool.proofs.Apart.{cell_same, each_at, kept_at}
use Rattle.iris_pool.proofs.ByName.{alike_if, pages_alike_if}
use Rattle.iris_pool.proofs.OutSeen.{idle_none, idle_seen, seen_idle}
use Rattle.iris_pool.proofs.SameNodes.{page_ties_if, same_as, ties_if}

-- of one caller alone
here_alone : {A : Type 0} (w who : ℕ) (a b : A) → w ≢ who → cond (w == who) a b ≡ b
here_alone w who a b ne = by (w == who) refl where
  by : (z : Bool) → (w == who) ≡ z → cond z a b ≡ b
  by true e = absurd (ne (eqb-true w who e))
  by false e = refl

pub here_it : {A : Type 0} (who : ℕ) (a b : A) → cond (who == who) a b ≡ a
here_it who a b = ap (λ z. cond z a b) (eq-eqb who who refl)

-- ---- a caller asks

module _ (who : ℕ) (r : Request) (p : PoolState) (d : DesksState) (idle : IsIdle p.desks who) (a : AsksBy who r p.desks d) where
  abbrev asking : PoolState
  asking = record { nodes = p.nodes; pages = p.pages; desks = d }

  abbrev others : (w : ℕ) → w ≢ who → asked_by d w ≡ asked_by p.desks w
  others w ne = a.asked w ∙ here_alone w who (Some r) (asked_by p.desks w) ne

  asked_seen : (key : List ℕ) (n : Name) → out_seen key d n ≡ out_seen key p.desks n
  asked_seen key n = seen_idle key p.desks d n who (a.out n) (idle_none p.desks who n idle) others

  pub asked_pool : IsPool p → IsPool asking
  asked_pool pool = each_at asking (λ n. kept_at p asking n pool (ties_if false (λ h. h) (held_node p.nodes n) (held_node p.nodes n) (λ h. (refl, refl)) refl) (page_ties_if false (λ h. h) (held_page p.pages n) (held_page p.pages n) (λ h. (refl, refl)) refl) refl refl (a.out n) (λ key. asked_seen key n))

  pub asked_event : (key : List ℕ) → ((n : Name) → is_doomed d n ≡ is_doomed p.desks n) → Asked who (pool_view key p) (pool_view key asking)
  asked_event key doomed = record {
    idle = λ n o at. idle_seen key p.desks who idle n o (sym (out_at n) ∙ at);
    cell = λ n. cell_same n (held_node p.nodes n) (held_node p.nodes n) (held_page p.pages n) (held_page p.pages n) (is_doomed p.desks n) (is_doomed d n) (out_seen key p.desks n) (out_seen key d n) (same_as (held_node p.nodes n)) refl (doomed n) (asked_seen key n);
    asked = others;
    kept = a.kept;
    pinned = λ w n. pinned n w;
  } where
    out_at : (n : Name) → ((pool_view key p).cell n).out ≡ out_seen key p.desks n
    out_at (Entry i) = refl
    out_at (Part f l i) = refl
    out_at (Block f i) = refl

    pinned : (n : Name) (w : ℕ) → is_pinned_for asking w n ≡ is_pinned_for p w n
    pinned (Entry i) w = refl
    pinned (Part f l i) w = refl
    pinned (Block f i) w = refl

-- ---- a call is entered

-- what is kept for a caller, and unpinned for it
abbrev pub names_on_desk : Option DeskState → List Name
names_on_desk None = []
names_on_desk (Some desk) = desk.kept

unpinned_node_at : (who w : ℕ) (b : Bool) (g h : Option Held) → who ≤ 16 → w ≤ 16 → w ≢ who → h ≡ map_if b (unpinned_node who) g → pinned_node_in w h ≡ pinned_node_in w g
unpinned_node_at who w b g h lw le ne e = ap (pinned_node_in w) e ∙ by b g where
  by : (b : Bool) (g : Option Held) → pinned_node_in w (map_if b (unpinned_node who) g) ≡ pinned_node_in w g
  by false g = refl
  by true None = refl
  by true (Some g) = unpinned_is who w g.pins lw le ∙ here_alone w who false (pinned_node_in w (Some g)) ne

unpinned_page_at : (who w : ℕ) (b : Bool) (g h : Option PageHeld) → who ≤ 16 → w ≤ 16 → w ≢ who → h ≡ map_if b (unpinned_page who) g → pinned_page_in w h ≡ pinned_page_in w g
unpinned_page_at who w b g h lw le ne e = ap (pinned_page_in w) e ∙ by b g where
  by : (b : Bool) (g : Option PageHeld) → pinned_page_in w (map_if b (unpinned_page who) g) ≡ pinned_page_in w g
  by false g = refl
  by true None = refl
  by true (Some g) = unpinned_is who w g.pins lw le ∙ here_alone w who false (pinned_page_in w (Some g)) ne

freed_node : (who : ℕ) (b : Bool) (g h : Option Held) → who ≤ 16 → b ≡ true → h ≡ map_if b (unpinned_node who) g → pinned_node_in who h ≡ false
freed_node who b g h lw on e = ap (pinned_node_in who) (e ∙ ap (λ z. map_if z (unpinned_node who) g) on) ∙ by g where
  by : (g : Option Held) → pinned_node_in who (map_if true (unpinned_node who) g) ≡ false
  by None = refl
  by (Some g) = unpinned_is who who g.pins lw lw ∙ here_it who false (pinned_node_in who (Some g))

freed_page : (who : ℕ) (b : Bool) (g h : Option PageHeld) → who ≤ 16 → b ≡ true → h ≡ map_if b (unpinned_page who) g → pinned_page_in who h ≡ false
freed_page who b g h lw on e = ap (pinned_page_in who) (e ∙ ap (λ z. map_if z (unpinned_page who) g) on) ∙ by g where
  by : (g : Option PageHeld) → pinned_page_in who (map_if true (unpinned_page who) g) ≡ false
  by None = refl
  by (Some g) = unpinned_is who who g.pins lw lw ∙ here_it who false (pinned_page_in who (Some g))

unpinned_cell : (who : ℕ) (b d : Bool) (o : Option seen.Out) (g h : Option Held) → h ≡ map_if b (unpinned_node who) g → cell_of h d o ≡ cell_of g d o
unpinned_cell who b d o g h e = ap (λ z. cell_of z d o) e ∙ by b g where
  by : (b : Bool) (g : Option Held) → cell_of (map_if b (unpinned_node who) g) d o ≡ cell_of g d o
  by false g = refl
  by true None = refl
  by true (Some g) = refl

unpinned_page_cell : (who : ℕ) (b d : Bool) (o : Option seen.Out) (g h : Option PageHeld) → h ≡ map_if b (unpinned_page who) g → cell_of_page h d o ≡ cell_of_page g d o
unpinned_page_cell who b d o g h e = ap (λ z. cell_of_page z d o) e ∙ by b g where
  by : (b : Bool) (g : Option PageHeld) → cell_of_page (map_if b (unpinned_page who) g) d o ≡ cell_of_page g d o
  by false g = refl
  by true None = refl
  by true (Some g) = refl

pub record Enters (who : ℕ) (names : List Name) (p q : PoolState) : Type 0 where
  pub caller : who ≤ 16
  pub kept : names_on_desk (desk_at p.desks who) ≡ names
  pub nodes : (n : Name) → held_node q.nodes n ≡ map_if (not (is_block n) && list_any (same_name n) names) (unpinned_node who) (held_node p.nodes n)
  pub pages : (n : Name) → held_page q.pages n ≡ map_if (is_block n && list_any (same_name n) names) (unpinned_page who) (held_page p.pages n)
  pub node_places : q.nodes.room ≡ p.nodes.room
  pub page_places : q.pages.room ≡ p.pages.room
  pub enters : EntersBy who p.desks q.desks
  pub callers : (w : ℕ) (n : Name) → keeps_for p.desks w n ≡ true → w ≤ 16
  pub doomed : (n : Name) → is_doomed q.desks n ≡ is_doomed p.desks n

module _ (who : ℕ) (names : List Name) (p q : PoolState) (idle : IsIdle p.desks who) (e : Enters who names p q) where
  abbrev rest : (w : ℕ) → w ≢ who → asked_by q.desks w ≡ asked_by p.desks w
  rest w ne = e.enters.asked w ∙ here_alone w who None (asked_by p.desks w) ne

  entered_seen : (key : List ℕ) (n : Name) → out_seen key q.desks n ≡ out_seen key p.desks n
  entered_seen key n = seen_idle key p.desks q.desks n who (e.enters.out n) (idle_none p.desks who n idle) rest

  pub entered_pool : IsPool p → IsPool q
  entered_pool pool = each_at q (λ n. kept_at p q n pool
      (ties_if (not (is_block n) && list_any (same_name n) names) (unpinned_node who) (held_node p.nodes n) (held_node q.nodes n) (λ h. (refl, refl)) (e.nodes n))
      (page_ties_if (is_block n && list_any (same_name n) names) (unpinned_page who) (held_page p.pages n) (held_page q.pages n) (λ h. (refl, refl)) (e.pages n))
      (ap (list_any (same_name n)) e.node_places) (ap (list_any (same_name n)) e.page_places) (e.enters.out n) (λ key. entered_seen key n))

  listed : (n : Name) → keeps_for p.desks who n ≡ true → list_any (same_name n) names ≡ true
  listed n on = ap (list_any (same_name n)) (sym e.kept) ∙ (by (desk_at p.desks who) ∙ on) where
    by : (z : Option DeskState) → list_any (same_name n) (names_on_desk z) ≡ option_map_or (λ desk. keeps_name desk n) z false
    by None = refl
    by (Some desk) = refl

  pub entered_event : (key : List ℕ) → Entered who (pool_view key p) (pool_view key q)
  entered_event key = record {
    idle = λ n o at. idle_seen key p.desks who idle n o (sym (out_at n) ∙ at);
    cell = λ n. cell n ∙ cell_same n (held_node p.nodes n) (held_node p.nodes n) (held_page p.pages n) (held_page p.pages n) (is_doomed p.desks n) (is_doomed q.desks n) (out_seen key p.desks n) (out_seen key q.desks n) (same_as (held_node p.nodes n)) refl (e.doomed n) (entered_seen key n);
    asked = rest;
    gone = e.enters.asked who ∙ here_it who None (asked_by p.desks who);
    freed = λ n. e.enters.kept who n ∙ here_it who false (keeps_for p.desks who n);
    kept = λ w n ne. e.enters.kept w n ∙ here_alone w who false (keeps_for p.desks w n) ne;
    callers = e.callers;
    unpinned = λ n on. unpinned n (listed n on);
    pinned = λ w n le ne. pinned n w le ne;
  } where
    out_at : (n : Name) → ((pool_view key p).cell n).out ≡ out_seen key p.desks n
    out_at (Entry i) = refl
    out_at (Part f l i) = refl
    out_at (Block f i) = refl

    cell : (n : Name) → cell_at n (held_node q.nodes n) (held_page q.pages n) (is_doomed q.desks n) (out_seen key q.desks n) ≡ cell_at n (held_node p.nodes n) (held_page p.pages n) (is_doomed q.desks n) (out_seen key q.desks n)
    cell (Entry i) = unpinned_cell who (list_any (same_name (Entry i)) names) (is_doomed q.desks (Entry i)) (out_seen key q.desks (Entry i)) (held_node p.nodes (Entry i)) (held_node q.nodes (Entry i)) (e.nodes (Entry i))
    cell (Part f l i) = unpinned_cell who (list_any (same_name (Part f l i)) names) (is_doomed q.desks (Part f l i)) (out_seen key q.desks (Part f l i)) (held_node p.nodes (Part f l i)) (held_node q.nodes (Part f l i)) (e.nodes (Part f l i))
    cell (Block f i) = unpinned_page_cell who (list_any (same_name (Block f i)) names) (is_doomed q.desks (Block f i)) (out_seen key q.desks (Block f i)) (held_page p.pages (Block f i)) (held_page q.pages (Block f i)) (e.pages (Block f i))

    unpinned : (n : Name) → list_any (same_name n) names ≡ true → is_pinned_for q who n ≡ false
    unpinned (Entry i) on = freed_node who (list_any (same_name (Entry i)) names) (held_node p.nodes (Entry i)) (held_node q.nodes (Entry i)) e.caller on (e.nodes (Entry i))
    unpinned (Part f l i) on = freed_node who (list_any (same_name (Part f l i)) names) (held_node p.nodes (Part f l i)) (held_node q.nodes (Part f l i)) e.caller on (e.nodes (Part f l i))
    unpinned (Block f i) on = freed_page who (list_any (same_name (Block f i)) names) (held_page p.pages (Block f i)) (held_page q.pages (Block f i)) e.caller on (e.pages (Block f i))

    pinned : (n : Name) (w : ℕ) → w ≤ 16 → w ≢ who → is_pinned_for q w n ≡ is_pinned_for p w n
    pinned (Entry i) w le ne = unpinned_node_at who w (list_any (same_name (Entry i)) names) (held_node p.nodes (Entry i)) (held_node q.nodes (Entry i)) e.caller le ne (e.nodes (Entry i))
    pinned (Part f l i) w le ne = unpinned_node_at who w (list_any (same_name (Part f l i)) names) (held_node p.nodes (Part f l i)) (held_node q.nodes (Part f l i)) e.caller le ne (e.nodes (Part f l i))
    pinned (Block f i) w le ne = unpinned_page_at who w (list_any (same_name (Block f i)) names) (held_page p.pages (Block f i)) (held_page q.pages (Block f i)) e.caller le ne (e.pages (Block f i))

  pub entered_alike : HoldsAlike p q
  entered_alike = record {
    nodes = λ n. alike_if (not (is_block n) && list_any (same_name n) names) (unpinned_node who) (held_node p.nodes n) (held_node q.nodes n) (λ h. (refl, (refl, refl))) (e.nodes n);
    pages = λ n. pages_alike_if (is_block n && list_any (same_name n) names) (unpinned_page who) (held_page p.pages n) (held_page q.pages n) (λ h. (refl, refl)) (e.pages n);
  }
