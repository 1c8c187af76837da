-- What a plan's drafts make of a pool that shows the table, and is agreed with: it shows the table after, each name moves as a call
-- moves it, and the hash that is kept of a settled node is true.
use Rattle.std.proofs.Common.{◌≡◌, ◌⊎◌, inl, inr, ◌∷◌, Bool, true, false, Option, Some, None, refl, ap, sym, ◌∙◌, subst, true≢false, is_some}
use Rattle.std.specs.Prelude.{IsSome}
use Rattle.iris_blocks.specs.Changes.{PageDrafted}
use Rattle.iris_blocks.specs.declared.held.PageHeld.{PageHeld}
use Rattle.iris_blocks.specs.Laws.{ChangesEach}
use Rattle.iris_blocks.specs.Paged.{held_page, IsBlock, Shows}
use Rattle.iris_cache.proofs.Applying.{apply-keeps, apply-marks}
use Rattle.iris_cache.proofs.Keeping.{alike-keeps}
use Rattle.iris_cache.specs.declared.held.Held.{Held}
use Rattle.iris_cache.specs.Drafted.{Drafted}
use Rattle.iris_cache.specs.Laws.{AreAlike, Left}
use Rattle.iris_cache.specs.Pictures.{Drafts, IsHashOf, IsSettled, Pictures}
use Rattle.iris_cache.specs.Resident.{held_node}
use Rattle.iris_desk.specs.AtDesks.{is_doomed}
use Rattle.iris_file_rules.proofs.Drafts.{drafts_move}
use Rattle.iris_file_rules.proofs.SoundTables.{well_formed}
use Rattle.iris_file_rules.specs.DraftLaws.{AreDrafted, FitsHeld, cell_before}
use Rattle.iris_file_rules.specs.FileTable.{files}
use Rattle.iris_file_rules.specs.Rules.{shown_after}
use Rattle.iris_file_rules.specs.TableLaws.{IsWellFormed}
use Rattle.iris_invariant.specs.Agrees.{Cell, MarkListed}
use Rattle.iris_invariant.specs.Cells.{Tied, TiedPage}
use Rattle.iris_invariant.specs.Events.{Changed, Moved, Still}
use Rattle.iris_mac.specs.declared.keys.Keys.{Keys}
use Rattle.iris_name.specs.declared.name.Hash32.{Hash32}
use Rattle.iris_name.specs.declared.name.Name.{Name}
use Rattle.iris_name.specs.declared.name.Name.TheVariants.{Block, Entry, Part}
use Rattle.iris_name.specs.History.{Past, Stamped}
use Rattle.iris_node.specs.Trees.{IsNodeName, Shown}
use Rattle.iris_node.specs.Unfolded.{Unfolded}
use Rattle.iris_pool.proofs.LandedCells.{cells_land}
use Rattle.iris_pool.specs.Changes.{ArePagesAlike}
use Rattle.iris_pool.specs.Landing.{LandsIn, SameButPins, SamePageButPins}
use Rattle.iris_pool.specs.Pool.{PoolState}
use Rattle.iris_pool.specs.View.{IsPool, out_seen, pool_view}
use Rattle.iris_standing.proofs.CarriedOver.{alike_shows}

-- ---- what differs in pins alone is alike

but_pins : (g h : Option Held) → SameButPins g h → AreAlike g h
but_pins None None s = tt
but_pins None (Some h) s = absurd s
but_pins (Some g) None s = absurd s
but_pins (Some g) (Some h) s = (ap (λ (k : Held). k.node) s, (ap (λ (k : Held). k.parent) s, ap (λ (k : Held). k.settled) s))

page_but_pins : (g h : Option PageHeld) → SamePageButPins g h → ArePagesAlike g h
page_but_pins None None s = tt
page_but_pins None (Some h) s = absurd s
page_but_pins (Some g) None s = absurd s
page_but_pins (Some g) (Some h) s = (ap (λ (k : PageHeld). k.version) s, ap (λ (k : PageHeld). k.page) s)

-- what is held isn't doomed, where what is doomed isn't held
undoomed : (doomed resident : Bool) → (doomed ≡ true → resident ≡ false) → resident ≡ true → doomed ≡ false
undoomed true resident f r = absurd (true≢false (sym r ∙ f refl))
undoomed false resident f r = refl

-- ---- a hash that was true is true, where the node is settled still

hash_by : (t u : Shown) (n : Name) (x : Hash32) (g m h : Option Held) → Left (u n ≡ t n) g m → SameButPins m h → (is_some (u n) ≡ true → (is_some h ≡ true) ⊎ (u n ≡ t n))
    → (IsSettled g → IsHashOf (t n) x) → IsSettled h → IsHashOf (u n) x
hash_by t u n x None None None same pins live f s = subst (λ o. IsHashOf o x) (sym same) (f tt)
hash_by t u n x None None (Some h) same pins live f s = absurd pins
hash_by t u n x None (Some m) None left pins live f s = absurd pins
hash_by t u n x None (Some m) (Some h) left pins live f s = absurd (true≢false (sym s ∙ ap (λ (k : Held). k.settled) pins ∙ ap (λ (k : Held). k.settled) left.1))
hash_by t u n x (Some g) None None left pins live f s = λ v e. absurd (elim (live (ap (λ (o : Option Unfolded). is_some o) e)) [ inl r ↦ true≢false (sym r) | inr same ↦ left same ])
hash_by t u n x (Some g) None (Some h) left pins live f s = absurd pins
hash_by t u n x (Some g) (Some m) None left pins live f s = absurd pins
hash_by t u n x (Some g) (Some m) (Some h) (inl k) pins live f s =
    let was : g.settled ≡ true = sym (ap (λ (k : Held). k.settled) k.1) ∙ sym (ap (λ (k : Held). k.settled) pins) ∙ s in
    subst (λ o. IsHashOf o x) (sym k.0) (f was)
hash_by t u n x (Some g) (Some m) (Some h) (inr k) pins live f s = absurd (true≢false (sym s ∙ ap (λ (k : Held). k.settled) pins ∙ ap (λ (k : Held). k.settled) k.1))

module _ (keys : Keys) (past : Past) (x : Stamped) (p q : PoolState) (d : Drafted) (e : PageDrafted) (pool : IsPool p) (listed : (n : Name) → MarkListed ((pool_view keys.block p).cell n))
    (shows : Shows (shown_after keys past) p.pages) (drafts : Drafts (shown_after keys past) (shown_after keys (x ∷ past)) d p.nodes)
    (changes : ChangesEach (shown_after keys past) (shown_after keys (x ∷ past)) e p.pages) (lands : LandsIn d e p q) where
  before : IsWellFormed (shown_after keys past)
  before = well_formed keys past

  after : IsWellFormed (shown_after keys (x ∷ past))
  after = well_formed keys (x ∷ past)

  drafted : AreDrafted (shown_after keys past) (shown_after keys (x ∷ past)) p.nodes lands.middle p.pages lands.middle_pages
  drafted = record { draft = d; pages = e; drafts = drafts; lands = lands.lands; shows = shows; changes = changes; landed = lands.landed }

  node_fits : (n : Name) → IsNodeName n → Tied (held_node p.nodes n) (out_seen keys.block p.desks n) × (IsSome (held_node p.nodes n) → is_doomed p.desks n ≡ false)
  node_fits (Entry i) is = (pool.nodes keys.block (Entry i) is, λ held. undoomed (is_doomed p.desks (Entry i)) (is_some (held_node p.nodes (Entry i))) (listed (Entry i)).doomed held)
  node_fits (Part f l i) is = (pool.nodes keys.block (Part f l i) is, λ held. undoomed (is_doomed p.desks (Part f l i)) (is_some (held_node p.nodes (Part f l i))) (listed (Part f l i)).doomed held)
  node_fits (Block f s) is = absurd is

  page_fits : (n : Name) → IsBlock n → TiedPage (held_page p.pages n) (out_seen keys.block p.desks n) × (IsSome (held_page p.pages n) → is_doomed p.desks n ≡ false)
  page_fits (Entry i) is = absurd is
  page_fits (Part f l i) is = absurd is
  page_fits (Block f s) is = (pool.pages keys.block (Block f s) is, λ held. undoomed (is_doomed p.desks (Block f s)) (is_some (held_page p.pages (Block f s))) (listed (Block f s)).doomed held)

  fits : FitsHeld p.nodes p.pages (is_doomed p.desks) (out_seen keys.block p.desks)
  fits = record { nodes = node_fits; blocks = page_fits }

  pub moves : (n : Name) → Moved (files keys) past x n ((pool_view keys.block p).cell n) ((pool_view keys.block q).cell n)
  moves n = subst (λ (c : Cell). Moved (files keys) past x n (cell_before p.nodes p.pages (is_doomed p.desks) (out_seen keys.block p.desks) n) c) (sym (cells_land keys.block d e p q lands n))
      (drafts_move keys past x p.nodes lands.middle p.pages lands.middle_pages (is_doomed p.desks) (out_seen keys.block p.desks) drafted fits n)

  pub pictures : Pictures (shown_after keys (x ∷ past)) q.nodes
  pictures = alike-keeps (shown_after keys (x ∷ past)) lands.middle q.nodes
      (apply-keeps (shown_after keys past) (shown_after keys (x ∷ past)) d p.nodes lands.middle drafts before.tree after.tree before.formed after.formed lands.lands)
      (λ n. but_pins (held_node lands.middle n) (held_node q.nodes n) (lands.nodes n))

  pub landed_shows : Shows (shown_after keys (x ∷ past)) lands.middle_pages → Shows (shown_after keys (x ∷ past)) q.pages
  landed_shows shown = alike_shows (shown_after keys (x ∷ past)) lands.middle_pages q.pages shown (λ n. page_but_pins (held_page lands.middle_pages n) (held_page q.pages n) (lands.pages n))

  -- an entry's cell is resident where it is held
  held_if_live : (n : Name) → IsNodeName n → is_some (shown_after keys (x ∷ past) n) ≡ true → (is_some (held_node q.nodes n) ≡ true) ⊎ (shown_after keys (x ∷ past) n ≡ shown_after keys past n)
  held_if_live (Entry i) is live = elim (moves (Entry i)) [ Still same e ↦ inr same | Changed ne was is isn't out ↦ inl ((is live).resident) ]
  held_if_live (Part f l i) is live = elim (moves (Part f l i)) [ Still same e ↦ inr same | Changed ne was is isn't out ↦ inl ((is live).resident) ]
  held_if_live (Block f s) is live = absurd is

  pub hash_stays : (n : Name) → IsNodeName n → (h : Hash32) → (IsSettled (held_node p.nodes n) → IsHashOf (shown_after keys past n) h) → IsSettled (held_node q.nodes n) → IsHashOf (shown_after keys (x ∷ past) n) h
  hash_stays n is h f s = hash_by (shown_after keys past) (shown_after keys (x ∷ past)) n h (held_node p.nodes n) (held_node lands.middle n) (held_node q.nodes n)
      (apply-marks (shown_after keys past) (shown_after keys (x ∷ past)) d p.nodes lands.middle drafts before.tree after.tree before.formed after.formed before.apart lands.lands n is) (lands.nodes n) (held_if_live n is) f s
