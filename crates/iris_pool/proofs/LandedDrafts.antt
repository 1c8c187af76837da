-- What drafts leave of the pool, from what each step of `apply` makes of nodes, pages, desks and pins.
use Rattle.std.proofs.Common.{◌≡◌, ◌||◌, ◌&&◌, ℕ, Bool, true, false, not, List, Option, Some, None, refl, ap, sym, ◌∙◌, subst, true≢false, is_some}
use Rattle.std.specs.List.{list_any}
use Rattle.std.specs.Option.{option_map}
use Rattle.std.proofs.lemmas.Option.{some_pair_parts}
use Rattle.iris_blocks.specs.declared.draft.PageChange.{PageChange}
use Rattle.iris_blocks.specs.declared.held.PageHeld.{PageHeld}
use Rattle.iris_blocks.specs.Changes.{PageDrafted, IsPageDraft, change_of, landed_page, landed_page_by, sets_page, is_page_set}
use Rattle.iris_blocks.specs.Paged.{Paged, held_page, has_page_room, IsBlock, ArePagesSound}
use Rattle.iris_cache.specs.declared.draft.Change.{Change}
use Rattle.iris_cache.specs.declared.held.Held.{Held}
use Rattle.iris_cache.specs.Applied.{Lands, landed_node, landed_node_by}
use Rattle.iris_cache.specs.Drafted.{Drafted, IsDraft, drafted, sets, is_set}
use Rattle.iris_cache.specs.Held.{with_kids, moved_node}
use Rattle.iris_cache.specs.Resident.{Resident, IsSoundCache, children, held_node, has_room, map_if}
use Rattle.iris_desk.specs.AtDesks.{DesksState, asked_by, keeps_for, out_of, is_doomed}
use Rattle.iris_desk.specs.declared.out.Doing.TheVariants.{Get}
use Rattle.iris_desk.specs.declared.out.Out as pending
use Rattle.iris_desk.specs.Outs.{touched_out}
use Rattle.iris_invariant.specs.Agrees.{Out}
use Rattle.iris_invariant.specs.Cells.{Tied, TiedPage, doomed_at, has_pin, held_touched, is_touched_at, page_touched, redoomed, touched_if}
use Rattle.iris_name.specs.declared.name.Name.{Name}
use Rattle.iris_name.specs.declared.name.Name.TheVariants.{Entry, Part, Block}
use Rattle.iris_name.specs.Names.{same_name}
use Rattle.iris_name.specs.declared.request.Request.{Request}
use Rattle.iris_node.specs.Nodes.{name_of}
use Rattle.iris_node.specs.Trees.{IsNodeName}
use Rattle.iris_node.specs.declared.node.Node.{Node}
use Rattle.iris_node.specs.declared.node.Node.TheVariants as node
use Rattle.iris_pool.specs.Filing.{FilesNames, FilesNodes, FilesPages, GetsPagePins, GetsPins, PinsKept, TouchesThere, comes_or_goes, doomed_by, is_held_after, is_page_held_after, is_touched_there, page_touched_in, touched_in, touched_so}
use Rattle.iris_pool.specs.Landing.{LandsIn, SameButPins, SamePageButPins}
use Rattle.iris_pool.specs.Pool.{PoolState, IsAbsentIn, IsPresent, has_place}
use Rattle.iris_pool.specs.View.{IsPool, doing_by, out_by, out_seen, is_pinned_for, pinned_node_in, pinned_page_in}
use Rattle.iris_pool.proofs.FiledNames.{doomed_same, files_then, stays_same}

-- ---- what is held before and after

landed_held : (k : ℕ) (change : Option Change) (m : Bool) (h : Option Held) → is_some (option_map (with_kids k) (landed_node change (map_if m moved_node h))) ≡ is_held_after change (is_some h)
landed_held k None true None = refl
landed_held k None true (Some h) = refl
landed_held k None false None = refl
landed_held k None false (Some h) = refl
landed_held k (Some change) m h = by change.node (map_if m moved_node h) where
  by : (node : Option Node) (h : Option Held) → is_some (option_map (with_kids k) (landed_node_by change.parent node h)) ≡ is_some node
  by None h = refl
  by (Some node) None = refl
  by (Some node) (Some h) = refl

-- a name is held after where the draft sets it, or leaves it and it was held
pub held_after : (d : Drafted) (c e : Resident) (q : Name) → Lands d c e q → is_some (held_node e q) ≡ is_held_after (drafted d q) (is_some (held_node c q))
held_after d c e q l = ap (λ (o : Option Held). is_some o) l.is ∙ landed_held (children e q) (drafted d q) l.marked (held_node c q)

pub page_held_after : (change : Option PageChange) (h : Option PageHeld) → is_some (landed_page change h) ≡ is_page_held_after change (is_some h)
page_held_after None h = refl
page_held_after (Some change) h = by change.new h where
  by : (new : Option (ℕ × List ℕ)) (h : Option PageHeld) → is_some (landed_page_by new h) ≡ is_some new
  by None h = refl
  by (Some n) None = refl
  by (Some n) (Some h) = refl

abbrev out_held : Option Held → Option ℕ
out_held None = None
out_held (Some h) = h.out

abbrev out_page : Option PageHeld → Option ℕ
out_page None = None
out_page (Some h) = h.out

-- what was held keeps what is out, and for what comes nothing is
landed_out : (k : ℕ) (change : Option Change) (m : Bool) (g : Option Held) → is_held_after change (is_some g) ≡ true → out_held (option_map (with_kids k) (landed_node change (map_if m moved_node g))) ≡ out_held g
landed_out k None true None e = refl
landed_out k None true (Some g) e = refl
landed_out k None false None e = refl
landed_out k None false (Some g) e = refl
landed_out k (Some change) m g e = by change.node e (map_if m moved_node g) ∙ same m g where
  by : (node : Option Node) → is_some node ≡ true → (h : Option Held) → out_held (option_map (with_kids k) (landed_node_by change.parent node h)) ≡ out_held h
  by None e h = absurd (true≢false (sym e))
  by (Some node) e None = refl
  by (Some node) e (Some h) = refl

  same : (m : Bool) (g : Option Held) → out_held (map_if m moved_node g) ≡ out_held g
  same true None = refl
  same true (Some g) = refl
  same false g = refl

landed_page_out : (change : Option PageChange) (g : Option PageHeld) → is_page_held_after change (is_some g) ≡ true → out_page (landed_page change g) ≡ out_page g
landed_page_out None g e = refl
landed_page_out (Some change) g e = by change.new e g where
  by : (new : Option (ℕ × List ℕ)) → is_some new ≡ true → (h : Option PageHeld) → out_page (landed_page_by new h) ≡ out_page h
  by None e h = absurd (true≢false (sym e))
  by (Some n) e None = refl
  by (Some n) e (Some h) = refl

-- ---- what pins leave

module _ (k : ℕ → Bool) where
  gets_some : (g h : Option Held) → GetsPins k g h → is_some h ≡ is_some g
  gets_some None None s = refl
  gets_some None (Some h) s = absurd s
  gets_some (Some g) None s = absurd s
  gets_some (Some g) (Some h) s = refl

  gets_out : (g h : Option Held) → GetsPins k g h → out_held h ≡ out_held g
  gets_out None None s = refl
  gets_out None (Some h) s = absurd s
  gets_out (Some g) None s = absurd s
  gets_out (Some g) (Some h) s = ap (λ (x : Held). x.out) s.0

  gets_same : (g h : Option Held) → GetsPins k g h → SameButPins g h
  gets_same None None s = tt
  gets_same None (Some h) s = absurd s
  gets_same (Some g) None s = absurd s
  gets_same (Some g) (Some h) s = s.0

  gets_pinned : (w : ℕ) (g h : Option Held) → GetsPins k g h → k w ≡ true → is_some h ≡ true → pinned_node_in w h ≡ true
  gets_pinned w g None s e i = absurd (true≢false (sym i))
  gets_pinned w None (Some h) s e i = absurd s
  gets_pinned w (Some g) (Some h) s e i = s.1 w ∙ ap (λ b. has_pin w g.pins || b) e ∙ or_true (has_pin w g.pins) where
    or_true : (b : Bool) → (b || true) ≡ true
    or_true true = refl
    or_true false = refl

  gets_touched : (g m h : Option Held) → GetsPins k m h → (comes_or_goes (is_some g) (is_some m) || touched_in m) ≡ held_touched g h
  gets_touched None None None s = refl
  gets_touched None None (Some h) s = absurd s
  gets_touched None (Some m) None s = absurd s
  gets_touched None (Some m) (Some h) s = refl
  gets_touched (Some g) None None s = refl
  gets_touched (Some g) None (Some h) s = absurd s
  gets_touched (Some g) (Some m) None s = absurd s
  gets_touched (Some g) (Some m) (Some h) s = sym (ap (λ (x : Held). x.touched) s.0)

  page_gets_some : (g h : Option PageHeld) → GetsPagePins k g h → is_some h ≡ is_some g
  page_gets_some None None s = refl
  page_gets_some None (Some h) s = absurd s
  page_gets_some (Some g) None s = absurd s
  page_gets_some (Some g) (Some h) s = refl

  page_gets_out : (g h : Option PageHeld) → GetsPagePins k g h → out_page h ≡ out_page g
  page_gets_out None None s = refl
  page_gets_out None (Some h) s = absurd s
  page_gets_out (Some g) None s = absurd s
  page_gets_out (Some g) (Some h) s = ap (λ (x : PageHeld). x.out) s.0

  page_gets_same : (g h : Option PageHeld) → GetsPagePins k g h → SamePageButPins g h
  page_gets_same None None s = tt
  page_gets_same None (Some h) s = absurd s
  page_gets_same (Some g) None s = absurd s
  page_gets_same (Some g) (Some h) s = s.0

  page_gets_pinned : (w : ℕ) (g h : Option PageHeld) → GetsPagePins k g h → k w ≡ true → is_some h ≡ true → pinned_page_in w h ≡ true
  page_gets_pinned w g None s e i = absurd (true≢false (sym i))
  page_gets_pinned w None (Some h) s e i = absurd s
  page_gets_pinned w (Some g) (Some h) s e i = s.1 w ∙ ap (λ b. has_pin w g.pins || b) e ∙ or_true (has_pin w g.pins) where
    or_true : (b : Bool) → (b || true) ≡ true
    or_true true = refl
    or_true false = refl

  page_gets_touched : (g m h : Option PageHeld) → GetsPagePins k m h → (comes_or_goes (is_some g) (is_some m) || page_touched_in m) ≡ page_touched g h
  page_gets_touched None None None s = refl
  page_gets_touched None None (Some h) s = absurd s
  page_gets_touched None (Some m) None s = absurd s
  page_gets_touched None (Some m) (Some h) s = refl
  page_gets_touched (Some g) None None s = refl
  page_gets_touched (Some g) None (Some h) s = absurd s
  page_gets_touched (Some g) (Some m) None s = absurd s
  page_gets_touched (Some g) (Some m) (Some h) s = sym (ap (λ (x : PageHeld). x.touched) s.0)

redoomed_is : {A : Type 0} (g h : Option A) (x : Bool) → doomed_by (is_some g) (is_some h) x ≡ redoomed g h x
redoomed_is None None x = refl
redoomed_is None (Some h) x = refl
redoomed_is (Some g) None x = refl
redoomed_is (Some g) (Some h) x = refl

-- ---- what is out, as the invariant sees it

abbrev seen_as : List ℕ → Option Request → ℕ × pending.Out → Out
seen_as key asked p = record { who = p.0; since = p.1.since; request = asked; doing = doing_by key p.1.name p.1.doing p.1.expect p.1.record; crowded = p.1.crowded; touched = p.1.touched }

pub seen_touched : (key : List ℕ) (a c : DesksState) (b : Bool) (o : Option (ℕ × pending.Out)) → ((w : ℕ) → asked_by c w ≡ asked_by a w) → out_by key c (touched_so b o) ≡ option_map (touched_if b) (out_by key a o)
seen_touched key a c true None same = refl
seen_touched key a c false None same = refl
seen_touched key a c true (Some p) same = ap (λ r. Some (touched_if true (seen_as key r p))) (same p.0)
seen_touched key a c false (Some p) same = ap (λ r. Some (seen_as key r p)) (same p.0)

-- ---- names of nodes and of blocks

pub name_of_node : (k : Node) → IsBlock (name_of k) → ⊥
name_of_node (node.Entry e) b = b
name_of_node (node.Part p) b = b

pub none_by : {A : Type 0} (o : Option A) → ((x : A) → o ≡ Some x → ⊥) → o ≡ None
none_by None f = refl
none_by (Some x) f = absurd (f x refl)

-- ---- what a touch leaves

touched_out_if : (b : Bool) (o : Option Out) (x : Out) → option_map (touched_if b) o ≡ Some x → b ≡ true → x.touched ≡ true
touched_out_if b None x e t = absurd (cc)
touched_out_if b (Some o) x e t = touched_of e ∙ ap (λ c. c || o.touched) t where
  touched_of : Some (touched_if b o) ≡ Some x → x.touched ≡ (b || o.touched)
  touched_of e = let h : touched_if b o ≡ x = cc in sym (ap (λ (y : Out). y.touched) h)

touched_out_was : (b : Bool) (o : Option Out) (x : Out) → option_map (touched_if b) o ≡ Some x → ((y : Out) → o ≡ Some y → y.touched ≡ true) → x.touched ≡ true
touched_out_was b None x e f = absurd (cc)
touched_out_was b (Some o) x e f = let h : touched_if b o ≡ x = cc in sym (ap (λ (y : Out). y.touched) h) ∙ ap (λ c. b || c) (f o refl) ∙ by b where
  by : (b : Bool) → (b || true) ≡ true
  by true = refl
  by false = refl

-- what is held is tied to what is out once a draft is made
tied_after : (g h : Option Held) (out : Option Out) → Tied g out → (is_some g ≡ true → is_some h ≡ true → out_held h ≡ out_held g) → Tied h (option_map (touched_if (held_touched g h)) out)
tied_after g h out t keeps = record {
  touched = λ y x hy ox ty. touched_out_if (held_touched g h) out x ox (touches g y hy ty);
  unknown = λ y x hy ox none. by g y x hy ox none t keeps;
} where
  touches : (g : Option Held) (y : Held) → h ≡ Some y → y.touched ≡ true → held_touched g h ≡ true
  touches None y e ty = ap (held_touched None) e
  touches (Some g) y e ty = ap (held_touched (Some g)) e ∙ ty

  by : (g : Option Held) (y : Held) (x : Out) → h ≡ Some y → option_map (touched_if (held_touched g h)) out ≡ Some x → y.out ≡ None → Tied g out → (is_some g ≡ true → is_some h ≡ true → out_held h ≡ out_held g) → x.touched ≡ true
  by None y x e ox none t keeps = touched_out_if (held_touched None h) out x ox (ap (held_touched None) e)
  by (Some g) y x e ox none t keeps = touched_out_was (held_touched (Some g) h) out x ox (λ z oz. t.unknown g z refl oz (sym (keeps refl (ap (λ (o : Option Held). is_some o) e)) ∙ ap out_held e ∙ none))

page_tied_after : (g h : Option PageHeld) (out : Option Out) → TiedPage g out → (is_some g ≡ true → is_some h ≡ true → out_page h ≡ out_page g) → TiedPage h (option_map (touched_if (page_touched g h)) out)
page_tied_after g h out t keeps = record {
  touched = λ y x hy ox ty. touched_out_if (page_touched g h) out x ox (touches g y hy ty);
  unknown = λ y x hy ox none. by g y x hy ox none t keeps;
} where
  touches : (g : Option PageHeld) (y : PageHeld) → h ≡ Some y → y.touched ≡ true → page_touched g h ≡ true
  touches None y e ty = ap (page_touched None) e
  touches (Some g) y e ty = ap (page_touched (Some g)) e ∙ ty

  by : (g : Option PageHeld) (y : PageHeld) (x : Out) → h ≡ Some y → option_map (touched_if (page_touched g h)) out ≡ Some x → y.out ≡ None → TiedPage g out → (is_some g ≡ true → is_some h ≡ true → out_page h ≡ out_page g) → x.touched ≡ true
  by None y x e ox none t keeps = touched_out_if (page_touched None h) out x ox (ap (page_touched None) e)
  by (Some g) y x e ox none t keeps = touched_out_was (page_touched (Some g) h) out x ox (λ z oz. t.unknown g z refl oz (sym (keeps refl (ap (λ (o : Option PageHeld). is_some o) e)) ∙ ap out_page e ∙ none))

-- ---- all steps

module _ (d : Drafted) (e : PageDrafted) (p q : PoolState) (mid : Resident) (paged : Paged) (d1 d2 : DesksState)
    (draft : IsDraft d) (pages : IsPageDraft e) (cache : IsSoundCache p.nodes) (blocks : ArePagesSound p.pages)
    (m1 : FilesNodes d p.nodes p.desks d1) (m2 : FilesPages e p.pages d1 d2)
    (lands : (n : Name) → Lands d p.nodes mid n) (room : (n : Name) → has_room mid n ≡ (has_room p.nodes n && not (sets d n)))
    (landed : (n : Name) → held_page paged n ≡ landed_page (change_of e n) (held_page p.pages n)) (page_room : (n : Name) → has_page_room paged n ≡ (has_page_room p.pages n && not (sets_page e n)))
    (m3 : TouchesThere mid paged d2 q.desks) (pins : PinsKept (keeps_for q.desks) mid q.nodes paged q.pages) where
  abbrev was : Name → Bool
  was n = is_some (held_node p.nodes n)

  abbrev is : Name → Bool
  is n = is_held_after (drafted d n) (was n)

  abbrev page_was : Name → Bool
  page_was n = is_some (held_page p.pages n)

  abbrev page_is : Name → Bool
  page_is n = is_page_held_after (change_of e n) (page_was n)

  all : FilesNames (λ n x. doomed_by (page_was n) (page_is n) (doomed_by (was n) (is n) x)) (λ n. (comes_or_goes (was n) (is n) || comes_or_goes (page_was n) (page_is n)) || is_touched_there mid paged n) p.desks q.desks
  all = files_then (λ n x. doomed_by (page_was n) (page_is n) (doomed_by (was n) (is n) x)) (λ n x. x) (λ n. comes_or_goes (was n) (is n) || comes_or_goes (page_was n) (page_is n)) (is_touched_there mid paged) p.desks d2 q.desks
      (files_then (λ n. doomed_by (was n) (is n)) (λ n. doomed_by (page_was n) (page_is n)) (λ n. comes_or_goes (was n) (is n)) (λ n. comes_or_goes (page_was n) (page_is n)) p.desks d1 d2 m1 m2) m3

  -- a node's name has no page, and a block's no node
  no_page_change : (n : Name) → (IsBlock n → ⊥) → page_is n ≡ page_was n
  no_page_change n other = ap (λ o. is_page_held_after o (page_was n)) (none_by (change_of e n) (λ x at. other (pages.blocks n x at)))

  no_node : (n : Name) → IsBlock n → held_node p.nodes n ≡ None
  no_node n block = none_by (held_node p.nodes n) (λ h at. name_of_node h.node (subst IsBlock (sym (cache.own n h at)) block))

  no_node_change : (n : Name) → IsBlock n → (was n ≡ false) × (is n ≡ false)
  no_node_change n block =
      let none = ap (λ (o : Option Held). is_some o) (no_node n block) in
      (none, ap (is_held_after (drafted d n)) none ∙ by (drafted d n) refl)
    where
      node_none : (change : Change) → drafted d n ≡ Some change → (o : Option Node) → change.node ≡ o → is_some o ≡ false
      node_none change at None has = refl
      node_none change at (Some k) has = absurd (name_of_node k (subst IsBlock (sym (draft.own n change k at has)) block))

      by : (o : Option Change) → drafted d n ≡ o → is_held_after o false ≡ false
      by None at = refl
      by (Some change) at = node_none change at change.node refl

  is_held : (n : Name) → is n ≡ is_some (held_node mid n)
  is_held n = sym (held_after d p.nodes mid n (lands n))

  page_is_held : (n : Name) → page_is n ≡ is_some (held_page paged n)
  page_is_held n = sym (ap (λ (o : Option PageHeld). is_some o) (landed n) ∙ page_held_after (change_of e n) (held_page p.pages n))

  node_some : (n : Name) → is_some (held_node q.nodes n) ≡ is n
  node_some n = gets_some (λ w. keeps_for q.desks w n) (held_node mid n) (held_node q.nodes n) (pins.nodes n) ∙ sym (is_held n)

  page_some : (n : Name) → is_some (held_page q.pages n) ≡ page_is n
  page_some n = page_gets_some (λ w. keeps_for q.desks w n) (held_page paged n) (held_page q.pages n) (pins.pages n) ∙ sym (page_is_held n)

  -- of a node's name
  module _ (n : Name) (other : IsBlock n → ⊥) where
    doomed_node : is_doomed q.desks n ≡ redoomed (held_node p.nodes n) (held_node q.nodes n) (is_doomed p.desks n)
    doomed_node = all.doomed n ∙ doomed_same (page_was n) (page_is n) (doomed_by (was n) (is n) (is_doomed p.desks n)) (sym (no_page_change n other))
        ∙ ap (λ b. doomed_by (was n) b (is_doomed p.desks n)) (sym (node_some n)) ∙ redoomed_is (held_node p.nodes n) (held_node q.nodes n) (is_doomed p.desks n)

    touched_node : (t : Bool) → t ≡ touched_in (held_node mid n) → ((comes_or_goes (was n) (is n) || comes_or_goes (page_was n) (page_is n)) || t) ≡ held_touched (held_node p.nodes n) (held_node q.nodes n)
    touched_node t same = ap (λ b. (comes_or_goes (was n) (is n) || b) || t) (stays_same (page_was n) (page_is n) (sym (no_page_change n other)))
        ∙ ap (λ b. b || t) (or_false (comes_or_goes (was n) (is n))) ∙ ap (λ b. comes_or_goes (was n) b || t) (is_held n) ∙ ap (λ b. comes_or_goes (was n) (is_some (held_node mid n)) || b) same
        ∙ gets_touched (λ w. keeps_for q.desks w n) (held_node p.nodes n) (held_node mid n) (held_node q.nodes n) (pins.nodes n)
      where
        or_false : (b : Bool) → (b || false) ≡ b
        or_false true = refl
        or_false false = refl

  -- of a block's name
  module _ (n : Name) (block : IsBlock n) where
    doomed_page : is_doomed q.desks n ≡ redoomed (held_page p.pages n) (held_page q.pages n) (is_doomed p.desks n)
    doomed_page = all.doomed n ∙ ap (doomed_by (page_was n) (page_is n)) (doomed_same (was n) (is n) (is_doomed p.desks n) ((no_node_change n block).0 ∙ sym (no_node_change n block).1))
        ∙ ap (λ b. doomed_by (page_was n) b (is_doomed p.desks n)) (sym (page_some n)) ∙ redoomed_is (held_page p.pages n) (held_page q.pages n) (is_doomed p.desks n)

    touched_page : (t : Bool) → t ≡ page_touched_in (held_page paged n) → ((comes_or_goes (was n) (is n) || comes_or_goes (page_was n) (page_is n)) || t) ≡ page_touched (held_page p.pages n) (held_page q.pages n)
    touched_page t same = ap (λ b. (b || comes_or_goes (page_was n) (page_is n)) || t) (stays_same (was n) (is n) ((no_node_change n block).0 ∙ sym (no_node_change n block).1))
        ∙ ap (λ b. comes_or_goes (page_was n) b || t) (page_is_held n) ∙ ap (λ b. comes_or_goes (page_was n) (is_some (held_page paged n)) || b) same
        ∙ page_gets_touched (λ w. keeps_for q.desks w n) (held_page p.pages n) (held_page paged n) (held_page q.pages n) (pins.pages n)

  doomed_is : (n : Name) → is_doomed q.desks n ≡ doomed_at n (held_node p.nodes n) (held_node q.nodes n) (held_page p.pages n) (held_page q.pages n) (is_doomed p.desks n)
  doomed_is (Entry i) = doomed_node (Entry i) (λ b. b)
  doomed_is (Part f l i) = doomed_node (Part f l i) (λ b. b)
  doomed_is (Block f s) = doomed_page (Block f s) tt

  abbrev touches : Name → Bool
  touches n = is_touched_at n (held_node p.nodes n) (held_node q.nodes n) (held_page p.pages n) (held_page q.pages n)

  out_is : (n : Name) → out_of q.desks n ≡ touched_so (touches n) (out_of p.desks n)
  out_is (Entry i) = all.out (Entry i) ∙ ap (λ b. touched_so b (out_of p.desks (Entry i))) (touched_node (Entry i) (λ b. b) (is_touched_there mid paged (Entry i)) refl)
  out_is (Part f l i) = all.out (Part f l i) ∙ ap (λ b. touched_so b (out_of p.desks (Part f l i))) (touched_node (Part f l i) (λ b. b) (is_touched_there mid paged (Part f l i)) refl)
  out_is (Block f s) = all.out (Block f s) ∙ ap (λ b. touched_so b (out_of p.desks (Block f s))) (touched_page (Block f s) tt (is_touched_there mid paged (Block f s)) refl)

  seen_is : (key : List ℕ) (n : Name) → out_seen key q.desks n ≡ option_map (touched_if (touches n)) (out_seen key p.desks n)
  seen_is key n = ap (out_by key q.desks) (out_is n) ∙ seen_touched key p.desks q.desks (touches n) (out_of p.desks n) all.asked

  kept_pinned : (w : ℕ) (n : Name) → keeps_for q.desks w n ≡ true → IsPresent q n → is_pinned_for q w n ≡ true
  kept_pinned w (Entry i) k here = gets_pinned (λ v. keeps_for q.desks v (Entry i)) w (held_node mid (Entry i)) (held_node q.nodes (Entry i)) (pins.nodes (Entry i)) k here
  kept_pinned w (Part f l i) k here = gets_pinned (λ v. keeps_for q.desks v (Part f l i)) w (held_node mid (Part f l i)) (held_node q.nodes (Part f l i)) (pins.nodes (Part f l i)) k here
  kept_pinned w (Block f s) k here = page_gets_pinned (λ v. keeps_for q.desks v (Block f s)) w (held_page paged (Block f s)) (held_page q.pages (Block f s)) (pins.pages (Block f s)) k here

  pub lands_in : LandsIn d e p q
  lands_in = record {
    middle = mid;
    middle_pages = paged;
    lands = lands;
    landed = landed;
    nodes = λ n. gets_same (λ w. keeps_for q.desks w n) (held_node mid n) (held_node q.nodes n) (pins.nodes n);
    pages = λ n. page_gets_same (λ w. keeps_for q.desks w n) (held_page paged n) (held_page q.pages n) (pins.pages n);
    doomed = doomed_is;
    out = seen_is;
    asked = all.asked;
    kept = all.kept;
    pinned = λ w n k. kept_pinned w n (all.kept w n ∙ k);
  }

  -- ---- and the pool stays one

  keeps_out : (n : Name) → is_some (held_node q.nodes n) ≡ true → out_held (held_node q.nodes n) ≡ out_held (held_node p.nodes n)
  keeps_out n here = gets_out (λ w. keeps_for q.desks w n) (held_node mid n) (held_node q.nodes n) (pins.nodes n) ∙ ap out_held (lands n).is
      ∙ landed_out (children mid n) (drafted d n) (lands n).marked (held_node p.nodes n) (sym (node_some n) ∙ here)

  page_keeps_out : (n : Name) → is_some (held_page q.pages n) ≡ true → out_page (held_page q.pages n) ≡ out_page (held_page p.pages n)
  page_keeps_out n here = page_gets_out (λ w. keeps_for q.desks w n) (held_page paged n) (held_page q.pages n) (pins.pages n) ∙ ap out_page (landed n)
      ∙ landed_page_out (change_of e n) (held_page p.pages n) (sym (page_some n) ∙ here)

  touched_still : (b : Bool) (who : ℕ) (o : pending.Out) → (x : pending.Out) × (touched_so b (Some (who, o)) ≡ Some (who, x))
  touched_still true who o = (_, refl)
  touched_still false who o = (o, refl)

  untouched : (b : Bool) (z : Option (ℕ × pending.Out)) (who : ℕ) (o : pending.Out) → touched_so b z ≡ Some (who, o) → o.touched ≡ false → (b ≡ false) × (z ≡ Some (who, o))
  untouched false z who o at fresh = (refl, at)
  untouched true None who o at fresh = absurd (cc)
  untouched true (Some y) who o at fresh =
      let h = some_pair_parts y.0 who (touched_out y.1) o at in
      absurd (true≢false (ap (λ (x : pending.Out). x.touched) h.1 ∙ fresh))

  module _ (pool : IsPool p) where
    tied_node : (n : Name) (out : Option Out) → Tied (held_node p.nodes n) out → Tied (held_node q.nodes n) (option_map (touched_if (held_touched (held_node p.nodes n) (held_node q.nodes n))) out)
    tied_node n out t = tied_after (held_node p.nodes n) (held_node q.nodes n) out t (λ a b. keeps_out n b)

    nodes_tied : (key : List ℕ) (n : Name) → IsNodeName n → Tied (held_node q.nodes n) (out_seen key q.desks n)
    nodes_tied key (Entry i) k = subst (Tied (held_node q.nodes (Entry i))) (sym (seen_is key (Entry i))) (tied_node (Entry i) (out_seen key p.desks (Entry i)) (pool.nodes key (Entry i) k))
    nodes_tied key (Part f l i) k = subst (Tied (held_node q.nodes (Part f l i))) (sym (seen_is key (Part f l i))) (tied_node (Part f l i) (out_seen key p.desks (Part f l i)) (pool.nodes key (Part f l i) k))
    nodes_tied key (Block f s) k = absurd k

    pages_tied : (key : List ℕ) (n : Name) → IsBlock n → TiedPage (held_page q.pages n) (out_seen key q.desks n)
    pages_tied key (Entry i) b = absurd b
    pages_tied key (Part f l i) b = absurd b
    pages_tied key (Block f s) b = subst (TiedPage (held_page q.pages (Block f s))) (sym (seen_is key (Block f s)))
        (page_tied_after (held_page p.pages (Block f s)) (held_page q.pages (Block f s)) (out_seen key p.desks (Block f s)) (pool.pages key (Block f s) b) (λ a h. page_keeps_out (Block f s) h))

    still_out : (n : Name) (who : ℕ) (o : pending.Out) → out_of p.desks n ≡ Some (who, o) → (x : pending.Out) × (out_of q.desks n ≡ Some (who, x))
    still_out n who o at = let t = touched_still (touches n) who o in (t.0, out_is n ∙ ap (touched_so (touches n)) at ∙ t.1)

    known_node : (n : Name) (who : ℕ) → IsNodeName n → (g : Option Held) → held_node p.nodes n ≡ g → out_held g ≡ Some who → (x : pending.Out) × (out_of q.desks n ≡ Some (who, x))
    known_node n who own None at none = absurd (cc)
    known_node n who own (Some g) at has = let k = pool.known n g who own at has in still_out n who k.0 k.1

    known_block : (n : Name) (who : ℕ) → IsBlock n → (g : Option PageHeld) → held_page p.pages n ≡ g → out_page g ≡ Some who → (x : pending.Out) × (out_of q.desks n ≡ Some (who, x))
    known_block n who own None at none = absurd (cc)
    known_block n who own (Some g) at has = let k = pool.known_page n g who own at has in still_out n who k.0 k.1

    known_is : (n : Name) (h : Held) (who : ℕ) → IsNodeName n → held_node q.nodes n ≡ Some h → h.out ≡ Some who → (x : pending.Out) × (out_of q.desks n ≡ Some (who, x))
    known_is n h who own at has = known_node n who own (held_node p.nodes n) refl (sym (keeps_out n (ap (λ (o : Option Held). is_some o) at)) ∙ ap out_held at ∙ has)

    known_page_is : (n : Name) (h : PageHeld) (who : ℕ) → IsBlock n → held_page q.pages n ≡ Some h → h.out ≡ Some who → (x : pending.Out) × (out_of q.desks n ≡ Some (who, x))
    known_page_is n h who own at has = known_block n who own (held_page p.pages n) refl (sym (page_keeps_out n (ap (λ (o : Option PageHeld). is_some o) at)) ∙ ap out_page at ∙ has)

    absent_was : (g : Option Held) (h : Option Held) → h ≡ None → held_touched g h ≡ false → g ≡ None
    absent_was None h none t = refl
    absent_was (Some g) h none t = absurd (true≢false (sym (ap (held_touched (Some g)) none) ∙ t))

    absent_page_was : (g : Option PageHeld) (h : Option PageHeld) → h ≡ None → page_touched g h ≡ false → g ≡ None
    absent_page_was None h none t = refl
    absent_page_was (Some g) h none t = absurd (true≢false (sym (ap (page_touched (Some g)) none) ∙ t))

    unset : (o : Option Change) (w : Bool) → is_held_after o w ≡ false → is_set o ≡ false
    unset None w e = refl
    unset (Some change) w e = e

    unset_page : (o : Option PageChange) (w : Bool) → is_page_held_after o w ≡ false → is_page_set o ≡ false
    unset_page None w e = refl
    unset_page (Some change) w e = e

    room_node : (n : Name) → held_node q.nodes n ≡ None → has_room p.nodes n ≡ true → has_room q.nodes n ≡ true
    room_node n none had = ap (λ (l : List Name). list_any (same_name n) l) pins.room ∙ room n ∙ ap (λ b. b && not (sets d n)) had
        ∙ ap not (unset (drafted d n) (was n) (sym (node_some n) ∙ ap (λ (o : Option Held). is_some o) none))

    room_page : (n : Name) → held_page q.pages n ≡ None → has_page_room p.pages n ≡ true → has_page_room q.pages n ≡ true
    room_page n none had = ap (λ (l : List Name). list_any (same_name n) l) pins.page_room ∙ page_room n ∙ ap (λ b. b && not (sets_page e n)) had
        ∙ ap not (unset_page (change_of e n) (page_was n) (sym (page_some n) ∙ ap (λ (o : Option PageHeld). is_some o) none))

    places : (n : Name) (who : ℕ) (o : pending.Out) → out_of q.desks n ≡ Some (who, o) → o.doing ≡ Get → o.touched ≡ false → IsAbsentIn q n → has_place q n ≡ true
    places (Entry i) who o at get fresh none =
        let u = untouched (touches (Entry i)) (out_of p.desks (Entry i)) who o (sym (out_is (Entry i)) ∙ at) fresh in
        room_node (Entry i) none (pool.places (Entry i) who o u.1 get fresh (absent_was (held_node p.nodes (Entry i)) (held_node q.nodes (Entry i)) none u.0))
    places (Part f l i) who o at get fresh none =
        let u = untouched (touches (Part f l i)) (out_of p.desks (Part f l i)) who o (sym (out_is (Part f l i)) ∙ at) fresh in
        room_node (Part f l i) none (pool.places (Part f l i) who o u.1 get fresh (absent_was (held_node p.nodes (Part f l i)) (held_node q.nodes (Part f l i)) none u.0))
    places (Block f s) who o at get fresh none =
        let u = untouched (touches (Block f s)) (out_of p.desks (Block f s)) who o (sym (out_is (Block f s)) ∙ at) fresh in
        room_page (Block f s) none (pool.places (Block f s) who o u.1 get fresh (absent_page_was (held_page p.pages (Block f s)) (held_page q.pages (Block f s)) none u.0))

    pub is_pool : IsPool q
    is_pool = record { nodes = nodes_tied; pages = pages_tied; known = known_is; known_page = known_page_is; places = places }
