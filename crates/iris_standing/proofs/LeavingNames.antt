-- A node or a block leaves: no child of it is being fetched.
use Rattle.std.proofs.Common.{◌≡◌, inr, ℕ, Bool, true, false, cond, List, Option, Some, None, refl, ap, sym, ◌∙◌, subst, true≢false}
use Rattle.std.specs.Prelude.{IsSomeAnd}
use Rattle.iris_blocks.specs.declared.held.PageHeld.{PageHeld}
use Rattle.iris_blocks.specs.Held.{page_stay_of}
use Rattle.iris_blocks.specs.Paged.{Shows, held_page}
use Rattle.iris_cache.specs.declared.held.Held.{Held}
use Rattle.iris_cache.specs.Held.{kid_less, points, stay_of}
use Rattle.iris_cache.specs.Pictures.{Holds, Pictures}
use Rattle.iris_cache.specs.Resident.{held_node, map_if, resident_parent}
use Rattle.iris_cache.proofs.Keeping.{evict-keeps}
use Rattle.iris_desk.specs.AtDesks.{out_of}
use Rattle.iris_desk.specs.declared.out.Doing as desk
use Rattle.iris_desk.specs.declared.out.Doing.TheVariants.{Get, Put, Discard, Settle}
use Rattle.iris_desk.specs.declared.out.Out as pending
use Rattle.iris_desk.specs.declared.out.Record.{Record}
use Rattle.iris_file_rules.specs.FileTable.{files}
use Rattle.iris_file_rules.specs.Rules.{file_rules, shown_after}
use Rattle.iris_file_rules.proofs.SoundTables.{well_formed}
use Rattle.iris_forest.proofs.NodesWithTrueHashes.{parent_holds}
use Rattle.iris_invariant.specs.Agrees.{Getting, Out}
use Rattle.iris_invariant.specs.ParentLaws.{leads}
use Rattle.iris_invariant.specs.ParentsResident.{NoChildIsFetched}
use Rattle.iris_invariant.proofs.Bounds.{others_mark_nothing}
use Rattle.iris_invariant.proofs.EventLaws.{evictions_keep}
use Rattle.iris_invariant.proofs.ParentLaws.{parents_stay}
use Rattle.iris_name.specs.declared.name.Hash32.{Hash32}
use Rattle.iris_name.specs.declared.name.Name.{Name}
use Rattle.iris_name.specs.declared.note.Expect.{Expect}
use Rattle.iris_name.specs.History.{Past}
use Rattle.iris_name.specs.Names.{same_name}
use Rattle.iris_node.specs.Unfolded.{Stored}
use Rattle.iris_pool.specs.Going.{CanLeave, IsFetched, PageCanLeave}
use Rattle.iris_pool.specs.Pool.{PoolState}
use Rattle.iris_pool.specs.View.{doing_by, pool_view}
use Rattle.iris_pool.proofs.OutSeen.{seen_is}
use Rattle.iris_standing.specs.Standing.{Standing, with_pool, standing_view, leads_to, AgreesWith}
use Rattle.iris_standing.specs.Quiet.{NodesLeave, PagesLeave}
use Rattle.iris_standing.proofs.CarriedOver.{carried_over, kept_before}
use Rattle.iris_standing.proofs.LinkedNames.{leading_parent}
use Rattle.iris_standing.proofs.SeenTransfers.{cell_out}

that_is : {A : Type 0} (P : A → Type 0) (o : Option A) → IsSomeAnd o P → (h : A) × (o ≡ Some h) × P h
that_is P None s = absurd s
that_is P (Some h) s = (h, refl, s)

-- a get that is seen is one at a desk
seen_get : (key : List ℕ) (n : Name) (doing : desk.Doing) (expect : Option Expect) (r : Option Record) (x : Expect) → doing_by key n doing expect r ≡ Getting x → doing ≡ Get
seen_get key n Get expect r x e = refl
seen_get key n Put expect None x e = absurd (cc)
seen_get key n Put expect (Some y) x e = absurd (cc)
seen_get key n Discard expect r x e = absurd (cc)
seen_get key n Settle expect r x e = absurd (cc)

seen_fetched : (key : List ℕ) (p : PoolState) (n : Name) (o : Out) (x : Expect) → ((pool_view key p).cell n).out ≡ Some o → o.doing ≡ Getting x → IsFetched p.desks n
seen_fetched key p n o x out doing =
    let at = seen_is key p.desks (out_of p.desks n) o (sym (cell_out key p n) ∙ out) in
    let is = seen_get key at.0.1.name at.0.1.doing at.0.1.expect at.0.1.record x (ap (λ (z : Out). z.doing) (sym at.2) ∙ doing) in
    subst (λ z. IsSomeAnd z (λ (q : ℕ × pending.Out). q.1.doing ≡ Get)) (sym at.1) is

less_settled : (b : Bool) (o : Option Held) (h : Held) → map_if b kid_less o ≡ Some h → (g : Held) × (o ≡ Some g) × (h.settled ≡ g.settled)
less_settled true None h e = absurd (cc)
less_settled true (Some g) h e = let same : kid_less g ≡ h = cc in (g, refl, ap (λ (z : Held). z.settled) (sym same))
less_settled false None h e = absurd (cc)
less_settled false (Some g) h e = let same : g ≡ h = cc in (g, refl, ap (λ (z : Held). z.settled) (sym same))

-- what is left of one that may be held
was_held : {A : Type 0} (b : Bool) (o : Option A) (h : A) → cond b None o ≡ Some h → o ≡ Some h
was_held true o h e = absurd (cc)
was_held false o h e = e

-- no child of a node that can leave is being fetched
no_child : (opened : ℕ) (past : Past) (s : Standing) (n : Name) → AgreesWith opened past s → CanLeave s.pool n → NoChildIsFetched (files s.keys) (leads leads_to) past (standing_view s) n
no_child opened past s n a leave m o x u out doing live l =
    let t = shown_after s.keys past in
    let there = that_is (λ (h : Held). stay_of h ≡ None) (held_node s.pool.nodes n) leave.0 in
    let holds = parent_holds t n m there.0.node (well_formed s.keys past).formed (a.shows.pictures.nodes n there.0 there.1) (leading_parent t n m u live l) in
    leave.1 (inr (m, seen_fetched s.keys.block s.pool m o x out doing, subst (λ z. IsSomeAnd z (λ (h : Held). (y : Hash32) × Holds h.node m y)) (sym there.1) holds))

pub nodes_leave : NodesLeave
nodes_leave opened past s p n sound leave goes b pages a = carried_over opened past past s p a (record {
  table = refl;
  agrees = evictions_keep (files s.keys) (file_rules s.keys) opened past (standing_view s) (standing_view (with_pool p s)) n b a.agrees;
  pictures = evict-keeps (shown_after s.keys past) s.pool.nodes p.nodes n there.0 a.shows.pictures sound there.1 there.2 (a.settled n there.0 there.1) goes;
  shows = subst (λ c. Shows (shown_after s.keys past) c) (sym pages) a.shows.shows;
  settled = settled;
  parents = (parents_stay (files s.keys)).evicts leads_to past n (standing_view s) (standing_view (with_pool p s)) a.parents b (no_child opened past s n a leave);
  evidence = λ w q e. a.evidence w q (kept_before n (standing_view s) (standing_view (with_pool p s)) b.rest b.pins w q e);
  fewer = others_mark_nothing.evicts n (standing_view s) (standing_view (with_pool p s)) b;
}) where
  there : (h : Held) × (held_node s.pool.nodes n ≡ Some h) × (stay_of h ≡ None)
  there = that_is (λ (h : Held). stay_of h ≡ None) (held_node s.pool.nodes n) leave.0

  settled : (q : Name) (h : Held) → held_node p.nodes q ≡ Some h → h.settled ≡ true
  settled q h e =
      let was = less_settled (points (resident_parent s.pool.nodes n) q) (cond (same_name n q) None (held_node s.pool.nodes q)) h (sym (goes q) ∙ e) in
      was.2 ∙ a.settled q was.0 (was_held (same_name n q) (held_node s.pool.nodes q) was.0 was.1)

-- a block has no children
no_child_of_block : (opened : ℕ) (past : Past) (s : Standing) (n : Name) → AgreesWith opened past s → PageCanLeave s.pool n → NoChildIsFetched (files s.keys) (leads leads_to) past (standing_view s) n
no_child_of_block opened past s n a leave m o x u out doing live l =
    let there = that_is (λ (h : PageHeld). page_stay_of h ≡ None) (held_page s.pool.pages n) leave.0 in
    let same : Some (Stored there.0.version there.0.page) ≡ Some u = sym (a.shows.shows n there.0 there.1) ∙ live in
    let is : Stored there.0.version there.0.page ≡ u = cc in
    true≢false (sym (subst (λ z. leads_to z m ≡ true) (sym is) l))

pub pages_leave : PagesLeave
pages_leave opened past s p n leave goes b nodes a = carried_over opened past past s p a (record {
  table = refl;
  agrees = evictions_keep (files s.keys) (file_rules s.keys) opened past (standing_view s) (standing_view (with_pool p s)) n b a.agrees;
  pictures = subst (λ c. Pictures (shown_after s.keys past) c) (sym nodes) a.shows.pictures;
  shows = λ q h e. a.shows.shows q h (was_held (same_name n q) (held_page s.pool.pages q) h (sym (goes q) ∙ e));
  settled = λ q h e. a.settled q h (ap (λ c. held_node c q) (sym nodes) ∙ e);
  parents = (parents_stay (files s.keys)).evicts leads_to past n (standing_view s) (standing_view (with_pool p s)) a.parents b (no_child_of_block opened past s n a leave);
  evidence = λ w q e. a.evidence w q (kept_before n (standing_view s) (standing_view (with_pool p s)) b.rest b.pins w q e);
  fewer = others_mark_nothing.evicts n (standing_view s) (standing_view (with_pool p s)) b;
})
