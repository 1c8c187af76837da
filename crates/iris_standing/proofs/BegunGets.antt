-- A get begins of what a request needs: it may, and the parent of its name is cached.
use Rattle.std.proofs.Common.{◌≡◌, ◌⊎◌, inl, inr, ℕ, zero, suc, List, Bool, true, false, Option, Some, IsSome, is_some, refl, ap, sym, subst, arith}
use Rattle.iris_blocks.specs.declared.held.PageHeld.{PageHeld}
use Rattle.iris_cache.specs.declared.held.Held.{Held}
use Rattle.iris_cache.specs.Pictures.{IsHashOf}
use Rattle.iris_cache.specs.Resident.{held_node}
use Rattle.iris_file_rules.specs.FileTable.{files}
use Rattle.iris_file_rules.specs.Rules.{file_rules, files_after, shown_after}
use Rattle.iris_file_rules.proofs.FileRecords.{hash_true}
use Rattle.iris_file_rules.proofs.SoundTables.{well_formed}
use Rattle.iris_history.specs.Kept.{Kept, shown_in}
use Rattle.iris_history.specs.Legal.{Rules}
use Rattle.iris_history.proofs.Steady.{true_false}
use Rattle.iris_invariant.specs.Agrees.{Getting, View, marked, Agrees, IsTrueOf}
use Rattle.iris_invariant.specs.Beginnings.{begun_out, MayGet}
use Rattle.iris_invariant.proofs.Bounds.{others_mark_nothing}
use Rattle.iris_invariant.proofs.EventLaws.{gets_begin}
use Rattle.iris_invariant.proofs.Knowledge.{marks_tell}
use Rattle.iris_invariant.proofs.ParentLaws.{parents_stay}
use Rattle.iris_name.specs.declared.name.FileId.{FileId}
use Rattle.iris_name.specs.declared.name.Hash32.{Hash32}
use Rattle.iris_name.specs.declared.name.Name.{Name}
use Rattle.iris_name.specs.declared.name.Name.TheVariants.{Entry, Part, Block}
use Rattle.iris_name.specs.declared.note.Expect.{Expect}
use Rattle.iris_name.specs.declared.note.Expect.TheVariants.{Hash}
use Rattle.iris_name.specs.declared.request.Request.{Request}
use Rattle.iris_name.specs.History.{Past}
use Rattle.iris_node.specs.Trees.{IsParent, IsRootName, node_name}
use Rattle.iris_node.specs.Unfolded.{Unfolded, Absent, Folder, Leaf, Even, Split, Stored, id_of}
use Rattle.iris_pool.specs.Pool.{PoolState}
use Rattle.iris_pool.specs.View.{pool_view}
use Rattle.iris_requests.specs.Needed.{IsAbsent, IsNeeded}
use Rattle.iris_table_laws.proofs.NodeParents.{roots_have_none}
use Rattle.iris_standing.specs.Standing.{Standing, with_pool, standing_view, leads_to, AgreesWith}
use Rattle.iris_standing.specs.Quiet.{expected_at, expected_of, GetsGoOn}
use Rattle.iris_standing.proofs.CarriedOver.{carried_alike, kept_before, lists_alike, trash_is, visible_is}
use Rattle.iris_standing.proofs.LinkedNames.{leading_name, leading_parent}

-- a live name that is absent is unmarked
unmarked : (k : Kept) (r : Rules) (opened : ℕ) (past : Past) (v : View) (n : Name) → Agrees k r opened past v → IsSome (shown_in k past n) → (v.cell n).resident ≡ false → marked (v.cell n) ≡ false
unmarked k r opened past v n h live absent = by (marked (v.cell n)) refl where
  by : (b : Bool) → marked (v.cell n) ≡ b → marked (v.cell n) ≡ false
  by false e = e
  by true e = absurd (true_false (v.cell n).resident ((marks_tell k r opened past v h n).dirty e live).0 absent)

absent_cell : (key : List ℕ) (p : PoolState) (n : Name) → IsAbsent p.nodes p.pages n → ((pool_view key p).cell n).resident ≡ false
absent_cell key p (Entry i) e = ap (λ (o : Option Held). is_some o) e
absent_cell key p (Part f l i) e = ap (λ (o : Option Held). is_some o) e
absent_cell key p (Block f q) e = ap (λ (o : Option PageHeld). is_some o) e

-- what is a node's is cached where the cache holds it
cached_cell : (key : List ℕ) (p : PoolState) (u : Unfolded) (n : Name) → node_name u ≡ Some n → IsSome (held_node p.nodes n) → ((pool_view key p).cell n).resident ≡ true
cached_cell key p u (Entry i) e held = held
cached_cell key p u (Part f l i) e held = held
cached_cell key p u (Block f q) e held = absurd (by u e) where
  by : (w : Unfolded) → node_name w ≡ Some (Block f q) → ⊥
  by (Folder id label less more inside) g = cc
  by (Leaf id label less more size counter versions) g = cc
  by (Split file level index low high) g = cc
  by Absent g = cc
  by (Even version) g = cc
  by (Stored version bytes) g = cc

entry_number : (i j : FileId) → Entry i ≡ Entry j → i.0 ≡ j.0
entry_number i j e = let same : i ≡ j = cc in ap (λ (x : FileId). x.0) same

module _ (opened : ℕ) (past : Past) (s : Standing) (a : AgreesWith opened past s) where
  -- the hash that is kept of a root is its true one
  root_hash : (i : ℕ) (id : FileId) (x : Hash32) → id.0 ≡ i → IsSome (shown_after s.keys past (Entry id)) → IsHashOf (shown_after s.keys past (Entry (id_of i))) x → IsTrueOf (files s.keys) (Entry id) (Hash x) (shown_after s.keys past (Entry id))
  root_hash i id x e live is = hash_true s.keys (files_after s.keys past) (Entry id) x refl live (subst (λ j. IsHashOf (shown_after s.keys past (Entry (id_of j))) x) (sym e) is)

  no_root : (id : FileId) (i : ℕ) → id.0 ≡ suc (suc i) → IsRootName (Entry id) → ⊥
  no_root id i e (inl r) = let z = entry_number id (id_of 0) r in omega (arith, e, z)
  no_root id i e (inr r) = let z = entry_number id (id_of 1) r in omega (arith, e, z)

  expected_entry : (id : FileId) (x : Expect) (i : ℕ) → id.0 ≡ i → IsSome (shown_after s.keys past (Entry id))
      → IsRootName (Entry id) ⊎ IsTrueOf (files s.keys) (Entry id) x (shown_after s.keys past (Entry id)) → IsTrueOf (files s.keys) (Entry id) (expected_at s x i) (shown_after s.keys past (Entry id))
  expected_entry id x zero e live w = root_hash 0 id s.visible e live (visible_is opened past s a)
  expected_entry id x (suc zero) e live w = root_hash 1 id s.trash e live (trash_is opened past s a)
  expected_entry id x (suc (suc i)) e live (inl root) = absurd (no_root id i e root)
  expected_entry id x (suc (suc i)) e live (inr is) = is

  expected : (n : Name) (x : Expect) → IsSome (shown_after s.keys past n)
      → IsRootName n ⊎ IsTrueOf (files s.keys) n x (shown_after s.keys past n) → IsTrueOf (files s.keys) n (expected_of s n x) (shown_after s.keys past n)
  expected (Entry id) x live w = expected_entry id x id.0 refl live w
  expected (Part f l i) x live (inl root) = absurd (elim root [ inl e ↦ cc | inr e ↦ cc ])
  expected (Part f l i) x live (inr is) = is
  expected (Block f p) x live (inl root) = absurd (elim root [ inl e ↦ cc | inr e ↦ cc ])
  expected (Block f p) x live (inr is) = is

  -- a get of what is needed may begin
  may_get : (who : ℕ) (request : Request) (n : Name) (x : Expect) → (standing_view s).asked who ≡ Some request → IsNeeded s.keys (files_after s.keys past) request s.pool.nodes s.pool.pages n x
      → MayGet (files s.keys) (file_rules s.keys) past (standing_view s) who n request (expected_of s n x)
  may_get who request n x asked need = let absent = absent_cell s.keys.block s.pool n need.absent in record {
    live = need.live;
    unmarked = unmarked (files s.keys) (file_rules s.keys) opened past (standing_view s) n a.agrees need.live absent;
    absent = λ ch. absent;
    expected = expected n x need.live need.expected;
    asked = asked;
    reached = need.reached;
  }

  -- each parent of what is needed is cached
  parent_cached : (request : Request) (n : Name) (x : Expect) → IsNeeded s.keys (files_after s.keys past) request s.pool.nodes s.pool.pages n x
      → (p : Name) (u : Unfolded) → shown_after s.keys past p ≡ Some u → leads_to u n ≡ true → ((standing_view s).cell p).resident ≡ true
  parent_cached request n x need p u live l =
      let above : IsParent (shown_after s.keys past) p n = leading_parent (shown_after s.keys past) p n u live l in
      elim need.parent [
        | inl root ↦ absurd (roots_have_none s.keys.order (files_after s.keys past) p n a.shows.sound root above)
        | inr f ↦ cached_cell s.keys.block s.pool u p (leading_name (shown_after s.keys past) p n u (well_formed s.keys past).tree live l) (f p above)
      ]

pub gets_go_on : GetsGoOn
gets_go_on opened past s p who since request n x at asked need b nodes pages a = carried_alike opened past past s p a (record {
  table = refl;
  alike = lists_alike s.pool p nodes pages;
  agrees = gets_begin (files s.keys) (file_rules s.keys) opened past (standing_view s) (standing_view (with_pool p s)) who since n request (expected_of s n x) at (may_get opened past s a who request n x asked need) b a.agrees;
  parents = (parents_stay (files s.keys)).begins leads_to past n (begun_out who since (Some request) (Getting (expected_of s n x)) false) (standing_view s) (standing_view (with_pool p s)) a.parents b (λ y e. parent_cached opened past s a request n x need);
  evidence = λ w q e. a.evidence w q (kept_before n (standing_view s) (standing_view (with_pool p s)) b.rest b.pins w q e);
  fewer = others_mark_nothing.begins n (begun_out who since (Some request) (Getting (expected_of s n x)) false) (standing_view s) (standing_view (with_pool p s)) b;
})
