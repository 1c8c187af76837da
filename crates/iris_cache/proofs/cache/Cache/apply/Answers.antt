use Rattle.std.proofs.Common.{◌≡◌, ◌+◌, ap, sym, ◌∙◌, subst, true, Option, None, is_some, cond, length, List}
use Rattle.std.specs.Option.{option_map}
use Rattle.std.specs.List.{list_any}
use Rattle.iris_name.specs.Names.{same_name}
use Rattle.iris_name.specs.declared.name.Name.{Name}
use Rattle.iris_cache.specs.declared.draft.Change.{Change}
use Rattle.iris_cache.specs.declared.held.Held.{Held}
use Rattle.iris_cache.specs.Held.{with_parent, with_kids, moved_node}
use Rattle.iris_cache.specs.Drafted.{Drafted, drafted, is_set}
use Rattle.iris_cache.specs.Applied.{bare, node_written, node_of_change, spent, hung, landed_node, Lands}
use Rattle.iris_cache.specs.Resident.{held_node, map_if, IsSoundCache}
use Rattle.iris_cache.proofs.HeldChanges.{none-back}
use Rattle.iris_cache.proofs.Landing.{landing, whole, bare-none}
use Rattle.iris_cache.proofs.Ways.{over-met}
use Rattle.iris_cache.proofs.cache.Cache.apply.Goals as goal

pub write-requires-clause-places : goal.write-requires-clause-places
write-requires-clause-places c = λ q set none.
    let old = c.args.self.now in
    let marked = c.mark_changed.new.self in
    let m = c.mark_changed.ensures.nodes q in
    let away : bare c.unhang.new.self q ≡ None = ap (option_map (with_kids 0)) none in
    let b : bare marked q ≡ None = none-back _ (with_parent None) (bare marked q) (bare c.unhang.new.self q) (c.unhang.ensures.nodes q) away in
    let h : held_node old q ≡ None = none-back m.marked moved_node (held_node old q) (held_node marked q) m.is (bare-none marked q b) in
    let sets : is_set (drafted c.args.draft q) ≡ true = ap (λ l. is_set (drafted (record { changes = l }) q)) (sym c.into_changes-changes.ensures.changes) ∙ set in
    ap (list_any (same_name q)) (c.unhang.ensures.room ∙ c.mark_changed.ensures.room) ∙ c.requires q sets h

pub returns-clause-nodes : goal.returns-clause-nodes
returns-clause-nodes c = λ q.
    let old = c.args.self.now in
    let marked = c.mark_changed.new.self in
    let unhung = c.unhang.new.self in
    let wrote = c.write.new.self in
    let new = c.hang.new.self in
    let D : Drafted = record { changes = c.into_changes-changes.result.entries } in
    let o : Option Change = drafted D q in
    let m = c.mark_changed.ensures.nodes q in
    let y : Option Held = map_if m.marked moved_node (held_node old q) in
    let a : bare unhung q ≡ map_if (is_some o) (with_parent None) (option_map (with_kids 0) y) = c.unhang.ensures.nodes q ∙ ap (λ x. map_if (is_some o) (with_parent None) (option_map (with_kids 0) x)) m.is in
    let z : Option Held = map_if (is_some o) (with_parent None) (option_map (with_kids 0) y) in
    let b : bare wrote q ≡ cond (is_some o) (node_written (node_of_change o) z) z = c.write.ensures.nodes q ∙ ap (λ x. cond (is_some o) (node_written (node_of_change o) x) x) a in
    let d : bare new q ≡ option_map (with_kids 0) (landed_node o y) = c.hang.ensures.nodes q ∙ ap (λ v. hung v (bare wrote q)) (c.write.ensures.changes q) ∙ ap (hung (option_map spent o)) b ∙ landing o y in
    let lands : Lands D old new q = record {
      marked = m.marked;
      is = whole new q (landed_node o y) (subst IsSoundCache c.self.view_is c.self.invariant.sound) d;
      from = λ t. let f = m.from t in (f.0, f.1, (length old.nodes + length D.changes + 1, f.2));
      all = λ n f over. m.all n f (over-met D old n q over);
    } in
    subst (λ (l : List (Name × Change)). Lands (record { changes = l }) old new q) c.into_changes-changes.ensures.changes lands
