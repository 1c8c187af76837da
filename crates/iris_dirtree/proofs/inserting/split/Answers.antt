use Rattle.std.proofs.Common.{◌≡◌, ◌≤◌, ◌++◌, ◌&&◌, not, Bool, true, false, cond, ℕ, ◌∷◌, [], List, Option, Some, None, ap, sym, ◌∙◌, subst, arith}
use Rattle.std.proofs.lemmas.Result.{err_from_is_err_and}
use Rattle.std.proofs.lemmas.Grind.{common_steps}
use Rattle.iris_name.specs.declared.name.FileId.{FileId}
use Rattle.iris_name.specs.declared.name.Name.{Name}
use Rattle.iris_node.specs.Fields.{EntryFields}
use Rattle.iris_node.specs.Rules.{IsLinkToNamed}
use Rattle.iris_node.specs.Trees.{Shown}
use Rattle.iris_node.specs.declared.node.Link.{Link}
use Rattle.iris_shape.specs.Order.{less_name}
use Rattle.iris_shape.specs.Treap.{Treap}
use Rattle.iris_treepaths.specs.declared.paths.Crumb.{Crumb}
use Rattle.iris_treepaths.specs.Crumbs.{AreNamed}
use Rattle.iris_dirtree.specs.Descents.{StandsBelow}
use Rattle.iris_treepaths.specs.Rows.{Row}
use Rattle.iris_dirtree.specs.Splits.{Splitting}
use Rattle.iris_treepaths.proofs.PathLaws.{each_more}
use Rattle.iris_dirtree.proofs.SplitTreaps.{split_start, split_more, split_end, split_stop}
use Rattle.iris_dirtree.proofs.inserting.split.Goals as goal

either_named : (b : Bool) (ks js : List Crumb) → AreNamed ks → AreNamed js → AreNamed (cond b ks js)
either_named true ks js f g = f
either_named false ks js f g = g

pub loop-step-preserved : goal.loop-step-preserved
loop-step-preserved c =
    let e = c.in_ok-node.node in
    let v : c.node.inside.name ≡ e.name = ap (λ (x : EntryFields). x.name) c.node.view_is in
    let n = c.args.name.now in
    let q = c.args.cache.now in
    let d = c.args.draft.now in
    let name_test = λ (a : List ℕ). not (less_name a n) && not (less_name n a) in
    let k = c.in-Some.link in
    let lows = c.loop-step.halves.low.items in
    let highs = c.loop-step.halves.high.items in
    let b = c.stands_before-right.result in
    let crumb : Crumb = record { node = e; right = b; hash = k.hash } in
    let N : FileId → Type 0 = λ i. 2 ≤ i.0 in
    let L : Option Link → Type 0 = λ o. IsLinkToNamed o in
    let linked : 2 ≤ k.id.0 = subst L c.in-Some.is c.loop-step.invariant.linked in
    let own : 2 ≤ e.id.0 = subst N (sym c.in_ok-node.ensures.own) linked in
    let K : Crumb → Type 0 = λ k. 2 ≤ k.node.id.0 in
    record {
      low = subst AreNamed (sym c.in_ok-keep.ensures.low) (either_named b (lows ++ crumb ∷ []) lows (each_more K lows crumb c.loop-step.invariant.low own) c.loop-step.invariant.low);
      high = subst AreNamed (sym c.in_ok-keep.ensures.high) (either_named b highs (highs ++ crumb ∷ []) c.loop-step.invariant.high (each_more K highs crumb c.loop-step.invariant.high own));
      linked = c.side-at.ensures.linked;
      splitting = λ old new home t lasts p start.
          let S : List Crumb → List Crumb → Option Link → Type 0 = λ lows highs o. Splitting old new q home lasts d n t lows highs o in
          let now = subst (S lows highs) c.in-Some.is (c.loop-step.invariant.splitting old new home t lasts p start) in
          let more = split_more old new q home lasts d n t lows highs k e b c.in_ok-node.ensures.entry (ap name_test (sym v) ∙ sym c.is_named.ensures ∙ c.if-is_named.false) (ap (λ a. less_name a n) (sym v) ∙ sym c.stands_before-right.ensures) now in
          let m1 = subst (S (cond b (lows ++ crumb ∷ []) lows) (cond b highs (highs ++ crumb ∷ []))) (sym c.side-at.ensures.link) more in
          let m2 = subst (λ (ks : List Crumb). S ks (cond b highs (highs ++ crumb ∷ [])) c.side-at.result) (sym c.in_ok-keep.ensures.low) m1 in
          subst (λ (ks : List Crumb). S c.keep.new.self.low.items ks c.side-at.result) (sym c.in_ok-keep.ensures.high) m2;
    }

pub returns-in_default-clause-split : goal.returns-in_default-clause-split
returns-in_default-clause-split c = λ old new home t lasts p start.
    let none : c.loop-step.at ≡ None = grind (arith, common_steps) in
    let S : Option Link → Type 0 = λ o. Splitting old new c.args.cache.now home lasts c.args.draft.now c.args.name.now t c.loop-step.halves.low.items c.loop-step.halves.high.items o in
    split_end old new c.args.cache.now home lasts c.args.draft.now c.args.name.now t c.loop-step.halves.low.items c.loop-step.halves.high.items (subst S none (c.loop-step.invariant.splitting old new home t lasts p start))

pub returns-in_err-node-clause-short : goal.returns-in_err-node-clause-short
returns-in_err-node-clause-short c =
    let r = err_from_is_err_and c.from_residual.result c.from_residual.ensures.1 in
    let n = c.args.name.now in
    let q = c.args.cache.now in
    let d = c.args.draft.now in
    let lows = c.loop-step.halves.low.items in
    let highs = c.loop-step.halves.high.items in
    let splits : (old new : Shown) (home t : Treap Row) (lasts : Name → Bool) (p : Name) → StandsBelow old new q home lasts d p c.args.top t → Splitting old new q home lasts d n t lows highs (Some c.in-Some.link) = λ old new home t lasts p start.
    let S : Option Link → Type 0 = λ o. Splitting old new q home lasts d n t lows highs o in
    subst S c.in-Some.is (c.loop-step.invariant.splitting old new home t lasts p start) in
    rw (r.1, r.2) (split_stop q d n c.args.top lows highs c.in-Some.link c.in_err-node.field-0.0 splits c.in_err-node.ensures.short)

pub loop-step-init : goal.loop-step-init
loop-step-init c = record {
  low = subst AreNamed (sym c.new.ensures.items) tt;
  high = subst AreNamed (sym c.new-2.ensures.items) tt;
  linked = c.requires.linked;
  splitting = λ old new home t lasts p start.
      let S : List Crumb → List Crumb → Type 0 = λ lows highs. Splitting old new c.args.cache.now home lasts c.args.draft.now c.args.name.now t lows highs c.args.top in
      subst (S c.new.result.items) (sym c.new-2.ensures.items) (subst (λ (ks : List Crumb). S ks []) (sym c.new.ensures.items) (split_start old new c.args.cache.now home lasts c.args.draft.now c.args.name.now t p c.args.top start));
}
