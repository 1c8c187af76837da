use Rattle.std.proofs.Common.{◌≡◌, ◌≤◌, ◌++◌, ◌&&◌, not, Bool, ℕ, ◌∷◌, [], List, Option, Some, inl, refl, ap, sym, ◌∙◌, subst}
use Rattle.std.proofs.lemmas.Result.{err_from_is_err_and}
use Rattle.iris_name.specs.declared.name.FileId.{FileId}
use Rattle.iris_name.specs.declared.name.Name.{Name}
use Rattle.iris_node.specs.Fields.{EntryFields}
use Rattle.iris_node.specs.Rules.{IsLinkToNamed}
use Rattle.iris_node.specs.Trees.{Shown}
use Rattle.iris_shape.specs.Order.{less_name}
use Rattle.iris_shape.specs.Treap.{Treap}
use Rattle.iris_node.specs.declared.node.Link.{Link}
use Rattle.iris_treepaths.specs.Paths.{met_near}
use Rattle.iris_treepaths.specs.declared.paths.Crumb.{Crumb}
use Rattle.iris_treepaths.specs.Crumbs.{AreNamed}
use Rattle.iris_dirtree.specs.Descents.{StandsBelow, Walked}
use Rattle.iris_treepaths.specs.Rows.{Row}
use Rattle.iris_treepaths.proofs.PathLaws.{each_more, met_plug, near_over}
use Rattle.iris_dirtree.proofs.WaysDown.{walked_start, walked_more, walked_found, walk_stop}
use Rattle.iris_dirtree.proofs.removing.find_row.Goals as goal

pub loop-step-preserved : goal.loop-step-preserved
loop-step-preserved c =
    let e = c.in_ok-node.node in
    let v : c.node.inside.name ≡ e.name = ap (λ (x : EntryFields). x.name) c.node.view_is in
    let n = c.args.name.now in
    let q = c.args.cache.now in
    let d = c.args.draft.now in
    let name_test = λ (a : List ℕ). not (less_name a n) && not (less_name n a) in
    let k = c.in-Some.link in
    let ks = c.loop-step.path.items in
    let b = c.stands_before-right.result in
    let crumb : Crumb = record { node = e; right = b; hash = k.hash } in
    let N : FileId → Type 0 = λ i. 2 ≤ i.0 in
    let L : Option Link → Type 0 = λ o. IsLinkToNamed o in
    let linked : 2 ≤ k.id.0 = subst L c.in-Some.is c.loop-step.invariant.linked in
    record {
      named = subst AreNamed (sym c.in_ok-keep.ensures) (each_more (λ (k : Crumb). 2 ≤ k.node.id.0) ks crumb c.loop-step.invariant.named (subst N (sym c.in_ok-node.ensures.own) linked));
      linked = c.side-at.ensures.linked;
      walked = λ old new t lasts p start.
          let S : Option Link → Type 0 = λ o. Walked old new q lasts d p n t ks o in
          let now = subst S c.in-Some.is (c.loop-step.invariant.walked old new t lasts p start) in
          let more = walked_more old new q lasts d p n t ks k e b c.in_ok-node.ensures.entry (ap name_test (sym v) ∙ sym c.is_named.ensures ∙ c.if-is_named.false) (ap (λ a. less_name a n) (sym v) ∙ sym c.stands_before-right.ensures) now in
          let A : List Crumb → Type 0 = λ ks. Walked old new q lasts d p n t ks c.side-at.result in
          let B : Option Link → Type 0 = λ o. Walked old new q lasts d p n t (ks ++ crumb ∷ []) o in
          subst A (sym c.in_ok-keep.ensures) (subst B (sym c.side-at.ensures.link) more.walked);
    }

pub returns-then-is_named-clause-found : goal.returns-then-is_named-clause-found
returns-then-is_named-clause-found c = λ old new t lasts p start.
    let n = c.args.name.now in
    let S : Option Link → Type 0 = λ o. Walked old new c.args.cache.now lasts c.args.draft.now p n t c.loop-step.path.items o in
    let now = subst S c.in-Some.is (c.loop-step.invariant.walked old new t lasts p start) in
    let v : c.node.inside.name ≡ c.in_ok-node.node.name = ap (λ (x : EntryFields). x.name) c.node.view_is in
    let name_test = λ (a : List ℕ). not (less_name a n) && not (less_name n a) in
    walked_found old new c.args.cache.now lasts c.args.draft.now p n t c.loop-step.path.items c.in-Some.link c.in_ok-node.node c.in_ok-node.ensures.entry (ap name_test (sym v) ∙ sym c.is_named.ensures ∙ c.if-is_named.true) now

pub returns-in_err-node-clause-short : goal.returns-in_err-node-clause-short
returns-in_err-node-clause-short c =
    let r = err_from_is_err_and c.from_residual.result c.from_residual.ensures.1 in
    let n = c.args.name.now in
    let q = c.args.cache.now in
    let d = c.args.draft.now in
    let ks = c.loop-step.path.items in
    let walked : (old new : Shown) (t : Treap Row) (lasts : Name → Bool) (p : Name) → StandsBelow old new q t lasts d p c.args.top t → Walked old new q lasts d p n t ks (Some c.in-Some.link) = λ old new t lasts p start.
    let S : Option Link → Type 0 = λ o. Walked old new q lasts d p n t ks o in
    subst S c.in-Some.is (c.loop-step.invariant.walked old new t lasts p start) in
    rw (r.1, r.2) (walk_stop q d n (met_near n) c.args.top ks c.in-Some.link c.in_err-node.field-0.0 (λ y l m. inl refl) (met_plug n (met_near n) (near_over n)) walked c.in_err-node.ensures.short)

pub loop-step-init : goal.loop-step-init
loop-step-init c = record {
  named = subst AreNamed (sym c.new-path.ensures.items) tt;
  linked = c.requires;
  walked = λ old new t lasts p start.
      let W : List Crumb → Type 0 = λ ks. Walked old new c.args.cache.now lasts c.args.draft.now p c.args.name.now t ks c.args.top in
      subst W (sym c.new-path.ensures.items) (walked_start old new c.args.cache.now lasts c.args.draft.now p c.args.name.now t c.args.top start);
}
