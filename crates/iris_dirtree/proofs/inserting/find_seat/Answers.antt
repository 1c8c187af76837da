use Rattle.std.proofs.Common.{◌≡◌, ◌≤◌, ◌++◌, ◌&&◌, not, Bool, ℕ, ◌∷◌, [], List, Option, Some, None, false, inl, refl, ap, sym, ◌∙◌, subst, arith}
use Rattle.std.proofs.lemmas.Result.{err_from_is_err_and}
use Rattle.std.proofs.lemmas.Grind.{common_steps}
use Rattle.iris_name.specs.Hmac.{priority}
use Rattle.iris_name.specs.declared.name.FileId.{FileId}
use Rattle.iris_name.specs.declared.name.Name.{Name}
use Rattle.iris_node.specs.Fields.{EntryFields}
use Rattle.iris_node.specs.Rules.{IsLinkToNamed}
use Rattle.iris_node.specs.Local.{led_by}
use Rattle.iris_node.specs.Trees.{Shown}
use Rattle.iris_node.specs.declared.node.Link.{Link}
use Rattle.iris_shape.specs.Order.{less_name, beats}
use Rattle.iris_shape.specs.Treap.{Treap, Each}
use Rattle.iris_treepaths.specs.declared.paths.Crumb.{Crumb}
use Rattle.iris_treepaths.specs.Crumbs.{AreNamed}
use Rattle.iris_dirtree.specs.Descents.{StandsBelow, Walked}
use Rattle.iris_treepaths.specs.Paths.{Frame, met_along}
use Rattle.iris_treepaths.specs.Rows.{Row}
use Rattle.iris_treepaths.proofs.PathLaws.{each_more, met_plug, along_over}
use Rattle.iris_dirtree.proofs.SplitTreaps.{top_below, empty_below}
use Rattle.iris_dirtree.proofs.WaysDown.{walked_start, walked_more, walk_stop}
use Rattle.iris_dirtree.proofs.inserting.find_seat.Goals as goal

pub loop-step-preserved : goal.loop-step-preserved
loop-step-preserved c =
    let e = c.in_ok-node.node in
    let v : c.node.inside.name ≡ e.name = ap (λ (x : EntryFields). x.name) c.node.view_is in
    let n = c.args.name.now in
    let q = c.args.cache.now in
    let d = c.args.draft.now in
    let name_test = λ (a : List ℕ). not (less_name a n) && not (less_name n a) in
    let k = c.in-Some.link in
    let ks = c.loop-step.path.items in
    let b = c.stands_before-right.result in
    let crumb : Crumb = record { node = e; right = b; hash = k.hash } in
    let N : FileId → Type 0 = λ i. 2 ≤ i.0 in
    let L : Option Link → Type 0 = λ o. IsLinkToNamed o in
    let linked : 2 ≤ k.id.0 = subst L c.in-Some.is c.loop-step.invariant.linked in
    record {
      named = subst AreNamed (sym c.in_ok-keep.ensures) (each_more (λ (k : Crumb). 2 ≤ k.node.id.0) ks crumb c.loop-step.invariant.named (subst N (sym c.in_ok-node.ensures.own) linked));
      linked = c.side-at.ensures.linked;
      walked = λ old new t lasts p start.
          let B : Frame → Type 0 = λ f. beats (priority c.args.keys.now.order) c.args.id.0 f.row.id ≡ false in
          let W : List Crumb → Option Link → Type 0 = λ ks o. (w : Walked old new q lasts d p n t ks o) × Each B w.front in
          let now = subst (W ks) c.in-Some.is (c.loop-step.invariant.walked old new t lasts p start) in
          let more = walked_more old new q lasts d p n t ks k e b c.in_ok-node.ensures.entry (ap name_test (sym v) ∙ sym c.is_named.ensures ∙ c.if-is_named.false) (ap (λ a. less_name a n) (sym v) ∙ sym c.stands_before-right.ensures) now.0 in
          let here : B more.frame = ap (λ (i : FileId). beats (priority c.args.keys.now.order) c.args.id.0 i.0) (sym more.id_is) ∙ sym c.stands_above.ensures ∙ c.if-stands_above.false in
          let E : List Frame → Type 0 = λ fs. Each B fs in
          let made : W (ks ++ crumb ∷ []) _ = (more.walked, subst E (sym more.front_is) (each_more B now.0.front more.frame now.1 here)) in
          subst (λ (ks : List Crumb). W ks c.side-at.result) (sym c.in_ok-keep.ensures) (subst (W (ks ++ crumb ∷ [])) (sym c.side-at.ensures.link) made);
    }

pub returns-in_default-clause-reached : goal.returns-in_default-clause-reached
returns-in_default-clause-reached c = λ old new t lasts p start.
    let now = c.loop-step.invariant.walked old new t lasts p start in
    let none : c.loop-step.at ≡ None = grind (arith, common_steps) in
    let W : Option Link → Type 0 = λ o. Walked old new c.args.cache.now lasts c.args.draft.now p c.args.name.now t c.loop-step.path.items o in
    record { walked = now.0; above = now.1; below = empty_below (priority c.args.keys.now.order) c.args.id now.0.rest (ap led_by (sym none) ∙ now.0.stands.leads.led_is) }

pub returns-in_err-node-clause-short : goal.returns-in_err-node-clause-short
returns-in_err-node-clause-short c =
    let r = err_from_is_err_and c.from_residual.result c.from_residual.ensures.1 in
    let n = c.args.name.now in
    let q = c.args.cache.now in
    let d = c.args.draft.now in
    let ks = c.loop-step.path.items in
    let walked : (old new : Shown) (t : Treap Row) (lasts : Name → Bool) (p : Name) → StandsBelow old new q t lasts d p c.args.top t → Walked old new q lasts d p n t ks (Some c.in-Some.link) = λ old new t lasts p start.
    let S : Option Link → Type 0 = λ o. Walked old new q lasts d p n t ks o in
    subst S c.in-Some.is (c.loop-step.invariant.walked old new t lasts p start).0 in
    rw (r.1, r.2) (walk_stop q d n (met_along n) c.args.top ks c.in-Some.link c.in_err-node.field-0.0 (λ y l m. inl refl) (met_plug n (met_along n) (along_over n)) walked c.in_err-node.ensures.short)

pub loop-step-init : goal.loop-step-init
loop-step-init c = record {
  named = subst AreNamed (sym c.new-path.ensures.items) tt;
  linked = c.requires.linked;
  walked = λ old new t lasts p start.
      let B : Frame → Type 0 = λ f. beats (priority c.args.keys.now.order) c.args.id.0 f.row.id ≡ false in
      let W : List Crumb → Type 0 = λ ks. (w : Walked old new c.args.cache.now lasts c.args.draft.now p c.args.name.now t ks c.args.top) × Each B w.front in
      subst W (sym c.new-path.ensures.items) (walked_start old new c.args.cache.now lasts c.args.draft.now p c.args.name.now t c.args.top start, tt);
}

pub returns-then-stands_above-clause-reached : goal.returns-then-stands_above-clause-reached
returns-then-stands_above-clause-reached c = λ old new t lasts p start.
    let B : Frame → Type 0 = λ f. beats (priority c.args.keys.now.order) c.args.id.0 f.row.id ≡ false in
    let W : Option Link → Type 0 = λ o. (w : Walked old new c.args.cache.now lasts c.args.draft.now p c.args.name.now t c.loop-step.path.items o) × Each B w.front in
    let now = subst W c.in-Some.is (c.loop-step.invariant.walked old new t lasts p start) in
    record { walked = now.0; above = now.1; below = top_below (priority c.args.keys.now.order) c.args.id now.0.rest c.in-Some.link now.0.stands.leads.led_is (sym c.stands_above.ensures ∙ c.if-stands_above.true) }
