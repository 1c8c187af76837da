use Rattle.std.proofs.Common.{◌≡◌, ◌≤◌, ◌++◌, ◌∷◌, [], List, Bool, true, false, cond, ℕ, Option, Some, None, refl, ap, sym, ◌∙◌, subst, arith}
use Rattle.std.proofs.lemmas.Result.{err_from_is_err_and}
use Rattle.std.proofs.lemmas.Grind.{common_steps}
use Rattle.iris_name.specs.Hmac.{priority}
use Rattle.iris_name.specs.declared.name.FileId.{FileId}
use Rattle.iris_name.specs.declared.name.Name.{Name}
use Rattle.iris_name.specs.declared.name.Name.TheVariants as name
use Rattle.iris_node.specs.declared.node.Link.{Link}
use Rattle.iris_node.specs.declared.node.Node.TheVariants as node
use Rattle.iris_node.specs.Fields.{EntryFields}
use Rattle.iris_node.specs.Rules.{IsLinkToNamed}
use Rattle.iris_node.specs.Trees.{Shown}
use Rattle.iris_node.specs.Unfolded.{id_of}
use Rattle.iris_shape.specs.Order.{outranks}
use Rattle.iris_shape.specs.Treap.{Treap}
use Rattle.iris_cache.specs.Drafted.{seen}
use Rattle.iris_treepaths.specs.declared.paths.Crumb.{Crumb}
use Rattle.iris_dirtree.specs.Merges.{Merging, IsMerged, IsRanked, ranked_link}
use Rattle.iris_dirtree.specs.declared.removing.Ranked.{Ranked}
use Rattle.iris_treepaths.specs.Nodes.{IsLinkLack, link_toward}
use Rattle.iris_treepaths.specs.Rows.{Row, up}
use Rattle.iris_treepaths.specs.Crumbs.{AreNamed}
use Rattle.iris_dirtree.proofs.MergedTreaps.{merge_more, merged_less, merged_more, merge_stop}
use Rattle.iris_treepaths.proofs.PathLaws.{each_more}
use Rattle.iris_dirtree.proofs.removing.merge_sides.Goals as goal

-- priorities tell which row stands above
ranks : (key : List ℕ) (j k : Ranked) (b : Bool) → IsRanked key (Some j) → IsRanked key (Some k) → b ≡ outranks j.rank j.link.id.0 k.rank k.link.id.0 → (x y : Row) → j.link.id ≡ id_of x.id → k.link.id ≡ id_of y.id → up key x y ≡ b
ranks key j k b rj rk e x y f g =
    sym (e ∙ ap (λ r. outranks r j.link.id.0 k.rank k.link.id.0) rj ∙ ap (λ r. outranks (priority key j.link.id.0) j.link.id.0 r k.link.id.0) rk
    ∙ ap (λ (i : FileId). outranks (priority key i.0) i.0 (priority key k.link.id.0) k.link.id.0) f ∙ ap (λ (i : FileId). outranks (priority key x.id) x.id (priority key i.0) i.0) g)

either : (P : Option Ranked → Type 0) (b : Bool) (x y : Option Ranked) → P x → P y → P (cond b x y)
either P true x y f g = f
either P false x y f g = g

chosen_linked : (b : Bool) (j k : Link) → 2 ≤ j.id.0 → 2 ≤ k.id.0 → 2 ≤ (cond b j k).id.0
chosen_linked true j k f g = f
chosen_linked false j k f g = g

-- the links after a step
next_less : (b : Bool) (next less : Option Ranked) (e : EntryFields) (j : Link) → ranked_link next ≡ link_toward b e → ranked_link less ≡ Some j → ranked_link (cond b next less) ≡ cond b e.right (Some j)
next_less true next less e j f g = f
next_less false next less e j f g = g

next_more : (b : Bool) (more next : Option Ranked) (e : EntryFields) (k : Link) → ranked_link next ≡ link_toward b e → ranked_link more ≡ Some k → ranked_link (cond b more next) ≡ cond b (Some k) e.left
next_more true more next e k f g = g
next_more false more next e k f g = f

pub returns-in_default-clause-merged : goal.returns-in_default-clause-merged
returns-in_default-clause-merged c = λ old new home u lasts met start.
    let q = c.args.cache.now in
    let d = c.args.draft.now in
    let ks = c.loop-step.path.items in
    let J : Option Ranked → Type 0 = λ o. Merging old new q home lasts d (up c.args.keys.now.order) met u ks (ranked_link o) (ranked_link c.loop-step.more) in
    let e : c.loop-step.less ≡ None = grind (arith, common_steps) in
    let D : Option Link → Type 0 = λ o. IsMerged old q home lasts d u ks o in
    subst D (sym c.link_of.ensures) (merged_less old new q home lasts d (up c.args.keys.now.order) met u ks (ranked_link c.loop-step.more) (subst J e (c.loop-step.invariant.merging old new home u lasts met start)))

pub returns-in_default-more-clause-merged : goal.returns-in_default-more-clause-merged
returns-in_default-more-clause-merged c = λ old new home u lasts met start.
    let q = c.args.cache.now in
    let d = c.args.draft.now in
    let ks = c.loop-step.path.items in
    let J : Option Ranked → Type 0 = λ o. Merging old new q home lasts d (up c.args.keys.now.order) met u ks (ranked_link c.loop-step.less) (ranked_link o) in
    let e : c.loop-step.more ≡ None = grind (arith, common_steps) in
    let D : Option Link → Type 0 = λ o. IsMerged old q home lasts d u ks o in
    let E : Option Ranked → Type 0 = λ o. D (ranked_link o) in
    subst D (sym c.link_of-in_default-more.ensures) (subst E c.in-Some.is (merged_more old new q home lasts d (up c.args.keys.now.order) met u ks (ranked_link c.loop-step.less) (subst J e (c.loop-step.invariant.merging old new home u lasts met start))))

pub returns-in_err-node-clause-short : goal.returns-in_err-node-clause-short
returns-in_err-node-clause-short c =
    let p = err_from_is_err_and c.from_residual.result c.from_residual.ensures.1 in
    let q = c.args.cache.now in
    let d = c.args.draft.now in
    let ks = c.loop-step.path.items in
    let x = c.in-Some.x in
    let y = c.in-Some-more.y in
    let merges : (old new : Shown) (home u : Treap Row) (lasts : Name → Bool) (met : List Row) → Merging old new q home lasts d (up c.args.keys.now.order) met u c.args.path.items c.args.row.now.left c.args.row.now.right
    → Merging old new q home lasts d (up c.args.keys.now.order) met u ks (Some x.link) (Some y.link) = λ old new home u lasts met start.
    let J : Option Ranked → Option Ranked → Type 0 = λ o w. Merging old new q home lasts d (up c.args.keys.now.order) met u ks (ranked_link o) (ranked_link w) in
    subst (J (Some x)) c.in-Some-more.is (subst (λ (o : Option Ranked). J o c.loop-step.more) c.in-Some.is (c.loop-step.invariant.merging old new home u lasts met start)) in
    let K : Link → Type 0 = λ l. IsLinkLack d q l c.in_err-node.field-0.0 in
    rw (p.1, p.2) (merge_stop q d (up c.args.keys.now.order) c.args.path.items ks c.args.row.now.left c.args.row.now.right x.link y.link c.outranks-right.result c.in_err-node.field-0.0 merges (subst K c.chosen-link.ensures c.in_err-node.ensures.short))

pub loop-step-preserved : goal.loop-step-preserved
loop-step-preserved c =
    let e = c.in_ok-node.node in
    let key = c.args.keys.now.order in
    let q = c.args.cache.now in
    let d = c.args.draft.now in
    let x = c.in-Some.x in
    let y = c.in-Some-more.y in
    let j = x.link in
    let k = y.link in
    let less : Option Ranked = Some x in
    let more : Option Ranked = Some y in
    let next = c.with_rank-next.result in
    let b = c.outranks-right.result in
    let ks = c.loop-step.path.items in
    let inv = c.loop-step.invariant in
    let crumb : Crumb = record { node = e; right = b; hash = c.chosen-link.result.hash } in
    let L : Option Ranked → Type 0 = λ o. IsLinkToNamed (ranked_link o) in
    let R : Option Ranked → Type 0 = IsRanked key in
    let jl : 2 ≤ j.id.0 = subst L c.in-Some.is inv.less in
    let kl : 2 ≤ k.id.0 = subst L c.in-Some-more.is inv.more in
    let N : FileId → Type 0 = λ i. 2 ≤ i.0 in
    let M : Link → Type 0 = λ l. 2 ≤ l.id.0 in
    let jr = subst R c.in-Some.is inv.less_rank in
    let kr = subst R c.in-Some-more.is inv.more_rank in
    let il : 2 ≤ c.chosen-link.result.id.0 = subst M (sym c.chosen-link.ensures) (chosen_linked b j k jl kl) in
    let O : Option Link → Type 0 = λ o. IsLinkToNamed o in
    let next_is : ranked_link next ≡ link_toward b e = c.with_rank-next.ensures.link ∙ c.side.ensures.link in
    let next_linked : L next = subst O (sym c.with_rank-next.ensures.link) c.side.ensures.linked in
    record {
      named = subst AreNamed (sym c.in_ok-keep.ensures) (each_more (λ (k : Crumb). 2 ≤ k.node.id.0) ks crumb inv.named (subst N (sym c.in_ok-node.ensures.own) il));
      less = subst L (sym c.chosen_side-less.ensures) (either L b next less next_linked jl);
      more = subst L (sym c.chosen_side-more.ensures) (either L b more next kl next_linked);
      less_rank = subst R (sym c.chosen_side-less.ensures) (either R b next less c.with_rank-next.ensures.rank jr);
      more_rank = subst R (sym c.chosen_side-more.ensures) (either R b more next kr c.with_rank-next.ensures.rank);
      merging = λ old new home u lasts met start.
          let J : Option Ranked → Option Ranked → Type 0 = λ o w. Merging old new q home lasts d (up key) met u ks (ranked_link o) (ranked_link w) in
          let now = subst (J (Some x)) c.in-Some-more.is (subst (λ (o : Option Ranked). J o c.loop-step.more) c.in-Some.is (inv.merging old new home u lasts met start)) in
          let S : Link → Type 0 = λ l. seen d q (name.Entry l.id) ≡ Some (node.Entry e) in
          let at = subst S c.chosen-link.ensures c.in_ok-node.ensures.entry in
          let step = merge_more old new q home lasts d (up key) met u ks j k e b (ranks key x y b jr kr c.outranks-right.ensures) at now in
          let A : List Crumb → Option Link → Option Link → Type 0 = λ ks o w. Merging old new q home lasts d (up key) met u ks o w in
          let B : Link → Type 0 = λ l. A (ks ++ record { node = e; right = b; hash = l.hash } ∷ []) (cond b e.right (Some j)) (cond b (Some k) e.left) in
          let m0 = subst B (sym c.chosen-link.ensures) step in
          let less_is = ap ranked_link c.chosen_side-less.ensures ∙ next_less b next less e j next_is refl in
          let more_is = ap ranked_link c.chosen_side-more.ensures ∙ next_more b more next e k next_is refl in
          let m1 = subst (λ (o : Option Link). A (ks ++ crumb ∷ []) o (cond b (Some k) e.left)) (sym less_is) m0 in
          let m2 = subst (λ (o : Option Link). A (ks ++ crumb ∷ []) (ranked_link c.chosen_side-less.result) o) (sym more_is) m1 in
          subst (λ (w : List Crumb). A w (ranked_link c.chosen_side-less.result) (ranked_link c.chosen_side-more.result)) (sym c.in_ok-keep.ensures) m2;
    }
