use Rattle.std.proofs.Common.{◌≡◌, ◌≤◌, List, Some, ap, sym, ◌∙◌, subst}
use Rattle.iris_name.specs.declared.name.FileId.{FileId}
use Rattle.iris_name.specs.declared.name.Name.TheVariants as name
use Rattle.iris_treepaths.specs.declared.paths.Crumb.{Crumb}
use Rattle.iris_treepaths.specs.Crumbs.{AreNamed, Rises, crumb_above}
use Rattle.iris_treepaths.specs.Nodes.{IsPut, turned}
use Rattle.iris_treepaths.proofs.Owned.{only_more}
use Rattle.iris_treepaths.proofs.PathLaws.{each_front}
use Rattle.iris_treepaths.proofs.RisenPaths.{rising_more}
use Rattle.iris_treepaths.proofs.RowNodes.{turned_id}
use Rattle.iris_treepaths.proofs.paths.climb.Goals as goal

-- the entry that is set anew
placed : (c : goal.In_ok-rehang) → IsPut c.loop-crumb.draft c.rehang.new.draft (Some (name.Entry (crumb_above c.args.dir c.pop.new.self.items))) (turned c.in-Some.crumb.right c.loop-crumb.link c.in-Some.crumb.node)
placed c =
    let e = turned c.in-Some.crumb.right c.loop-crumb.link c.in-Some.crumb.node in
    let P : FileId → Type 0 = λ i. IsPut c.loop-crumb.draft c.rehang.new.draft (Some (name.Entry i)) e in
    subst P (c.above-parent.ensures ∙ ap (crumb_above c.args.dir) c.as_slice.ensures.value) c.in_ok-rehang.ensures.set

pub rehang-requires-clause-row : goal.rehang-requires-clause-row
rehang-requires-clause-row c = (each_front (λ (k : Crumb). 2 ≤ k.node.id.0) c.pop.new.self.items c.in-Some.crumb (subst AreNamed c.in-Some.ensures.items c.loop-crumb.invariant.named)).1

pub loop-crumb-preserved : goal.loop-crumb-preserved
loop-crumb-preserved c =
    let ks = c.pop.new.self.items in
    let crumb = c.in-Some.crumb in
    let link = c.loop-crumb.link in
    let k = c.in_ok-rehang.field-0 in
    let e = turned crumb.right link crumb.node in
    let p = Some (name.Entry (crumb_above c.args.dir ks)) in
    let set = placed c in
    let named = each_front (λ (k : Crumb). 2 ≤ k.node.id.0) ks crumb (subst AreNamed c.in-Some.ensures.items c.loop-crumb.invariant.named) in
    let id : k.id ≡ crumb.node.id = c.in_ok-rehang.ensures.link.id ∙ turned_id crumb.right link crumb.node in
    let N : FileId → Type 0 = λ i. 2 ≤ i.0 in
    record {
      named = named.0;
      linked = subst N (sym id) named.1;
      risen = λ old q home u lasts d once few there start.
          let S : List Crumb → Type 0 = λ ks. Rises old q home lasts d c.loop-crumb.draft (name.Entry c.args.dir) u ks link in
          rising_more old q home lasts d c.loop-crumb.draft c.rehang.new.draft c.args.dir u ks crumb link k once few there c.in_ok-rehang.ensures.link set
          (subst S c.in-Some.ensures.items (c.loop-crumb.invariant.risen old q home u lasts d once few there start));
      entries = only_more c.args.draft.now c.loop-crumb.draft c.rehang.new.draft p e c.loop-crumb.invariant.entries set;
    }
