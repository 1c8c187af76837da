use Rattle.std.proofs.Common.{◌||◌, ◌&&◌, ap, sym, ◌∙◌, arith, Bool, Option, is_some, not}
use Rattle.std.specs.Map.{lookup}
use Rattle.iris_name.specs.Names.{same_name}
use Rattle.iris_name.specs.NameLaws.{same_name_equiv, same_name-true}
use Rattle.iris_name.specs.declared.name.Name.{Name}
use Rattle.iris_cache.specs.declared.draft.Change.{Change}
use Rattle.indexmap.specs.IndexMap as map
use Rattle.indexmap.specs.IndexSet as set
use Rattle.iris_cache.specs.Drafted.{is_set}
use Rattle.iris_cache.proofs.Drafts.{among, among-more, among-all, place-held, placed-step, set-there}
use Rattle.iris_cache.proofs.places.place_all.Goals as goal

pub loop-i-preserved : goal.loop-i-preserved
loop-i-preserved c =
    let es = c.args.changes.now.entries in
    let i = c.loop-i.i in
    let n : Name = c.in-Some.name.now in
    let v : Change = c.in-Some.change.now in
    let at = sym c.in-Some.ensures.entry in
    let inv = c.loop-i.invariant in
    let p = c.place.ensures in
    let set-at : Name → Bool = λ q. is_set (map.get same_name c.args.changes.now q) in
    let want : Name → Bool = λ q. not (is_some (map.get same_name c.args.nodes.now q)) in
    record {
      names = λ q.
          p.names q
          ∙ ap (λ b. b || (same_name n q && (is_some v.node && want n))) (inv.names q)
          ∙ placed-step (set.contains same_name c.args.places.now q) (among i es q) (same_name n q) (set-at q) (want q) (is_some v.node && want n)
          (λ s. ap (λ (o : Option Change). is_set o && want n) (sym (place-held es i n v c.requires.once at)) ∙ ap (λ (k : Name). set-at k && want k) (same_name-true n q s))
          ∙ ap (λ b. set.contains same_name c.args.places.now q || ((among i es q || b) && (set-at q && want q))) (same_name_equiv.symm n q)
          ∙ ap (λ b. set.contains same_name c.args.places.now q || (b && (set-at q && want q))) (sym (among-more es i n v q at));
      len = let a = inv.len in let b = p.len in omega (arith, a, b);
      spare = let a = inv.spare in let b = p.spare in omega (arith, a, b);
    }

pub returns-clause-names : goal.returns-clause-names
returns-clause-names c = λ q.
    let es = c.args.changes.now.entries in
    let end = c.loop-i-test.false in
    let l = c.len-i-end.ensures.len in
    c.loop-i.invariant.names q
    ∙ ap (λ b. set.contains same_name c.args.places.now q || (b && (is_set (map.get same_name c.args.changes.now q) && not (is_some (map.get same_name c.args.nodes.now q))))) (among-all es c.loop-i.i q (omega (arith, end, l)))
    ∙ ap (λ b. set.contains same_name c.args.places.now q || b) (set-there (lookup (same_name q) es) _)
