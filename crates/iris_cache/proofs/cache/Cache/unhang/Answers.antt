use Rattle.std.proofs.Common.{◌||◌, ap, sym, ◌∙◌, arith, None}
use Rattle.iris_name.specs.Names.{same_name}
use Rattle.iris_name.specs.NameLaws.{same_name_equiv}
use Rattle.iris_name.specs.declared.name.Name.{Name}
use Rattle.iris_cache.specs.Held.{with_parent}
use Rattle.iris_cache.specs.Applied.{bare}
use Rattle.iris_cache.specs.Resident.{map_if}
use Rattle.iris_cache.proofs.Drafts.{among, among-more, among-all}
use Rattle.iris_cache.proofs.Landing.{unhung-twice}
use Rattle.iris_cache.proofs.cache.Cache.unhang.Goals as goal

pub loop-i-preserved : goal.loop-i-preserved
loop-i-preserved c =
    let es = c.args.changes.now.entries in
    let i = c.loop-i.i in
    let n : Name = c.in-Some.name.now in
    let at = sym c.in-Some.ensures.entry in
    record {
      nodes = λ q.
          c.unhang_one.ensures.nodes q
          ∙ ap (map_if (same_name n q) (with_parent None)) (c.loop-i.invariant.nodes q)
          ∙ unhung-twice (among i es q) (same_name n q) (bare c.args.self.now q)
          ∙ ap (λ b. map_if (among i es q || b) (with_parent None) (bare c.args.self.now q)) (same_name_equiv.symm n q)
          ∙ ap (λ b. map_if b (with_parent None) (bare c.args.self.now q)) (sym (among-more es i n _ q at));
      room = c.unhang_one.ensures.room ∙ c.loop-i.invariant.room;
    }

pub returns-clause-nodes : goal.returns-clause-nodes
returns-clause-nodes c = λ q.
    let end = c.loop-i-test.false in
    let l = c.len-i-end.ensures.len in
    c.loop-i.invariant.nodes q ∙ ap (λ b. map_if b (with_parent None) (bare c.args.self.now q)) (among-all c.args.changes.now.entries c.loop-i.i q (omega (arith, end, l)))
