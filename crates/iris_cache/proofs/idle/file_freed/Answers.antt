use Rattle.std.proofs.Common.{◌||◌, ◌&&◌, ap, sym, ◌∙◌, arith, Bool}
use Rattle.std.specs.Map.{lookup}
use Rattle.iris_name.specs.Names.{same_name}
use Rattle.iris_name.specs.NameLaws.{same_name_equiv, same_name-true}
use Rattle.iris_name.specs.declared.name.Name.{Name}
use Rattle.iris_cache.specs.declared.held.Held.{Held}
use Rattle.iris_cache.specs.Idle.{is_idle, is_freed_by}
use Rattle.iris_cache.proofs.Drafts.{among, among-more, among-all}
use Rattle.iris_cache.proofs.IdleNodes.{freed-step, freed-there}
use Rattle.iris_cache.proofs.idle.file_freed.Goals as goal

pub loop-i-preserved : goal.loop-i-preserved
loop-i-preserved c =
    let es = c.args.nodes.now.entries in
    let i = c.loop-i.i in
    let n : Name = c.in-Some.name.now in
    let h : Held = c.in-Some.held.now in
    let inv = c.loop-i.invariant in
    let w = c.args.who in
    let o : Name → Bool = is_idle c.args.idle.now in
    record {
      unsure = λ sure. inv.unsure (c.file_where.ensures.unsure sure);
      names = λ sure q.
          let x = is_freed_by w (lookup (same_name q) es) in
          c.file_where.ensures.names sure q
          ∙ ap (λ b. b || (same_name n q && c.is_freed_by.result)) (inv.names (c.file_where.ensures.unsure sure) q)
          ∙ freed-step (o q) (among i es q) (same_name n q) x c.is_freed_by.result
          (λ s. c.is_freed_by.ensures ∙ ap (is_freed_by w) (sym c.in-Some.ensures.value) ∙ ap (λ (k : Name). is_freed_by w (lookup (same_name k) es)) (same_name-true n q s))
          ∙ ap (λ b. o q || ((among i es q || b) && x)) (same_name_equiv.symm n q)
          ∙ ap (λ b. o q || (b && x)) (sym (among-more es i n h q (sym c.in-Some.ensures.entry)));
    }

pub returns-clause-unsure : goal.returns-clause-unsure
returns-clause-unsure c = c.loop-i.invariant.unsure

pub returns-clause-names : goal.returns-clause-names
returns-clause-names c = λ sure q.
    let es = c.args.nodes.now.entries in
    let end = c.loop-i-test.false in
    let l = c.len-i-end.ensures.len in
    let o = lookup (same_name q) es in
    c.loop-i.invariant.names sure q
    ∙ ap (λ b. is_idle c.args.idle.now q || (b && is_freed_by c.args.who o)) (among-all es c.loop-i.i q (omega (arith, end, l)))
    ∙ ap (λ b. is_idle c.args.idle.now q || b) (freed-there c.args.who o)
