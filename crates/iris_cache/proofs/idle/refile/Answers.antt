use Rattle.std.proofs.Common.{◌&&◌, ap, sym, ◌∙◌, cond, Bool}
use Rattle.std.specs.Map.{lookup}
use Rattle.iris_name.specs.Names.{same_name}
use Rattle.iris_name.specs.declared.name.Name.{Name}
use Rattle.iris_cache.specs.declared.held.Edited.{Edited}
use Rattle.iris_cache.specs.Idle.{is_idle, is_free, is_turned}
use Rattle.iris_cache.proofs.IdleNodes.{named-at}
use Rattle.iris_cache.proofs.idle.refile.Goals as goal

pub returns-in-Turned-clause-names : goal.returns-in-Turned-clause-names
returns-in-Turned-clause-names c = λ sure q.
    let n = c.args.name.now in
    let g : Name → Bool = λ k. is_free (lookup (same_name k) c.args.nodes.now.entries) in
    c.file.ensures.names sure q
    ∙ ap (λ b. cond (same_name n q) b (is_idle c.args.idle.now q)) c.is_free.ensures
    ∙ named-at g n q (is_idle c.args.idle.now q)
    ∙ ap (λ (x : Edited). cond (is_turned x && same_name n q) (g q) (is_idle c.args.idle.now q)) (sym c.in-Turned.is)
