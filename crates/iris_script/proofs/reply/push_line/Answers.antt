use Rattle.std.proofs.Common.{ap, ◌∙◌, ◌++◌}
use Rattle.std.specs.Prelude.{decimal}
use Rattle.iris_script.proofs.Growth.{line_pieces}
use Rattle.iris_script.proofs.reply.push_line.Goals as goal

pub returns-clause-ok : goal.returns-clause-ok
returns-clause-ok c =
    line_pieces _ _ _ _ _ _ _ (decimal c.args.client) _ _ _ _
    (c.in_ok-push_number.ensures.ok ∙ ap (λ n. c.args.text.now.items ++ decimal n) c.from.ensures)
    c.in_ok-push_numbered.ensures.ok c.in_ok-push_bytes.ensures.ok c.in_ok-push_reply.ensures.ok c.push_bytes-2.ensures.ok
