use Rattle.std.proofs.Common.{◌≡◌, ◌+◌, ◌-◌, ◌++◌, take, drop, arith, ◌∙◌, ap}
use Rattle.iris_table.proofs.ListRotation.{run_is, rest_is}
use Rattle.iris_table.proofs.runs.take_out.Goals as goal

pub returns-clause-taken : goal.returns-clause-taken
returns-clause-taken c = c.in_ok-taken.ensures.tail ∙ ap (drop (c.len.result - c.args.count)) c.rotate_left.ensures.items ∙ run_is c.args.at c.args.count c.args.items.now.items (omega arith) (c.len.result - c.args.count) (omega arith)

pub returns-clause-left : goal.returns-clause-left
returns-clause-left c =
    let m = c.len.result - c.args.count - c.args.at in
    let e : c.split_off-taken.new.self.items ≡ take (c.len.result - c.args.count) (drop (c.args.at + c.args.count) c.args.items.now.items ++ take (c.args.at + c.args.count) c.args.items.now.items) = c.in_ok-taken.ensures.items ∙ ap (take (c.len.result - c.args.count)) c.rotate_left.ensures.items in
    c.rotate_left-2.ensures.items ∙ ap (λ z. drop m z ++ take m z) e ∙ rest_is c.args.at c.args.count c.args.items.now.items (omega arith) (c.len.result - c.args.count) m (omega arith) (omega arith)
