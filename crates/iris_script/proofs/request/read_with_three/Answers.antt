use Rattle.iris_script.proofs.Asking.{AskNothing-write}
use Rattle.iris_script.proofs.request.read_with_three.Goals as goal

pub returns-in-None-clause-none : goal.returns-in-None-clause-none
returns-in-None-clause-none c =
    let none = rw c.in-None.is at c.in_ok-bytes.ensures.none in
    AskNothing-write c.args.command.now _ _ c.args.last.now (c.is_word.ensures.0 c.if-is_word.true) none
