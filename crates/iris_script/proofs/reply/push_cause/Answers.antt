use Rattle.iris_script.proofs.Growth.{two_pieces}
use Rattle.iris_script.proofs.reply.push_cause.Goals as goal

pub returns-in_ok-push_bytes-in-StoreFailed-clause-ok :
    goal.returns-in_ok-push_bytes-in-StoreFailed-clause-ok
returns-in_ok-push_bytes-in-StoreFailed-clause-ok c =
    rw c.in-StoreFailed.is (two_pieces _ _ _ _ _ _ c.in_ok-push_bytes-in-StoreFailed.ensures.ok c.push_name.ensures.ok)
