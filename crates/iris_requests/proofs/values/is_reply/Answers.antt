use Rattle.std.proofs.Common.{subst, sym}
use Rattle.std.specs.Prelude.{All}
use Rattle.std.specs.Str.{IsUtf8}
use Rattle.iris_history.specs.Values.{IsReply}
use Rattle.iris_requests.proofs.values.is_reply.Goals as goal

pub returns-in-Names : goal.returns-in-Names
returns-in-Names c = subst IsReply (sym c.in-Names.is) (subst (All IsUtf8) c.as_slice-in-Names.ensures c.are_texts.ensures)
