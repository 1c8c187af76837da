use Rattle.std.proofs.Common.{◌≡◌}
use Rattle.iris.proofs.Commands.{registers_only, plain_only}
use Rattle.iris.proofs.serve.Goals as goal

pub returns-in_default-clause-bad_words : goal.returns-in_default-clause-bad_words
returns-in_default-clause-bad_words c = registers_only _ (λ ended. (ended.0 ≡ 2) × (ended.1 ≡ 0)) c.serve_registers.result c.in_default.ensures.none c.serve_registers.ensures.bad_words

pub returns-clause-bad_words : goal.returns-clause-bad_words
returns-clause-bad_words c = plain_only _ c.in-Some.field-0 _ c.in-Some.ensures.some c.plain_run.ensures.bad_words
