use Rattle.iris_script.proofs.Cutting.{rest_whole}
use Rattle.iris_script.proofs.PathWords.{Begins-escaped, decoded}
use Rattle.iris_script.proofs.path.first_byte.Goals as goal

pub returns-in-Ok-clause-some : goal.returns-in-Ok-clause-some
returns-in-Ok-clause-some c =
    rw (rest_whole c.args.word.now 3)
    (Begins-escaped c.args.word.now c.decode_to_slice.new.out c.if-word-ge3.true c.if-word-eq37.true (decoded _ c.decode_to_slice.result _ c.decode_to_slice.ensures.value c.in-Ok.is))
