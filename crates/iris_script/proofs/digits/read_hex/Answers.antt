use Rattle.std.proofs.Common.{arith, ◌≡◌, ◌<◌, length}
use Rattle.hex.proofs.HexLemmas.{decode_of-ok}
use Rattle.hex.specs.Hex.{decode_of}
use Rattle.std.specs.Prelude.{Ok}
use Rattle.iris_script.proofs.digits.read_hex.Goals as goal

pub returns-then-is_empty-clause-none : goal.returns-then-is_empty-clause-none
returns-then-is_empty-clause-none c =
    λ bytes h. let twice = (decode_of-ok c.args.word.now bytes h.1).2 in grind (arith, twice, h.0)

pub returns-in-Ok-clause-some : goal.returns-in-Ok-clause-some
returns-in-Ok-clause-some c =
    let read : decode_of c.args.word.now ≡ Ok c.of.result = rw c.of.ensures c.in-Ok.ensures.ok in
    let twice = (decode_of-ok c.args.word.now c.of.result read).2 in
    let some : 0 < length c.of.result = grind (arith, twice) in
    (some, read)
