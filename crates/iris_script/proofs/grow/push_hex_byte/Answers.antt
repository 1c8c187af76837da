use Rattle.std.proofs.Common.{rules}
use Rattle.hex.specs.Hex.{encode_with}
use Rattle.iris_script.proofs.grow.push_hex_byte.Goals as goal

pub returns-clause-ok : goal.returns-clause-ok
unfolding encode_with
returns-clause-ok c = search rules
