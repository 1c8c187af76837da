use Rattle.std.proofs.Common.{◌≡◌, ◌++◌, take, drop}
use Rattle.iris_name.specs.Hmac.{padded_with}
use Rattle.iris_mac.proofs.code.add_pad.Given as goal

abbrev pub invariant-loop-b : goal.invariant-loop-b
invariant-loop-b l = l.block ≡ padded_with l.pad (take l.b-index l.fn.block) ++ drop l.b-index l.fn.block
