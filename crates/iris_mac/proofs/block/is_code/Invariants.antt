use Rattle.std.proofs.Common.{◌≡◌}
use Rattle.iris_mac.proofs.Differences.{AreSameBelow}
use Rattle.iris_mac.proofs.block.is_code.Given as goal

abbrev pub invariant-loop-i : goal.invariant-loop-i
invariant-loop-i l =
    record {
      same : l.differences ≡ 0 → AreSameBelow l.bytes l.code l.i;
      none : AreSameBelow l.bytes l.code l.i → l.differences ≡ 0;
    }
