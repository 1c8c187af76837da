use Rattle.std.proofs.Common.{◌≡◌, map, take}
use Rattle.iris_name.proofs.path.slashed.Given as goal

abbrev pub invariant-loop-piece : goal.invariant-loop-piece
invariant-loop-piece l = l.names.items ≡ map (λ piece. piece.now) (take l.piece-index l.rest)
