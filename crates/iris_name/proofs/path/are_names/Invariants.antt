use Rattle.std.proofs.Common.{◌≡◌, map, drop}
use Rattle.std.specs.List.{list_all}
use Rattle.iris_name.specs.Paths.{is_name}
use Rattle.iris_name.proofs.path.are_names.Given as goal

abbrev pub invariant-loop-piece : goal.invariant-loop-piece
invariant-loop-piece l = list_all is_name (map (λ piece. piece.now) l.pieces) ≡ list_all is_name (map (λ piece. piece.now) (drop l.piece-index l.pieces))
