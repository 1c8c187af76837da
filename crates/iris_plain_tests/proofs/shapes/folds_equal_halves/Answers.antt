use Rattle.std.proofs.Common.{refl}
use Rattle.iris_plain_tests.proofs.shapes.folds_equal_halves.Goals as goal

pub fold-requires : goal.fold-requires
fold-requires g c = (2, refl)

pub fold-requires-2 : goal.fold-requires-2
fold-requires-2 g c = (2, refl)
