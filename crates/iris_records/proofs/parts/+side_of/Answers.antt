use Rattle.std.proofs.Common.{◌≤◌, refl, ap, ◌∙◌, ◌+◌, ◌-◌, ◌*◌, arith}
use Rattle.iris_node.specs.declared.node.Side.TheVariants.{Below}
use Rattle.iris_records.specs.Unmade.{unmade_fold}
use Rattle.iris_records.proofs.PartRecords.{halved_two, fold_two, half_index, one_side, one_puts, two_node, two_side, two_puts, side_folds, sides_split}
use Rattle.iris_records.proofs.FoldsAndShapes.{unmade_one}
use Rattle.iris_records.proofs.parts.+side_of.Goals as goal

pub overflow_sub-level : goal.overflow_sub-level
overflow_sub-level t c = (halved_two c.args.level c.args.folded.now _ _ c.in-Two.low c.in-Two.high c.in-Two.is refl refl c.requires.halved).0

pub side_of-requires : goal.side_of-requires
side_of-requires t c =
    let h = halved_two c.args.level c.args.folded.now _ _ c.in-Two.low c.get.result.now c.in-Two.is refl c.get.ensures c.requires.halved in
    let one : 1 ≤ c.args.level = h.0 in let l = c.requires.level in let d = c.decreases in
    (omega (arith, one, d), (c.requires.file, (omega (arith, l), (half_index c.args.level c.args.index one l c.requires.index, h.3))))

pub overflow_sub-level-in-Two : goal.overflow_sub-level-in-Two
overflow_sub-level-in-Two t c = (halved_two c.args.level c.args.folded.now _ _ c.in-Two.low c.in-Two.high c.in-Two.is refl refl c.requires.halved).0

pub side_of-requires-in-Two : goal.side_of-requires-in-Two
side_of-requires-in-Two t c =
    let h = halved_two c.args.level c.args.folded.now _ _ c.get-in-Two.result.now c.in-Two.high c.in-Two.is c.get-in-Two.ensures refl c.requires.halved in
    let one : 1 ≤ c.args.level = h.0 in let l = c.requires.level in let d = c.decreases in
    let k = half_index c.args.level c.args.index one l c.requires.index in
    (omega (arith, one, d), (c.requires.file, (omega (arith, l), (omega (arith, k), h.2))))

pub invariant_of-part : goal.invariant_of-part
invariant_of-part t c =
    let h = halved_two c.args.level c.args.folded.now _ _ c.get-in-Two.result.now c.get.result.now c.in-Two.is c.get-in-Two.ensures c.get.ensures c.requires.halved in
    let low = c.in_ok-low-in-Two.ensures.side in let high = c.in_ok-high-in-Two.ensures.side in
    record {
      file = c.requires.file;
      level = h.0;
      height = c.requires.level;
      index = c.requires.index;
      places = λ e. (side_folds c.args.file.0 (c.args.level - 1) (2 * c.args.index) _ _ low (omega (arith, e)) h.2, side_folds c.args.file.0 (c.args.level - 1) (2 * c.args.index + 1) _ _ high (omega (arith, e)) h.3);
      split = sides_split c.args.file.0 (c.args.level - 1) (2 * c.args.index) (2 * c.args.index + 1) _ _ _ _ low high h.1;
    }

pub returns-in-One-clause-side : goal.returns-in-One-clause-side
returns-in-One-clause-side t c = one_side c.args.file.0 c.args.level c.args.index c.in-One.version _ (ap unmade_fold c.in-One.is ∙ unmade_one c.in-One.version)

pub returns-in-One-clause-puts : goal.returns-in-One-clause-puts
returns-in-One-clause-puts t c = λ key. one_puts key c.args.file.0 c.args.level c.args.index c.in-One.version _ c.args.shelf.now (ap unmade_fold c.in-One.is ∙ unmade_one c.in-One.version)

pub returns-in_ok-hash-in-Two-clause-side : goal.returns-in_ok-hash-in-Two-clause-side
returns-in_ok-hash-in-Two-clause-side t c =
    ap Below c.in_ok-hash-in-Two.ensures.hash
    ∙ two_side c.args.file c.args.level c.args.index _ _ _ _ (fold_two c.args.folded.now _ _ c.get-in-Two.result.now c.get.result.now c.in-Two.is c.get-in-Two.ensures c.get.ensures)
    (two_node c.args.file c.args.level c.args.index _ _ _ _ c.in_ok-low-in-Two.ensures.side c.in_ok-high-in-Two.ensures.side)

pub returns-in_ok-hash-in-Two-clause-puts : goal.returns-in_ok-hash-in-Two-clause-puts
returns-in_ok-hash-in-Two-clause-puts t c = λ key.
    two_puts key c.args.file c.args.level c.args.index _ _ _ _ _ _ _ _ (fold_two c.args.folded.now _ _ c.get-in-Two.result.now c.get.result.now c.in-Two.is c.get-in-Two.ensures c.get.ensures)
    (c.in_ok-high-in-Two.ensures.puts key) (c.in_ok-low-in-Two.ensures.puts key) c.in_ok-hash-in-Two.ensures.puts
    (two_node c.args.file c.args.level c.args.index _ _ _ _ c.in_ok-low-in-Two.ensures.side c.in_ok-high-in-Two.ensures.side)
