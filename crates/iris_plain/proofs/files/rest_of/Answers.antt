use Rattle.std.proofs.Common.{arith, sym, ◌∙◌, length, length-drop}
use Rattle.std.proofs.lemmas.List.{take_all}
use Rattle.iris_plain.proofs.RouteLaws.{long, rest_drop}
use Rattle.iris_plain.proofs.files.rest_of.Goals as goal

pub slice_bounds-result-count : goal.slice_bounds-result-count
slice_bounds-result-count c = long c.args.above.now c.args.path.now c.requires

pub slice_bounds-result-start : goal.slice_bounds-result-start
slice_bounds-result-start c = long c.args.above.now c.args.path.now c.requires

pub returns : goal.returns
returns c = take_all _ _ (omega (arith, length-drop (length c.args.above.now) c.args.path.now)) ∙ sym (rest_drop c.args.above.now c.args.path.now c.requires)
