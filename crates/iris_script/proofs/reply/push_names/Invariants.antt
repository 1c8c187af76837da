use Rattle.std.proofs.Common.{◌≡◌, ◌++◌, take, List, ℕ, codes}
use Rattle.std.specs.List.{flat_map}
use Rattle.iris_script.specs.Growing.{Grows}
use Rattle.iris_script.specs.Printing.{escaped}
use Rattle.iris_script.proofs.reply.push_names.Given as goal

abbrev pub invariant-loop-name : goal.invariant-loop-name
invariant-loop-name l = record {
  written : l.text.items ≡ l.fn.text.items ++ flat_map (λ (name : List ℕ). codes " " ++ escaped name) (take l.name-index l.names);
  grows : Grows l.fn.text.items l.text.items;
}
