use Rattle.std.proofs.Common.{◌-◌}
use Rattle.iris_name.specs.declared.name.Name.TheVariants as name
use Rattle.iris_treepaths.proofs.CountsUp.{Climbing}
use Rattle.iris_treepaths.proofs.counting.recount.Given as goal

abbrev pub invariant-loop-step : goal.invariant-loop-step
invariant-loop-step l = Climbing l.initial.draft l.cache (name.Entry l.fn.child) l.most (l.most - l.step) l.draft l.at
