use Rattle.std.proofs.Common.{◌≡◌, ℕ, ◌<◌, None}
use Rattle.iris_desk.specs.AtDesks.{out_for}
use Rattle.iris_desk.proofs.desks.Desks.found.Given as goal

-- nothing is out for the name at the desks before
abbrev pub invariant-loop-who : goal.invariant-loop-who
invariant-loop-who l = (k : ℕ) → k < l.who → out_for l.self k l.name ≡ None
