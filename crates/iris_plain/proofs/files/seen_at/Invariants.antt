use Rattle.std.proofs.Common.{◌≡◌, ◌++◌, take, drop}
use Rattle.iris_plain.specs.Files.{seen_at}
use Rattle.iris_plain.specs.Entries.{kind_at}
use Rattle.iris_plain.proofs.files.seen_at.Given as goal

abbrev pub invariant-loop-k : goal.invariant-loop-k
invariant-loop-k l = seen_at (kind_at l.entries) l.names ≡ seen_at (λ q. kind_at l.entries (take l.k l.names ++ q)) (drop l.k l.names)
