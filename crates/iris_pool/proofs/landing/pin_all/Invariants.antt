use Rattle.std.proofs.Common.{◌&&◌, ◌==◌, take}
use Rattle.std.specs.List.{list_any}
use Rattle.iris_name.specs.Names.{same_name}
use Rattle.iris_pool.specs.Filing.{PinsKept}
use Rattle.iris_pool.proofs.landing.pin_all.Given as goal

-- the first names are pinned
abbrev pub invariant-loop-name : goal.invariant-loop-name
invariant-loop-name l = PinsKept (λ w q. list_any (same_name q) (take l.name-index l.names) && (w == l.who)) l.initial.cache l.cache l.initial.blocks l.blocks
