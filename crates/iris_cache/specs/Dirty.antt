-- How many resident nodes are dirty.
use Rattle.std.specs.Prelude.{ℕ, cond, Option, unwrap_or}
use Rattle.std.specs.Option.{option_map}
use Rattle.std.specs.List.{count_by}
use Rattle.iris_cache.specs.declared.held.Held.{Held}
use Rattle.iris_cache.specs.Resident.{Resident}

-- how many are dirty
abbrev pub dirty_nodes : Resident → ℕ
dirty_nodes c = count_by (λ e. e.1.dirty) c.nodes

-- what one that may be held adds to that count: 1 where it is dirty
abbrev pub dirty_addend : Option Held → ℕ
dirty_addend h = unwrap_or (option_map (λ (g : Held). cond g.dirty 1 0) h) 0
