-- The law of sameness: where what a name stands for is the same in two tables.
use Rattle.std.specs.Prelude.{◌≡◌, ◌↔◌, ℕ, List}
use Rattle.iris_name.specs.declared.name.Name.{Name}
use Rattle.iris_node.specs.Trees.{IsNodeName, IsSaidAlike, AllShown}
use Rattle.iris_rows.specs.Rows.{Table}
use Rattle.iris_records.specs.Shown.{shown}
use Rattle.iris_rows.specs.Sound.{IsSound}

-- what a node's name stands for is the same in two sound tables exactly where both say the same of it and of each node below it
abbrev pub SameWhereSaid : Type 0
SameWhereSaid = (order other : List ℕ) (t s : Table) (n : Name) → IsSound t → IsSound s → IsNodeName n
    → (shown order t n ≡ shown other s n) ↔ (IsSaidAlike (shown order t) (shown other s) n × AllShown (IsSaidAlike (shown order t) (shown other s)) (shown order t n))
