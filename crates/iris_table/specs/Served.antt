-- What the program that serves the table holds.
use Rattle.std.specs.Prelude.{ℕ, List}
use Rattle.iris_mac.specs.declared.keys.Keys.{Keys}
use Rattle.iris_rows.specs.declared.item.Item.{Item}
use Rattle.iris_rows.specs.Rows.{Table}
use Rattle.iris_rows.specs.Sound.{IsSound}
use Rattle.iris_rows.specs.Items.{IsForest, table_over}

-- the rows below the visible root and in the trash, the next id and the age
pub record State : Type 0 where
  pub visible : List Item
  pub trash : List Item
  pub next : ℕ
  pub age : ℕ

-- the table that they are
abbrev pub table_in : State → Table
table_in s = table_over s.visible s.trash s.next s.age

-- both lists are in preorder
pub record AreForests (s : State) : Type 0 where
  pub visible : IsForest s.visible
  pub trash : IsForest s.trash

-- both lists are in preorder, and requests make such a table
pub record IsServedWhole (s : State) : Type 0 where
  pub forests : AreForests s
  pub sound : IsSound (table_in s)

-- the same with the keys
pub record Served : Type 0 where
  pub keys : Keys
  pub visible : List Item
  pub trash : List Item
  pub next : ℕ
  pub age : ℕ

-- what is held without the keys
abbrev pub served_state : Served → State
served_state s = record { visible = s.visible; trash = s.trash; next = s.next; age = s.age }

-- the table that is served
abbrev pub served_table : Served → Table
served_table s = table_in (served_state s)
