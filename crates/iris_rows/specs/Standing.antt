-- Which files stand in a table.
use Rattle.std.specs.Prelude.{◌≡◌, ◌⊎◌, ℕ, Some}
use Rattle.iris_rows.specs.Rows.{File, Rows, End, Row, Table}

-- a file of this id stands among rows
abbrev pub Has : ℕ → File → Rows → Type 0
Has i f End = ⊥
Has i f (Row id name file inside next) = ((i ≡ id) × (file ≡ Some f)) ⊎ (Has i f inside ⊎ Has i f next)

-- it stands in the table, in the trash or not
abbrev pub StandsInTable : ℕ → File → Table → Type 0
StandsInTable i f t = Has i f t.visible ⊎ Has i f t.trash
