-- The rows of a directory, named by their places in a list: their order by names, and their treap.
use Rattle.std.specs.Prelude.{◌≡◌, ◌≢◌, ◌<◌, ◌⊎◌, ℕ, zero, suc, List, [], ◌∷◌, length, slice_get, Bool, Option, Some, None}
use Rattle.iris_name.specs.Hmac.{priority}
use Rattle.iris_shape.specs.declared.rows.Row.{Row}
use Rattle.iris_shape.specs.Treap.{Treap, treap, rows_with, Each}
use Rattle.iris_shape.specs.Order.{beside, less_name, Rising}

abbrev pub name_in : Option Row → List ℕ
name_in None = []
name_in (Some row) = row.name

abbrev pub id_in : Option Row → ℕ
id_in None = 0
id_in (Some row) = row.id.0

-- the name of the row at a place
abbrev pub name_at : List Row → ℕ → List ℕ
name_at rows k = name_in (slice_get rows k)

-- the id of the row at a place
abbrev pub id_at : List Row → ℕ → ℕ
id_at rows k = id_in (slice_get rows k)

-- no two rows have one id
abbrev pub DistinctIds : List Row → Type 0
DistinctIds rows = (i j : ℕ) → i < j → j < length rows → id_at rows i ≢ id_at rows j

-- no two rows have one name
abbrev pub DistinctNames : List Row → Type 0
DistinctNames rows = (i j : ℕ) → i < j → j < length rows → name_at rows i ≢ name_at rows j

-- the places of the first n rows, in order of names
unfoldable pub in_order : List Row → ℕ → List ℕ
in_order rows zero = []
in_order rows (suc n) = rows_with (λ j. less_name (name_at rows j) (name_at rows n)) n (in_order rows n)

-- a row stands above another under an order key
abbrev pub has_priority_over : List ℕ → List Row → ℕ → ℕ → Bool
has_priority_over key rows = beside (priority key) (id_at rows)

-- the treap of a directory's rows under an order key
abbrev pub treap_of : List ℕ → List Row → Treap ℕ
treap_of key rows = treap (has_priority_over key rows) (in_order rows (length rows))

-- a place is one of these
abbrev pub Among : ℕ → List ℕ → Type 0
Among k [] = ⊥
Among k (j ∷ js) = (k ≡ j) ⊎ Among k js

-- The rows in order: their names rise, and they are all the rows, each once.
abbrev pub RowsInOrder : Type 0
RowsInOrder = (rows : List Row) → DistinctNames rows
    → Rising (name_at rows) (in_order rows (length rows)) × (length (in_order rows (length rows)) ≡ length rows)
    × ((k : ℕ) → k < length rows → Among k (in_order rows (length rows))) × Each (λ k. k < length rows) (in_order rows (length rows))
