-- The plain state that clients see of a table.
use Rattle.std.specs.Prelude.{ℕ, zero, suc, ◌+◌, List, [], ◌∷◌, ◌++◌, take, Option, Some, None}
use Rattle.iris_plain.specs.Checks.{blocks_of}
use Rattle.iris_plain.specs.Files.{PlainState}
use Rattle.iris_plain.specs.declared.files.Kind.{Kind}
use Rattle.iris_plain.specs.declared.files.Kind.TheVariants.{Dir, Bytes}
use Rattle.iris_rows.specs.Rows.{File, Table, Taken, find, root_row}

-- so many blocks one after another
abbrev pub joined : (ℕ → List ℕ) → ℕ → ℕ → List ℕ
joined block from zero = []
joined block from (suc n) = block from ++ joined block (from + 1) n

-- a file's bytes are its blocks one after another, cut to its length
abbrev pub content : File → List ℕ
content f = take f.size (joined f.block 0 (blocks_of f.size))

-- what a row is to clients
abbrev pub kind_of : Option File → Kind
kind_of None = Dir
kind_of (Some f) = Bytes (content f)

-- only a directory leads on
abbrev pub into : Option File → Option Kind → Option Kind
into None below = below
into (Some f) below = None

-- on from a row where there is one
abbrev pub bound : Option Taken → (Taken → Option Kind) → Option Kind
bound None f = None
bound (Some row) f = f row

-- what stands at a path from a row
abbrev pub kind_below : List (List ℕ) → Taken → Option Kind
kind_below [] row = Some (kind_of row.file)
kind_below (n ∷ ns) row = into row.file (bound (find n row.inside) (λ below. kind_below ns below))

-- the plain state of the rows below the visible root
abbrev pub view : Table → PlainState
view t = record { files = λ q. kind_below q (root_row t); age = t.age }
