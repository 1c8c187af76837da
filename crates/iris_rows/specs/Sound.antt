-- What holds of every table that requests make.
use Rattle.std.specs.Prelude.{◌≡◌, true, ℕ, ◌+◌, ◌/◌, ◌%◌, ◌^◌, ◌≤◌, ◌==◌, ◌&&◌, Bool, not, List, length, Option, Some, None, if◌then◌else◌, nat_le, nat_lt, slice_index}
use Rattle.std.specs.List.{list_all}
use Rattle.iris_name.specs.Paths.{is_name}
use Rattle.iris_node.specs.Rules.{most_length}
use Rattle.iris_plain.specs.Routes.{is_name_before}
use Rattle.iris_plain.specs.Checks.{blocks_of}
use Rattle.iris_rows.specs.Rows.{File, Rows, End, Row, Table, find, zeros}
use Rattle.iris_rows.specs.Changes.{trash_name}

-- the names of each directory stand once
abbrev pub IsDistinct : Rows → Type 0
IsDistinct End = Unit {0}
IsDistinct (Row id name file inside next) = (find name next ≡ None) × IsDistinct inside × IsDistinct next

-- each block has 4,096 bytes
abbrev pub ArePages : (ℕ → List ℕ) → Type 0
ArePages block = (p : ℕ) → length (block p) ≡ 4096

-- the byte of a file's blocks at an offset
abbrev pub content_byte : (ℕ → List ℕ) → ℕ → ℕ
content_byte block i = slice_index (block (i / 4096)) (i % 4096)

-- a file's blocks are whole, with zeros past its end
abbrev pub IsGood : Option File → Type 0
IsGood None = Unit {0}
IsGood (Some f) = ArePages f.block × ((i : ℕ) → f.size ≤ i → content_byte f.block i ≡ 0)

-- so are those of every file among rows
abbrev pub AreGood : Rows → Type 0
AreGood End = Unit {0}
AreGood (Row id name file inside next) = IsGood file × AreGood inside × AreGood next

-- a file's versions are at most its counter, the counter at most the age; places past the end are holes, and a hole reads as zeros
pub record IsCounted (age : ℕ) (f : File) : Type 0 where
  pub version : (p : ℕ) → f.version p ≤ f.counter
  pub counter : f.counter ≤ age
  pub past : (p : ℕ) → blocks_of f.size ≤ p → f.version p ≡ 0
  pub hole : (p : ℕ) → f.version p ≡ 0 → f.block p ≡ zeros

-- a file isn't too long for its record
abbrev pub FitsRecord : File → Type 0
FitsRecord f = f.size ≤ most_length

-- the fact for a file, where there is one
abbrev pub OnFile : (File → Type 0) → Option File → Type 0
OnFile P None = Unit {0}
OnFile P (Some f) = P f

-- the fact for every file among rows
abbrev pub AllFiles : (File → Type 0) → Rows → Type 0
AllFiles P End = Unit {0}
AllFiles P (Row id name file inside next) = OnFile P file × AllFiles P inside × AllFiles P next

-- how often an id stands among rows
abbrev pub times_given : ℕ → Rows → ℕ
times_given i End = 0
times_given i (Row id name file inside next) = (if i == id then 1 else 0) + (times_given i inside + times_given i next)

-- how many rows there are, those inside directories too
abbrev pub rows_in : Rows → ℕ
rows_in End = 0
rows_in (Row id name file inside next) = 1 + (rows_in inside + rows_in next)

-- each id that was given stands once at most, and no other stands
abbrev pub AreOnce : Table → Type 0
AreOnce t = (i : ℕ) → times_given i t.visible + times_given i t.trash ≤ (if nat_le 2 i && nat_lt i t.next then 1 else 0)

-- a name comes before the first of rows
abbrev pub PrecedesFirst : List ℕ → Rows → Type 0
PrecedesFirst n End = Unit {0}
PrecedesFirst n (Row id name file inside next) = is_name_before n name ≡ true

-- a name without a slash
abbrev pub has_no_slash : List ℕ → Bool
has_no_slash name = list_all (λ b. not (b == 47)) name

-- a name as one step of a path
abbrev pub is_step : List ℕ → Bool
is_step name = is_name name && has_no_slash name

-- the names of each directory rise by their bytes, and each is one step of a path
abbrev pub IsOrdered : Rows → Type 0
IsOrdered End = Unit {0}
IsOrdered (Row id name file inside next) = (is_step name ≡ true) × PrecedesFirst name next × IsOrdered inside × IsOrdered next

-- the names in the trash rise, each that of its id; those inside directories there rise too and are steps of a path
abbrev pub IsTrash : Rows → Type 0
IsTrash End = Unit {0}
IsTrash (Row id name file inside next) = (name ≡ trash_name id) × PrecedesFirst name next × IsOrdered inside × IsTrash next

-- a table that requests made
pub record IsSound (t : Table) : Type 0 where
  pub distinct : IsDistinct t.visible
  pub good : AreGood t.visible
  pub trash_good : AreGood t.trash
  pub counted : AllFiles (IsCounted t.age) t.visible
  pub trash_counted : AllFiles (IsCounted t.age) t.trash
  pub once : AreOnce t
  pub hand : t.hand ≡ End
  pub first : 2 ≤ t.next
  pub next : t.next ≤ t.age + 2
  pub age : t.age ≤ 2 ^ 40
  pub short : AllFiles FitsRecord t.visible
  pub trash_short : AllFiles FitsRecord t.trash
  pub ordered : IsOrdered t.visible
  pub trash_ordered : IsTrash t.trash
