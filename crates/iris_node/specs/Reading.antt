-- Reading a record from left to right: a field is a value and the bytes after it.
use Rattle.std.specs.Prelude.{◌≡◌, ◌==◌, ℕ, zero, suc, List, [], ◌∷◌, length, take, drop, Option, Some, None, nat_lt, if◌then◌else◌}
use Rattle.std.specs.Int.{Width, w32, w64, byte_len, from_be_bytes}
use Rattle.std.specs.Str.{is_utf8}
use Rattle.iris_name.specs.declared.name.FileId.{FileId}
use Rattle.iris_name.specs.declared.name.Hash32.{Hash32}
use Rattle.iris_node.specs.declared.node.Side.{Side}
use Rattle.iris_node.specs.declared.node.Side.TheVariants.{Fold, Below}
use Rattle.iris_node.specs.declared.node.Link.{Link}
use Rattle.iris_node.specs.declared.node.Body.{Body}
use Rattle.iris_node.specs.declared.node.Body.TheVariants.{Dir, File}
use Rattle.iris_node.specs.Fields.{EntryFields, PartFields}
use Rattle.iris_node.specs.Unfolded.{id_of}

infixl 10 ◌>>=◌
-- the next field, where the one before was read
abbrev pub ◌>>=◌ : {A B : Type 0} → Option A → (A → Option B) → Option B
(Some x) >>= f = f x
None >>= f = None

-- what a function returned, seen by view, is what reading gives
abbrev pub Reads : {X Y : Type 0} → (X → Y) → Option X → Option Y → Type 0
Reads view (Some x) read = read ≡ Some (view x)
Reads view None read = read ≡ None

-- a number of this width
abbrev pub number_at : Width → List ℕ → Option (ℕ × List ℕ)
number_at w bytes = if nat_lt (length bytes) (byte_len w) then None else Some (from_be_bytes w (take (byte_len w) bytes), drop (byte_len w) bytes)

-- one byte
abbrev pub read_byte : List ℕ → Option (ℕ × List ℕ)
read_byte [] = None
read_byte (b ∷ rest) = Some (b, rest)

-- a hash: 32 bytes
unfoldable pub hash_at : List ℕ → Option (Hash32 × List ℕ)
hash_at bytes = if nat_lt (length bytes) 32 then None else Some (record { 0 = take 32 bytes }, drop 32 bytes)

-- a link, behind the byte that says whether it is there
unfoldable pub link_at : List ℕ → Option (Option Link × List ℕ)
link_at [] = None
link_at (zero ∷ rest) = Some (None, rest)
link_at (suc zero ∷ rest) = do
  id ← number_at w64 rest
  hash ← hash_at id.1
  blocks ← number_at w64 hash.1
  Some (Some (record { id = id_of id.0; hash = hash.0; blocks = blocks.0 }), blocks.1)
link_at (suc (suc b) ∷ rest) = None

-- a side, behind the byte that says of which kind it is
unfoldable pub side_at : List ℕ → Option (Side × List ℕ)
side_at [] = None
side_at (zero ∷ rest) = do
  version ← number_at w64 rest
  Some (Fold version.0, version.1)
side_at (suc zero ∷ rest) = do
  hash ← hash_at rest
  Some (Below hash.0, hash.1)
side_at (suc (suc b) ∷ rest) = None

-- bytes as a text
abbrev pub text_in : List ℕ → Option (List ℕ)
text_in bytes = if is_utf8 bytes then Some bytes else None

-- a text, behind the byte that says how long it is
unfoldable pub named_at : List ℕ → Option (List ℕ × List ℕ)
named_at bytes = do
  len ← read_byte bytes
  if nat_lt (length len.1) len.0 then None else (text_in (take len.0 len.1) >>= λ name. Some (name, drop len.0 len.1))

-- a directory's or a file's, by its kind
unfoldable pub body_at : ℕ → List ℕ → Option (Body × List ℕ)
body_at kind bytes =
    if kind == 1 then (link_at bytes >>= λ top. Some (Dir top.0, top.1))
    else if kind == 2 then (number_at w64 bytes >>= λ size. number_at w64 size.1 >>= λ counter. side_at counter.1 >>= λ versions.
    Some (File size.0 counter.0 versions.0, versions.1))
    else None

-- the fields of an entry of this kind
unfoldable pub read_entry : ℕ → List ℕ → Option (EntryFields × List ℕ)
read_entry kind bytes = do
  id ← number_at w64 bytes
  name ← named_at id.1
  left ← link_at name.1
  right ← link_at left.1
  body ← body_at kind right.1
  Some (record { id = id_of id.0; name = name.0; left = left.0; right = right.0; body = body.0 }, body.1)

-- the fields of a part
unfoldable pub part_at : List ℕ → Option (PartFields × List ℕ)
part_at bytes = do
  file ← number_at w64 bytes
  level ← read_byte file.1
  index ← number_at w32 level.1
  low ← side_at index.1
  high ← side_at low.1
  Some (record { file = id_of file.0; level = level.0; index = index.0; low = low.0; high = high.0 }, high.1)
