-- The records that lie in the store for a table, and the root hash.
use Rattle.std.specs.Prelude.{◌≡◌, ℕ, ◌==◌, ◌&&◌, ◌||◌, List, [], ◌∷◌, ◌++◌, Bool, true, false, Option, Some, None, if◌then◌else◌, nat_lt}
use Rattle.std.specs.Int.{w64, to_be_bytes}
use Rattle.std.specs.Option.{option_map}
use Rattle.sha2.specs.Sha256.{sha256}
use Rattle.iris_mac.specs.declared.keys.Keys.{Keys}
use Rattle.iris_name.specs.Hmac.{record_of}
use Rattle.iris_name.specs.Names.{same_name}
use Rattle.iris_name.specs.declared.name.Name.{Name}
use Rattle.iris_name.specs.declared.name.Name.TheVariants.{Entry, Part, Block}
use Rattle.iris_node.specs.Unfolded.{Unfolded, Stored, node_record}
use Rattle.iris_rows.specs.Rows.{Table}
use Rattle.iris_records.specs.Shown.{shown, root_entry, trash_entry}

-- the record of a block under its name
abbrev pub block_record : List ℕ → Name → ℕ → List ℕ → List ℕ
block_record key (Block f p) version bytes = record_of key f.0 p version bytes
block_record key (Entry i) version bytes = []
block_record key (Part f l i) version bytes = []

-- the record of what a name stands for: a block with its tag, or a node with its true hashes
abbrev pub spelled : List ℕ → Name → Unfolded → List ℕ
spelled key n (Stored version bytes) = block_record key n version bytes
spelled key n node = node_record node

-- the record of a name in a table, none where it isn't live
abbrev pub live_record : Keys → Table → Name → Option (List ℕ)
live_record keys t n = option_map (spelled keys.block n) (shown keys.order t n)

-- the root hash: SHA-256 of the hashes of both roots' records and the next id
unfoldable pub root_hash : List ℕ → Table → List ℕ
root_hash order t = sha256 (sha256 (node_record (root_entry order t)) ++ (sha256 (node_record (trash_entry order t)) ++ to_be_bytes w64 t.next))

-- names with their records
abbrev pub Records : Type 0
Records = List (Name × List ℕ)

-- the record that stands under a name
abbrev pub looked : Name → Records → Option (List ℕ)
looked n [] = None
looked n (r ∷ records) = if same_name n r.0 then Some r.1 else looked n records

-- a name comes before another: entries before parts before blocks, then by their numbers from left to right
abbrev pub comes_before : Name → Name → Bool
comes_before (Entry a) (Entry b) = nat_lt a.0 b.0
comes_before (Entry a) (Part g m j) = true
comes_before (Entry a) (Block g q) = true
comes_before (Part f l i) (Entry b) = false
comes_before (Part f l i) (Part g m j) = nat_lt f.0 g.0 || ((f.0 == g.0) && (nat_lt l m || ((l == m) && nat_lt i j)))
comes_before (Part f l i) (Block g q) = true
comes_before (Block f p) (Entry b) = false
comes_before (Block f p) (Part g m j) = false
comes_before (Block f p) (Block g q) = nat_lt f.0 g.0 || ((f.0 == g.0) && nat_lt p q)

-- a name comes before the first of records
abbrev pub IsBeforeFirst : Name → Records → Type 0
IsBeforeFirst n [] = Unit {0}
IsBeforeFirst n (r ∷ records) = comes_before n r.0 ≡ true

-- each name comes before the next
abbrev pub AreInOrder : Records → Type 0
AreInOrder [] = Unit {0}
AreInOrder (r ∷ records) = IsBeforeFirst r.0 records × AreInOrder records

-- exactly the live names, in order, each with its true record
pub record AreLive (keys : Keys) (t : Table) (records : Records) : Type 0 where
  pub order : AreInOrder records
  pub each : (n : Name) → looked n records ≡ live_record keys t n
