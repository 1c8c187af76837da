-- The block registers: a counter, and for each place of one file a version and a block.
use Rattle.std.specs.Prelude.{ℕ, ◌+◌, ◌/◌, ◌≡◌, ◌≢◌, List, [], not, ◌==◌, ◌&&◌, if◌then◌else◌, Option, Some, None}
use Rattle.iris_name.specs.declared.name.Name.{Name}
use Rattle.iris_name.specs.declared.name.Name.TheVariants.{Entry, Part, Block}
use Rattle.iris_name.specs.declared.request.Request.{Request}
use Rattle.iris_name.specs.declared.request.Request.TheVariants.{Write, Read}
use Rattle.iris_name.specs.declared.request.Reply.{Reply}
use Rattle.iris_name.specs.declared.request.Reply.TheVariants.{Done, Bytes}
use Rattle.iris_name.specs.Hmac.{record_of}
use Rattle.iris_name.specs.History.{Past}
use Rattle.iris_history.specs.Kept.{Kept, table_of}
use Rattle.iris_history.specs.Legal.{Rules, IsLegal, IsBad}
use Rattle.iris_history.specs.Status.{IsClean}
use Rattle.iris_rows.specs.Rows.{zeros}

-- How often was written, and of each place the version and the block.
pub record Registers : Type 0 where
  pub counter : ℕ
  pub version : ℕ → ℕ
  pub block : ℕ → List ℕ

-- before the first write
abbrev pub fresh_registers : Registers
fresh_registers = record { counter = 0; version = λ p. 0; block = λ p. zeros }

-- a write raises the counter, and gives its place that version and the block
abbrev pub register_written : Registers → ℕ → List ℕ → Registers
register_written t p bytes = record {
  counter = t.counter + 1;
  version = λ q. if q == p then t.counter + 1 else t.version q;
  block = λ q. if q == p then bytes else t.block q;
}

-- the place at an offset
abbrev pub register_at : ℕ → ℕ
register_at offset = offset / 4096

-- the registers after a request
abbrev pub stepped_registers : Registers → Request → Registers
stepped_registers t (Write path offset bytes) = register_written t (register_at offset) bytes
stepped_registers t _ = t

-- the version and the block of a place that was written; nothing else is live
abbrev pub shown_register : Registers → Name → Option (ℕ × List ℕ)
shown_register t (Block f p) = if (f.0 == 2) && not (t.version p == 0) then Some (t.version p, t.block p) else None
shown_register t (Entry i) = None
shown_register t (Part f l i) = None

-- the record of a block
abbrev pub spelled_register : List ℕ → Name → ℕ × List ℕ → List ℕ
spelled_register key (Block f p) u = record_of key f.0 p u.0 u.1
spelled_register key (Entry i) u = []
spelled_register key (Part f l i) u = []

-- the registers as a table whose blocks stand in the store
abbrev pub registers : List ℕ → Kept
registers key = record {
  Table = Registers;
  Unfolded = ℕ × List ℕ;
  start = fresh_registers;
  step = stepped_registers;
  shown = shown_register;
  spelled = spelled_register key;
  version = λ u. u.0;
  key = key;
}

-- a write is done, and a read gives the place's block
abbrev pub Replies : Registers → Request → Reply → Type 0
Replies t (Write path offset bytes) Done = Unit {0}
Replies t (Read path offset len) (Bytes bytes) = bytes ≡ t.block (register_at offset)
Replies t _ _ = ⊥

-- a read reaches its place's block, where that was written
abbrev pub RegisterReaches : Registers → Request → Name → Type 0
RegisterReaches t (Read path offset len) (Block f p) = (f.0 ≡ 2) × (p ≡ register_at offset) × (t.version p ≢ 0)
RegisterReaches t _ _ = ⊥

-- what is asked of the registers' calls; none of them waits for another's records
abbrev pub register_rules : List ℕ → Rules
register_rules key = record {
  replies = λ past. Replies (table_of (registers key) past);
  reaches = λ past. RegisterReaches (table_of (registers key) past);
  waits = λ past request. ⊥;
}

-- a history of the registers under this block key is legal
abbrev pub LegalRegisters : List ℕ → Past → Type 0
LegalRegisters key past = IsLegal (registers key) (register_rules key) past

-- it holds a forgery
abbrev pub BadRegisters : List ℕ → Past → Type 0
BadRegisters key past = IsBad (registers key) (register_rules key) past

-- the name of a place's block
abbrev pub block_name : ℕ → Name
block_name p = Block (record { 0 = 2 }) p

-- the store was given a place's block as it is now
abbrev pub Clean : List ℕ → Past → ℕ → Type 0
Clean key past p = IsClean (registers key) (block_name p) past
