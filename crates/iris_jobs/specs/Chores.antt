-- A put or a discard that is to be made.
use Rattle.std.specs.Prelude.{◌≡◌, ℕ, Bool, List, length, take, Option, Some, None, IsSome}
use Rattle.iris_desk.specs.declared.out.Doing.TheVariants.{Put, Discard}
use Rattle.iris_desk.specs.declared.out.Record.{Record}
use Rattle.iris_desk.specs.declared.out.Record.TheVariants as written
use Rattle.iris_desk.specs.declared.out.Task.{Task}
use Rattle.iris_jobs.specs.declared.chore.Away.{Away}
use Rattle.iris_jobs.specs.declared.chore.Content.{Content}
use Rattle.iris_jobs.specs.declared.chore.Content.TheVariants as content
use Rattle.iris_name.specs.declared.name.Name.{Name}
use Rattle.iris_name.specs.declared.name.Name.TheVariants.{Entry, Part, Block}
use Rattle.iris_name.specs.declared.note.Note.{Note}
use Rattle.iris_name.specs.declared.note.Note.TheVariants as note
use Rattle.iris_name.specs.Hmac.{block_key, record_of}

-- What is to be put: the caller for whom it is, the name, how many notes its session had when it began, the master key of the
-- portal that makes it, and the record.
pub record PutState : Type 0 where
  pub who : ℕ
  pub name : Name
  pub since : ℕ
  pub master : List ℕ
  pub record_ : Record

-- the bytes of a record under a key for the tags of blocks: a node's as they are, a block's with its tag
abbrev pub record_bytes : List ℕ → Name → Record → List ℕ
record_bytes key n (written.Node bytes) = bytes
record_bytes key (Block file place) (written.Page version page) = record_of key file.0 place version page
record_bytes key (Entry id) (written.Page version page) = page
record_bytes key (Part file level index) (written.Page version page) = page

abbrev pub put_bytes : PutState → List ℕ
put_bytes p = record_bytes (block_key p.master) p.name p.record_

-- what it is at its caller's desk, and the note that ends it
abbrev pub put_task : PutState → Task
put_task p = record { doing = Put; name = p.name; since = p.since }

abbrev pub put_note : PutState → Bool → Note
put_note p ok = note.Put p.who p.since p.name (put_bytes p) ok

abbrev pub discard_task : Away → Task
discard_task a = record { doing = Discard; name = a.name; since = a.since }

abbrev pub discard_note : Away → Bool → Note
discard_note a ok = note.Dropped a.who a.since a.name ok

-- a page is a block's
abbrev pub FitsName : Name → Record → Type 0
FitsName (Block file place) (written.Page version page) = Unit {0}
FitsName (Block file place) (written.Node bytes) = ⊥
FitsName (Entry id) (written.Node bytes) = Unit {0}
FitsName (Part file level index) (written.Node bytes) = Unit {0}
FitsName (Entry id) (written.Page version page) = ⊥
FitsName (Part file level index) (written.Page version page) = ⊥

-- the record that is made of what a put has: a block's page, before its tag, or a node's bytes
abbrev pub record_in : Content → Record
record_in (content.Node bytes) = written.Node bytes
record_in (content.Page version bytes) = written.Page version (take 4096 bytes.items)

-- a block has room for its tag
abbrev pub HasRoom : Content → Type 0
HasRoom (content.Node bytes) = Unit {0}
HasRoom (content.Page version bytes) = length bytes.items ≡ 4128

-- the record of which these are the bytes: a block's has a version
abbrev pub record_by : Option ℕ → List ℕ → Record
record_by None bytes = written.Node bytes
record_by (Some version) bytes = written.Page version (take 4096 bytes)

-- These are the bytes of the record of a name, as long as it is.
pub record AreBytesOf (key : List ℕ) (n : Name) (version : Option ℕ) (bytes : List ℕ) : Type 0 where
  pub fits : FitsName n (record_by version bytes)
  pub are : bytes ≡ record_bytes key n (record_by version bytes)
  pub size : IsSome version → length bytes ≡ 4128
