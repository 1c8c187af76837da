-- A get that is to be made, and what the check of its answer finds.
use Rattle.std.specs.Prelude.{◌≡◌, ℕ, List, take}
use Rattle.sha2.specs.Sha256.{sha256}
use Rattle.iris_desk.specs.declared.out.Doing.TheVariants.{Get}
use Rattle.iris_desk.specs.declared.out.Task.{Task}
use Rattle.iris_jobs.specs.declared.job.Brought.{Brought}
use Rattle.iris_jobs.specs.declared.job.Brought.TheVariants as brought
use Rattle.iris_name.specs.declared.name.Name.{Name}
use Rattle.iris_name.specs.declared.name.Name.TheVariants.{Entry, Part, Block}
use Rattle.iris_name.specs.declared.note.Answer.{Answer}
use Rattle.iris_name.specs.declared.note.Answer.TheVariants.{Absent, Given, Failed}
use Rattle.iris_name.specs.declared.note.Expect.{Expect}
use Rattle.iris_name.specs.declared.note.Expect.TheVariants.{Hash, Version}
use Rattle.iris_name.specs.declared.note.Note.{Note}
use Rattle.iris_name.specs.declared.note.Note.TheVariants.{Got}
use Rattle.iris_name.specs.Hmac.{Passes, block_key}
use Rattle.iris_node.specs.declared.node.Node.{Node}
use Rattle.iris_node.specs.Nodes.{IsNode, name_of}
use Rattle.iris_node.specs.Spelling.{spelling, SpellsNode}

-- The caller for whom it is made, the name, how many notes its session had when it began, what its record must show, and the
-- master key of the portal that makes it.
pub record JobState : Type 0 where
  pub who : ℕ
  pub name : Name
  pub since : ℕ
  pub expect : Expect
  pub master : List ℕ

-- what it is at its caller's desk, and the note that ends it
abbrev pub get_task : JobState → Task
get_task job = record { doing = Get; name = job.name; since = job.since }

abbrev pub got_note : JobState → Answer → Note
got_note job answer = Got job.who job.since job.name answer

-- bytes are a record of a name that shows what is expected: a node of that name under that hash, or a block with the tag of that
-- version
abbrev pub IsRecordFor : List ℕ → Name → Expect → List ℕ → Type 0
IsRecordFor key n (Hash h) bytes = (sha256 bytes ≡ h.0) × SpellsNode n bytes
IsRecordFor key (Block file place) (Version version) bytes = Passes key file.0 place version bytes
IsRecordFor key (Entry id) (Version version) bytes = ⊥
IsRecordFor key (Part file level index) (Version version) bytes = ⊥

-- bytes are read as a node, or as a page in a version
abbrev pub IsReadAs : Name → Expect → List ℕ → Brought → Type 0
IsReadAs n (Hash h) bytes (brought.Node node) = IsNode node × (name_of node ≡ n) × (bytes ≡ spelling node)
IsReadAs n (Version v) bytes (brought.Page version page) = (version ≡ v) × (page ≡ take 4096 bytes)
IsReadAs n (Hash h) bytes (brought.Page version page) = ⊥
IsReadAs n (Version v) bytes (brought.Node node) = ⊥
IsReadAs n x bytes brought.Nothing = ⊥

-- an answer brings nothing if and only if it isn't such a record
abbrev pub AnswerBrings : List ℕ → Name → Expect → Answer → Brought → Type 0
AnswerBrings key n x Absent b = b ≡ brought.Nothing
AnswerBrings key n x Failed b = b ≡ brought.Nothing
AnswerBrings key n x (Given bytes) brought.Nothing = IsRecordFor key n x bytes → ⊥
AnswerBrings key n x (Given bytes) (brought.Node node) = IsRecordFor key n x bytes × IsReadAs n x bytes (brought.Node node)
AnswerBrings key n x (Given bytes) (brought.Page version page) = IsRecordFor key n x bytes × IsReadAs n x bytes (brought.Page version page)

-- A job with its answer, and what that brings.
pub record CheckedState : Type 0 where
  pub job : JobState
  pub answer : Answer
  pub brought : Brought

-- the check was made
abbrev pub IsChecked : CheckedState → Type 0
IsChecked c = AnswerBrings (block_key c.job.master) c.job.name c.job.expect c.answer c.brought
